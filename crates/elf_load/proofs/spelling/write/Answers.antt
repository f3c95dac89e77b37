use Rattle.elf_load.proofs.RoundTrip.{read_back}
use Rattle.elf_load.proofs.spelling.write.Goals as goal

pub returns-in_err-file-clause-read_back : goal.returns-in_err-file-clause-read_back
returns-in_err-file-clause-read_back c = read_back c.args.image.now c.requires.small

pub returns-clause-read_back : goal.returns-clause-read_back
returns-clause-read_back c = read_back c.args.image.now c.requires.small
