use Rattle.elf_load.proofs.SpelledHeaders.{segment_put}
use Rattle.elf_load.proofs.spelling.put_segment.Goals as goal

pub returns : goal.returns
returns c =
    segment_put c.args.file.now.items c.put_words.new.file.items c.args.offset c.len-file_length.result c.args.segment.now
    c.len-file_length.ensures c.in_ok-put_words.ensures
