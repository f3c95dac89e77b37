use Rattle.chip_files.proofs.Lengths.{elf_small, flat_small}
use Rattle.chip_files.proofs.Takings.{elf_image, flat_image, text_image}
use Rattle.chip_files.proofs.program.program_in.Goals as goal

pub returns-in_ok-parse-in-ElfFile-clause-program : goal.returns-in_ok-parse-in-ElfFile-clause-program
returns-in_ok-parse-in-ElfFile-clause-program c =
    let parsed = c.in_ok-parse-in-ElfFile in
    rw c.in-ElfFile.is (elf_image c.args.size c.args.bytes.now parsed.field-0 parsed.ensures.program)

pub returns-in_ok-flat-in-FlatFile-clause-program : goal.returns-in_ok-flat-in-FlatFile-clause-program
returns-in_ok-flat-in-FlatFile-clause-program c =
    let loaded = c.in_ok-flat-in-FlatFile in
    rw c.in-FlatFile.is (flat_image c.args.size c.args.bytes.now loaded.field-0 loaded.ensures.program)

pub returns-in_ok-assemble-in-AssemblyText-clause-program : goal.returns-in_ok-assemble-in-AssemblyText-clause-program
returns-in_ok-assemble-in-AssemblyText-clause-program c =
    let assembled = c.in_ok-assemble-in-AssemblyText in
    rw c.in-AssemblyText.is (text_image c.args.size c.args.bytes.now assembled.field-0 assembled.ensures.program)

pub returns-in_ok-parse-in-ElfFile-clause-small : goal.returns-in_ok-parse-in-ElfFile-clause-small
returns-in_ok-parse-in-ElfFile-clause-small c =
    let parsed = c.in_ok-parse-in-ElfFile in
    elf_small c.args.size c.args.bytes.now parsed.field-0 c.requires.short parsed.ensures.program

pub returns-in_ok-flat-in-FlatFile-clause-small : goal.returns-in_ok-flat-in-FlatFile-clause-small
returns-in_ok-flat-in-FlatFile-clause-small c =
    let loaded = c.in_ok-flat-in-FlatFile in
    flat_small c.args.size c.args.bytes.now loaded.field-0 c.requires.short loaded.ensures.program
