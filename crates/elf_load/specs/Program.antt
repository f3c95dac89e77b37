-- The programs that files are: for one size of memory each file is just one program, or is refused for just one reason.
use Rattle.std.specs.Prelude.{ℕ, List, Option, Some, None, Result, Ok, Err, take, drop, map, filter}
use Rattle.sec_base.specs.Program.{Program}
use Rattle.sec_base.specs.Segment.{from_zero}
use Rattle.sec_base.specs.declared.segment.Segment.{Segment}
use Rattle.elf_load.specs.Format.{ProgramHeader, file_header, program_headers}
use Rattle.elf_load.specs.Refusals.{first_fault, flat_fault, is_load}
use Rattle.elf_load.specs.declared.fault.ElfFault.{ElfFault}

-- the segment of a program header: its bytes in the file, and its memory
abbrev pub segment_of : List ℕ → ProgramHeader → Segment
segment_of file header = record {
  addr = header.address;
  length = header.memory_length;
  bytes = take header.file_length (drop header.offset file);
}

-- the segments that are loaded, in the order of the table
unfoldable pub segments_of : List ℕ → List Segment
segments_of file = map (segment_of file) (filter is_load (program_headers file))

-- where the program begins
abbrev pub entry_of : List ℕ → ℕ
entry_of file = (file_header file).entry

-- the program, where there is no fault
abbrev pub program_unless : Option ElfFault → Program → Result Program ElfFault
program_unless None program = Ok program
program_unless (Some fault) program = Err fault

-- the program that an ELF file holds for a memory of this size, or its first fault
abbrev pub elf_program : List ℕ → ℕ → Result Program ElfFault
elf_program file size =
    program_unless (first_fault file size) (record { entry = entry_of file; segments = segments_of file })

-- the program that a flat file is, which is loaded at address 0 and begins there
abbrev pub flat_program : List ℕ → ℕ → Result Program ElfFault
flat_program file size = program_unless (flat_fault file size) (record { entry = 0; segments = from_zero file })
