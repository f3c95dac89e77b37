-- The ten refusals of an ELF file for a memory of a size, each with its test, in the order in which they are tested.
-- Sums of addresses and offsets are whole numbers.
use Rattle.std.specs.Prelude.{◌==◌, ℕ, ◌+◌, ◌*◌, List, [], ◌∷◌, ◌++◌, length, drop, Bool, not, ◌&&◌, ◌||◌, nat_lt, nat_eq, bit_and, Option, Some, None, if◌then◌else◌}
use Rattle.std.specs.List.{list_any, starts_with}
use Rattle.elf_load.specs.declared.fault.ElfFault.{ElfFault}
use Rattle.elf_load.specs.declared.fault.ElfFault.TheVariants.{Short, Magic, Class, Kind, Machine, Compressed, Table, Interp, Segment, Entry}
use Rattle.sec_base.specs.Image.{is_entry}
use Rattle.elf_load.specs.Format.{FileHeader, ProgramHeader, class_bytes, file_header, magic, program_headers}

-- fewer bytes than a file header has
abbrev pub is_short : List ℕ → Bool
is_short file = nat_lt (length file) 52

-- bytes 0 to 3 are those of an ELF file
abbrev pub has_magic : List ℕ → Bool
has_magic file = starts_with nat_eq file magic

-- bytes 4 to 6 say 32 bits, lowest byte first, version 1
abbrev pub has_class : List ℕ → Bool
has_class file = starts_with nat_eq (drop 4 file) class_bytes

-- an executable file
abbrev pub is_executable : FileHeader → Bool
is_executable header = header.kind == 2

-- a program for RISC-V
abbrev pub is_riscv : FileHeader → Bool
is_riscv header = header.machine == 243

-- bit 0 of the flags: there are compressed instructions
abbrev pub is_compressed : FileHeader → Bool
is_compressed header = not (bit_and header.flags 1 == 0)

-- more than 64 program headers; or there is one, and their size isn't 32 or their table ends past the file
abbrev pub has_bad_table : ℕ → FileHeader → Bool
has_bad_table file_length header =
    nat_lt 64 header.count
    || (nat_lt 0 header.count && (not (header.header_size == 32) || nat_lt file_length (header.table + 32 * header.count)))

-- the program asks for an interpreter
abbrev pub is_interp : ProgramHeader → Bool
is_interp header = header.kind == 3

-- the header of a segment that is loaded
abbrev pub is_load : ProgramHeader → Bool
is_load header = header.kind == 1

-- a segment that is loaded has more bytes than memory, or has bytes and ends past the file, or ends past the memory
abbrev pub is_misfit : ℕ → ℕ → ProgramHeader → Bool
is_misfit file_length size header =
    is_load header
    && (nat_lt header.memory_length header.file_length
    || (nat_lt 0 header.file_length && nat_lt file_length (header.offset + header.file_length))
    || nat_lt size (header.address + header.memory_length))

-- the refusals that the file header shows
abbrev pub header_refusals : List ℕ → List (ElfFault × Bool)
header_refusals file = let header = file_header file in
    (Short, is_short file) ∷
    (Magic, not (has_magic file)) ∷
    (Class, not (has_class file)) ∷
    (Kind, not (is_executable header)) ∷
    (Machine, not (is_riscv header)) ∷
    (Compressed, is_compressed header) ∷
    (Table, has_bad_table (length file) header) ∷ []

-- those that the program headers show, and the entry
abbrev pub program_refusals : ℕ → ℕ → FileHeader → List ProgramHeader → List (ElfFault × Bool)
program_refusals file_length size header headers =
    (Interp, list_any is_interp headers) ∷
    (Segment, list_any (is_misfit file_length size) headers) ∷
    (Entry, not (is_entry size header.entry)) ∷ []

-- the first whose test holds
abbrev pub first_holding : List (ElfFault × Bool) → Option ElfFault
first_holding [] = None
first_holding (row ∷ rows) = if row.1 then Some row.0 else first_holding rows

-- the first refusal of a file that holds
unfoldable pub first_fault : List ℕ → ℕ → Option ElfFault
first_fault file size =
    first_holding (header_refusals file ++ program_refusals (length file) size (file_header file) (program_headers file))

-- the refusal of a flat file
abbrev pub flat_fault : List ℕ → ℕ → Option ElfFault
flat_fault file size = if nat_lt size (length file) then Some Segment else None
