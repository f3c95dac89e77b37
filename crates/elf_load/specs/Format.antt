-- The fields of an ELF file of 32 bits (Executable and Linking Format 1.2, "ELF Header" and "Program Header") that a
-- program is loaded by; all others are ignored. Of a number the lowest byte stands first.
use Rattle.std.specs.Prelude.{ℕ, ◌+◌, zero, suc, List, [], ◌∷◌, drop, take}
use Rattle.std.specs.Int.{w16, w32, from_le_bytes}

-- the fields of a file header
pub record FileHeader : Type 0 where
  pub kind : ℕ
  pub machine : ℕ
  pub entry : ℕ
  pub table : ℕ
  pub flags : ℕ
  pub header_size : ℕ
  pub count : ℕ

-- the fields of a program header
pub record ProgramHeader : Type 0 where
  pub kind : ℕ
  pub offset : ℕ
  pub address : ℕ
  pub file_length : ℕ
  pub memory_length : ℕ

-- the number in the two bytes at a place
unfoldable pub u16_at : List ℕ → ℕ → ℕ
u16_at file at = from_le_bytes w16 (take 2 (drop at file))

-- the number in the four bytes at a place
unfoldable pub u32_at : List ℕ → ℕ → ℕ
u32_at file at = from_le_bytes w32 (take 4 (drop at file))

-- how a file begins: 7f and the letters ELF
abbrev pub magic : List ℕ
magic = 0x7f ∷ 0x45 ∷ 0x4c ∷ 0x46 ∷ []

-- and behind them: 32 bits, lowest byte first, version 1
abbrev pub class_bytes : List ℕ
class_bytes = 1 ∷ 1 ∷ 1 ∷ []

-- the file header, which has 52 bytes
abbrev pub file_header : List ℕ → FileHeader
file_header file = record {
  kind = u16_at file 16;  -- e_type
  machine = u16_at file 18;  -- e_machine
  entry = u32_at file 24;  -- e_entry
  table = u32_at file 28;  -- e_phoff
  flags = u32_at file 36;  -- e_flags
  header_size = u16_at file 42;  -- e_phentsize
  count = u16_at file 44;  -- e_phnum
}

-- a program header, which has 32 bytes from a place on
abbrev pub program_header : List ℕ → ℕ → ProgramHeader
program_header file at = record {
  kind = u32_at file at;  -- p_type
  offset = u32_at file (at + 4);  -- p_offset
  address = u32_at file (at + 8);  -- p_vaddr
  file_length = u32_at file (at + 16);  -- p_filesz
  memory_length = u32_at file (at + 20);  -- p_memsz
}

-- so many program headers, one after another from a place on
abbrev pub headers_from : List ℕ → ℕ → ℕ → List ProgramHeader
headers_from file at zero = []
headers_from file at (suc count) = program_header file at ∷ headers_from file (at + 32) count

-- the program headers of a file, in the order of its table
unfoldable pub program_headers : List ℕ → List ProgramHeader
program_headers file = headers_from file (file_header file).table (file_header file).count
