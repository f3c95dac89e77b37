-- How a program is spelled as an ELF file: the file header, a program header for each segment, and the segments' bytes.
use Rattle.std.specs.Prelude.{ℕ, ◌+◌, ◌*◌, List, [], ◌∷◌, ◌++◌, length, replicate}
use Rattle.std.specs.List.{flat_map}
use Rattle.std.specs.Int.{w16, w32, to_le_bytes}
use Rattle.elf_load.specs.Format.{class_bytes, magic}
use Rattle.sec_base.specs.declared.segment.Segment.{Segment}
use Rattle.sec_base.specs.declared.image.Image.{Image}

-- a number in two bytes and in four, the lowest first
unfoldable pub u16_bytes : ℕ → List ℕ
u16_bytes n = to_le_bytes w16 n

-- A number in four bytes, the lowest first.
unfoldable pub u32_bytes : ℕ → List ℕ
u32_bytes n = to_le_bytes w32 n

-- how an ELF file begins, and nine zeros
abbrev pub ident : List ℕ
ident = magic ++ class_bytes ++ replicate 9 0

-- the file header of a program with so many segments
unfoldable pub spelled_header : ℕ → ℕ → List ℕ
spelled_header entry count =
    ident
    ++ u16_bytes 2  -- e_type
    ++ u16_bytes 243  -- e_machine
    ++ u32_bytes 1  -- e_version
    ++ u32_bytes entry  -- e_entry
    ++ u32_bytes 52  -- e_phoff
    ++ u32_bytes 0  -- e_shoff
    ++ u32_bytes 0  -- e_flags
    ++ u16_bytes 52  -- e_ehsize
    ++ u16_bytes 32  -- e_phentsize
    ++ u16_bytes count  -- e_phnum
    ++ u16_bytes 0  -- e_shentsize
    ++ u16_bytes 0  -- e_shnum
    ++ u16_bytes 0  -- e_shstrndx

-- the program header of a segment whose bytes begin at an offset
unfoldable pub spelled_segment : ℕ → Segment → List ℕ
spelled_segment offset segment =
    u32_bytes 1  -- p_type
    ++ u32_bytes offset  -- p_offset
    ++ u32_bytes segment.addr  -- p_vaddr
    ++ u32_bytes segment.addr  -- p_paddr
    ++ u32_bytes (length segment.bytes)  -- p_filesz
    ++ u32_bytes segment.length  -- p_memsz
    ++ u32_bytes 7  -- p_flags
    ++ u32_bytes 1  -- p_align

-- the table of segments whose bytes stand one after another from an offset on
unfoldable pub spelled_table : ℕ → List Segment → List ℕ
spelled_table offset [] = []
spelled_table offset (segment ∷ segments) =
    spelled_segment offset segment ++ spelled_table (offset + length segment.bytes) segments

-- the bytes of all segments
abbrev pub joined_bytes : List Segment → List ℕ
joined_bytes segments = flat_map (λ segment. segment.bytes) segments

-- a program, whose segments' bytes follow the table
unfoldable pub spelled : Image → List ℕ
spelled image = let count = length image.segments in
    spelled_header image.entry count ++ spelled_table (52 + 32 * count) image.segments ++ joined_bytes image.segments
