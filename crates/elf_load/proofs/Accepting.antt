-- What a program is spelled as is not refused.
use Rattle.std.proofs.Common.{◌≡◌, ℕ, ◌+◌, ◌*◌, ◌%◌, ◌≤◌, List, [], ◌∷◌, ◌++◌, length, Bool, true, false, not, ◌&&◌, ◌||◌, nat_lt, None, refl, arith, length-append}
use Rattle.std.specs.List.{All, list_any}
use Rattle.std.proofs.lemmas.Bool.{le-leb, le-ltb, eq-eqb}
use Rattle.std.proofs.lemmas.List.Elements.{All-head, All-tail}
use Rattle.sec_base.specs.Image.{IsEntry, is_entry}
use Rattle.sec_base.specs.Segment.{IsSegment}
use Rattle.sec_base.specs.declared.segment.Segment.{Segment as MemorySegment}
use Rattle.elf_load.specs.declared.fault.ElfFault.TheVariants.{Short, Magic, Class, Kind, Machine, Compressed, Table}
use Rattle.elf_load.specs.Format.{FileHeader}
use Rattle.elf_load.specs.Format.{file_header}
use Rattle.elf_load.specs.Refusals.{first_holding, header_refusals, program_refusals, has_bad_table, has_class, has_magic, is_compressed, is_executable, is_interp, is_misfit, is_riscv, is_short}
use Rattle.elf_load.specs.Spelling.{spelled_header, joined_bytes, u16_bytes, u32_bytes}
use Rattle.elf_load.proofs.ReadingBack.{header_back, headers_back}

-- tests none of which holds
no_table_fault : (file_length entry count : ℕ) → count ≤ 64 → 52 + 32 * count ≤ file_length → has_bad_table file_length (header_back entry count) ≡ false
no_table_fault file_length entry count few inside =
    rw (le-ltb 64 count few, le-ltb file_length (52 + 32 * count) inside) (and_no (nat_lt 0 count))
  where
    and_no : (b : Bool) → (b && false) ≡ false
    and_no true = refl
    and_no false = refl

no_header_row : (short magic class : Bool) (file_length : ℕ) (header : FileHeader) (entry count : ℕ)
    → short ≡ false → magic ≡ true → class ≡ true → header ≡ header_back entry count → count ≤ 64 → 52 + 32 * count ≤ file_length
    → first_holding (
    (Short, short) ∷
    (Magic, not magic) ∷
    (Class, not class) ∷
    (Kind, not (is_executable header)) ∷
    (Machine, not (is_riscv header)) ∷
    (Compressed, is_compressed header) ∷
    (Table, has_bad_table file_length header) ∷ []) ≡ None
no_header_row short magic class file_length header entry count no_short a_magic a_class header_is few inside =
    rw (no_short, a_magic, a_class, header_is, no_table_fault file_length entry count few inside) refl

has_magic-spelled : (entry count : ℕ) (rest : List ℕ) → has_magic (spelled_header entry count ++ rest) ≡ true
unfolding spelled_header u16_bytes u32_bytes
has_magic-spelled entry count rest = refl

has_class-spelled : (entry count : ℕ) (rest : List ℕ) → has_class (spelled_header entry count ++ rest) ≡ true
unfolding spelled_header u16_bytes u32_bytes
has_class-spelled entry count rest = refl

-- the file header shows no refusal
pub no_header_fault : (file rest : List ℕ) (entry count : ℕ) → file ≡ spelled_header entry count ++ rest → file_header file ≡ header_back entry count
    → count ≤ 64 → 52 + 32 * count ≤ length file → first_holding (header_refusals file) ≡ None
no_header_fault file rest entry count file_is header_is few inside =
    no_header_row (is_short file) (has_magic file) (has_class file) (length file) (file_header file) entry count
    (le-ltb (length file) 52 (omega arith)) (rw file_is (has_magic-spelled entry count rest)) (rw file_is (has_class-spelled entry count rest)) header_is few inside

no_interp : (offset : ℕ) (segments : List MemorySegment) → list_any is_interp (headers_back offset segments) ≡ false
no_interp offset [] = refl
no_interp offset (segment ∷ segments) = no_interp (offset + length segment.bytes) segments

none_of : (a b c d more : Bool) → a ≡ false → c ≡ false → d ≡ false → more ≡ false → ((a || (b && c) || d) || more) ≡ false
none_of a true c d more no_a no_c no_d no_more = rw (no_a, no_c, no_d, no_more) refl
none_of a false c d more no_a no_c no_d no_more = rw (no_a, no_d, no_more) refl

no_misfit : (file_length size offset : ℕ) (segments : List MemorySegment) → offset + length (joined_bytes segments) ≤ file_length → All (IsSegment size) segments
    → list_any (is_misfit file_length size) (headers_back offset segments) ≡ false
no_misfit file_length size offset [] inside each = refl
no_misfit file_length size offset (segment ∷ segments) inside each =
    let here : IsSegment size segment = All-head (IsSegment size) segment segments each in
    let more = length-append segment.bytes (joined_bytes segments) in
    none_of (nat_lt segment.length (length segment.bytes)) (nat_lt 0 (length segment.bytes)) (nat_lt file_length (offset + length segment.bytes))
    (nat_lt size (segment.addr + segment.length)) (list_any (is_misfit file_length size) (headers_back (offset + length segment.bytes) segments))
    (le-ltb segment.length (length segment.bytes) here.bytes) (le-ltb file_length (offset + length segment.bytes) (omega (arith, more)))
    (le-ltb size (segment.addr + segment.length) here.inside)
    (no_misfit file_length size (offset + length segment.bytes) segments (omega (arith, more)) (All-tail (IsSegment size) segment segments each))

no_entry_fault : (size entry : ℕ) → IsEntry size entry → not (is_entry size entry) ≡ false
no_entry_fault size entry begins =
    rw (eq-eqb (entry % 4) 0 begins.aligned, le-leb (entry + 4) size begins.inside) refl

-- the program headers and the entry show none
pub no_program_fault : (file_length size entry count offset : ℕ) (segments : List MemorySegment)
    → offset + length (joined_bytes segments) ≤ file_length → All (IsSegment size) segments → IsEntry size entry
    → first_holding (program_refusals file_length size (header_back entry count) (headers_back offset segments)) ≡ None
no_program_fault file_length size entry count offset segments inside each begins =
    rw (no_interp offset segments, no_misfit file_length size offset segments inside each, no_entry_fault size entry begins) refl
