-- A program's spelling is read back as the program.
use Rattle.std.proofs.Common.{◌≡◌, ℕ, ◌+◌, ◌*◌, ◌^◌, ◌<◌, List, [], ◌∷◌, ◌++◌, length, take, drop, map, filter, refl, sym, ◌∙◌, ap, arith, length-append, append_assoc}
use Rattle.std.specs.List.{All}
use Rattle.std.proofs.lemmas.List.{drop_at, take_at}
use Rattle.std.proofs.lemmas.List.Elements.{All-head, All-tail}
use Rattle.std.proofs.Math.Seq.{drop-append-add}
use Rattle.std.specs.Int.{w32, from_le_bytes}
use Rattle.std.proofs.lemmas.Nat.{from_le_bytes-to_le_bytes_2, from_le_bytes-to_le_bytes_4}
use Rattle.sec_base.specs.Segment.{IsSegment}
use Rattle.sec_base.specs.declared.segment.Segment.{Segment}
use Rattle.elf_load.specs.Format.{FileHeader}
use Rattle.elf_load.specs.Format.{ProgramHeader}
use Rattle.elf_load.specs.Format.{u16_at, u32_at, file_header, program_header, headers_from}
use Rattle.elf_load.specs.Program.{segment_of}
use Rattle.elf_load.specs.Refusals.{is_load}
use Rattle.elf_load.specs.Spelling.{spelled_header, spelled_segment, spelled_table, joined_bytes, u16_bytes, u32_bytes}

-- the file header that is spelled
abbrev pub header_back : ℕ → ℕ → FileHeader
header_back entry count =
    record { kind = 2; machine = 243; entry = entry; table = 52; flags = 0; header_size = 32; count = count }

u32_at-entry : (entry count : ℕ) (rest : List ℕ) → entry < 2 ^ 32 → u32_at (spelled_header entry count ++ rest) 24 ≡ entry
unfolding u32_at spelled_header u16_bytes u32_bytes
u32_at-entry entry count rest fits = from_le_bytes-to_le_bytes_4 entry fits

u16_at-count : (entry count : ℕ) (rest : List ℕ) → count < 2 ^ 16 → u16_at (spelled_header entry count ++ rest) 44 ≡ count
unfolding u16_at spelled_header u16_bytes u32_bytes
u16_at-count entry count rest fits = from_le_bytes-to_le_bytes_2 count fits

pub file_header-spelled : (entry count : ℕ) (rest : List ℕ) → entry < 2 ^ 32 → count < 2 ^ 16
    → file_header (spelled_header entry count ++ rest) ≡ header_back entry count
unfolding u16_at u32_at spelled_header u16_bytes u32_bytes
file_header-spelled entry count rest entry_fits count_fits =
    ap (λ e. header_back e (u16_at (spelled_header entry count ++ rest) 44)) (u32_at-entry entry count rest entry_fits)
    ∙ ap (λ n. header_back entry n) (u16_at-count entry count rest count_fits)

-- the program headers that are spelled
abbrev pub headers_back : ℕ → List Segment → List ProgramHeader
headers_back offset [] = []
headers_back offset (segment ∷ segments) =
    record { kind = 1; offset = offset; address = segment.addr; file_length = length segment.bytes; memory_length = segment.length }
    ∷ headers_back (offset + length segment.bytes) segments

-- a number behind a front part
u32_at-append : (front rest : List ℕ) (at : ℕ) → u32_at (front ++ rest) (length front + at) ≡ u32_at rest at
unfolding u32_at
u32_at-append front rest at = ap (λ (bytes : List ℕ). from_le_bytes w32 (take 4 bytes)) (drop-append-add front rest at)

u32_at-front : (front rest : List ℕ) → u32_at (front ++ rest) (length front) ≡ u32_at rest 0
unfolding u32_at
u32_at-front front rest = ap (λ (bytes : List ℕ). from_le_bytes w32 (take 4 bytes)) (drop_at front rest (length front) refl)

-- the fields of a program header that is spelled
kind_back : (offset : ℕ) (segment : Segment) (rest : List ℕ) → u32_at (spelled_segment offset segment ++ rest) 0 ≡ 1
unfolding u32_at spelled_segment u32_bytes
kind_back offset segment rest = refl

offset_back : (offset : ℕ) (segment : Segment) (rest : List ℕ) → offset < 2 ^ 32 → u32_at (spelled_segment offset segment ++ rest) 4 ≡ offset
unfolding u32_at spelled_segment u32_bytes
offset_back offset segment rest fits = from_le_bytes-to_le_bytes_4 offset fits

address_back : (offset : ℕ) (segment : Segment) (rest : List ℕ) → segment.addr < 2 ^ 32 → u32_at (spelled_segment offset segment ++ rest) 8 ≡ segment.addr
unfolding u32_at spelled_segment u32_bytes
address_back offset segment rest fits = from_le_bytes-to_le_bytes_4 segment.addr fits

file_length_back : (offset : ℕ) (segment : Segment) (rest : List ℕ) → length segment.bytes < 2 ^ 32
    → u32_at (spelled_segment offset segment ++ rest) 16 ≡ length segment.bytes
unfolding u32_at spelled_segment u32_bytes
file_length_back offset segment rest fits = from_le_bytes-to_le_bytes_4 (length segment.bytes) fits

memory_length_back : (offset : ℕ) (segment : Segment) (rest : List ℕ) → segment.length < 2 ^ 32
    → u32_at (spelled_segment offset segment ++ rest) 20 ≡ segment.length
unfolding u32_at spelled_segment u32_bytes
memory_length_back offset segment rest fits = from_le_bytes-to_le_bytes_4 segment.length fits

length-spelled_segment : (offset : ℕ) (segment : Segment) → length (spelled_segment offset segment) ≡ 32
unfolding spelled_segment u32_bytes
length-spelled_segment offset segment = refl

same_header : (k k' o o' a a' f f' m m' : ℕ) → k ≡ k' → o ≡ o' → a ≡ a' → f ≡ f' → m ≡ m' →
    let one : ProgramHeader = record { kind = k; offset = o; address = a; file_length = f; memory_length = m } in
    let other : ProgramHeader = record { kind = k'; offset = o'; address = a'; file_length = f'; memory_length = m' } in
    one ≡ other
same_header k k' o o' a a' f f' m m' kinds offsets addresses file_lengths memory_lengths =
    rw (kinds, offsets, addresses, file_lengths, memory_lengths) refl

-- a program header behind a front part is the one that is spelled
header_at : (front rest : List ℕ) (offset size : ℕ) (segment : Segment) → size < 2 ^ 32 → offset < 2 ^ 32 → IsSegment size segment
    → program_header (front ++ (spelled_segment offset segment ++ rest)) (length front)
    ≡ record { kind = 1; offset = offset; address = segment.addr; file_length = length segment.bytes; memory_length = segment.length }
header_at front rest offset size segment small fits inside =
    let bytes = inside.bytes in
    let end = inside.inside in
    let there : List ℕ = spelled_segment offset segment ++ rest in
    same_header _ 1 _ offset _ segment.addr _ (length segment.bytes) _ segment.length
    (u32_at-front front there ∙ kind_back offset segment rest)
    (u32_at-append front there 4 ∙ offset_back offset segment rest fits)
    (u32_at-append front there 8 ∙ address_back offset segment rest (omega arith))
    (u32_at-append front there 16 ∙ file_length_back offset segment rest (omega arith))
    (u32_at-append front there 20 ∙ memory_length_back offset segment rest (omega arith))

-- a table behind a front part is the one that is spelled
pub table_at : (front rest file : List ℕ) (at offset size : ℕ) (segments : List Segment) → size < 2 ^ 32
    → offset + length (joined_bytes segments) < 2 ^ 32 → All (IsSegment size) segments
    → file ≡ front ++ (spelled_table offset segments ++ rest) → at ≡ length front
    → headers_from file at (length segments) ≡ headers_back offset segments
unfolding spelled_table
table_at front rest file at offset size [] small fits each file_is at_is = refl
table_at front rest file at offset size (segment ∷ segments) small fits each file_is at_is =
    let here : List ℕ = spelled_segment offset segment in
    let table : List ℕ = spelled_table (offset + length segment.bytes) segments in
    let more = length-append segment.bytes (joined_bytes segments) in
    let first_is : file ≡ front ++ (here ++ (table ++ rest)) = file_is ∙ ap (λ t. front ++ t) (append_assoc here table rest) in
    let others_are : file ≡ (front ++ here) ++ (table ++ rest) = first_is ∙ sym (append_assoc front here (table ++ rest)) in
    let next : at + 32 ≡ length (front ++ here) = omega (arith, at_is, length-append front here, length-spelled_segment offset segment) in
    let first : program_header file at ≡ record { kind = 1; offset = offset; address = segment.addr; file_length = length segment.bytes; memory_length = segment.length } =
    rw (first_is, at_is) (header_at front (table ++ rest) offset size segment small (omega arith) (All-head (IsSegment size) segment segments each)) in
    ap (λ h. h ∷ headers_from file (at + 32) (length segments)) first
    ∙ ap (λ hs. record { kind = 1; offset = offset; address = segment.addr; file_length = length segment.bytes; memory_length = segment.length } ∷ hs)
    (table_at (front ++ here) rest file (at + 32) (offset + length segment.bytes) size segments small (omega (arith, more))
    (All-tail (IsSegment size) segment segments each) others_are next)

-- each of them is loaded
pub all_load : (offset : ℕ) (segments : List Segment) → filter is_load (headers_back offset segments) ≡ headers_back offset segments
all_load offset [] = refl
all_load offset (segment ∷ segments) =
    ap (λ headers. record { kind = 1; offset = offset; address = segment.addr; file_length = length segment.bytes; memory_length = segment.length } ∷ headers)
    (all_load (offset + length segment.bytes) segments)

bytes_at : (front bytes rest file : List ℕ) (offset : ℕ) → file ≡ front ++ (bytes ++ rest) → offset ≡ length front → take (length bytes) (drop offset file) ≡ bytes
bytes_at front bytes rest file offset file_is offset_is =
    rw (file_is, offset_is, drop_at front (bytes ++ rest) (length front) refl) (take_at bytes rest (length bytes) refl)

-- and has its segment's bytes
pub segments_at : (front rest file : List ℕ) (offset : ℕ) (segments : List Segment) → file ≡ front ++ (joined_bytes segments ++ rest) → offset ≡ length front
    → map (segment_of file) (headers_back offset segments) ≡ segments
segments_at front rest file offset [] file_is offset_is = refl
segments_at front rest file offset (segment ∷ segments) file_is offset_is =
    let others : List ℕ = joined_bytes segments in
    let first_is : file ≡ front ++ (segment.bytes ++ (others ++ rest)) = file_is ∙ ap (λ t. front ++ t) (append_assoc segment.bytes others rest) in
    let others_are : file ≡ (front ++ segment.bytes) ++ (others ++ rest) = first_is ∙ sym (append_assoc front segment.bytes (others ++ rest)) in
    let next : offset + length segment.bytes ≡ length (front ++ segment.bytes) = omega (arith, offset_is, length-append front segment.bytes) in
    ap (λ bytes. record { addr = segment.addr; length = segment.length; bytes = bytes } ∷ map (segment_of file) (headers_back (offset + length segment.bytes) segments))
    (bytes_at front segment.bytes (others ++ rest) file offset first_is offset_is)
    ∙ ap (λ rest_of. segment ∷ rest_of) (segments_at (front ++ segment.bytes) rest file (offset + length segment.bytes) segments others_are next)

pub length-spelled_header : (entry count : ℕ) → length (spelled_header entry count) ≡ 52
unfolding spelled_header u16_bytes u32_bytes
length-spelled_header entry count = refl

pub length-spelled_table : (offset : ℕ) (segments : List Segment) → length (spelled_table offset segments) ≡ 32 * length segments
unfolding spelled_table
length-spelled_table offset [] = refl
length-spelled_table offset (segment ∷ segments) =
    omega (
      arith,
      length-append (spelled_segment offset segment) (spelled_table (offset + length segment.bytes) segments),
      length-spelled_segment offset segment,
      length-spelled_table (offset + length segment.bytes) segments,
    )
