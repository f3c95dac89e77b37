-- A program is the program that its spelling holds.
use Rattle.std.proofs.Common.{◌≡◌, ℕ, ◌+◌, ◌*◌, ◌^◌, ◌<◌, ◌≤◌, List, [], ◌++◌, length, map, filter, IsOkAnd, None, refl, sym, ◌∙◌, ap, arith, length-append, append_assoc}
use Rattle.std.proofs.lemmas.List.{append-nil}
use Rattle.sec_base.specs.Image.{IsImage}
use Rattle.sec_base.specs.Program.{IsImageOf}
use Rattle.sec_base.specs.Segment.{segment_bytes}
use Rattle.sec_base.specs.declared.segment.Segment.{Segment}
use Rattle.sec_base.specs.declared.image.Image.{Image}
use Rattle.elf_load.specs.Format.{FileHeader}
use Rattle.elf_load.specs.Format.{file_header, headers_from}
use Rattle.elf_load.specs.Program.{elf_program, entry_of, segment_of, segments_of}
use Rattle.elf_load.proofs.Programs.{elf_image}
use Rattle.elf_load.specs.Refusals.{first_fault, is_load}
use Rattle.elf_load.specs.Spelling.{spelled, spelled_header, spelled_table, joined_bytes}
use Rattle.elf_load.proofs.Accepting.{no_header_fault, no_program_fault}
use Rattle.elf_load.proofs.Fitting.{segments_are}
use Rattle.elf_load.proofs.ReadingBack.{header_back, headers_back, file_header-spelled, length-spelled_header, length-spelled_table, table_at, all_load, segments_at}
use Rattle.elf_load.proofs.Refusing.{first_fault-program}
use Rattle.elf_load.proofs.SpelledTables.{bytes_fit, memory_below}

-- over the parts of the image
parts_back : (entry size count offset : ℕ) (segments : List Segment) (file : List ℕ) → IsImage entry size segments
    → segment_bytes segments < 2 ^ 31 → count ≡ length segments → offset ≡ 52 + 32 * count
    → file ≡ spelled_header entry count ++ spelled_table offset segments ++ joined_bytes segments
    → (first_fault file size ≡ None) × (entry_of file ≡ entry) × (segments ≡ segments_of file)
parts_back entry size count offset segments file image few_bytes count_is offset_is file_is =
    let fits = bytes_fit segments image.few few_bytes in
    let small : size < 2 ^ 32 = omega (arith, memory_below size image.memory) in
    let few : count ≤ 64 = omega (arith, image.few) in
    let head : List ℕ = spelled_header entry count in
    let table : List ℕ = spelled_table offset segments in
    let bytes : List ℕ = joined_bytes segments in
    let head_long = length-spelled_header entry count in
    let table_long = length-spelled_table offset segments in
    let long : length file ≡ 52 + 32 * count + length bytes =
    omega (arith, ap length file_is, length-append (head ++ table) bytes, length-append head table, head_long, table_long) in
    let behind_header : file ≡ head ++ (table ++ bytes) = file_is ∙ append_assoc head table bytes in
    let before_bytes : file ≡ (head ++ table) ++ (bytes ++ []) = file_is ∙ ap (λ t. (head ++ table) ++ t) (sym (append-nil bytes)) in
    let header : file_header file ≡ header_back entry count =
    rw behind_header (file_header-spelled entry count (table ++ bytes) (omega (arith, image.begins.inside)) (omega arith)) in
    let headers : headers_from file 52 (length segments) ≡ headers_back offset segments =
    table_at head bytes file 52 offset size segments small (omega arith) image.each behind_header (sym head_long) in
    let headers_are : headers_back offset segments ≡ headers_from file 52 count = rw count_is (sym headers) in
    let kept : map (segment_of file) (headers_back offset segments) ≡ segments =
    segments_at (head ++ table) [] file offset segments before_bytes (omega (arith, length-append head table)) in
    let loaded : segments ≡ map (segment_of file) (filter is_load (headers_back offset segments)) =
    sym (ap (λ hs. map (segment_of file) hs) (all_load offset segments) ∙ kept) in (
      first_fault-program file size (header_back entry count) (headers_back offset segments) None
          (no_header_fault file (table ++ bytes) entry count behind_header header few (omega arith))
          (sym header) headers_are
          (no_program_fault (length file) size entry count offset segments (omega arith) image.each image.begins),
      ap (λ (h : FileHeader). h.entry) header,
      segments_are file (header_back entry count) (headers_back offset segments) segments (sym header) headers_are loaded,
    )

pub read_back : (image : Image) → segment_bytes image.segments < 2 ^ 31
    → IsOkAnd (elf_program (spelled image) image.size) (λ program. IsImageOf image.size program image)
unfolding spelled
read_back image few_bytes =
    let parts = parts_back image.entry image.size (length image.segments) (52 + 32 * length image.segments) image.segments (spelled image) image.fits few_bytes refl refl refl in
    elf_image (spelled image) image.size image parts.0 (sym parts.1) refl parts.2
