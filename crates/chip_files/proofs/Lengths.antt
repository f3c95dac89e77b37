-- How many bytes the segments of a program have that was read from a file.
use Rattle.std.proofs.Common.{◌≡◌, ℕ, ◌*◌, ◌^◌, ◌<◌, ◌≤◌, List, [], ◌∷◌, length, drop, map, filter, Option, Some, None, IsOkAnd, sym, subst, arith, length-drop}
use Rattle.std.specs.List.{All}
use Rattle.std.proofs.Math.Nat.{mul-le-mul_right}
use Rattle.std.proofs.lemmas.List.{length-take}
use Rattle.std.proofs.lemmas.List.Elements.{All-nil, All-cons}
use Rattle.std.proofs.lemmas.List.Sums.{sum_by-le}
use Rattle.sec_base.specs.Program.{IsImageOf, Program}
use Rattle.sec_base.specs.Segment.{from_zero, segment_bytes}
use Rattle.sec_base.specs.declared.image.Image.{Image}
use Rattle.sec_base.specs.declared.segment.Segment.{Segment}
use Rattle.elf_load.specs.Format.{ProgramHeader, program_headers}
use Rattle.elf_load.specs.Program.{elf_program, entry_of, flat_program, program_unless, segment_of, segments_of}
use Rattle.elf_load.specs.Refusals.{first_fault, flat_fault, is_load}
use Rattle.elf_load.specs.declared.fault.ElfFault.{ElfFault}

-- a program that isn't refused
not_refused : (fault : Option ElfFault) (program : Program) (P : Program → Type 0) → IsOkAnd (program_unless fault program) P → P program
not_refused None program P is = is
not_refused (Some fault) program P is = absurd is

-- a segment has no more bytes than its file
each_short : (file : List ℕ) (headers : List ProgramHeader) → All (λ (segment : Segment). length segment.bytes ≤ length file) (map (segment_of file) headers)
each_short file [] = All-nil (λ (segment : Segment). length segment.bytes ≤ length file)
each_short file (header ∷ headers) =
    All-cons (λ (segment : Segment). length segment.bytes ≤ length file) (segment_of file header) (map (segment_of file) headers)
    (omega (arith, length-take header.file_length (drop header.offset file), length-drop header.offset file))
    (each_short file headers)

few_short : (file : List ℕ) (segments : List Segment) → segments ≡ segments_of file → length segments ≤ 64 → length file ≤ 8388608 → segment_bytes segments < 2 ^ 31
unfolding segments_of
few_short file segments are few short =
    let each : All (λ (segment : Segment). length segment.bytes ≤ length file) segments = rw are (each_short file (filter is_load (program_headers file))) in
    let together = sum_by-le (λ (segment : Segment). length segment.bytes) (length file) segments each in
    let bounded : length segments * length file ≤ 64 * length file = mul-le-mul_right (length file) few in
    omega (arith, together, bounded, short)

pub elf_small : (size : ℕ) (file : List ℕ) (image : Image) → length file ≤ 8388608
    → IsOkAnd (elf_program file size) (λ program. IsImageOf size program image) → segment_bytes image.segments < 2 ^ 31
elf_small size file image short is =
    let made = not_refused (first_fault file size) (record { entry = entry_of file; segments = segments_of file }) (λ program. IsImageOf size program image) is in
    few_short file image.segments made.segments image.fits.few short

pub flat_small : (size : ℕ) (file : List ℕ) (image : Image) → length file ≤ 8388608
    → IsOkAnd (flat_program file size) (λ program. IsImageOf size program image) → segment_bytes image.segments < 2 ^ 31
flat_small size file image short is =
    let made = not_refused (flat_fault file size) (record { entry = 0; segments = from_zero file }) (λ program. IsImageOf size program image) is in
    subst (λ (segments : List Segment). segment_bytes segments < 2 ^ 31) (sym made.segments) (omega (arith, short))
