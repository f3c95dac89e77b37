-- A file that isn't refused is a program that fits its memory.
use Rattle.std.proofs.Common.{◌≡◌, ℕ, zero, suc, ◌+◌, ◌≤◌, List, [], ◌∷◌, length, drop, map, filter, cond, Bool, not, nat_le, nat_lt, ◌==◌, ◌%◌, true, false, ◌&&◌, ◌||◌, Some, None, refl, ◌∙◌, ap, arith}
use Rattle.std.specs.Bool.{if◌then◌else◌}
use Rattle.std.specs.List.{All, list_any}
use Rattle.std.proofs.lemmas.Bool.{leb-true, ltb-false, eqb-true}
use Rattle.std.proofs.lemmas.List.{length-take}
use Rattle.std.proofs.lemmas.List.Elements.{All-nil, All-cons}
use Rattle.std.proofs.lemmas.List.Sums.{length-filter, count_by-le-length}
use Rattle.std.proofs.lemmas.Grind.{common_steps}
use Rattle.sec_base.specs.Geometry.{IsMemorySize}
use Rattle.sec_base.specs.Image.{IsEntry, IsImage, is_entry}
use Rattle.sec_base.specs.Segment.{IsSegment}
use Rattle.sec_base.specs.declared.segment.Segment.{Segment as MemorySegment}
use Rattle.elf_load.specs.declared.fault.ElfFault.{ElfFault}
use Rattle.elf_load.specs.declared.fault.ElfFault.TheVariants.{Interp, Segment, Entry}
use Rattle.elf_load.specs.Format.{FileHeader}
use Rattle.elf_load.specs.Format.{ProgramHeader}
use Rattle.elf_load.specs.Format.{file_header, headers_from, program_headers}
use Rattle.elf_load.specs.Program.{segment_of, segments_of}
use Rattle.elf_load.specs.Refusals.{first_holding, program_refusals, is_interp, is_load, is_misfit}

-- none of three rows holds
no_row : (f g h : ElfFault) (a b c : Bool) → (if a then Some f else (if b then Some g else (if c then Some h else None))) ≡ None → (b ≡ false) × (c ≡ false)
no_row f g h true b c none = absurd (cc)
no_row f g h false true c none = absurd (cc)
no_row f g h false false true none = absurd (cc)
no_row f g h false false false none = (refl, refl)

neither : (a b : Bool) → (a || b) ≡ false → (a ≡ false) × (b ≡ false)
neither true b h = absurd (cc)
neither false b h = (refl, h)

both_hold : (a b : Bool) → not (a && b) ≡ false → (a ≡ true) × (b ≡ true)
both_hold true true h = (refl, refl)
both_hold true false h = absurd (cc)
both_hold false b h = absurd (cc)

begins_there : (size address : ℕ) → not (is_entry size address) ≡ false → IsEntry size address
begins_there size address taken =
    let parts = both_hold (address % 4 == 0) (nat_le (address + 4) size) taken in
    record { aligned = eqb-true (address % 4) 0 parts.0; inside = leb-true (address + 4) size parts.1 }

-- a loaded segment that is no misfit
fitting : (load a b c : Bool) → (load && (a || b || c)) ≡ false → load ≡ true → (a ≡ false) × (c ≡ false)
fitting false a b c h loaded = absurd (cc)
fitting true true b c h loaded = absurd (cc)
fitting true false true c h loaded = absurd (cc)
fitting true false false c h loaded = (refl, h)

segment_fits : (file : List ℕ) (size : ℕ) (header : ProgramHeader)
    → is_misfit (length file) size header ≡ false → is_load header ≡ true → IsSegment size (segment_of file header)
segment_fits file size header fits loaded =
    let parts = fitting (is_load header) (nat_lt header.memory_length header.file_length)
    (nat_lt 0 header.file_length && nat_lt (length file) (header.offset + header.file_length))
    (nat_lt size (header.address + header.memory_length)) fits loaded in
    let bytes : header.file_length ≤ header.memory_length = ltb-false header.memory_length header.file_length parts.0 in
    let inside : header.address + header.memory_length ≤ size = ltb-false size (header.address + header.memory_length) parts.1 in
    record { bytes = omega (arith, length-take header.file_length (drop header.offset file)); inside = inside }

-- what is kept of one header more
segments_step : (file : List ℕ) (size : ℕ) (header : ProgramHeader) (headers : List ProgramHeader) (load : Bool)
    → is_load header ≡ load → is_misfit (length file) size header ≡ false
    → All (IsSegment size) (map (segment_of file) (filter is_load headers))
    → All (IsSegment size) (map (segment_of file) (cond load (header ∷ filter is_load headers) (filter is_load headers)))
segments_step file size header headers false loaded fits rest = rest
segments_step file size header headers true loaded fits rest =
    All-cons (IsSegment size) (segment_of file header) (map (segment_of file) (filter is_load headers)) (segment_fits file size header fits loaded) rest

pub segments_fit : (file : List ℕ) (size : ℕ) (headers : List ProgramHeader)
    → list_any (is_misfit (length file) size) headers ≡ false
    → All (IsSegment size) (map (segment_of file) (filter is_load headers))
segments_fit file size [] fits = All-nil (IsSegment size)
segments_fit file size (header ∷ headers) fits =
    let parts = neither (is_misfit (length file) size header) (list_any (is_misfit (length file) size) headers) fits in
    segments_step file size header headers (is_load header) refl parts.0 (segments_fit file size headers parts.1)

length-headers_from : (file : List ℕ) (at count : ℕ) → length (headers_from file at count) ≡ count
length-headers_from file at zero = refl
length-headers_from file at (suc count) = ap suc (length-headers_from file (at + 32) count)

length-loaded : (file : List ℕ) (headers : List ProgramHeader) → length (map (segment_of file) (filter is_load headers)) ≤ length headers
length-loaded file headers = grind (arith, common_steps, length-filter, count_by-le-length)

-- the program of a file that the program headers don't refuse
pub image_fits : (file : List ℕ) (size : ℕ) (header : FileHeader) (headers : List ProgramHeader) (segments : List MemorySegment)
    → IsMemorySize size → header.count ≤ 64 → headers ≡ headers_from file header.table header.count
    → first_holding (program_refusals (length file) size header headers) ≡ None
    → segments ≡ map (segment_of file) (filter is_load headers) → IsImage header.entry size segments
image_fits file size header headers segments memory few headers_are none segments_are =
    let rows = no_row Interp Segment Entry (list_any is_interp headers) (list_any (is_misfit (length file) size) headers) (not (is_entry size header.entry)) none in
    record {
      memory = memory;
      begins = begins_there size header.entry rows.1;
      few = omega (arith, ap length segments_are, length-loaded file headers, ap length headers_are, length-headers_from file header.table header.count);
      each = rw segments_are (segments_fit file size headers rows.0);
    }

-- the segments that were kept of the program headers that were read are the file's
pub segments_are : (file : List ℕ) (header : FileHeader) (headers : List ProgramHeader) (segments : List MemorySegment)
    → header ≡ file_header file → headers ≡ headers_from file header.table header.count
    → segments ≡ map (segment_of file) (filter is_load headers) → segments ≡ segments_of file
unfolding segments_of program_headers
segments_are file header headers segments header_is headers_are kept =
    kept
    ∙ ap (λ at_hand. map (segment_of file) (filter is_load at_hand)) headers_are
    ∙ ap (λ at_hand. map (segment_of file) (filter is_load (headers_from file at_hand.table at_hand.count))) header_is
