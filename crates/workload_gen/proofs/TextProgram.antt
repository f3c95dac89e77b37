-- The text's program, and those of numbers.
use Rattle.std.proofs.Common.{◌≡◌, ℕ, ◌-◌, List, [], ◌∷◌, length, map, take, refl, ap, ◌∙◌, arith, lit≤}
use Rattle.std.specs.Result.{IsOk, IsOkAnd}
use Rattle.std.specs.Int.{w32, to_le_bytes}
use Rattle.std.proofs.lemmas.List.{length-append, length-take}
use Rattle.std.proofs.lemmas.List.Elements.{All-cons, All-nil}
use Rattle.sec_base.specs.Image.{IsImage}
use Rattle.sec_base.specs.Program.{IsImageOf, Program}
use Rattle.sec_base.specs.Segment.{IsSegment}
use Rattle.sec_base.specs.declared.image.Image.{Image}
use Rattle.sec_base.specs.declared.segment.Segment.{Segment}
use Rattle.rv32_asm.specs.Program.{assembled_program}
use Rattle.workload_gen.specs.EndsInWord.{EndsInWord}
use Rattle.workload_gen.specs.Text.{workload_text}
use Rattle.workload_gen.specs.Workload.{with_last_word, workload_of}
use Rattle.workload_gen.proofs.Assembly.{code, length-code, assembled-text}

-- its segment
abbrev text_segment : Segment
text_segment = record { addr = 0; length = length code; bytes = code }

abbrev text_program : Program
text_program = record { entry = 0; segments = text_segment ∷ [] }

length-word : (number : ℕ) → length (to_le_bytes w32 number) ≡ 4
length-word number = refl

-- an image of the text's program is that of these bytes
text-is : (image : Image) →
    IsOkAnd (assembled_program workload_text 1048576) (λ program. IsImageOf 1048576 program image) →
    IsImageOf 1048576 text_program image
text-is image is = rw assembled-text at is

pub text-ends_in_word : (image : Image) →
    IsOkAnd (assembled_program workload_text 1048576) (λ program. IsImageOf 1048576 program image) →
    EndsInWord image.segments
text-ends_in_word image is = record {
  bytes = code;
  one = (text-is image is).segments;
  long = omega (arith, length-code);
  short = omega (arith, length-code);
}

-- with a number it fits the memory as before
segment-fits : (number size : ℕ) → size ≡ 1048576 → IsSegment size (with_last_word number text_segment)
segment-fits number size four_levels = record {
  bytes = omega (
    arith,
    length-append (take (length code - 4) code) (to_le_bytes w32 number),
    length-take (length code - 4) code,
    length-word number,
    length-code,
  );
  inside = omega (arith, length-code);
}

pub numbered-fits : (number : ℕ) (image : Image) (segments : List Segment) →
    IsOkAnd (assembled_program workload_text 1048576) (λ program. IsImageOf 1048576 program image) →
    segments ≡ map (with_last_word number) image.segments → IsImage image.entry image.size segments
numbered-fits number image segments is given =
    let text = text-is image is in
    let same : segments ≡ with_last_word number text_segment ∷ [] =
    given ∙ ap (map (with_last_word number)) text.segments in
    record {
      memory = image.fits.memory;
      begins = image.fits.begins;
      few = rw same (lit≤ tt);
      each = rw same (All-cons (IsSegment image.size) (with_last_word number text_segment) []
          (segment-fits number image.size text.memory) (All-nil (IsSegment image.size)));
    }

-- and it is the program of the number
pub numbered-is : (number : ℕ) (image : Image) (made : Image) →
    IsOkAnd (assembled_program workload_text 1048576) (λ program. IsImageOf 1048576 program image) →
    made.entry ≡ image.entry → made.size ≡ image.size →
    made.segments ≡ map (with_last_word number) image.segments →
    IsOkAnd (workload_of number) (λ program. IsImageOf 1048576 program made)
unfolding workload_of
numbered-is number image made is entry size segments =
    let text = text-is image is in
    rw assembled-text (record {
      entry = entry ∙ text.entry;
      memory = size ∙ text.memory;
      segments = segments ∙ ap (map (with_last_word number)) text.segments;
    })

-- each number has its program
pub workload_ok : (number : ℕ) → IsOk (workload_of number)
unfolding workload_of
workload_ok number = rw assembled-text refl
