-- The image of a file that is not refused.
use Rattle.std.proofs.Common.{◌≡◌, ℕ, List, None, IsOkAnd}
use Rattle.sec_base.specs.Program.{IsImageOf}
use Rattle.sec_base.specs.Segment.{from_zero}
use Rattle.sec_base.specs.declared.image.Image.{Image}
use Rattle.elf_load.specs.Program.{elf_program, entry_of, flat_program, segments_of}
use Rattle.elf_load.specs.Refusals.{first_fault, flat_fault}

pub elf_image : (file : List ℕ) (size : ℕ) (image : Image) → first_fault file size ≡ None → image.entry ≡ entry_of file → image.size ≡ size
    → image.segments ≡ segments_of file → IsOkAnd (elf_program file size) (λ program. IsImageOf size program image)
elf_image file size image accepted entry memory segments =
    rw accepted (record { entry = entry; memory = memory; segments = segments })

pub flat_image : (file : List ℕ) (size : ℕ) (image : Image) → flat_fault file size ≡ None → image.entry ≡ 0 → image.size ≡ size
    → image.segments ≡ from_zero file → IsOkAnd (flat_program file size) (λ program. IsImageOf size program image)
flat_image file size image accepted entry memory segments =
    rw accepted (record { entry = entry; memory = memory; segments = segments })
