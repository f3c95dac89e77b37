use Rattle.std.proofs.Common.{◌≡◌, ℕ, ◌+◌, ◌≤◌, List, length, bit_and, slice_set, sym, ap, ◌∙◌, arith}
use Rattle.std.proofs.lemmas.Nat.{and_mask}
use Rattle.sec_base.specs.declared.width.Width.{Width}
use Rattle.sec_base.specs.declared.width.Width.TheVariants.{One, Two, Four}
use Rattle.sec_base.specs.Width.{width_bytes, with_number}
use Rattle.sec_base.proofs.NumberBytes.{with_number_one}
use Rattle.sec_base.proofs.width.Width.write.Goals as goal

one_byte : (bytes : List ℕ) (at n : ℕ) (width : Width) → width ≡ One → at + width_bytes width ≤ length bytes →
    slice_set bytes at (bit_and n 255) ≡ with_number bytes at width n
one_byte bytes at n One is inside = ap (slice_set bytes at) (and_mask n 8) ∙ sym (with_number_one bytes at n (omega arith))
one_byte bytes at n Two is inside = cc
one_byte bytes at n Four is inside = cc

pub returns-in-One : goal.returns-in-One
returns-in-One c = one_byte c.args.bytes.now c.args.at c.args.value c.args.self c.in-One.is c.requires
