-- Numbers of bytes that 32 bits hold.
use Rattle.std.proofs.Common.{◌≡◌, ℕ, ◌*◌, ◌<◌, ◌≤◌, ◌^◌, List, length, Some, None, arith}
use Rattle.std.proofs.Math.Nat.{mul-le-mul_right}
use Rattle.std.proofs.lemmas.Bool.Decides.{nat_tests}
use Rattle.sec_base.specs.Geometry.{IsMemorySize}
use Rattle.sec_base.specs.Segment.{from_zero, segment_bytes}
use Rattle.sec_base.specs.declared.segment.Segment.{Segment}
use Rattle.rv32_asm_syntax.specs.Parts.{as_word}

pub too_many : (part count : ℕ) → 0 < part → 2 ^ 32 ≤ count → as_word (part * count) ≡ None
too_many part count some many = let more : 1 * count ≤ part * count = mul-le-mul_right count some in grind arith

pub told : (number : ℕ) → number < 2 ^ 32 → as_word number ≡ Some number
told number few = grind arith

pub memory_below : (size : ℕ) → IsMemorySize size → size ≤ 2 ^ 28
memory_below size memory = grind (arith, nat_tests)

-- bytes that end inside a memory
pub few_bytes : (size end : ℕ) (emitted bytes : List ℕ) (segments : List Segment) → IsMemorySize size → end ≤ size
    → length emitted ≡ end → bytes ≡ emitted → segments ≡ from_zero bytes → segment_bytes segments < 2 ^ 31
few_bytes size end emitted bytes segments memory inside ends bytes_are segments_are =
    rw (segments_are, bytes_are) (omega (arith, memory_below size memory, inside, ends))
