use Rattle.std.proofs.Common.{rules, ◌≡◌, ◌-◌, ◌^◌, ◌==◌, if◌then◌else◌, w32}
use Rattle.std.specs.Int.{cast_signed, cast_unsigned}
use Rattle.std.specs.Prelude.{int_div}
use Rattle.rv32_core.proofs.Signed.{signed_word}
use Rattle.rv32_core.proofs.arithmetic.quotient.Goals as goal

-- the same by Rust's casts
pub returns-else-b-eq0 : goal.returns-else-b-eq0
returns-else-b-eq0 c =
    let cast : c.cast_unsigned.result ≡ (if c.args.b == 0 then 2 ^ 32 - 1 else cast_unsigned w32 (int_div (cast_signed w32 c.args.a) (cast_signed w32 c.args.b))) = search rules in
    rw (signed_word c.args.a c.ranges.a.fits, signed_word c.args.b c.ranges.b.fits) cast
