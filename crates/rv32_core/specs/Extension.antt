-- What an extension makes of a loaded number. The contracts of private functions alone cite it.
use Rattle.std.specs.Prelude.{ℕ}
use Rattle.sec_base.specs.declared.width.Width.{Width}
use Rattle.rv32_core.specs.declared.access.Extension.{Extension}
use Rattle.rv32_core.specs.declared.access.Extension.TheVariants.{Zero, Sign}
use Rattle.rv32_core.specs.Arithmetic.{zero_extension, sign_extension}

-- The lowest bytes of a number, extended by zeros or by their sign.
abbrev pub extension : Extension → Width → ℕ → ℕ
extension Zero width n = zero_extension width n
extension Sign width n = sign_extension width n
