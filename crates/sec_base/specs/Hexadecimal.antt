-- Numbers in hexadecimal digits.
use Rattle.std.specs.Prelude.{ℕ, ◌-◌, List, ◌++◌, length, replicate, false}
use Rattle.std.specs.Fmt.{digits}

-- so many digits of a number at least, with zeros before it where it has fewer
unfoldable pub hex_digits : ℕ → ℕ → List ℕ
hex_digits count n = replicate (count - length (digits 16 false n)) 48 ++ digits 16 false n
