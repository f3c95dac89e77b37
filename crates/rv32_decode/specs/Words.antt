-- Words of 32 bits: their fields, and signed numbers in two's complement.
use Rattle.std.specs.Int.{cast_unsigned, w32}
use Rattle.std.specs.Prelude.{ℕ, ℤ, pos, ◌-◌, ◌/◌, ◌%◌, ◌^◌, ◌-ℤ◌, nat_lt, if◌then◌else◌}

-- the `count` bits of a word from bit `low` on
abbrev pub field : ℕ → ℕ → ℕ → ℕ
field word low count = word / 2 ^ low % 2 ^ count

-- a number of `count` bits, read in two's complement
abbrev pub signed_number : ℕ → ℕ → ℤ
signed_number count n = if nat_lt n (2 ^ (count - 1)) then pos n else pos n -ℤ pos (2 ^ count)

-- a signed number as a word: modulo 2 ^ 32
abbrev pub word_of_signed : ℤ → ℕ
word_of_signed number = cast_unsigned w32 number
