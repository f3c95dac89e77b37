-- Numbers of one, two or four bytes in a list of bytes, the lowest byte first.
use Rattle.std.specs.Prelude.{ℕ, ◌+◌, List, ◌++◌, take, drop}
use Rattle.std.specs.Int.{Width as IntWidth, w8, w16, w32, to_le_bytes, from_le_bytes}
use Rattle.sec_base.specs.declared.width.Width.{Width}
use Rattle.sec_base.specs.declared.width.Width.TheVariants.{One, Two, Four}

-- how many bytes
abbrev pub width_bytes : Width → ℕ
width_bytes One = 1
width_bytes Two = 2
width_bytes Four = 4

-- the width of such a number among those of Rust's integers
abbrev pub int_width : Width → IntWidth
int_width One = w8
int_width Two = w16
int_width Four = w32

-- the lowest bytes of n, the lowest first
abbrev pub number_bytes : Width → ℕ → List ℕ
number_bytes width n = to_le_bytes (int_width width) n

-- the number at an address
abbrev pub number_at : List ℕ → ℕ → Width → ℕ
number_at bytes at width = from_le_bytes (int_width width) (take (width_bytes width) (drop at bytes))

-- the bytes with those of n at an address
abbrev pub with_number : List ℕ → ℕ → Width → ℕ → List ℕ
with_number bytes at width n = take at bytes ++ number_bytes width n ++ drop (at + width_bytes width) bytes
