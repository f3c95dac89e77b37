-- Where statements may stand, and how many bytes they take there.
use Rattle.std.specs.Prelude.{ℕ, ◌-◌, ◌*◌, ◌%◌, ℤ, pos, negsuc, Bool, false, not, ◌&&◌, ◌==◌, length, nat_le, unsigned_abs}
use Rattle.std.specs.Int.{is_power_of_two}
use Rattle.sec_base.specs.Width.{width_bytes}
use Rattle.rv32_asm_syntax.specs.Statements.{Statement, Instructions, Data, Bytes, Zeros, Aligned, Nothing}

-- a number of zeros that can be asked for
abbrev pub is_space : ℤ → Bool
is_space (pos n) = nat_le n 16777216
is_space (negsuc n) = false

-- a power of two from 1 to 4096
abbrev pub is_alignment : ℤ → Bool
is_alignment (pos n) = is_power_of_two n && nat_le n 4096
is_alignment (negsuc n) = false

-- a number out of its range, or instructions at an address that is no multiple of 4
unfoldable pub is_misplaced : ℕ → Statement → Bool
is_misplaced address (Instructions instructions) = not (address % 4 == 0)
is_misplaced address (Zeros number) = not (is_space number)
is_misplaced address (Aligned number) = not (is_alignment number)
is_misplaced address _ = false

-- how far it is to the next multiple of so many bytes
abbrev pub padding : ℕ → ℕ → ℕ
padding address alignment = (alignment - address % alignment) % alignment

-- how many bytes a statement takes at an address
unfoldable pub size_at : ℕ → Statement → ℕ
size_at address (Instructions instructions) = 4 * length instructions
size_at address (Data width values) = width_bytes width * length values
size_at address (Bytes bytes) = length bytes
size_at address (Zeros number) = unsigned_abs number
size_at address (Aligned number) = padding address (unsigned_abs number)
size_at address Nothing = 0
