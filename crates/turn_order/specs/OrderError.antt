-- Where bytes are no order of turns.
use Rattle.std.specs.Prelude.{ℕ, nat_lt, Option, List, position}

-- the place of the first byte that is neither 0 nor 1, counted from 0
abbrev pub wrong_place : List ℕ → Option ℕ
wrong_place bytes = position (λ byte. nat_lt 1 byte) bytes
