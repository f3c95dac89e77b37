-- The names of registers: those of the calling convention, `fp` for s0, and `x0` to `x31`.
use Rattle.std.specs.Prelude.{ℕ, List, [], ◌∷◌, ◌++◌, ◌==◌, Option, find, codes, decimal, if◌then◌else◌}
use Rattle.std.specs.List.{list_any, range_with_len}
use Rattle.std.specs.Str.{bytes_eq}
use Rattle.rv32_text.specs.Registers.{register_name}

-- All names of a register: the ABI's, `x` and its number, and `fp` for x8.
abbrev pub names_of : ℕ → List (List ℕ)
names_of number =
    register_name number
    ∷ (codes "x" ++ decimal number)
    ∷ (if number == 8 then codes "fp" ∷ [] else [])

-- the register of this name
unfoldable pub register_of : List ℕ → Option ℕ
register_of name = find (λ number. list_any (bytes_eq name) (names_of number)) (range_with_len 0 32)
