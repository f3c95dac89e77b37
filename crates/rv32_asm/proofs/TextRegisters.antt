-- The names of registers are read back, alone and in parentheses.
use Rattle.std.proofs.Common.{◌≡◌, ℕ, ◌<◌, ◌==◌, ◌++◌, Bool, true, false, Option, Some, None, refl, ap}
use Rattle.std.proofs.lemmas.Bool.{agree_below_at, eqb-true}
use Rattle.std.specs.Prelude.{codes}
use Rattle.rv32_text.specs.Registers.{register_name, register_names}
use Rattle.rv32_asm_syntax.specs.Registers.{register_of}
use Rattle.rv32_asm_syntax.specs.Reading.{enclosed_register}
use Rattle.rv32_asm_syntax.specs.Characters.{trim_blanks}
use Rattle.rv32_asm.proofs.TextOperands.{is_operand}

-- the number that was found
abbrev is_found : Option ℕ → ℕ → Bool
is_found None number = false
is_found (Some found) number = found == number

found_number : (o : Option ℕ) (number : ℕ) → is_found o number ≡ true → o ≡ Some number
found_number None number e = cc
found_number (Some found) number e = ap Some (eqb-true found number e)

pub register_read : (number : ℕ) → number < 32 → register_of (register_name number) ≡ Some number
unfolding register_of register_name register_names
register_read number below =
    found_number (register_of (register_name number)) number
    (agree_below_at (λ n. is_found (register_of (register_name n)) n) (λ n. true) 32 number refl below)

pub base_read : (number : ℕ) → number < 32 → enclosed_register (register_name number ++ codes ")") ≡ Some number
unfolding register_of register_name register_names trim_blanks
base_read number below =
    found_number (enclosed_register (register_name number ++ codes ")")) number
    (agree_below_at (λ n. is_found (enclosed_register (register_name n ++ codes ")")) n) (λ n. true) 32 number refl below)

pub register_operand : (number : ℕ) → number < 32 → is_operand (register_name number) ≡ true
unfolding register_name register_names
register_operand number below =
    agree_below_at (λ n. is_operand (register_name n)) (λ n. true) 32 number refl below

pub base_operand : (number : ℕ) → number < 32 → is_operand (codes "(" ++ (register_name number ++ codes ")")) ≡ true
unfolding register_name register_names
base_operand number below =
    agree_below_at (λ n. is_operand (codes "(" ++ (register_name n ++ codes ")"))) (λ n. true) 32 number refl below
