-- Expressions: a number, a label, or a label plus or minus a number.
use Rattle.std.specs.Prelude.{ℕ, ℤ, pos, neg_ℤ, List, [], ◌∷◌, ◌==◌, Option, Some, None, option_map, drop, take_while, if◌then◌else◌}
use Rattle.std.specs.List.{prefix_len}
use Rattle.rv32_asm_syntax.specs.Characters.{plus, minus, begins_as_name, is_in_names, skip_blanks}
use Rattle.rv32_asm_syntax.specs.Numbers.{number_of}

-- a label's address, or 0 without one, and a number that is added
pub record Expression : Type 0 where
  pub label : Option (List ℕ)
  pub number : ℤ

-- A value that is a number, without a label.
abbrev pub number_alone : ℤ → Expression
number_alone number = record { label = None; number = number }

-- A value that is a label's address plus a number.
abbrev pub from_label : List ℕ → ℤ → Expression
from_label name number = record { label = Some name; number = number }

-- a label and what stands behind it, without the blanks between
abbrev pub with_sum : List ℕ → List ℕ → Option Expression
with_sum name [] = Some (from_label name (pos 0))
with_sum name (sign ∷ rest) =
    if sign == plus then option_map (from_label name) (number_of (skip_blanks rest))
    else if sign == minus then option_map (λ n. from_label name (neg_ℤ n)) (number_of (skip_blanks rest))
    else None

-- the expression that a text without blanks at its ends is
unfoldable pub expression_of : List ℕ → Option Expression
expression_of text =
    if begins_as_name text
    then with_sum (take_while is_in_names text) (skip_blanks (drop (prefix_len is_in_names text) text))
    else option_map number_alone (number_of text)
