-- The values of expressions, and of the immediates that stand for them.
use Rattle.std.specs.Prelude.{ℕ, ◌+◌, ◌%◌, ◌^◌, ℤ, pos, ◌+ℤ◌, List, Bool, false, not, Option, None, Some, option_map, unwrap_or, unsigned_abs}
use Rattle.std.specs.Int.{int_rem_euclid}
use Rattle.rv32_decode.specs.Words.{field, signed_number}
use Rattle.rv32_asm_syntax.specs.Expressions.{Expression}
use Rattle.rv32_asm.specs.Labels.{Label, site_of, is_there}
use Rattle.rv32_asm_syntax.specs.Statements.{Immediate, Whole, Upper, Lower}

-- the expression names a label that isn't there
abbrev pub names_missing : List Label → Option (List ℕ) → Bool
names_missing labels None = false
names_missing labels (Some name) = not (is_there labels name)

-- the expression names a label that isn't there
abbrev pub is_missing : List Label → Expression → Bool
is_missing labels value = names_missing labels value.label

-- where a label is, or 0 without one
abbrev pub address_of : List Label → Option (List ℕ) → ℕ
address_of labels None = 0
address_of labels (Some name) = unwrap_or (option_map (λ site. site.address) (site_of labels name)) 0

-- the value of an expression: its label's address, or 0 without one, and its number
unfoldable pub value_of : List Label → Expression → ℤ
value_of labels value = pos (address_of labels value.label) +ℤ value.number

-- a value modulo 2^count: its lowest bits
abbrev pub modulo : ℕ → ℤ → ℕ
modulo count value = unsigned_abs (int_rem_euclid value (pos (2 ^ count)))

-- The two parts that make a word, modulo 2^32: a multiple of 4096, here its upper twenty bits, and the lower twelve bits
-- as a number with a sign.
abbrev pub upper_part : ℕ → ℕ
upper_part word = field (word + 2048) 12 20

-- the lower twelve bits of a word as a number with a sign, from -2048 to 2047
abbrev pub lower_part : ℕ → ℤ
lower_part word = signed_number 12 (word % 2 ^ 12)

-- the expression of an immediate, whether the whole value or one of its two parts is meant
abbrev pub expression_in : Immediate → Expression
expression_in (Whole value) = value
expression_in (Upper value) = value
expression_in (Lower value) = value

-- the value that stands for an immediate
unfoldable pub immediate_value : List Label → Immediate → ℤ
immediate_value labels (Whole value) = value_of labels value
immediate_value labels (Upper value) = pos (upper_part (modulo 32 (value_of labels value)))
immediate_value labels (Lower value) = lower_part (modulo 32 (value_of labels value))
