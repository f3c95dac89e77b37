-- What the instructions compute from words: the RISC-V unprivileged manual, RV32I 2.1 (section 2.4) and M 2.0.
use Rattle.std.specs.Prelude.{ℕ, ℤ, pos, ◌+◌, ◌-◌, ◌*◌, ◌/◌, ◌%◌, ◌^◌, ◌==◌, ◌*ℤ◌, int_lt, int_div, int_rem, Bool, if◌then◌else◌}
use Rattle.std.specs.Int.{int_shr}
use Rattle.sec_base.specs.declared.width.Width.{Width}
use Rattle.sec_base.specs.Width.{width_bytes}
use Rattle.rv32_decode.specs.Words.{signed_number, word_of_signed}

-- a number of this width as a word: zeros come in above it, or copies of its top bit
abbrev pub zero_extension : Width → ℕ → ℕ
zero_extension width n = n

-- The lowest bytes of a number, extended by their sign to 32 bits.
abbrev pub sign_extension : Width → ℕ → ℕ
sign_extension width n = word_of_signed (signed_number (8 * width_bytes width) n)

-- SUB: the difference modulo 2^32.
abbrev pub difference_of : ℕ → ℕ → ℕ
difference_of a b = (a + (2 ^ 32 - b)) % 2 ^ 32

-- 1 where a comparison holds, else 0
abbrev pub truth : Bool → ℕ
truth test = if test then 1 else 0

-- SLT: the comparison of two words as signed numbers.
abbrev pub is_less_signed : ℕ → ℕ → Bool
is_less_signed a b = int_lt (signed_number 32 a) (signed_number 32 b)

-- Shifts: only the low five bits of the amount count.
abbrev pub shift_left : ℕ → ℕ → ℕ
shift_left a amount = a * 2 ^ (amount % 32) % 2 ^ 32

-- SRL: a logical shift to the right by the lowest five bits of the amount.
abbrev pub shift_right : ℕ → ℕ → ℕ
shift_right a amount = a / 2 ^ (amount % 32)

-- copies of the top bit come in
abbrev pub shift_right_signed : ℕ → ℕ → ℕ
shift_right_signed a amount = word_of_signed (int_shr (signed_number 32 a) (amount % 32))

-- the high 32 bits of a product
abbrev pub high_word : ℤ → ℕ
high_word product = word_of_signed (int_shr product 32)

-- MUL: the low word of the product.
abbrev pub product_of : ℕ → ℕ → ℕ
product_of a b = a * b % 2 ^ 32

-- MULH: the high word of the product of two signed words.
abbrev pub high_product : ℕ → ℕ → ℕ
high_product a b = high_word (signed_number 32 a *ℤ signed_number 32 b)

-- MULHSU: the high word of the product of a signed and an unsigned word.
abbrev pub high_product_mixed : ℕ → ℕ → ℕ
high_product_mixed a b = high_word (signed_number 32 a *ℤ pos b)

-- MULHU: the high word of the product of two unsigned words.
abbrev pub high_product_unsigned : ℕ → ℕ → ℕ
high_product_unsigned a b = a * b / 2 ^ 32

-- Quotients are rounded towards zero; by zero they have all bits set. A remainder has the sign of the dividend; by
-- zero it is the dividend.
abbrev pub quotient : ℕ → ℕ → ℕ
quotient a b = if b == 0 then 2 ^ 32 - 1 else word_of_signed (int_div (signed_number 32 a) (signed_number 32 b))

-- DIVU: the quotient; of a division by zero all bits are set.
abbrev pub quotient_unsigned : ℕ → ℕ → ℕ
quotient_unsigned a b = if b == 0 then 2 ^ 32 - 1 else a / b

-- REM: the remainder has the dividend's sign; of a division by zero it is the dividend.
abbrev pub remainder : ℕ → ℕ → ℕ
remainder a b = if b == 0 then a else word_of_signed (int_rem (signed_number 32 a) (signed_number 32 b))

-- REMU: the remainder; of a division by zero it is the dividend.
abbrev pub remainder_unsigned : ℕ → ℕ → ℕ
remainder_unsigned a b = if b == 0 then a else a % b
