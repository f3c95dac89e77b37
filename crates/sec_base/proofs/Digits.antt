-- What a hole with hexadecimal digits writes.
use Rattle.std.proofs.Common.{◌≡◌, ℕ, ◌-◌, [], Some, length, false, refl, arith}
use Rattle.std.proofs.lemmas.List.{append-nil}
use Rattle.std.specs.Fmt.{char_count, digits, digits_output, format_spec, padded_integral, styled_digits_output}
use Rattle.sec_base.specs.Hexadecimal.{hex_digits}

pub padded_is_hex_8 : (n : ℕ) → padded_integral (format_spec 32 0 4 8 18446744073709551615) false [] (digits 16 false n) ≡ hex_digits 8 n
unfolding padded_integral char_count hex_digits
padded_is_hex_8 n =
    let none : 8 - length (digits 16 false n) - 0 - 0 ≡ 8 - length (digits 16 false n) = omega arith in
    rw (none, append-nil) refl

pub padded_is_hex_2 : (n : ℕ) → padded_integral (format_spec 32 0 4 2 18446744073709551615) false [] (digits 16 false n) ≡ hex_digits 2 n
unfolding padded_integral char_count hex_digits
padded_is_hex_2 n =
    let none : 2 - length (digits 16 false n) - 0 - 0 ≡ 2 - length (digits 16 false n) = omega arith in
    rw (none, append-nil) refl

pub hex_8_hole : (number : _) (options : _) (n : ℕ) → digits_output number ≡ Some (digits 16 false n) → options ≡ format_spec 32 0 4 8 18446744073709551615 → styled_digits_output number options ≡ Some (hex_digits 8 n)
hex_8_hole number options n told laid = rw (told, laid, padded_is_hex_8) refl

pub hex_2_hole : (number : _) (options : _) (n : ℕ) → digits_output number ≡ Some (digits 16 false n) → options ≡ format_spec 32 0 4 2 18446744073709551615 → styled_digits_output number options ≡ Some (hex_digits 2 n)
hex_2_hole number options n told laid = rw (told, laid, padded_is_hex_2) refl
