-- What parts of the reading find, for contracts inside the crate alone.
use Rattle.std.specs.Prelude.{ℕ, ◌+◌, ◌*◌, ◌^◌, List, max, min, ◌&&◌, Option, Some, None, Result, Ok, Err, if◌then◌else◌}
use Rattle.std.specs.Borrow.{Bor}
use Rattle.std.specs.Char.{is_digit, digit_value}
use Rattle.std.specs.List.{prefix_len}
use Rattle.adversary_script.specs.declared.fault.ScriptFault.{ScriptFault}
use Rattle.adversary_script.specs.Reading.{Reading, number, ◌>>=◌, done}
use Rattle.adversary_script.specs.Words.{is_in_words}

-- an answer, with the words that are left behind it
abbrev pub with_left : {X : Type 0} → Result X ScriptFault → List (List ℕ) → Result (X × List (List ℕ)) ScriptFault
with_left (Ok x) words = Ok (x, words)
with_left (Err fault) words = Err fault

-- an answer's text
abbrev pub text_of : Result (Bor (List ℕ)) ScriptFault → Result (List ℕ) ScriptFault
text_of (Ok text) = Ok text.now
text_of (Err fault) = Err fault

-- how many bytes the word has that a text begins with, where a colon has one
abbrev pub front_len : List ℕ → ℕ
front_len text = max (prefix_len is_in_words text) 1

-- the number, or 2^64 for all above
abbrev pub capped : ℕ → ℕ
capped n = min n (2 ^ 64)

-- the next number, likewise
abbrev pub capped_number : Reading ℕ
capped_number = do
  n ← number
  done (capped n)

-- the number that one more digit makes
abbrev pub with_digit : ℕ → ℕ → Option ℕ
with_digit number digit = if is_digit digit 10 then Some (capped (10 * number + digit_value digit)) else None

-- the byte that two digits write
abbrev pub byte_of : ℕ → ℕ → Option ℕ
byte_of high low = if is_digit high 16 && is_digit low 16 then Some (16 * digit_value high + digit_value low) else None
