-- Strings are read from the front on.
use Rattle.std.proofs.Common.{◌≡◌, ◌≢◌, ℕ, ◌<◌, ◌++◌, Bool, true, false, not, List, [], ◌∷◌, length, get_or, drop, refl, sym, eqb, append_assoc}
use Rattle.std.specs.Prelude.{Option, Some, None, option_map, option_and_then}
use Rattle.std.specs.Str.{bytes_eq}
use Rattle.rv32_asm_syntax.specs.Reading.{string_after, string_of, escape_of}

mapped : (byte : ℕ) (o : Option (List ℕ)) → option_and_then (λ rest. Some (byte ∷ rest)) o ≡ option_map (λ rest. byte ∷ rest) o
mapped byte None = refl
mapped byte (Some rest) = refl

with_escape : (e : ℕ) (bytes : List ℕ) (meant : Option ℕ) → escape_of e ≡ meant → string_after (92 ∷ e ∷ bytes) ≡ option_and_then (λ byte. option_map (λ rest. byte ∷ rest) (string_after bytes)) meant
with_escape e bytes None h = rw h refl
with_escape e bytes (Some byte) h = rw h (mapped byte (string_after bytes))

pub escaped : (text : List ℕ) (d meant : ℕ) → 0 < length text → escape_of (get_or text 0 d) ≡ Some meant → string_after (92 ∷ text) ≡ option_map (λ bytes. meant ∷ bytes) (string_after (drop 1 text))
escaped [] d meant some e = elim some [ ]
escaped (x ∷ xs) d meant some e = with_escape x xs (Some meant) e

pub unknown : (text : List ℕ) (d : ℕ) → 0 < length text → escape_of (get_or text 0 d) ≡ None → string_after (92 ∷ text) ≡ None
unknown [] d some e = elim some [ ]
unknown (x ∷ xs) d some e = with_escape x xs None e

pub plain : (text : List ℕ) (d : ℕ) → 0 < length text → eqb (get_or text 0 d) 34 ≡ false → eqb (get_or text 0 d) 92 ≡ false → string_after text ≡ option_map (λ bytes. get_or text 0 d ∷ bytes) (string_after (drop 1 text))
plain [] d some e f = elim some [ ]
plain (x ∷ []) d some e f = rw e refl
plain (x ∷ y ∷ ys) d some e f = rw (e, f) refl

pub quoted : (text : List ℕ) (d : ℕ) → 0 < length text → get_or text 0 d ≡ 34 → text ≢ 34 ∷ [] → string_after text ≡ None
quoted [] d some e other = elim some [ ]
quoted (x ∷ []) d some e other = absurd (other (rw e refl))
quoted (x ∷ y ∷ ys) d some e other = rw e refl

unchanged : (o : Option (List ℕ)) → option_map (λ more. [] ++ more) o ≡ o
unchanged None = refl
unchanged (Some x) = refl

pub begins : (text items : List ℕ) (d : ℕ) → 0 < length text → get_or text 0 d ≡ 34 → items ≡ [] → option_map (λ more. items ++ more) (string_after (drop 1 text)) ≡ string_of text
unfolding string_of
begins [] items d some e none = elim some [ ]
begins (x ∷ xs) items d some e none = rw (none, unchanged (string_after xs), e) refl

one_more : (bytes : List ℕ) (byte : ℕ) (rest : Option (List ℕ)) → option_map (λ more. (bytes ++ byte ∷ []) ++ more) rest ≡ option_map (λ more. bytes ++ more) (option_map (λ more. byte ∷ more) rest)
one_more bytes byte None = refl
one_more bytes byte (Some more) = rw (append_assoc bytes (byte ∷ []) more) refl

pub goes_on : (before after left rest text : List ℕ) (byte : ℕ) → after ≡ before ++ byte ∷ [] → string_after left ≡ option_map (λ more. byte ∷ more) (string_after rest) → option_map (λ more. before ++ more) (string_after left) ≡ string_of text → option_map (λ more. after ++ more) (string_after rest) ≡ string_of text
goes_on before after left rest text byte e f same = rw (e, one_more before byte (string_after rest), sym f) same

pub other_than : (left : List ℕ) (unequal : Bool) → unequal ≡ true → unequal ≡ not (bytes_eq left (34 ∷ [])) → left ≢ 34 ∷ []
other_than left unequal e f = λ same. let g = rw same at f in cc

pub no_string : (text : List ℕ) (d : ℕ) → 0 < length text → eqb (get_or text 0 d) 34 ≡ false → string_of text ≡ None
unfolding string_of
no_string [] d some e = elim some [ ]
no_string (x ∷ xs) d some e = rw e refl
