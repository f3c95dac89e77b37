-- The words of a script's line.
use Rattle.std.specs.Prelude.{ℕ, List, [], ◌∷◌, Bool, false, not, ◌&&◌, ◌==◌, if◌then◌else◌}
use Rattle.std.specs.List.{before_first, onto_first}
use Rattle.rv32_asm_syntax.specs.Characters.{colon, hash, is_blank}

-- the line up to its comment, which a hash begins
abbrev pub without_comment : List ℕ → List ℕ
without_comment line = before_first (λ byte. byte == hash) line

-- words have all bytes but blanks and colons
abbrev pub is_in_words : ℕ → Bool
is_in_words byte = not (is_blank byte) && not (byte == colon)

-- the text begins as a word goes on
abbrev pub begins_in_word : List ℕ → Bool
begins_in_word [] = false
begins_in_word (byte ∷ bytes) = is_in_words byte

-- the words of a text: blanks part them, and each colon is a word of its own
unfoldable pub words_of : List ℕ → List (List ℕ)
words_of [] = []
words_of (byte ∷ bytes) =
    if is_blank byte then words_of bytes
    else if is_in_words byte && begins_in_word bytes then onto_first byte (words_of bytes)
    else (byte ∷ []) ∷ words_of bytes
