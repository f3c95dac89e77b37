-- Words and states as bytes. The word [a0, a1, a2, a3] is the number whose lowest byte is a0 (3.5).
use Rattle.std.specs.Prelude.{◌≡◌, ℕ, ◌+◌, ◌*◌, ◌/◌, ◌%◌, ◌^◌, ◌<◌, List, [], ◌∷◌, length, slice_index}

-- byte r of a word (3.5)
unfoldable pub byte : ℕ → ℕ → ℕ
byte r w = w / 2 ^ (8 * r) % 256

-- the word of four bytes (3.5)
unfoldable pub word_of : ℕ → ℕ → ℕ → ℕ → ℕ
word_of a0 a1 a2 a3 = a0 + a1 * 2 ^ 8 + a2 * 2 ^ 16 + a3 * 2 ^ 24

-- the byte in row r and column c of a state, which is a list of 16 bytes, column after column (3.4)
abbrev pub at : List ℕ → ℕ → ℕ → ℕ
at s r c = slice_index s (r + 4 * c)

-- the state whose byte in row r and column c is f r c (3.4)
abbrev pub state_of : (ℕ → ℕ → ℕ) → List ℕ
state_of f =
    f 0 0 ∷ f 1 0 ∷ f 2 0 ∷ f 3 0 ∷ f 0 1 ∷ f 1 1 ∷ f 2 1 ∷ f 3 1
    ∷ f 0 2 ∷ f 1 2 ∷ f 2 2 ∷ f 3 2 ∷ f 0 3 ∷ f 1 3 ∷ f 2 3 ∷ f 3 3 ∷ []

-- column c of a state as a word (3.5)
unfoldable pub column : List ℕ → ℕ → ℕ
column s c = word_of (at s 0 c) (at s 1 c) (at s 2 c) (at s 3 c)

-- the state whose columns are the first four words of a list (3.5)
unfoldable pub columns_state : List ℕ → List ℕ
columns_state words = state_of (λ r c. byte r (slice_index words c))

-- a block is 16 bytes (3.3)
pub record IsBlock (s : List ℕ) : Type 0 where
  pub long : length s ≡ 16
  pub bytes : (i : ℕ) → slice_index s i < 256
