-- The key schedule of AES-128 (5.2), and with it the whole of AES-128 under a key of 16 bytes.
use Rattle.std.specs.Prelude.{ℕ, zero, suc, ◌+◌, ◌-◌, ◌/◌, ◌%◌, ◌==◌, if◌then◌else◌, List, [], ◌∷◌, ◌++◌, slice_index}
use Rattle.aes128_block.specs.Field.{◌⊕◌}
use Rattle.aes128_block.specs.SBox.{s_box}
use Rattle.aes128_block.specs.Word.{byte, word_of, column}
use Rattle.aes128_block.specs.Cipher.{cipher}

-- ROTWORD: [a1, a2, a3, a0] of [a0, a1, a2, a3] (5.2)
unfoldable pub rot_word : ℕ → ℕ
rot_word w = word_of (byte 1 w) (byte 2 w) (byte 3 w) (byte 0 w)

-- SUBWORD: each byte through the S-box (5.2)
unfoldable pub sub_word : ℕ → ℕ
sub_word w = word_of (s_box (byte 0 w)) (s_box (byte 1 w)) (s_box (byte 2 w)) (s_box (byte 3 w))

-- the first bytes of the round constants 1 to 10, whose other bytes are 0 (5.2)
abbrev pub round_constants : List ℕ
round_constants = 0x01 ∷ 0x02 ∷ 0x04 ∷ 0x08 ∷ 0x10 ∷ 0x20 ∷ 0x40 ∷ 0x80 ∷ 0x1b ∷ 0x36 ∷ []

-- what word n is the word four before it xor: the word before it, for each fourth n changed (5.2)
unfoldable pub temp : ℕ → ℕ → ℕ
temp n before =
    if n % 4 == 0
    then sub_word (rot_word before) ⊕ slice_index round_constants (n / 4 - 1)
    else before

-- word n of the schedule, from the words before it (5.2)
unfoldable pub next_word : List ℕ → ℕ → ℕ
next_word w n = slice_index w (n - 4) ⊕ temp n (slice_index w (n - 1))

-- the first 4 + n words of the schedule, which begins with the key (5.2)
unfoldable pub first_words : List ℕ → ℕ → List ℕ
first_words key zero = column key 0 ∷ column key 1 ∷ column key 2 ∷ column key 3 ∷ []
first_words key (suc n) = first_words key n ++ next_word (first_words key n) (n + 4) ∷ []

-- KEYEXPANSION: the 44 words of the schedule (5.2)
unfoldable pub key_expansion : List ℕ → List ℕ
key_expansion key = first_words key 40

-- the cipher of a block of 16 bytes under a key of 16 bytes (5)
unfoldable pub encrypted : List ℕ → List ℕ → List ℕ
encrypted key block = cipher (key_expansion key) block
