-- Counter mode (NIST SP 800-38A, 6.5) over AES-128 for lines of 64 bytes: to encipher a line and to decipher it is the
-- same, the xor with its pad, which is the cipher of four counter blocks.
use Rattle.std.specs.Prelude.{ℕ, List, [], ◌∷◌, ◌++◌, map, slice_index, bit_xor}
use Rattle.std.specs.List.{range_with_len}
use Rattle.std.specs.Int.{w32, w64, to_le_bytes}
use Rattle.sec_base.specs.declared.counter.Counter.{Counter}
use Rattle.aes128_block.specs.KeyExpansion.{encrypted}

-- a counter block: the line's number, its page's counter and its own, the number of the block, and two zeros
unfoldable pub pad_input : ℕ → Counter → ℕ → List ℕ
pad_input line counter block =
    to_le_bytes w32 line ++ to_le_bytes w64 counter.page ++ counter.line ∷ block ∷ 0 ∷ 0 ∷ []

-- a block of a pad is the cipher of its counter block
unfoldable pub pad_block : List ℕ → ℕ → Counter → ℕ → List ℕ
pad_block key line counter block = encrypted key (pad_input line counter block)

-- the pad of a line under a counter: its four blocks, one after another
unfoldable pub pad_of : List ℕ → ℕ → Counter → List ℕ
pad_of key line counter =
    pad_block key line counter 0 ++ pad_block key line counter 1 ++ pad_block key line counter 2
    ++ pad_block key line counter 3

-- each of 64 bytes xor that of the pad
unfoldable pub xor_of : List ℕ → List ℕ → List ℕ
xor_of pad bytes = map (λ place. bit_xor (slice_index pad place) (slice_index bytes place)) (range_with_len 0 64)

-- a line's bytes, enciphered under its number and its counter, and those of its cipher, deciphered
unfoldable pub cipher_of : List ℕ → ℕ → Counter → List ℕ → List ℕ
cipher_of key line counter bytes = xor_of (pad_of key line counter) bytes
