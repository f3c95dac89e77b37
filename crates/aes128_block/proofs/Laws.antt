-- What holds of AES-128 under any key: each way undoes the other, so unequal blocks have unequal ciphers.
use Rattle.std.proofs.Common.{◌≡◌, ℕ, List, get_or, length, sym, ap, ◌∙◌, ◌<◌}
use Rattle.aes128_block.specs.Word.{IsBlock}
use Rattle.aes128_block.specs.KeyExpansion.{key_expansion, encrypted}
use Rattle.aes128_block.specs.InverseCipher.{decrypted}
use Rattle.aes128_block.proofs.Undoing.{inv_cipher-cipher, cipher-inv_cipher}

-- an array of sixteen bytes is a block
pub IsBlock-array : (s : List ℕ) → length s ≡ 16 → ((i : ℕ) → get_or s i 0 < 256) → IsBlock s
IsBlock-array s long fits = record { long = long; bytes = fits }

pub decrypted-encrypted : (key block : List ℕ) → IsBlock block → decrypted key (encrypted key block) ≡ block
unfolding encrypted decrypted
decrypted-encrypted key block is_block = inv_cipher-cipher (key_expansion key) block is_block

pub encrypted-decrypted : (key block : List ℕ) → IsBlock block → encrypted key (decrypted key block) ≡ block
unfolding encrypted decrypted
encrypted-decrypted key block is_block = cipher-inv_cipher (key_expansion key) block is_block

pub encrypted-injective : (key a b : List ℕ) → IsBlock a → IsBlock b → encrypted key a ≡ encrypted key b → a ≡ b
encrypted-injective key a b a_block b_block same =
    sym (decrypted-encrypted key a a_block) ∙ ap (decrypted key) same ∙ decrypted-encrypted key b b_block
