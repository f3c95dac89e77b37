-- HMAC (FIPS 198-1) on lists of bytes, over SHA-256 (FIPS 180-4), whose blocks have 64 bytes.
use Rattle.std.specs.Prelude.{ℕ, ◌-◌, List, ◌++◌, length, replicate, map, bit_xor, nat_lt, if◌then◌else◌}
use Rattle.sha2.specs.Sha256.{sha256}

-- a key of at most a block, with zeros up to a block (4, steps 1 and 3)
abbrev pub padded_key : List ℕ → List ℕ
padded_key key = key ++ replicate (64 - length key) 0

-- K0: a key that is longer than a block is hashed first (4, step 2)
unfoldable pub block_key : List ℕ → List ℕ
block_key key = padded_key (if nat_lt 64 (length key) then sha256 key else key)

-- K0 xor ipad, where ipad is 64 times the byte 36 (4, step 4)
unfoldable pub inner_block : List ℕ → List ℕ
inner_block k0 = map (λ byte. bit_xor byte 0x36) k0

-- K0 xor opad, where opad is 64 times the byte 5c (4, step 7)
unfoldable pub outer_block : List ℕ → List ℕ
outer_block k0 = map (λ byte. bit_xor byte 0x5c) k0

-- the HMAC of a text, from K0 (4, steps 4 to 9)
unfoldable pub hmac_under : List ℕ → List ℕ → List ℕ
hmac_under k0 text = sha256 (outer_block k0 ++ sha256 (inner_block k0 ++ text))

-- the HMAC of a text under a key of any length (4)
unfoldable pub hmac_of : List ℕ → List ℕ → List ℕ
hmac_of key text = hmac_under (block_key key) text
