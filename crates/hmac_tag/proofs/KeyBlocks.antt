-- A key as one block.
use Rattle.std.proofs.Common.{◌≡◌, ℕ, ◌≤◌, List, ◌++◌, length, take, drop, replicate, sym, ◌∙◌, ap, arith}
use Rattle.std.proofs.lemmas.List.{drop-replicate, take_at}
use Rattle.std.proofs.lemmas.Grind.{common_steps}
use Rattle.hmac_tag.specs.Hmac.{padded_key, block_key}

-- a key that is written over the first of 64 zeros
pub write-padded_key : (key written : List ℕ) → written ≡ key → written ++ drop (length key) (replicate 64 0) ≡ padded_key key
write-padded_key key written same = rw (same, drop-replicate)

-- a key of at most a block is not hashed
block_key-short : (key : List ℕ) → length key ≤ 64 → block_key key ≡ padded_key key
unfolding block_key
block_key-short key short = grind (arith, common_steps)

-- the block of a key of 32 bytes begins with the key
pub take-block_key : (key block : List ℕ) → length key ≡ 32 → block ≡ block_key key → take 32 block ≡ key
take-block_key key block long same =
    let short : length key ≤ 64 = omega arith in
    rw (same, block_key-short key short, take_at key _ 32 long)

-- so that the first 32 bytes have the same block
pub block_key-take : (key block : List ℕ) → length key ≡ 32 → block ≡ block_key key → block_key (take 32 block) ≡ block
block_key-take key block long same = ap block_key (take-block_key key block long same) ∙ sym same
