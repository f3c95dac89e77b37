-- A tag from a block.
use Rattle.std.proofs.Common.{◌≡◌, ℕ, List, take}
use Rattle.hmac_tag.specs.Hmac.{block_key, hmac_of, hmac_under}
use Rattle.hmac_tag.specs.Tags.{tag_of}

-- the first 16 bytes of the HMAC under a key's block are the tag under the key
pub tag_of-block : (key block message mac first : List ℕ)
    → block_key key ≡ block → mac ≡ hmac_under block message → first ≡ take 16 mac → first ≡ tag_of key message
unfolding tag_of hmac_of
tag_of-block key block message mac first same mac_is first_is = rw (first_is, mac_is, same)
