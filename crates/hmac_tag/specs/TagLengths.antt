-- A tag has 16 bytes, as the laws of a tagger say.
use Rattle.std.specs.Prelude.{◌≡◌, ℕ, List, [], ◌∷◌, length, replicate, fold, refl}
use Rattle.std.proofs.Common.{min, ap, ◌∙◌, arith}
use Rattle.std.proofs.lemmas.List.{length-append, length-take}
use Rattle.sha2.proofs.Facts256.{length-sha256}
use Rattle.hmac_tag.specs.Hmac.{hmac_of, hmac_under}
use Rattle.hmac_tag.specs.Tags.{tag_of, padded_piece, pieces_of, xor_of_pieces, xor_tag_of}

-- A tag of HMAC-SHA-256 has 16 bytes.
pub length-tag_of : (key message : List ℕ) → length (tag_of key message) ≡ 16
unfolding tag_of hmac_of hmac_under
length-tag_of key message = length-take 16 _ ∙ ap (min 16) (length-sha256 _)

length-padded_piece : (bytes : List ℕ) → length (padded_piece bytes) ≡ 16
length-padded_piece bytes = length-take 16 _ ∙ ap (min 16) (length-append bytes (replicate 16 0)) ∙ omega arith

length-fold_xor : (tag : List ℕ) (pieces : List (List ℕ)) →
    length tag ≡ 16 → length (fold xor_of_pieces tag pieces) ≡ 16
unfolding xor_of_pieces
length-fold_xor tag [] long = long
length-fold_xor tag (piece ∷ pieces) long = length-fold_xor (xor_of_pieces tag piece) pieces refl

-- A weak tag has 16 bytes too.
pub length-xor_tag_of : (key message : List ℕ) → length (xor_tag_of key message) ≡ 16
unfolding xor_tag_of
length-xor_tag_of key message = length-fold_xor (padded_piece key) (pieces_of message) (length-padded_piece key)
