-- Tags of 16 bytes.
use Rattle.std.specs.Prelude.{ℕ, zero, suc, ◌+◌, ◌/◌, List, [], ◌∷◌, ◌++◌, length, take, drop, replicate, map, fold, slice_index, bit_xor}
use Rattle.std.specs.List.{range_with_len}
use Rattle.hmac_tag.specs.Hmac.{hmac_of}

-- the two keys that messages are tagged under
pub record TagKeys : Type 0 where
  pub line_key : List ℕ
  pub tree_key : List ℕ

-- the tag of a message: its HMAC, cut to the leftmost 16 bytes (RFC 2104, 5)
unfoldable pub tag_of : List ℕ → List ℕ → List ℕ
tag_of key message = take 16 (hmac_of key message)

-- the first 16 bytes of a list, with zeros up to 16
abbrev pub padded_piece : List ℕ → List ℕ
padded_piece bytes = take 16 (bytes ++ replicate 16 0)

-- the first pieces of 16 bytes of a list, so many, the last with zeros up to 16
unfoldable pub first_pieces : ℕ → List ℕ → List (List ℕ)
first_pieces zero bytes = []
first_pieces (suc count) bytes = padded_piece bytes ∷ first_pieces count (drop 16 bytes)

-- the pieces of 16 bytes of a message, the last with zeros up to 16
abbrev pub pieces_of : List ℕ → List (List ℕ)
pieces_of message = first_pieces ((length message + 15) / 16) message

-- two pieces, xored byte by byte
unfoldable pub xor_of_pieces : List ℕ → List ℕ → List ℕ
xor_of_pieces first second =
    map (λ place. bit_xor (slice_index first place) (slice_index second place)) (range_with_len 0 16)

-- the teaching tag of a message, which protects nothing: the first 16 bytes of the key and the message's pieces of 16
-- bytes, with zeros up to a whole piece, xored together
unfoldable pub xor_tag_of : List ℕ → List ℕ → List ℕ
xor_tag_of key message = fold xor_of_pieces (padded_piece key) (pieces_of message)
