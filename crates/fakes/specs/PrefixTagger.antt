-- A tagger whose tags are the first bytes of messages.
use Rattle.std.specs.Prelude.{ℕ, List, [], ◌∷◌, slice_index}

-- the first 16 bytes of a message
abbrev pub prefix_of : List ℕ → List ℕ
prefix_of m =
    slice_index m 0 ∷ slice_index m 1 ∷ slice_index m 2 ∷ slice_index m 3 ∷ slice_index m 4 ∷ slice_index m 5
    ∷ slice_index m 6 ∷ slice_index m 7 ∷ slice_index m 8 ∷ slice_index m 9 ∷ slice_index m 10 ∷ slice_index m 11
    ∷ slice_index m 12 ∷ slice_index m 13 ∷ slice_index m 14 ∷ slice_index m 15 ∷ []
