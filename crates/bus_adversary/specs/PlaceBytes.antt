-- The bytes of one place, and how they change from an offset on.
use Rattle.std.specs.Prelude.{List, [], bit_xor, drop, length, take, ℕ, ◌++◌, ◌∷◌}

-- bytes, with others put in from the offset on
abbrev pub with_bytes : ℕ → List ℕ → List ℕ → List ℕ
with_bytes offset new bytes = take offset bytes ++ new ++ drop (length new) (drop offset bytes)

-- bytes, each xored with the byte of a mask that stands at its place
abbrev pub xored_bytes : List ℕ → List ℕ → List ℕ
xored_bytes (bits ∷ mask) (byte ∷ bytes) = bit_xor byte bits ∷ xored_bytes mask bytes
xored_bytes [] bytes = []
xored_bytes (bits ∷ mask) [] = []

-- bytes, xored with a mask from the offset on
abbrev pub with_mask : ℕ → List ℕ → List ℕ → List ℕ
with_mask offset mask bytes = with_bytes offset (xored_bytes mask (drop offset bytes)) bytes
