-- The places outside the chip: which there are, which of them are the same, how much each holds, and how it is named.
use Rattle.std.specs.Prelude.{◌==◌, ℕ, ◌+◌, ◌<◌, List, ◌++◌, Bool, false, ◌&&◌, if◌then◌else◌, replicate, codes}
use Rattle.std.specs.Fmt.{decimal}
use Rattle.sec_base.specs.Geometry.{GeometryView, IsNode, line_count, slot_len}
use Rattle.sec_base.specs.declared.geometry.TheConstants.{LINE_LEN}
use Rattle.sec_base.specs.declared.sealed.TheConstants.{TAG_LEN}
use Rattle.sec_base.specs.declared.place.Place.{Place}
use Rattle.sec_base.specs.declared.place.Place.TheVariants.{Line, Node}

-- the place is one of the memory's
abbrev pub IsPlace : GeometryView → Place → Type 0
IsPlace geometry (Line line) = line < line_count geometry
IsPlace geometry (Node level index) = IsNode geometry level index

-- how it is named
abbrev pub place_text : Place → List ℕ
place_text (Line line) = codes "data " ++ decimal line
place_text (Node level index) = codes "node " ++ decimal level ++ codes " " ++ decimal index

-- two places are the same
abbrev pub place_eq : Place → Place → Bool
place_eq (Line line) (Line other) = line == other
place_eq (Node level index) (Node other at) = (level == other) && (index == at)
place_eq (Line line) (Node level index) = false
place_eq (Node level index) (Line line) = false

-- a place of a data line holds its bytes and their tag, and a place of a node as many bytes as a line has
abbrev pub place_size : Place → ℕ
place_size (Line line) = LINE_LEN + TAG_LEN
place_size (Node level index) = LINE_LEN

-- how many bytes of a place may be other than zeros: of a tag those that a slot keeps
abbrev pub stored_size : GeometryView → Place → ℕ
stored_size geometry (Line line) = LINE_LEN + slot_len geometry
stored_size geometry (Node level index) = LINE_LEN

-- what a place holds that was never written
abbrev pub zeros_of : Place → List ℕ
zeros_of place = replicate (place_size place) 0

-- the function with another value at one place
abbrev pub at_place : {A : Type 0} → Place → A → (Place → A) → Place → A
at_place place value f other = if place_eq other place then value else f other
