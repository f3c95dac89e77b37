-- Which lines a program is stored in, one for each store, in order.
use Rattle.std.specs.Prelude.{◌≡◌, ◌⊎◌, ℕ, ◌+◌, ◌-◌, ◌%◌, ◌<◌, ◌≤◌, ◌==◌, ◌||◌, ◌&&◌, not, nat_le, Bool, List, map}
use Rattle.std.specs.List.{filter, flat_map, range_with_len}
use Rattle.sec_base.specs.Geometry.{line_of}
use Rattle.sec_base.specs.declared.segment.Segment.{Segment}

-- A store begins at each address of a segment but those behind the first of a word that lies in it whole.
abbrev pub begins_store : Segment → ℕ → Bool
begins_store segment address =
    let word = address - address % 4 in
    (address % 4 == 0) || not (nat_le segment.addr word && nat_le (word + 4) (segment.addr + segment.length))

-- the lines of the stores at a segment's first addresses
unfoldable pub front_lines : Segment → ℕ → List ℕ
front_lines segment count =
    map line_of (filter (begins_store segment) (map (λ k. segment.addr + k) (range_with_len 0 count)))

-- The lines that storing a whole segment touches.
abbrev pub segment_lines : Segment → List ℕ
segment_lines segment = front_lines segment segment.length

-- The lines that storing a whole program touches.
unfoldable pub image_lines : List Segment → List ℕ
image_lines segments = flat_map segment_lines segments

-- The store at a place of a segment has so many bytes: a word where one begins there and ends inside, else a byte. The
-- contract of a private function alone cites it.
abbrev pub IsStoreOf : Segment → ℕ → ℕ → Type 0
IsStoreOf segment at count =
    ((count ≡ 4) × ((segment.addr + at) % 4 ≡ 0) × (at + 4 ≤ segment.length))
    ⊎ ((count ≡ 1) × ((segment.addr + at) % 4 ≡ 0 → segment.length < at + 4))
