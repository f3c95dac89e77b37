-- Where the last message of a line or of a node stands, by how many messages there are up to it.
use Rattle.std.specs.Prelude.{ℕ, ◌+◌, ◌-◌, Option, Some, None, if◌then◌else◌, nat_eq}

-- where the last of so many messages stands, and none where there are none
abbrev pub place_of : ℕ → Option ℕ
place_of count = if nat_eq count 0 then None else Some (count - 1)

-- how many messages there are up to it
abbrev pub count_of : Option ℕ → ℕ
count_of None = 0
count_of (Some at) = at + 1
