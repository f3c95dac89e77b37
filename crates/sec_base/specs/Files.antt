-- What is seen of a set of files.
use Rattle.std.specs.Prelude.{◌≡◌, ◌<◌, ℕ, List, length, Option, Some, None}

-- the bytes of each name, where the files tell them, how often a read failed, how many bytes were taken,
-- and which names were asked for
pub record FilesState : Type 0 where
  pub held : Option (List ℕ → Option (List ℕ))
  pub faults : ℕ
  pub taken : ℕ
  pub asked : List (List ℕ)

-- where the files tell, the name has these bytes
abbrev pub HasBytes : Option (List ℕ → Option (List ℕ)) → List ℕ → List ℕ → Type 0
HasBytes None name bytes = Unit {0}
HasBytes (Some held) name bytes = held name ≡ Some bytes

-- there is a file, and it has more bytes than the limit
abbrev pub IsOver : Option (List ℕ) → ℕ → Type 0
IsOver None limit = ⊥
IsOver (Some bytes) limit = limit < length bytes

-- where the files tell, the name has more bytes than the limit
abbrev pub HasOver : Option (List ℕ → Option (List ℕ)) → List ℕ → ℕ → Type 0
HasOver None name limit = Unit {0}
HasOver (Some held) name limit = IsOver (held name) limit
