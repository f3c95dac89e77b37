-- The calls of a fake that are to fail.
use Rattle.std.specs.Prelude.{◌==◌, ℕ, List, Bool}
use Rattle.std.specs.List.{list_any}
use Rattle.sec_base.specs.Count.{more_by}

-- the number is one of those
unfoldable pub is_one_of : List ℕ → ℕ → Bool
is_one_of numbers number = list_any (λ other. other == number) numbers

-- after so many calls, the next is one of those that are to fail
abbrev pub next_fails : List ℕ → ℕ → Bool
next_fails fails calls = is_one_of fails (more_by 1 calls)
