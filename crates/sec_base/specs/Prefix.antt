-- Words on lists.
use Rattle.std.specs.Prelude.{◌≡◌, List, ◌++◌}

-- the list goes on from the front part
abbrev pub IsPrefix : {A : Type 0} → List A → List A → Type 0
IsPrefix {A} front whole = (rest : List A) × (whole ≡ front ++ rest)
