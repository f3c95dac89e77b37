-- Lists, of calls of any crate.
use Rattle.std.proofs.Common.{◌≡◌, ℕ, zero, suc, List, [], ◌∷◌, ◌++◌, length, Some, Contains, refl, arith}
use Rattle.std.specs.List.{slice_get}

-- an item stays where it is
pub get_front : {A : Type 0} (items more : List A) (at : ℕ) (item : A) → slice_get items at ≡ Some item → slice_get (items ++ more) at ≡ Some item
get_front [] more at item e = absurd (cc)
get_front (x ∷ items) more zero item e = e
get_front (x ∷ items) more (suc at) item e = get_front items more at item e

-- an item that was put behind a list stands at its end
pub get_last : {A : Type 0} (items : List A) (item : A) → slice_get (items ++ item ∷ []) (length items) ≡ Some item
get_last [] item = refl
get_last (x ∷ items) item = get_last items item

-- an item at a place is in the list
pub get_listed : {A : Type 0} (items : List A) (at : ℕ) (item : A) → slice_get items at ≡ Some item → Contains items item
get_listed [] at item there = absurd (cc)
get_listed (x ∷ items) zero item there = (zero, omega arith, cc)
get_listed (x ∷ items) (suc at) item there =
    let rest = get_listed items at item there in
    (suc rest.0, omega (arith, rest.1), rest.2)

-- an empty list has no item
pub none_contained : {A : Type 0} (x : A) → Contains [] x → ⊥
none_contained x (k, below, at) = omega arith
