-- The values of all places, where some are kept.
use Rattle.bus_adversary.specs.StoredPlaces.{all_kept}
use Rattle.bus_model.specs.HonestBus.{Keeps, kept_at}
use Rattle.std.proofs.Common.{List, [], arith, inl, inr, length, refl, replicate, slice_index_or, slice_set, sym, ℕ, ◌<◌, ◌∙◌, ◌≡◌}
use Rattle.std.proofs.lemmas.Bool.Decides.{eqb_tells}
use Rattle.std.proofs.lemmas.Grind.{get_or-set_at}
use Rattle.std.proofs.lemmas.List.FromFn.{fill_by_all, get_or-map-range_with_len, length-map-range_with_len}
use Rattle.std.proofs.lemmas.List.{get_or-replicate, get_or-set_other, length-replicate, length-set}

-- how many there are
pub all_kept-length : {A : Type 0} (count : ℕ) (empty : A) (entries : List (ℕ × A)) → length (all_kept count empty entries) ≡ count
all_kept-length count empty entries = length-map-range_with_len (kept_at empty entries) 0 count

-- the value under a number
pub kept_there : {A : Type 0} (count at : ℕ) (empty : A) (entries : List (ℕ × A)) → at < count →
    slice_index_or (all_kept count empty entries) at empty ≡ kept_at empty entries at
kept_there count at empty entries inside = get_or-map-range_with_len (kept_at empty entries) 0 count at at empty inside (omega arith)

-- nothing is kept
pub none_kept : {A : Type 0} (count : ℕ) (empty : A) (entries : List (ℕ × A)) → entries ≡ [] → all_kept count empty entries ≡ replicate count empty
none_kept count empty entries none =
    rw none (sym (fill_by_all (kept_at empty []) (replicate count empty) count empty (length-replicate count empty) (λ at inside. get_or-replicate count at empty empty inside)))

-- one value is kept, or is no longer kept
pub kept_set : {A : Type 0} (count at : ℕ) (empty value : A) (old new : List (ℕ × A)) → at < count → Keeps empty at value old new →
    all_kept count empty new ≡ slice_set (all_kept count empty old) at value
kept_set count at empty value old new inside keeps =
    sym (fill_by_all (kept_at empty new) (slice_set (all_kept count empty old) at value) count empty
    (length-set (all_kept count empty old) at value ∙ all_kept-length count empty old) each)
  where
    each : (other : ℕ) → other < count → slice_index_or (slice_set (all_kept count empty old) at value) other empty ≡ kept_at empty new other
    each other below =
        elim (eqb_tells other at) [
          | inl same ↦ rw (keeps other, same.0)
              (get_or-set_at (all_kept count empty old) at other value empty same.1 (omega (arith, inside, all_kept-length count empty old)))
          | inr apart ↦ rw (keeps other, apart.0)
              (get_or-set_other (all_kept count empty old) at other value empty apart.1 ∙ kept_there count other empty old below)
        ]

-- the value that is kept
pub kept_here : {A : Type 0} (at : ℕ) (empty value : A) (old new : List (ℕ × A)) → Keeps empty at value old new → kept_at empty new at ≡ value
kept_here at empty value old new keeps =
    elim (eqb_tells at at) [
      | inl same ↦ rw (keeps at, same.0) refl
      | inr apart ↦ absurd (apart.1 refl)
    ]

-- pairs with the same parts
pub same_pair : {A B : Type 0} (x y : A × B) → y.0 ≡ x.0 → y.1 ≡ x.1 → y ≡ x
same_pair x y first second = λ i. (first i, second i)
