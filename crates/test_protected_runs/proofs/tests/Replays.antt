-- The calls of a bus that counts its accesses and its false answers beside an honest one.
use Rattle.std.proofs.Common.{◌==◌, ◌≡◌, ◌≢◌, ℕ, Bool, true, false, if◌then◌else◌, List, Option, Some, refl, ap, ◌∙◌, sym}
use Rattle.std.specs.Option.{option_map}
use Rattle.sec_base.specs.Count.{more_by}
use Rattle.sec_base.specs.declared.place.Place.{Place}
use Rattle.bus_model.specs.BusHistory.{BusHistory, Lie, after_answer, after_read, after_write, first_lie}
use Rattle.bus_model.proofs.Steps.{answered, lied}

-- with these counts, and this first false answer, in place of its own
abbrev pub with_own : ℕ → ℕ → Option Lie → BusHistory → BusHistory
with_own accesses lies lie history = record history { accesses = accesses; lies = lies; lie = lie }

pub own_same : (old new : BusHistory) (accesses lies : ℕ) (lie : Option Lie) → new ≡ old → with_own accesses lies lie new ≡ with_own accesses lies lie old
own_same old new accesses lies lie same = ap (with_own accesses lies lie) same

module _ (old new : BusHistory) (accesses accesses' lies : ℕ) (lie : Option Lie) (place : Place) (counted : accesses' ≡ more_by 1 accesses) where
  pub own_wrote : (bytes : List ℕ) → new ≡ after_write place bytes old →
      with_own accesses' lies lie new ≡ after_write place bytes (with_own accesses lies lie old)
  unfolding after_write
  own_wrote bytes wrote =
      ap (with_own accesses' lies lie) wrote ∙ ap (λ (n : ℕ). with_own n lies lie (after_write place bytes old)) counted

  -- the answer of the honest bus
  own_read : (stored : List ℕ) → new ≡ after_read place stored old → stored ≡ old.written place →
      with_own accesses' lies lie new ≡ after_answer place (with_own accesses lies lie old)
  own_read stored read true_bytes =
      ap (with_own accesses' lies lie) (read ∙ answered place stored old true_bytes)
      ∙ ap (λ (n : ℕ). with_own n lies lie (after_answer place old)) counted

  pub own_answered : (stored : List ℕ) → new ≡ after_read place stored old → stored ≡ old.written place →
      with_own accesses' lies lie new ≡ after_read place stored (with_own accesses lies lie old)
  own_answered stored read true_bytes =
      own_read stored read true_bytes ∙ sym (answered place stored (with_own accesses lies lie old) true_bytes)

  -- and another one in its place
  pub own_lied : (stored answer : List ℕ) (lies' : ℕ) (lie' : Option Lie) → new ≡ after_read place stored old → stored ≡ old.written place → answer ≢ stored →
      lies' ≡ more_by 1 lies → lie' ≡ first_lie lies lie (record { access = accesses'; place = place; bytes = answer }) →
      with_own accesses' lies' lie' new ≡ after_read place answer (with_own accesses lies lie old)
  own_lied stored answer lies' lie' read true_bytes differs count first =
      ap (λ (n : ℕ). with_own accesses' n lie' new) count
      ∙ ap (λ (l : Option Lie). with_own accesses' (more_by 1 lies) l new)
      (first ∙ ap (λ (n : ℕ). first_lie lies lie (record { access = n; place = place; bytes = answer })) counted)
      ∙ ap (λ (h : BusHistory). record h {
        lies = more_by 1 lies;
        lie = first_lie lies lie (record { access = more_by 1 accesses; place = place; bytes = answer });
      }) (own_read stored read true_bytes)
      ∙ sym (lied place answer (with_own accesses lies lie old) (λ (same : answer ≡ old.written place). differs (same ∙ sym true_bytes)))

-- the first false answer, in the words of a history

told_or_before : {A : Type 0} (seen : A → Lie) (told : A) (before : Option A) (b : Bool) →
    option_map seen (if b then Some told else before) ≡ (if b then Some (seen told) else option_map seen before)
told_or_before seen told before true = refl
told_or_before seen told before false = refl

pub first_told : {A : Type 0} (seen : A → Lie) (told : A) (before after : Option A) (lies : ℕ) (lie : Lie) →
    after ≡ (if lies == 0 then Some told else before) → seen told ≡ lie → option_map seen after ≡ first_lie lies (option_map seen before) lie
first_told seen told before after lies lie is same =
    ap (option_map seen) is ∙ told_or_before seen told before (lies == 0)
    ∙ ap (λ (l : Lie). first_lie lies (option_map seen before) l) same
