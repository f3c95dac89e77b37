-- What checks show as evidence.
use Rattle.std.proofs.Common.{◌≡◌, ◌≢◌, ◌⊎◌, inl, inr, ℕ, Bool, true, false, List, length, Option, Some, None, IfSome, Contains, refl, subst}
use Rattle.std.specs.Option.{option_or}
use Rattle.sec_base.specs.declared.counter.Counter.{Counter}
use Rattle.sec_base.specs.declared.sealed.Sealed.{Sealed}
use Rattle.sec_base.specs.declared.message.Message.{Message}
use Rattle.sec_base.specs.declared.message.Message.TheVariants.{Line}
use Rattle.sec_base.specs.declared.evidence.Evidence.{Evidence}
use Rattle.sec_base.specs.declared.evidence.Evidence.TheVariants.{Forgery}
use Rattle.sec_base.specs.declared.place.Place.{Place}
use Rattle.sec_base.specs.declared.stop.MemStop.{MemStop}
use Rattle.sec_base.specs.declared.stop.MemStop.TheVariants.{Tampered}
use Rattle.sec_base.specs.Message.{has_message}
use Rattle.sec_base.proofs.SameMessages.{has_message-Decides}
use Rattle.tag_engine.specs.TagEngine.{forgery_of}

shown_by : (made : List Message) (line : ℕ) (counter : Counter) (sealed : Sealed) (evidence : Evidence) (had : Bool) →
    has_message made (Line line counter sealed.cipher) ≡ had → forgery_of made line counter sealed true ≡ Some evidence →
    (evidence ≡ Forgery line counter sealed (length made)) × (Contains made (Line line counter sealed.cipher) → ⊥)
unfolding forgery_of
shown_by made line counter sealed evidence true had shown =
    let none : forgery_of made line counter sealed true ≡ None = rw had refl in absurd (cc)
shown_by made line counter sealed evidence false had shown =
    let some : forgery_of made line counter sealed true ≡ Some (Forgery line counter sealed (length made)) = rw had refl in (
      cc,
      λ listed. let has : has_message made (Line line counter sealed.cipher) ≡ true = (has_message-Decides made (Line line counter sealed.cipher)).1 listed in absurd (cc),
    )

-- what a check shows is a forgery of the line, under the counter
pub shown_is : (made : List Message) (line : ℕ) (counter : Counter) (sealed : Sealed) (evidence : Evidence) →
    forgery_of made line counter sealed true ≡ Some evidence →
    (evidence ≡ Forgery line counter sealed (length made)) × (Contains made (Line line counter sealed.cipher) → ⊥)
shown_is made line counter sealed evidence shown =
    shown_by made line counter sealed evidence (has_message made (Line line counter sealed.cipher)) refl shown

pub some_holds : {A : Type 0} (o : Option A) (x : A) (P : A → Type 0) → o ≡ Some x → IfSome o P → P x
some_holds None x P is holds = absurd (cc)
some_holds (Some y) x P is holds = let same : y ≡ x = cc in subst P same holds

pub first_stays : (before : Option Evidence) (shown : Option Evidence) (evidence : Evidence) → before ≡ Some evidence → option_or before shown ≡ Some evidence
first_stays None shown evidence is = absurd (cc)
first_stays (Some first) shown evidence is = is

-- where none is shown, none was added
pub or_none : (before : Option Evidence) (shown : Option Evidence) → option_or before shown ≡ None → shown ≡ None
or_none None shown none = none
or_none (Some first) shown none = absurd (cc)

-- by whether there is evidence
pub by_evidence : {P : Type 0} (o : Option Evidence) → (o ≡ None → P) → ((evidence : Evidence) → o ≡ Some evidence → P) → P
by_evidence None none some = none refl
by_evidence (Some evidence) none some = some evidence refl

-- no evidence and no such stop, or what follows from evidence
pub none_found : {P : Type 0} (o : Option Evidence) (stop : Option MemStop) → ((place : Place) → stop ≢ Some (Tampered place)) → (o ≢ None → P) →
    ((o ≡ None) × ((place : Place) → stop ≢ Some (Tampered place))) ⊎ P
none_found None stop untampered some = inl (refl, untampered)
none_found (Some evidence) stop untampered some = inr (some (λ none. absurd (cc)))
