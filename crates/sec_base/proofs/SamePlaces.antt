-- Functions of a place that change at one place.
use Rattle.std.proofs.Common.{◌≡◌, ◌≢◌, Bool, true, false, cond, nat_eq, ◌&&◌, refl, ap, ◌∙◌, sym}
use Rattle.std.specs.Bool.{Decides}
use Rattle.std.proofs.lemmas.Bool.Decides.{Decides-eqb, Decides-and, Decides-like}
use Rattle.sec_base.specs.declared.place.Place.{Place}
use Rattle.sec_base.specs.declared.place.Place.TheVariants.{Line, Node}
use Rattle.sec_base.specs.Place.{place_eq, at_place}

-- the test tells places apart
pub place_eq-Decides : (first second : Place) → Decides (place_eq first second) (first ≡ second)
place_eq-Decides (Line line) (Line other) =
    Decides-like (nat_eq line other) (λ (same : line ≡ other). cc) (λ (same : Line line ≡ Line other). cc) (Decides-eqb line other)
place_eq-Decides (Node level index) (Node other at) =
    Decides-like (nat_eq level other && nat_eq index at)
    (λ (same : (level ≡ other) × (index ≡ at)). cc (same.0, same.1))
    (λ (same : Node level index ≡ Node other at). (cc, cc))
    (Decides-and (nat_eq level other) (nat_eq index at) (Decides-eqb level other) (Decides-eqb index at))
place_eq-Decides (Line line) (Node level index) = (λ (e : false ≡ true). absurd (cc), λ e. absurd (cc))
place_eq-Decides (Node level index) (Line line) = (λ (e : false ≡ true). absurd (cc), λ e. absurd (cc))

-- functions with the same values are one
pub functions_same : {A B : Type 0} (f g : A → B) → ((x : A) → f x ≡ g x) → f ≡ g
functions_same f g same = λ t x. same x t

-- the place itself has the new value
pub at_place-here : {A : Type 0} (place : Place) (value : A) (f : Place → A) → at_place place value f place ≡ value
at_place-here place value f =
    let same : place_eq place place ≡ true = (place_eq-Decides place place).1 refl in rw same refl

pub false_from : {P : Type 0} (b : Bool) → Decides b P → (P → ⊥) → b ≡ false
false_from true tells not_so = absurd (not_so (tells.0 refl))
false_from false tells not_so = refl

-- and each other place has the value that it had
pub at_place-there : {A : Type 0} (place other : Place) (value : A) (f : Place → A) → other ≢ place →
    at_place place value f other ≡ f other
at_place-there place other value f apart =
    let differs : place_eq other place ≡ false = false_from (place_eq other place) (place_eq-Decides other place) apart in
    rw differs refl

value_stays : {A : Type 0} (b : Bool) (place other : Place) (value : A) (f : Place → A) → (b ≡ true → other ≡ place) →
    value ≡ f place → cond b value (f other) ≡ f other
value_stays true place other value f tells was = was ∙ ap f (sym (tells refl))
value_stays false place other value f tells was = refl

-- a value that stays leaves the function
pub at_place-same : {A : Type 0} (place : Place) (value : A) (f : Place → A) → value ≡ f place → at_place place value f ≡ f
at_place-same {A} place value f was =
    functions_same (at_place place value f) f
    (λ (other : Place). value_stays (place_eq other place) place other value f (place_eq-Decides other place).0 was)
