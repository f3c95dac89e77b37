-- The calls of a bus that is an honest bus but for false answers.
use Rattle.std.proofs.Common.{◌≡◌, ◌≢◌, ℕ, Bool, true, false, cond, not, nat_eq, ◌&&◌, List, [], ◌∷◌, ◌++◌, length, Option, refl, ap, ◌∙◌, sym, arith}
use Rattle.std.specs.Option.{option_map}
use Rattle.std.proofs.Math.Bool.{and_assoc}
use Rattle.std.specs.Str.{bytes_eq}
use Rattle.std.proofs.lemmas.Slice.Eq.{bytes_eq-Decides}
use Rattle.sec_base.specs.Count.{more_by}
use Rattle.sec_base.specs.declared.place.Place.{Place}
use Rattle.bus_model.specs.declared.lies.Lies.{Lies}
use Rattle.bus_model.specs.BusHistory.{BusHistory, Lie, new_history, after_read, after_write, after_answer, first_lie}
use Rattle.bus_model.specs.Lies.{IsJudged, lie_of, no_lies, with_lies}
use Rattle.bus_model.proofs.Steps.{answered}
use Rattle.sec_base.specs.Geometry.{GeometryView}

-- with these lies in place of its own
with_told : ℕ → Option Lie → BusHistory → BusHistory
with_told lies lie history = record history { lies = lies; lie = lie }

by_test : (b : Bool) (history : BusHistory) (count count' : ℕ) (lie lie' more : Option Lie) → count' ≡ cond b (more_by 1 count) count →
    lie' ≡ cond b more lie → with_told count' lie' history ≡ cond b (with_told (more_by 1 count) more history) (with_told count lie history)
by_test true history count count' lie lie' more c l = rw (c, l) refl
by_test false history count count' lie lie' more c l = rw (c, l) refl

-- a read whose answer is judged
pub judged_read : (history history' : BusHistory) (lies lies' : Lies) (place : Place) (written answer : List ℕ) (access : ℕ) →
    history' ≡ after_read place written history → written ≡ history.written place →
    access ≡ history'.accesses → IsJudged (record { access = access; place = place; bytes = answer }) written lies lies' →
    with_lies lies' history' ≡ after_read place answer (with_lies lies history)
unfolding with_told after_read Rattle.bus_model.specs.BusHistory.is_false
judged_read history history' lies lies' place written answer access read true_bytes at judged =
    let truly : history' ≡ after_answer place history = read ∙ answered place written history true_bytes in
    let number : access ≡ more_by 1 history.accesses = at ∙ ap (λ (h : BusHistory). h.accesses) truly in
    let was : Option Lie = option_map lie_of lies.first in
    let this : ℕ → Lie = λ (n : ℕ). record { access = n; place = place; bytes = answer } in
    let b : Bool = not (bytes_eq answer written) in
    let told : BusHistory = after_answer place history in
    ap (with_told lies'.count (option_map lie_of lies'.first)) truly
    ∙ by_test b told lies.count lies'.count was (option_map lie_of lies'.first) (first_lie lies.count was (this access)) judged.count judged.first
    ∙ ap (λ (n : ℕ). cond b (with_told (more_by 1 lies.count) (first_lie lies.count was (this n)) told) (with_told lies.count was told)) number
    ∙ ap (λ (bytes : List ℕ). cond (not (bytes_eq answer bytes)) (with_told (more_by 1 lies.count) (first_lie lies.count was (this (more_by 1 history.accesses))) told) (with_told lies.count was told)) true_bytes

pub judged_write : (history history' : BusHistory) (lies : Lies) (place : Place) (bytes : List ℕ) →
    history' ≡ after_write place bytes history → with_lies lies history' ≡ after_write place bytes (with_lies lies history)
unfolding with_told after_write
judged_write history history' lies place bytes wrote = ap (with_told lies.count (option_map lie_of lies.first)) wrote

-- a call that changes nothing
pub judged_refusal : (history history' : BusHistory) (lies : Lies) → history' ≡ history → with_lies lies history' ≡ with_lies lies history
unfolding with_told
judged_refusal history history' lies same = ap (with_told lies.count (option_map lie_of lies.first)) same

-- before the first call
pub judged_new : (history : BusHistory) (lies : Lies) (geometry : GeometryView) → history ≡ new_history geometry → lies ≡ no_lies →
    with_lies lies history ≡ new_history geometry
judged_new history lies geometry is none = rw (is, none) refl

-- what the test of two lists says
pub unlike : (first second : List ℕ) → true ≡ not (bytes_eq first second) → first ≢ second
unlike first second e same =
    let equal : bytes_eq first second ≡ true = (bytes_eq-Decides first second).1 same in
    let wrong : true ≡ false = e ∙ ap not equal in cc

-- lists of two parts are compared by their parts
pub bytes_eq-parts : (first second front back : List ℕ) → length first ≡ length second →
    bytes_eq (first ++ front) (second ++ back) ≡ (bytes_eq first second && bytes_eq front back)
bytes_eq-parts [] [] front back same = refl
bytes_eq-parts [] (y ∷ second) front back same = absurd (omega arith)
bytes_eq-parts (x ∷ first) [] front back same = absurd (omega arith)
bytes_eq-parts (x ∷ first) (y ∷ second) front back same =
    ap (λ (b : Bool). nat_eq x y && b) (bytes_eq-parts first second front back (omega arith))
    ∙ sym (and_assoc (nat_eq x y) (bytes_eq first second) (bytes_eq front back))
