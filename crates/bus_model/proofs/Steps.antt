-- A read and a write, of what a bus was asked and answered.
use Rattle.std.proofs.Common.{◌≡◌, ◌≢◌, ◌⊎◌, inl, inr, ℕ, Bool, true, false, List, Option, refl, ap, ◌∙◌, sym, arith}
use Rattle.std.specs.Bool.{Decides}
use Rattle.std.specs.Str.{bytes_eq}
use Rattle.std.proofs.lemmas.Slice.Eq.{bytes_eq-Decides}
use Rattle.sec_base.specs.Count.{more_by, Rose}
use Rattle.sec_base.specs.Place.{at_place}
use Rattle.sec_base.proofs.SamePlaces.{at_place-same, at_place-here, false_from}
use Rattle.sec_base.specs.declared.place.Place.{Place}
use Rattle.bus_model.specs.BusHistory.{BusHistory, Lie, NothingWritten, new_history, after_read, after_write, after_answer, after_lie, is_false}
use Rattle.sec_base.specs.Geometry.{GeometryView}

-- two with the same functions are one
pub same_history : (history : BusHistory) (geometry : GeometryView) (accesses lies : ℕ) (lie : Option Lie) (written written' : Place → List ℕ) (reads reads' : Place → ℕ) →
    written' ≡ written → reads' ≡ reads → history ≡ record { geometry = geometry; written = written; reads = reads; accesses = accesses; lies = lies; lie = lie } →
    record { geometry = geometry; written = written'; reads = reads'; accesses = accesses; lies = lies; lie = lie } ≡ history
same_history history geometry accesses lies lie written written' reads reads' w r is =
    ap (λ (f : Place → List ℕ). record { geometry = geometry; written = f; reads = reads'; accesses = accesses; lies = lies; lie = lie }) w
    ∙ ap (λ (f : Place → ℕ). record { geometry = geometry; written = written; reads = f; accesses = accesses; lies = lies; lie = lie }) r
    ∙ sym is

-- where the place's bytes change, and its count of reads stays, and one more access is counted, there was a write
pub was_write : (place : Place) (bytes : List ℕ) (history : BusHistory) (written : Place → List ℕ) (reads : Place → ℕ) (accesses : ℕ) →
    written ≡ at_place place bytes history.written → reads ≡ at_place place (history.reads place) history.reads → accesses ≡ more_by 1 history.accesses →
    record history { written = written; reads = reads; accesses = accesses } ≡ after_write place bytes history
unfolding after_write
was_write place bytes history written reads accesses w r n =
    let stays : reads ≡ history.reads = r ∙ at_place-same place (history.reads place) history.reads refl in
    rw n (same_history (after_write place bytes history) history.geometry (more_by 1 history.accesses) history.lies history.lie
    (at_place place bytes history.written) written history.reads reads w stays refl)

-- an answer that is what was written is not false
pub true_answer : (place : Place) (bytes : List ℕ) (history : BusHistory) → bytes ≡ history.written place → is_false place bytes history ≡ false
unfolding is_false
true_answer place bytes history same =
    let equal : bytes_eq bytes (history.written place) ≡ true = (bytes_eq-Decides bytes (history.written place)).1 same in rw equal refl

-- where the place's count of reads rises, and its bytes stay, and one more access is counted, there was a read, which
-- was answered by what was written
pub was_read : (place : Place) (bytes : List ℕ) (history : BusHistory) (written : Place → List ℕ) (reads : Place → ℕ) (accesses : ℕ) →
    written ≡ at_place place (history.written place) history.written → reads ≡ at_place place (more_by 1 (history.reads place)) history.reads →
    accesses ≡ more_by 1 history.accesses → bytes ≡ history.written place →
    record history { written = written; reads = reads; accesses = accesses } ≡ after_read place bytes history
unfolding after_read
was_read place bytes history written reads accesses w r n same =
    let stays : written ≡ history.written = w ∙ at_place-same place (history.written place) history.written refl in
    let honest : is_false place bytes history ≡ false = true_answer place bytes history same in
    rw (n, honest) (same_history (after_answer place history) history.geometry (more_by 1 history.accesses) history.lies history.lie
    history.written written (at_place place (more_by 1 (history.reads place)) history.reads) reads stays r refl)

-- after a true answer
pub answered : (place : Place) (bytes : List ℕ) (history : BusHistory) → bytes ≡ history.written place → after_read place bytes history ≡ after_answer place history
unfolding after_read
answered place bytes history same =
    let honest : is_false place bytes history ≡ false = true_answer place bytes history same in rw honest refl

-- and after a false one
pub lied : (place : Place) (bytes : List ℕ) (history : BusHistory) → bytes ≢ history.written place → after_read place bytes history ≡ after_lie place bytes (after_answer place history)
unfolding after_read is_false
lied place bytes history differs =
    let unlike : bytes_eq bytes (history.written place) ≡ false = false_from (bytes_eq bytes (history.written place)) (bytes_eq-Decides bytes (history.written place)) differs in
    rw unlike refl

by_test : (b : Bool) (place : Place) (bytes : List ℕ) (history : BusHistory) → Decides b (bytes ≡ history.written place) →
    ((bytes ≡ history.written place) × (after_read place bytes history ≡ after_answer place history))
    ⊎ ((bytes ≢ history.written place) × (after_read place bytes history ≡ after_lie place bytes (after_answer place history)))
by_test true place bytes history tells = inl (tells.0 refl, answered place bytes history (tells.0 refl))
by_test false place bytes history tells =
    let differs : bytes ≢ history.written place = λ (same : bytes ≡ history.written place). let wrong : false ≡ true = tells.1 same in absurd (cc) in
    inr (differs, lied place bytes history differs)

-- an answer is what was written, or it is false
pub true_or_false : (place : Place) (bytes : List ℕ) (history : BusHistory) →
    ((bytes ≡ history.written place) × (after_read place bytes history ≡ after_answer place history))
    ⊎ ((bytes ≢ history.written place) × (after_read place bytes history ≡ after_lie place bytes (after_answer place history)))
true_or_false place bytes history =
    by_test (bytes_eq bytes (history.written place)) place bytes history (bytes_eq-Decides bytes (history.written place))

of_either : {A : Type 0} (part : BusHistory → A) (place : Place) (bytes : List ℕ) (history : BusHistory) →
    part (after_lie place bytes (after_answer place history)) ≡ part (after_answer place history) →
    part (after_read place bytes history) ≡ part (after_answer place history)
of_either part place bytes history same =
    elim (true_or_false place bytes history) [
      | inl truly ↦ ap part truly.1
      | inr falsely ↦ ap part falsely.1 ∙ same
    ]

-- of either answer: what was written stays, and one more read and one more access are counted
pub read_geometry : (place : Place) (bytes : List ℕ) (history : BusHistory) → (after_read place bytes history).geometry ≡ history.geometry
read_geometry place bytes history = of_either (λ (t : BusHistory). t.geometry) place bytes history refl

pub read_written : (place : Place) (bytes : List ℕ) (history : BusHistory) → (after_read place bytes history).written ≡ history.written
read_written place bytes history = of_either (λ (t : BusHistory). t.written) place bytes history refl

pub read_reads : (place : Place) (bytes : List ℕ) (history : BusHistory) →
    (after_read place bytes history).reads ≡ at_place place (more_by 1 (history.reads place)) history.reads
read_reads place bytes history = of_either (λ (t : BusHistory). t.reads) place bytes history refl

pub read_accesses : (place : Place) (bytes : List ℕ) (history : BusHistory) → (after_read place bytes history).accesses ≡ more_by 1 history.accesses
read_accesses place bytes history = of_either (λ (t : BusHistory). t.accesses) place bytes history refl

-- the reads of the place rose
pub read_rose : (place : Place) (bytes : List ℕ) (history : BusHistory) → Rose (history.reads place) ((after_read place bytes history).reads place)
read_rose place bytes history =
    let here : (after_read place bytes history).reads place ≡ more_by 1 (history.reads place) =
    ap (λ (f : Place → ℕ). f place) (read_reads place bytes history) ∙ at_place-here place (more_by 1 (history.reads place)) history.reads in
    rw here (omega arith)

-- where nothing was asked yet, nothing was written
pub nothing_written : (geometry : GeometryView) (history : BusHistory) → history ≡ new_history geometry → NothingWritten history
nothing_written geometry history is = rw is (record { zeros = λ place inside. refl })
