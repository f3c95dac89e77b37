-- What a list of accesses says of the history after it.
use Rattle.std.proofs.Common.{◌≡◌, ◌≢◌, ℕ, ◌+◌, ◌≤◌, Bool, true, false, cond, inl, inr, List, [], ◌∷◌, ◌++◌, length, refl, ap, ◌∙◌, arith}
use Rattle.std.specs.Prelude.{Result, Ok, Err, IsErr}
use Rattle.sec_base.specs.declared.stop.NoMemory.{NoMemory}
use Rattle.sec_base.specs.Count.{more_by, RoseBy}
use Rattle.sec_base.specs.Place.{place_eq, at_place}
use Rattle.sec_base.specs.declared.place.Place.{Place}
use Rattle.sec_base.proofs.SamePlaces.{place_eq-Decides, at_place-there}
use Rattle.bus_model.specs.BusHistory.{BusHistory, after_read, after_write}
use Rattle.bus_model.specs.Access.{Access, Read, Write, after_one, after_all, one_read, one_write, reads_of, stands_after, writes_in, AreOf, CameBy}
use Rattle.bus_model.proofs.Steps.{true_or_false, read_geometry, read_written, read_reads, read_accesses}

one_geometry : (access : Access) (history : BusHistory) → (after_one access history).geometry ≡ history.geometry
unfolding after_write
one_geometry (Read place bytes) history = read_geometry place bytes history
one_geometry (Write place bytes) history = refl

-- the geometry stays
pub all_geometry : (accesses : List Access) (history : BusHistory) → (after_all accesses history).geometry ≡ history.geometry
all_geometry [] history = refl
all_geometry (access ∷ more) history = all_geometry more (after_one access history) ∙ one_geometry access history

one_access : (access : Access) (history : BusHistory) → (after_one access history).accesses ≡ more_by 1 history.accesses
unfolding after_write
one_access (Read place bytes) history = read_accesses place bytes history
one_access (Write place bytes) history = refl

-- there were as many accesses as the list is long, as far as a count goes
pub all_accesses : (accesses : List Access) (history : BusHistory) →
    RoseBy (length accesses) history.accesses (after_all accesses history).accesses
    × ((after_all accesses history).accesses ≤ history.accesses + length accesses)
all_accesses [] history = (omega arith, omega arith)
all_accesses (access ∷ more) history =
    let rest = all_accesses more (after_one access history) in
    (omega (arith, rest.0, one_access access history), omega (arith, rest.1, one_access access history))

-- what a place holds is what was written there last
pub all_written : (accesses : List Access) (history : BusHistory) (place : Place) →
    (after_all accesses history).written place ≡ stands_after place (history.written place) accesses
unfolding after_write
all_written [] history place = refl
all_written (Read other bytes ∷ more) history place =
    all_written more (after_read other bytes history) place
    ∙ ap (λ (held : List ℕ). stands_after place held more) (ap (λ (f : Place → List ℕ). f place) (read_written other bytes history))
all_written (Write other bytes ∷ more) history place = all_written more (after_write other bytes history) place

risen : (same : Bool) (place other : Place) (reads : Place → ℕ) → (same ≡ true → place ≡ other) →
    RoseBy (cond same 1 0) (reads place) (cond same (more_by 1 (reads other)) (reads place))
    × (cond same (more_by 1 (reads other)) (reads place) ≤ reads place + cond same 1 0)
risen true place other reads tells = let here : reads place ≡ reads other = ap reads (tells refl) in (omega (arith, here), omega (arith, here))
risen false place other reads tells = (omega arith, omega arith)

-- a place was read as often as the list says, as far as a count goes
pub all_reads_of : (accesses : List Access) (history : BusHistory) (place : Place) →
    RoseBy (reads_of place accesses) (history.reads place) ((after_all accesses history).reads place)
    × ((after_all accesses history).reads place ≤ history.reads place + reads_of place accesses)
unfolding after_write
all_reads_of [] history place = (omega arith, omega arith)
all_reads_of (Write other bytes ∷ more) history place = all_reads_of more (after_write other bytes history) place
all_reads_of (Read other bytes ∷ more) history place =
    let rest = all_reads_of more (after_read other bytes history) place in
    let is : (after_read other bytes history).reads place ≡ at_place other (more_by 1 (history.reads other)) history.reads place =
    ap (λ (f : Place → ℕ). f place) (read_reads other bytes history) in
    let here = risen (place_eq place other) place other history.reads (place_eq-Decides place other).0 in
    (omega (arith, rest.0, is, here.0), omega (arith, rest.1, is, here.1))

one_lies : (access : Access) (history : BusHistory) → RoseBy 0 history.lies (after_one access history).lies
unfolding after_write
one_lies (Write place bytes) history = omega arith
one_lies (Read place bytes) history =
    elim (true_or_false place bytes history) [
      | inl truly ↦ let same : (after_read place bytes history).lies ≡ history.lies = ap (λ (t : BusHistory). t.lies) truly.1 in omega (arith, same)
      | inr falsely ↦
          let more : (after_read place bytes history).lies ≡ more_by 1 history.lies = ap (λ (t : BusHistory). t.lies) falsely.1 in omega (arith, more)
    ]

-- false answers are not forgotten
pub all_lies : (accesses : List Access) (history : BusHistory) → RoseBy 0 history.lies (after_all accesses history).lies
all_lies [] history = omega arith
all_lies (access ∷ more) history =
    let rest = all_lies more (after_one access history) in omega (arith, rest, one_lies access history)

-- The writes alone say what stands at a place, and are joined as the lists are.

pub stands_writes : (place : Place) (bytes : List ℕ) (accesses : List Access) → stands_after place bytes accesses ≡ stands_after place bytes (writes_in accesses)
stands_writes place bytes [] = refl
stands_writes place bytes (Read other answer ∷ more) = stands_writes place bytes more
stands_writes place bytes (Write other put ∷ more) = stands_writes place (cond (place_eq place other) put bytes) more

pub writes_joined : (before after : List Access) → writes_in (before ++ after) ≡ writes_in before ++ writes_in after
writes_joined [] after = refl
writes_joined (Read place bytes ∷ before) after = writes_joined before after
writes_joined (Write place bytes ∷ before) after = ap (λ (xs : List Access). Write place bytes ∷ xs) (writes_joined before after)

pub reads_joined : (place : Place) (before after : List Access) → reads_of place (before ++ after) ≡ reads_of place before + reads_of place after
reads_joined place [] after = omega arith
reads_joined place (Read other bytes ∷ before) after = omega (arith, reads_joined place before after)
reads_joined place (Write other bytes ∷ before) after = reads_joined place before after

-- Where each is of such a place.

pub of_joined : (Where : Place → Type 0) (before after : List Access) → AreOf Where before → AreOf Where after → AreOf Where (before ++ after)
of_joined Where [] after are more = more
of_joined Where (Read place bytes ∷ before) after are more = (are.0, of_joined Where before after are.1 more)
of_joined Where (Write place bytes ∷ before) after are more = (are.0, of_joined Where before after are.1 more)

-- so is one that is read
pub of_read : (Where : Place → Type 0) (before after : List Access) (place : Place) (bytes : List ℕ) → AreOf Where (before ++ Read place bytes ∷ after) → Where place
of_read Where [] after place bytes are = are.0
of_read Where (Read other answer ∷ before) after place bytes are = of_read Where before after place bytes are.1
of_read Where (Write other put ∷ before) after place bytes are = of_read Where before after place bytes are.1

-- a place that none is of holds what it held, and was not read
pub untouched : (accesses : List Access) (history : BusHistory) (place : Place) → AreOf (λ other. place ≢ other) accesses →
    ((after_all accesses history).written place ≡ history.written place) × ((after_all accesses history).reads place ≡ history.reads place)
unfolding after_write
untouched [] history place apart = (refl, refl)
untouched (Read other bytes ∷ more) history place apart =
    let rest = untouched more (after_read other bytes history) place apart.1 in (
      rest.0 ∙ ap (λ (f : Place → List ℕ). f place) (read_written other bytes history),
      rest.1 ∙ ap (λ (f : Place → ℕ). f place) (read_reads other bytes history)
          ∙ at_place-there other place (more_by 1 (history.reads other)) history.reads apart.0,
    )
untouched (Write other bytes ∷ more) history place apart =
    let rest = untouched more (after_write other bytes history) place apart.1 in
    (rest.0 ∙ at_place-there other place bytes history.written apart.0, rest.1)

-- What was refused is no access.

pub refused_read : {A : Type 0} (place : Place) (bytes : A → List ℕ) (old new : BusHistory) (result : Result A NoMemory) → IsErr result → new ≡ old →
    CameBy old (one_read place bytes result) new
refused_read place bytes old new (Ok answer) wrong same = let no : false ≡ true = wrong in cc
refused_read place bytes old new (Err refused) is same = same

pub refused_write : (place : Place) (bytes : List ℕ) (old new : BusHistory) (result : Result (Unit {0}) NoMemory) → IsErr result → new ≡ old →
    CameBy old (one_write place bytes result) new
refused_write place bytes old new (Ok done) wrong same = let no : false ≡ true = wrong in cc
refused_write place bytes old new (Err refused) is same = same
