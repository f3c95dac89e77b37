-- What is stored and what was written, over the calls of a bus that follows a script.
use Rattle.adversary_script.specs.Script.{FitScript}
use Rattle.adversary_script.specs.declared.script.ScriptLine.{ScriptLine}
use Rattle.bus_adversary.proofs.PlaceChanges.{put_changes, same_geometry}
use Rattle.bus_adversary.proofs.PlaceEnds.{one_item}
use Rattle.bus_adversary.specs.ChangedPlaces.{ChangesOnly, script_may_change}
use Rattle.bus_adversary.specs.ScriptBus.{ChangedByScript}
use Rattle.bus_adversary.specs.StoredPlaces.{StoredPlacesView, bytes_at, empty_line, empty_node, new_places, with_place}
use Rattle.bus_adversary.specs.declared.stored_places.LineBytes.{LineBytes}
use Rattle.bus_adversary.specs.declared.stored_places.NodeBytes.{NodeBytes}
use Rattle.bus_model.proofs.Steps.{true_or_false}
use Rattle.bus_model.specs.BusHistory.{BusHistory, Lie, after_read, after_write, first_lie, new_history}
use Rattle.sec_base.proofs.SamePlaces.{place_eq-Decides}
use Rattle.sec_base.specs.Geometry.{GeometryView, line_count, node_end, node_number}
use Rattle.sec_base.specs.Place.{IsPlace, at_place, place_eq, zeros_of}
use Rattle.sec_base.specs.declared.place.Place.{Place}
use Rattle.sec_base.specs.declared.place.Place.TheVariants.{Line, Node}
use Rattle.std.proofs.Common.{Bool, List, None, Option, Some, ap, cond, false, inl, inr, nat_eq, refl, subst, sym, true, ℕ, ◌∙◌, ◌≡◌, ◌≢◌}
use Rattle.std.proofs.lemmas.Bool.Decides.{Decides-eqb}
use Rattle.std.specs.Bool.{Decides}
use Rattle.std.specs.Prelude.{IfSome}

-- the due actions were done
follows_due : (script : List ScriptLine) (history : BusHistory) (places places' : StoredPlacesView) → ChangedByScript script history places →
    places'.geometry ≡ places.geometry → ChangesOnly places places' (script_may_change script) → ChangedByScript script history places'
follows_due script history places places' follows geometry changes = record {
  geometry = geometry ∙ follows.geometry;
  fits = follows.fits;
  stored = λ place inside unchanged. changes place (inside_of place inside follows.geometry) unchanged ∙ follows.stored place inside unchanged;
  first = follows.first;
  none_counted = follows.none_counted;
}
  where
    inside_of : (place : Place) → IsPlace history.geometry place → places.geometry ≡ history.geometry → IsPlace places.geometry place
    inside_of place inside same = subst (λ (g : GeometryView). IsPlace g place) (sym same) inside

-- where bytes differ, the place is one that the script may change
changed_where : (b : Bool) (x y : List ℕ) → (b ≡ false → x ≡ y) → x ≢ y → b ≡ true
changed_where true x y same differs = refl
changed_where false x y same differs = absurd (differs (same refl))

-- the first lie is the one before, or this one
first_of_both : (P : Lie → Type 0) (b : Bool) (before : Option Lie) (lie : Lie) → IfSome before P → P lie → IfSome (cond b (Some lie) before) P
first_of_both P true before lie was is = is
first_of_both P false before lie was is = was

-- once a lie is counted the first is kept
lie_is_kept : (lies : ℕ) (before : Option Lie) (lie : Lie) → (before ≡ None → lies ≡ 0) → first_lie lies before lie ≡ None → ⊥
lie_is_kept lies before lie none_counted none =
    by_count (nat_eq lies 0) (Decides-eqb lies 0) none
  where
    by_count : (b : Bool) → Decides b (lies ≡ 0) → cond b (Some lie) before ≡ None → ⊥
    by_count true tells e = absurd (cc)
    by_count false tells e = let wrong : false ≡ true = tells.1 (none_counted e) in absurd (cc)

-- a read was answered by what is stored
follows_read : (script : List ScriptLine) (history : BusHistory) (places : StoredPlacesView) (place : Place) (bytes : List ℕ) →
    ChangedByScript script history places → IsPlace history.geometry place → bytes ≡ bytes_at places place →
    ChangedByScript script (after_read place bytes history) places
follows_read script history places place bytes follows inside answer =
    elim (true_or_false place bytes history) [
      | inl truly ↦ rw truly.1 (record { geometry = follows.geometry; fits = follows.fits; stored = follows.stored; first = follows.first; none_counted = follows.none_counted })
      | inr falsely ↦ rw falsely.1 (record {
        geometry = follows.geometry;
        fits = follows.fits;
        stored = follows.stored;
        first = first_of_both (λ (lie : Lie). script_may_change script lie.place ≡ true) (nat_eq history.lies 0) history.lie _ follows.first
            (changed_where (script_may_change script place) bytes (history.written place)
            (λ (unchanged : script_may_change script place ≡ false). answer ∙ follows.stored place inside unchanged) falsely.0);
        none_counted = λ (none : first_lie history.lies history.lie _ ≡ None). absurd (lie_is_kept history.lies history.lie _ follows.none_counted none);
      })
    ]

-- bytes that were written and are stored at a place
written_there : (place other : Place) (bytes : List ℕ) (written stored : Place → List ℕ) → stored place ≡ bytes →
    (place_eq other place ≡ false → stored other ≡ written other) → stored other ≡ at_place place bytes written other
written_there place other bytes written stored here elsewhere =
    by_test (place_eq other place) refl
  where
    by_test : (b : Bool) → place_eq other place ≡ b → stored other ≡ cond (place_eq other place) bytes (written other)
    by_test true e = rw e (ap stored ((place_eq-Decides other place).0 e) ∙ here)
    by_test false e = rw e (elsewhere e)

-- bytes were written, and put where they were
follows_write : (script : List ScriptLine) (history : BusHistory) (places : StoredPlacesView) (place : Place) (bytes : List ℕ) →
    ChangedByScript script history places → IsPlace history.geometry place → bytes_at (with_place place bytes places) place ≡ bytes →
    ChangedByScript script (after_write place bytes history) (with_place place bytes places)
unfolding after_write
follows_write script history places place bytes follows inside here = record {
  geometry = same_geometry place bytes places ∙ follows.geometry;
  fits = follows.fits;
  stored = λ other inside' unchanged. written_there place other bytes history.written (bytes_at (with_place place bytes places)) here
      (λ (differs : place_eq other place ≡ false). put_changes place bytes places (at_geometry place inside) other (at_geometry other inside') differs
      ∙ follows.stored other inside' unchanged);
  first = follows.first;
  none_counted = follows.none_counted;
}
  where
    at_geometry : (q : Place) → IsPlace history.geometry q → IsPlace places.geometry q
    at_geometry q is = subst (λ (g : GeometryView). IsPlace g q) (sym follows.geometry) is

-- the history is as it was
follows_same : (script : List ScriptLine) (history history' : BusHistory) (places : StoredPlacesView) → history' ≡ history →
    ChangedByScript script history places → ChangedByScript script history' places
follows_same script history history' places same follows = rw same follows

-- a call that reads
pub read_follows : (script : List ScriptLine) (history history' : BusHistory) (places places' : StoredPlacesView) (place : Place) (answer : List ℕ) →
    ChangedByScript script history places → IsPlace history.geometry place →
    places'.geometry ≡ places.geometry → ChangesOnly places places' (script_may_change script) →
    answer ≡ bytes_at places' place → history' ≡ after_read place answer history → ChangedByScript script history' places'
read_follows script history history' places places' place answer follows inside geometry changes stored is =
    follows_same script (after_read place answer history) history' places' is
    (follows_read script history places' place answer (follows_due script history places places' follows geometry changes) inside stored)

-- one that was refused, after the due actions
pub refused_follows : (script : List ScriptLine) (history history' : BusHistory) (places places' : StoredPlacesView) → ChangedByScript script history places →
    places'.geometry ≡ places.geometry → ChangesOnly places places' (script_may_change script) → history' ≡ history → ChangedByScript script history' places'
refused_follows script history history' places places' follows geometry changes same =
    follows_same script history history' places' same (follows_due script history places places' follows geometry changes)

-- one that writes
pub write_follows : (script : List ScriptLine) (history history' : BusHistory) (places places' places'' : StoredPlacesView) (place : Place) (bytes : List ℕ) →
    ChangedByScript script history places → IsPlace history.geometry place →
    places'.geometry ≡ places.geometry → ChangesOnly places places' (script_may_change script) →
    places'' ≡ with_place place bytes places' → bytes_at places'' place ≡ bytes →
    history' ≡ after_write place bytes history → ChangedByScript script history' places''
write_follows script history history' places places' places'' place bytes follows inside geometry changes puts here is =
    rw puts (follows_same script (after_write place bytes history) history' (with_place place bytes places') is
    (follows_write script history places' place bytes (follows_due script history places places' follows geometry changes) inside
    (ap (λ (p : StoredPlacesView). bytes_at p place) (sym puts) ∙ here)))

new_bytes : (geometry : GeometryView) (place : Place) → bytes_at (new_places geometry) place ≡ zeros_of place
new_bytes geometry (Line line) = ap (λ (x : LineBytes). x.bytes) (one_item (line_count geometry) line empty_line)
new_bytes geometry (Node level index) =
    ap (λ (x : NodeBytes). x.bytes) (one_item (node_end geometry) (node_number geometry level index) empty_node)

-- before the first call
pub new_follows : (script : List ScriptLine) (history : BusHistory) (geometry : GeometryView) (places : StoredPlacesView) → history ≡ new_history geometry →
    places ≡ new_places geometry → FitScript geometry script → ChangedByScript script history places
new_follows script history geometry places is none fits =
    rw (is, none) (record { geometry = refl; fits = fits; stored = λ place inside unchanged. new_bytes geometry place; first = tt; none_counted = λ none. refl })
