-- What an action leaves.
use Rattle.bus_adversary.specs.ChangedPlaces.{ChangesOnly}
use Rattle.bus_adversary.specs.Adversary.{AdversaryView, after_restore}
use Rattle.bus_adversary.specs.StoredPlaces.{StoredPlacesView, empty_line, empty_node, with_place}
use Rattle.bus_adversary.specs.declared.adversary.Register.{Register}
use Rattle.bus_adversary.specs.declared.adversary.Register.TheVariants.{AllPlaces, Empty, Line as line_bytes, Node as node_bytes}
use Rattle.bus_adversary.specs.declared.stored_places.LineBytes.{LineBytes}
use Rattle.bus_adversary.specs.declared.stored_places.NodeBytes.{NodeBytes}
use Rattle.sec_base.proofs.Numbers.{numbers_apart}
use Rattle.sec_base.proofs.SamePlaces.{place_eq-Decides}
use Rattle.sec_base.specs.Geometry.{GeometryView, node_number}
use Rattle.sec_base.specs.Place.{IsPlace, place_eq}
use Rattle.sec_base.specs.declared.place.Place.{Place}
use Rattle.sec_base.specs.declared.place.Place.TheVariants.{Line, Node}
use Rattle.std.proofs.Common.{Bool, List, ap, false, refl, sym, true, ℕ, ◌||◌, ◌∙◌, ◌≡◌, ◌≢◌}
use Rattle.std.proofs.lemmas.List.{get_or-set_other}

-- a test that fails tells two places apart
pub apart : (other place : Place) → place_eq other place ≡ false → other ≢ place
apart other place fails same =
    let holds : place_eq other place ≡ true = (place_eq-Decides other place).1 same in
    let wrong : true ≡ false = sym holds ∙ fails in cc

node_apart : (geometry : GeometryView) (level index other at : ℕ) → place_eq (Node other at) (Node level index) ≡ false → ((other ≡ level) × (at ≡ index)) → ⊥
node_apart geometry level index other at differs same =
    apart (Node other at) (Node level index) differs (ap (λ (k : ℕ). Node k at) same.0 ∙ ap (λ (i : ℕ). Node level i) same.1)

pub same_geometry : (place : Place) (bytes : List ℕ) (places : StoredPlacesView) → (with_place place bytes places).geometry ≡ places.geometry
same_geometry (Line line) bytes places = refl
same_geometry (Node level index) bytes places = refl

none_left : (a b : Bool) → (a || b) ≡ false → a ≡ false
none_left true b e = e
none_left false b e = refl

none_right : (a b : Bool) → (a || b) ≡ false → b ≡ false
none_right true b e = absurd (cc)
none_right false b e = e

-- bytes that are put at a place leave the others
pub put_changes : (place : Place) (bytes : List ℕ) (places : StoredPlacesView) → IsPlace places.geometry place →
    ChangesOnly places (with_place place bytes places) (λ other. place_eq other place)
put_changes (Line line) bytes places inside (Line other) inside' differs =
    ap (λ (x : LineBytes). x.bytes) (get_or-set_other places.lines line other (record { bytes = bytes }) empty_line
    (λ (same : other ≡ line). apart (Line other) (Line line) differs (ap (λ (n : ℕ). Line n) same)))
put_changes (Line line) bytes places inside (Node level index) inside' differs = refl
put_changes (Node level index) bytes places inside (Line other) inside' differs = refl
put_changes (Node level index) bytes places inside (Node other at) inside' differs =
    let here : ℕ = node_number places.geometry level index in
    let there : ℕ = node_number places.geometry other at in
    ap (λ (x : NodeBytes). x.bytes) (get_or-set_other places.nodes here there (record { bytes = bytes }) empty_node
    (λ (same : there ≡ here). node_apart places.geometry level index other at differs (numbers_apart places.geometry other at level index inside' inside same)))

-- and so do bytes that are put at two places
pub both_puts_change : (first second : Place) (bytes bytes' : List ℕ) (places : StoredPlacesView) → IsPlace places.geometry first → IsPlace places.geometry second →
    ChangesOnly places (with_place second bytes' (with_place first bytes places)) (λ other. place_eq other first || place_eq other second)
both_puts_change first second bytes bytes' places inside inside' other is differs =
    let at : (with_place first bytes places).geometry ≡ places.geometry = same_geometry first bytes places in
    put_changes second bytes' (with_place first bytes places) (rw at inside') other (rw at is) (none_right (place_eq other first) (place_eq other second) differs)
    ∙ put_changes first bytes places inside other is (none_left (place_eq other first) (place_eq other second) differs)

-- bytes that are put at the first of two places leave all others
pub first_put_changes : (first second : Place) (bytes : List ℕ) (places : StoredPlacesView) → IsPlace places.geometry first →
    ChangesOnly places (with_place first bytes places) (λ other. place_eq other first || place_eq other second)
first_put_changes first second bytes places inside other is differs =
    put_changes first bytes places inside other is (none_left (place_eq other first) (place_eq other second) differs)

-- and what a register restores
pub restore_changes : (value : Register) (place : Place) (adversary : AdversaryView) → IsPlace adversary.places.geometry place →
    ChangesOnly adversary.places (after_restore value place adversary).places (λ other. place_eq other place)
restore_changes (line_bytes bytes) (Line line) adversary inside = put_changes (Line line) bytes adversary.places inside
restore_changes (node_bytes bytes) (Node level index) adversary inside = put_changes (Node level index) bytes adversary.places inside
restore_changes (line_bytes bytes) (Node level index) adversary inside = λ other inside' differs. refl
restore_changes (node_bytes bytes) (Line line) adversary inside = λ other inside' differs. refl
restore_changes Empty place adversary inside = λ other inside' differs. refl
restore_changes (AllPlaces places) place adversary inside = λ other inside' differs. refl
