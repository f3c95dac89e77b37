-- What an honest bus stands for, where one of its places changes.
use Rattle.std.proofs.Common.{◌≡◌, ℕ, ◌+◌, ◌<◌, Bool, true, false, cond, nat_eq, nat_lt, ◌&&◌, List, length, slice_index, slice_set, refl, ap, ◌∙◌, inl, inr, arith}
use Rattle.std.specs.Bool.{Decides}
use Rattle.std.proofs.lemmas.Bool.Decides.{Decides-eqb, Decides-ltb, Decides-and, Decides-like, eqb_tells, same_from_decides}
use Rattle.std.proofs.lemmas.List.{get_or-set_other}
use Rattle.std.proofs.lemmas.Grind.{get_or-set_at}
use Rattle.sec_base.specs.Geometry.{GeometryView, IsNode, node_number, node_end, width}
use Rattle.sec_base.specs.Place.{at_place}
use Rattle.sec_base.specs.Evidence.{sealed_bytes}
use Rattle.sec_base.specs.declared.place.Place.{Place}
use Rattle.sec_base.specs.declared.place.Place.TheVariants.{Line, Node}
use Rattle.sec_base.specs.declared.sealed.Sealed.{Sealed}
use Rattle.sec_base.proofs.Numbers.{number_inside, numbers_apart}
use Rattle.sec_base.proofs.SamePlaces.{functions_same, false_from}
use Rattle.bus_model.specs.HonestBus.{HonestBusView, Keeps, kept_at, place_bytes, place_reads, is_node, empty_line, empty_node}

of_chosen : {A B : Type 0} (f : A → B) (here : Bool) (x y : A) → f (cond here x y) ≡ cond here (f x) (f y)
of_chosen f true x y = refl
of_chosen f false x y = refl

-- one count changed
count_set : (counts : List ℕ) (at other count : ℕ) → at < length counts →
    slice_index (slice_set counts at count) other ≡ cond (nat_eq other at) count (slice_index counts other)
count_set counts at other count below =
    elim (eqb_tells other at) [
      | inl same ↦ rw same.0 (get_or-set_at counts at other count 0 same.1 below)
      | inr apart ↦ rw apart.0 (get_or-set_other counts at other count 0 apart.1)
    ]

-- a line is kept
line_bytes_at : (kept : HonestBusView) (lines : List (ℕ × Sealed)) (line accesses : ℕ) (sealed : Sealed) → Keeps empty_line line sealed kept.lines lines → (place : Place) →
    place_bytes (record kept { lines = lines; accesses = accesses }) place ≡ at_place (Line line) (sealed_bytes sealed) (place_bytes kept) place
line_bytes_at kept lines line accesses sealed keeps (Line other) =
    ap sealed_bytes (keeps other) ∙ of_chosen sealed_bytes (nat_eq other line) sealed (kept_at empty_line kept.lines other)
line_bytes_at kept lines line accesses sealed keeps (Node level index) = refl

pub line_bytes : (kept : HonestBusView) (lines : List (ℕ × Sealed)) (line accesses : ℕ) (sealed : Sealed) → Keeps empty_line line sealed kept.lines lines →
    place_bytes (record kept { lines = lines; accesses = accesses }) ≡ at_place (Line line) (sealed_bytes sealed) (place_bytes kept)
line_bytes kept lines line accesses sealed keeps =
    functions_same _ _ (λ (place : Place). line_bytes_at kept lines line accesses sealed keeps place)

-- the reads of a line are counted
line_reads_at : (kept : HonestBusView) (line accesses count : ℕ) → line < length kept.line_reads → (place : Place) →
    place_reads (record kept { line_reads = slice_set kept.line_reads line count; accesses = accesses }) place ≡ at_place (Line line) count (place_reads kept) place
line_reads_at kept line accesses count inside (Line other) = count_set kept.line_reads line other count inside
line_reads_at kept line accesses count inside (Node level index) = refl

pub line_reads : (kept : HonestBusView) (line accesses count : ℕ) → line < length kept.line_reads →
    place_reads (record kept { line_reads = slice_set kept.line_reads line count; accesses = accesses }) ≡ at_place (Line line) count (place_reads kept)
line_reads kept line accesses count inside = functions_same _ _ (λ (place : Place). line_reads_at kept line accesses count inside place)

-- the test of a node
is_node-Decides : (geometry : GeometryView) (level index : ℕ) → Decides (is_node geometry level index) (IsNode geometry level index)
is_node-Decides geometry level index =
    Decides-like (is_node geometry level index)
    (λ (h : (level < geometry.levels + 1) × (index < width geometry level)). (omega arith, h.1))
    (λ (h : IsNode geometry level index). (omega arith, h.1))
    (Decides-and (nat_lt level (geometry.levels + 1)) (nat_lt index (width geometry level)) (Decides-ltb level (geometry.levels + 1)) (Decides-ltb index (width geometry level)))

-- what is so of a node, where a test says that it is one
pub of_node : {A : Type 0} (geometry : GeometryView) (level index : ℕ) (value none : A) → IsNode geometry level index → cond (is_node geometry level index) value none ≡ value
of_node geometry level index value none node =
    let yes : is_node geometry level index ≡ true = (is_node-Decides geometry level index).1 node in rw yes refl

-- two nodes are one where they have one number
node_test : (geometry : GeometryView) (level index other at : ℕ) → IsNode geometry level index → IsNode geometry other at →
    nat_eq (node_number geometry other at) (node_number geometry level index) ≡ (nat_eq other level && nat_eq at index)
node_test geometry level index other at node node' =
    same_from_decides (nat_eq (node_number geometry other at) (node_number geometry level index)) (nat_eq other level && nat_eq at index)
    (Decides-like (nat_eq (node_number geometry other at) (node_number geometry level index))
    (numbers_apart geometry other at level index node' node)
    (λ (same : (other ≡ level) × (at ≡ index)).
    ap (λ (k : ℕ). node_number geometry k at) same.0 ∙ ap (λ (i : ℕ). node_number geometry level i) same.1)
    (Decides-eqb (node_number geometry other at) (node_number geometry level index)))
    (Decides-and (nat_eq other level) (nat_eq at index) (Decides-eqb other level) (Decides-eqb at index))

true_false : (b : Bool) → b ≡ true → b ≡ false → ⊥
true_false true holds fails = absurd (cc)
true_false false holds fails = absurd (cc)

moved_node : (geometry : GeometryView) (level index other at : ℕ) → other ≡ level → at ≡ index → IsNode geometry level index → IsNode geometry other at
moved_node geometry level index other at same same' node = rw (same, same') node

-- a value that is there only where a test says so
guarded : {A : Type 0} (inside here : Bool) (value new old none : A) →
    (inside ≡ true → new ≡ cond here value old) → (inside ≡ false → here ≡ false) → cond inside new none ≡ cond here value (cond inside old none)
guarded true here value new old none changes outside = changes refl
guarded false here value new old none changes outside = rw (outside refl) refl

-- what changes under a node's number changes at that node alone
node_changes : {A : Type 0} (geometry : GeometryView) (level index other at : ℕ) (value new old none : A) → IsNode geometry level index →
    new ≡ cond (nat_eq (node_number geometry other at) (node_number geometry level index)) value old →
    cond (is_node geometry other at) new none ≡ cond (nat_eq other level && nat_eq at index) value (cond (is_node geometry other at) old none)
node_changes geometry level index other at value new old none node changes =
    guarded (is_node geometry other at) (nat_eq other level && nat_eq at index) value new old none
    (λ (h : is_node geometry other at ≡ true).
    changes ∙ ap (λ (b : Bool). cond b value old) (node_test geometry level index other at node ((is_node-Decides geometry other at).0 h)))
    (λ (h : is_node geometry other at ≡ false). false_from (nat_eq other level && nat_eq at index)
    (Decides-and (nat_eq other level) (nat_eq at index) (Decides-eqb other level) (Decides-eqb at index))
    (λ (same : (other ≡ level) × (at ≡ index)). true_false (is_node geometry other at)
    ((is_node-Decides geometry other at).1 (moved_node geometry level index other at same.0 same.1 node)) h))

-- a node is kept
node_bytes_at : (kept : HonestBusView) (nodes : List (ℕ × List ℕ)) (level index accesses : ℕ) (block : List ℕ) → IsNode kept.geometry level index →
    Keeps empty_node (node_number kept.geometry level index) block kept.nodes nodes → (place : Place) →
    place_bytes (record kept { nodes = nodes; accesses = accesses }) place ≡ at_place (Node level index) block (place_bytes kept) place
node_bytes_at kept nodes level index accesses block node keeps (Line line) = refl
node_bytes_at kept nodes level index accesses block node keeps (Node other at) =
    node_changes kept.geometry level index other at block _ _ empty_node node (keeps (node_number kept.geometry other at))

pub node_bytes : (kept : HonestBusView) (nodes : List (ℕ × List ℕ)) (level index accesses : ℕ) (block : List ℕ) → IsNode kept.geometry level index →
    Keeps empty_node (node_number kept.geometry level index) block kept.nodes nodes →
    place_bytes (record kept { nodes = nodes; accesses = accesses }) ≡ at_place (Node level index) block (place_bytes kept)
node_bytes kept nodes level index accesses block node keeps =
    functions_same _ _ (λ (place : Place). node_bytes_at kept nodes level index accesses block node keeps place)

-- the reads of a node are counted
node_reads_at : (kept : HonestBusView) (level index accesses count : ℕ) → IsNode kept.geometry level index → length kept.node_reads ≡ node_end kept.geometry → (place : Place) →
    place_reads (record kept { node_reads = slice_set kept.node_reads (node_number kept.geometry level index) count; accesses = accesses }) place
    ≡ at_place (Node level index) count (place_reads kept) place
node_reads_at kept level index accesses count node whole (Line line) = refl
node_reads_at kept level index accesses count node whole (Node other at) =
    node_changes kept.geometry level index other at count _ _ 0 node
    (count_set kept.node_reads (node_number kept.geometry level index) (node_number kept.geometry other at) count
    (omega (arith, whole, number_inside kept.geometry level index node)))

pub node_reads : (kept : HonestBusView) (level index accesses count : ℕ) → IsNode kept.geometry level index → length kept.node_reads ≡ node_end kept.geometry →
    place_reads (record kept { node_reads = slice_set kept.node_reads (node_number kept.geometry level index) count; accesses = accesses })
    ≡ at_place (Node level index) count (place_reads kept)
node_reads kept level index accesses count node whole =
    functions_same _ _ (λ (place : Place). node_reads_at kept level index accesses count node whole place)
