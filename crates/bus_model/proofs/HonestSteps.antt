-- The calls of an honest bus.
use Rattle.std.proofs.Common.{◌≡◌, ℕ, ◌<◌, Bool, true, false, cond, List, [], length, slice_index, slice_index_or, slice_set, replicate, inl, inr, None, arith, refl, ap, ◌∙◌, sym}
use Rattle.std.proofs.lemmas.Bool.{cases_lt}
use Rattle.std.proofs.lemmas.List.{get_or_default, get_or-replicate, length-replicate}
use Rattle.std.proofs.Math.ListN.{get_or-eq_default}
use Rattle.sec_base.specs.Count.{more_by}
use Rattle.sec_base.specs.Geometry.{GeometryView, IsNode, line_count, node_number, node_end}
use Rattle.sec_base.specs.Place.{at_place, zeros_of}
use Rattle.sec_base.specs.Evidence.{sealed_bytes}
use Rattle.sec_base.specs.declared.sealed.Sealed.{Sealed}
use Rattle.sec_base.specs.declared.place.Place.{Place}
use Rattle.sec_base.specs.declared.place.Place.TheVariants.{Line, Node}
use Rattle.sec_base.proofs.Numbers.{number_inside}
use Rattle.sec_base.proofs.SamePlaces.{at_place-same, functions_same}
use Rattle.bus_model.specs.BusHistory.{new_history, after_read, after_write}
use Rattle.bus_model.specs.HonestBus.{HonestBusView, Keeps, kept_at, empty_line, empty_node, is_node, place_bytes, place_reads, honest_history}
use Rattle.bus_model.proofs.Steps.{same_history, was_write, was_read}
use Rattle.bus_model.proofs.HonestPlaces.{line_bytes, line_reads, node_bytes, node_reads, of_node}

-- a bus as it is seen, but for its room, which is no part of what happened
abbrev pub seen : GeometryView → List (ℕ × Sealed) → List (ℕ × List ℕ) → List ℕ → List ℕ → ℕ → HonestBusView
seen geometry lines nodes line_reads node_reads accesses =
    record { geometry = geometry; lines = lines; nodes = nodes; room = 0; line_reads = line_reads; node_reads = node_reads; accesses = accesses }

-- a place that keeps its value
stays : {A : Type 0} (place : Place) (f g : Place → A) → ((other : Place) → g other ≡ f other) → g ≡ at_place place (f place) f
stays place f g same = functions_same g f same ∙ sym (at_place-same place (f place) f refl)

pub wrote_line : (kept : HonestBusView) (lines : List (ℕ × Sealed)) (line accesses : ℕ) (sealed : Sealed) → Keeps empty_line line sealed kept.lines lines →
    accesses ≡ more_by 1 kept.accesses →
    honest_history (record kept { lines = lines; accesses = accesses }) ≡ after_write (Line line) (sealed_bytes sealed) (honest_history kept)
wrote_line kept lines line accesses sealed keeps counted =
    was_write (Line line) (sealed_bytes sealed) (honest_history kept) _ _ accesses
    (line_bytes kept lines line accesses sealed keeps)
    (stays (Line line) (place_reads kept) _ same_reads)
    counted
  where
    same_reads : (place : Place) → place_reads (record kept { lines = lines; accesses = accesses }) place ≡ place_reads kept place
    same_reads (Line other) = refl
    same_reads (Node level index) = refl

pub wrote_node : (kept : HonestBusView) (nodes : List (ℕ × List ℕ)) (level index accesses : ℕ) (block : List ℕ) → IsNode kept.geometry level index →
    Keeps empty_node (node_number kept.geometry level index) block kept.nodes nodes → accesses ≡ more_by 1 kept.accesses →
    honest_history (record kept { nodes = nodes; accesses = accesses }) ≡ after_write (Node level index) block (honest_history kept)
wrote_node kept nodes level index accesses block node keeps counted =
    was_write (Node level index) block (honest_history kept) _ _ accesses
    (node_bytes kept nodes level index accesses block node keeps)
    (stays (Node level index) (place_reads kept) _ same_reads)
    counted
  where
    same_reads : (place : Place) → place_reads (record kept { nodes = nodes; accesses = accesses }) place ≡ place_reads kept place
    same_reads (Line line) = refl
    same_reads (Node other at) = refl

-- one more than a count in a list
one_more : (counts : List ℕ) (at was count : ℕ) → at < length counts → was ≡ slice_index_or counts at was → count ≡ more_by 1 was → count ≡ more_by 1 (slice_index counts at)
one_more counts at was count inside read rose = rose ∙ ap (more_by 1) (read ∙ get_or_default counts at was 0 inside)

pub read_line : (kept : HonestBusView) (line accesses was count : ℕ) (sealed : Sealed) → line < line_count kept.geometry → length kept.line_reads ≡ line_count kept.geometry →
    sealed ≡ kept_at empty_line kept.lines line → accesses ≡ more_by 1 kept.accesses →
    was ≡ slice_index_or kept.line_reads line was → count ≡ more_by 1 was →
    honest_history (record kept { line_reads = slice_set kept.line_reads line count; accesses = accesses }) ≡ after_read (Line line) (sealed_bytes sealed) (honest_history kept)
read_line kept line accesses was count sealed inside whole answer counted read rose =
    was_read (Line line) (sealed_bytes sealed) (honest_history kept) _ _ accesses
    (stays (Line line) (place_bytes kept) _ same_bytes)
    (line_reads kept line accesses count (omega arith) ∙ ap (λ (n : ℕ). at_place (Line line) n (place_reads kept)) (one_more kept.line_reads line was count (omega arith) read rose))
    counted
    (ap sealed_bytes answer)
  where
    same_bytes : (place : Place) → place_bytes (record kept { line_reads = slice_set kept.line_reads line count; accesses = accesses }) place ≡ place_bytes kept place
    same_bytes (Line other) = refl
    same_bytes (Node level index) = refl

pub read_node : (kept : HonestBusView) (level index accesses was count : ℕ) (block : List ℕ) → IsNode kept.geometry level index → length kept.node_reads ≡ node_end kept.geometry →
    block ≡ kept_at empty_node kept.nodes (node_number kept.geometry level index) → accesses ≡ more_by 1 kept.accesses →
    was ≡ slice_index_or kept.node_reads (node_number kept.geometry level index) was → count ≡ more_by 1 was →
    honest_history (record kept { node_reads = slice_set kept.node_reads (node_number kept.geometry level index) count; accesses = accesses })
    ≡ after_read (Node level index) block (honest_history kept)
read_node kept level index accesses was count block node whole answer counted read rose =
    was_read (Node level index) block (honest_history kept) _ _ accesses
    (stays (Node level index) (place_bytes kept) _ same_bytes)
    (node_reads kept level index accesses count node whole
    ∙ ap (λ (n : ℕ). at_place (Node level index) n (place_reads kept))
    (one_more kept.node_reads (node_number kept.geometry level index) was count (omega (arith, whole, number_inside kept.geometry level index node)) read rose
    ∙ ap (more_by 1) (sym (of_node kept.geometry level index _ 0 node))))
    counted
    (answer ∙ sym (of_node kept.geometry level index _ empty_node node))
  where
    same_bytes : (place : Place) →
        place_bytes (record kept { node_reads = slice_set kept.node_reads (node_number kept.geometry level index) count; accesses = accesses }) place ≡ place_bytes kept place
    same_bytes (Line line) = refl
    same_bytes (Node other at) = refl

-- each count of a new list is none
no_count : (count at : ℕ) → slice_index (replicate count 0) at ≡ 0
no_count count at =
    elim (cases_lt at count) [
      | inl inside ↦ get_or-replicate count at 0 0 inside
      | inr outside ↦ get_or-eq_default (replicate count 0) 0 (omega (arith, length-replicate {A = ℕ} count 0))
    ]

either : {A : Type 0} (b : Bool) (x y : A) → x ≡ y → cond b x y ≡ y
either true x y same = same
either false x y same = refl

-- before the first call nothing was written and nothing read
pub history_new : (kept : HonestBusView) (geometry : GeometryView) (line_reads node_reads : ℕ) → kept.geometry ≡ geometry → kept.lines ≡ [] → kept.nodes ≡ [] →
    kept.line_reads ≡ replicate line_reads 0 → kept.node_reads ≡ replicate node_reads 0 → kept.accesses ≡ 0 → honest_history kept ≡ new_history geometry
history_new kept geometry line_reads node_reads is lines nodes line_counts node_counts none =
    rw (← is) (same_history (new_history kept.geometry) kept.geometry kept.accesses 0 None zeros_of (place_bytes kept) (λ (place : Place). 0) (place_reads kept)
    (functions_same (place_bytes kept) zeros_of new_bytes)
    (functions_same (place_reads kept) (λ (place : Place). 0) new_reads)
    (rw none refl))
  where
    new_bytes : (place : Place) → place_bytes kept place ≡ zeros_of place
    new_bytes (Line line) = rw lines refl
    new_bytes (Node level index) = rw nodes (either (is_node kept.geometry level index) empty_node empty_node refl)

    new_reads : (place : Place) → place_reads kept place ≡ 0
    new_reads (Line line) = rw line_counts (no_count line_reads line)
    new_reads (Node level index) =
        rw node_counts (either (is_node kept.geometry level index) _ 0 (no_count node_reads (node_number kept.geometry level index)))
