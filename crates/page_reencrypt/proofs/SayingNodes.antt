-- What was made of nodes says tags of their children and counters of their lines, also where more was made and used.
use Rattle.std.proofs.Common.{◌≡◌, ◌⊎◌, inl, inr, ℕ, zero, suc, ◌<◌, ◌≤◌, List, [], ◌∷◌, ◌++◌, length, Option, Some, None, Contains, unwrap_or, refl, ap, arith}
use Rattle.std.proofs.lemmas.List.Elements.{Contains-append_cases, Contains-append_left}
use Rattle.sec_base.specs.Geometry.{GeometryView, page_count}
use Rattle.sec_base.specs.LastMessage.{data_pairs, last_node, last_pair}
use Rattle.sec_base.specs.declared.counter.Counter.{Counter}
use Rattle.sec_base.specs.declared.message.Message.{Message}
use Rattle.sec_base.specs.declared.message.Message.TheVariants.{Line, Node}
use Rattle.bus_model.specs.BusHistory.{BusHistory}
use Rattle.checked_bus.specs.Steps.{SameLines}
use Rattle.split_counter.specs.CounterBlock.{block_of, counter_of, place_of}
use Rattle.bonsai_tree.specs.Node.{CachedNode, current_of}
use Rattle.bonsai_tree.proofs.MadeSlots.{slots_on}
use Rattle.counter_cache.specs.Counters.{CountersView, OnlyLeavingIsMade, counters_in}
use Rattle.counter_cache.proofs.BlockCopies.{held_cached}
use Rattle.counter_cache.proofs.BlocksMade.{leaving_listed}
use Rattle.page_reencrypt.specs.Contents.{BlocksSayEntries, NodesSay, counter_in, never_written}
use Rattle.page_reencrypt.specs.SealedLines.{AreOfPages, IsOfPage}
use Rattle.page_reencrypt.proofs.RisingPairs.{last_listed}

-- Messages of lines alone

pairs_few : (more : List Message) → length (data_pairs more) ≤ length more
unfolding data_pairs
pairs_few [] = omega arith
pairs_few (Line line counter cipher ∷ more) = omega (arith, pairs_few more)
pairs_few (Node level index block ∷ more) = omega (arith, pairs_few more)

-- as many messages as pairs: none is of a node
no_node : (more : List Message) (level index : ℕ) (block : List ℕ) → length more ≤ length (data_pairs more) → ¬ Contains more (Node level index block)
unfolding data_pairs
no_node [] level index block lines listed = omega (arith, listed.1)
no_node (Line line counter cipher ∷ more) level index block lines (zero, within, there) = absurd (cc)
no_node (Line line counter cipher ∷ more) level index block lines (suc k, within, there) =
    no_node more level index block (omega (arith, lines)) (k, omega (arith, within), there)
no_node (Node at_level at bytes ∷ more) level index block lines listed = let few = pairs_few more in omega (arith, few, lines)

module _ (tag_of : Message → List ℕ) (geometry : GeometryView) (used entries : List (ℕ × Counter)) (made more : List Message)
    (lines : length more ≤ length (data_pairs more)) where
  node_before : (level index : ℕ) (block : List ℕ) → Contains (made ++ more) (Node level index block) → Contains made (Node level index block)
  node_before level index block listed =
      elim (Contains-append_cases made more (Node level index block) listed) [
        | inl early ↦ early
        | inr late ↦ absurd (no_node more level index block lines late)
      ]

  -- lines were tagged since, and entries were added
  pub say_on : NodesSay tag_of geometry used made → NodesSay tag_of geometry (used ++ entries) (made ++ more)
  say_on was = record {
    slots = slots_on tag_of geometry made more (λ level index block. no_node more level index block lines) was.slots;
    blocks = record {
      said = λ page line block listed of_page.
          elim (was.blocks.said page line block (node_before 0 page block listed) of_page) [
            | inl none ↦ inl none
            | inr there ↦ inr (Contains-append_left used entries (line, counter_of (place_of line) (block_of block)) there)
          ];
    };
  }

-- the last entry of a line, if it has one
last_or_none : (used : List (ℕ × Counter)) (line : ℕ) (last : Option Counter) → last_pair line used ≡ last →
    (counter_in used line ≡ never_written) ⊎ Contains used (line, counter_in used line)
last_or_none used line None is = inl (ap (λ (l : Option Counter). unwrap_or l never_written) is)
last_or_none used line (Some last) is = inr (rw is (last_listed line used last is))

-- so blocks say entries still where counters were had
pub says_had : (geometry : GeometryView) (used : List (ℕ × Counter)) (counters : CountersView) (page : ℕ) (old new : BusHistory) (made made' : List Message) →
    SameLines old made new made' → AreOfPages geometry counters → ((other : ℕ) → other < page_count geometry → IsOfPage used other (counters_in counters made other)) →
    OnlyLeavingIsMade counters page made made' → BlocksSayEntries used made → BlocksSayEntries used made'
says_had geometry used counters page old new made made' lines pages says only was = record {
  said = λ other line block listed of_page.
      elim (Contains-append_cases made lines.more (Node 0 other block) (rw lines.made_more at listed)) [
        | inl early ↦ was.said other line block early of_page
        | inr late ↦
            let copy = (leaving_listed counters page made made' lines.more other block only lines.made_more late).1 in
            let here : counters_in counters made other ≡ block_of block = ap (λ (c : Option CachedNode). block_of (current_of c (last_node 0 other made))) copy in
            rw (← ap (counter_of (place_of line)) here, ← says other (pages other (held_cached counters other (λ none. cc))) line of_page)
            (last_or_none used line (last_pair line used) refl)
      ];
}
