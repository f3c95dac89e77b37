-- What holds of the nodes where lines alone are touched, and of the lines where nodes alone are.
use Rattle.std.proofs.Common.{◌≡◌, ◌≢◌, inl, inr, ℕ, cond, nat_lt, List, [], ◌∷◌, ◌++◌, length, Option, None, Contains, refl, ap, sym, ◌∙◌, arith}
use Rattle.std.proofs.lemmas.List.Elements.{Contains-append_cases, Contains-append_left}
use Rattle.sec_base.specs.declared.counter.Counter.{Counter}
use Rattle.sec_base.specs.declared.message.Message.{Message}
use Rattle.sec_base.specs.declared.message.Message.TheVariants.{Line, Node}
use Rattle.sec_base.specs.declared.place.Place.{Place}
use Rattle.sec_base.specs.declared.place.Place.TheVariants.{Line as line_place, Node as node_place}
use Rattle.sec_base.specs.Geometry.{GeometryView, parent, slot}
use Rattle.sec_base.specs.LastMessage.{data_pairs, last_node, node_part}
use Rattle.sec_base.specs.Place.{at_place}
use Rattle.sec_base.proofs.LastMessages.{last_of_other}
use Rattle.sec_base.proofs.SamePlaces.{at_place-there}
use Rattle.bus_model.specs.BusHistory.{BusHistory}
use Rattle.tag_engine.specs.TagEngine.{TagEngineView}
use Rattle.split_counter.specs.CounterBlock.{block_of}
use Rattle.bonsai_tree.specs.Node.{block_or_zeros, current_of, tag_in_slot, tag_of_last}
use Rattle.bonsai_tree.specs.Tree.{IsFetchPlace, IsTree, NodesAreMade, NodesHoldLast, TreeView, cached_node, current_block, kept_tag}
use Rattle.counter_cache.specs.Counters.{CountersView, HoldsCounters, cached_block, counters_in}
use Rattle.page_reencrypt.proofs.RisingPairs.{pair_listed}

-- A message of a line is none of a node.
pub last_node-line : (made : List Message) (line : ℕ) (counter : Counter) (cipher : List ℕ) (level index : ℕ) →
    last_node level index (made ++ Line line counter cipher ∷ []) ≡ last_node level index made
last_node-line made line counter cipher level index = last_of_other (node_part level index) made (Line line counter cipher) refl

-- and a line's place is none of a node
pub node_there : (line : ℕ) (bytes : List ℕ) (written : Place → List ℕ) (level index : ℕ) →
    at_place (line_place line) bytes written (node_place level index) ≡ written (node_place level index)
node_there line bytes written level index =
    let apart : node_place level index ≢ line_place line = λ e. absurd (cc) in
    at_place-there (line_place line) (node_place level index) bytes written apart

-- What was made for nodes still was, where more is made and their places hold what they held.
pub nodes_more : (geometry : GeometryView) (made more : List Message) (written written' : Place → List ℕ) → NodesAreMade geometry made written →
    ((level index : ℕ) → written' (node_place level index) ≡ written (node_place level index)) → NodesAreMade geometry (made ++ more) written'
nodes_more geometry made more written written' was same = record {
  holds = λ level index inside.
      rw (same level index) (elim (was.holds level index inside) [
        | inl zeros ↦ inl zeros
        | inr there ↦ inr (Contains-append_left made more (Node level index (written (node_place level index))) there)
      ]);
}

-- The last blocks stand at their places still, where these and those are the same.
pub nodes_last : (geometry : GeometryView) (made made' : List Message) (written written' : Place → List ℕ) → NodesHoldLast geometry made written →
    ((level index : ℕ) → written' (node_place level index) ≡ written (node_place level index)) →
    ((level index : ℕ) → last_node level index made' ≡ last_node level index made) → NodesHoldLast geometry made' written'
nodes_last geometry made made' written written' was same last = record {
  holds = λ level index block inside is. same level index ∙ was.holds level index block inside (sym (last level index) ∙ is);
}

-- And the tree fits still.
module _ (tag_of : Message → List ℕ) (tree : TreeView) (made made' : List Message) (written written' : Place → List ℕ)
    (same : (level index : ℕ) → written' (node_place level index) ≡ written (node_place level index))
    (last : (level index : ℕ) → last_node level index made' ≡ last_node level index made) where
  block_same : (level index : ℕ) → current_block tree made' level index ≡ current_block tree made level index
  block_same level index = ap (λ (l : Option (List ℕ)). current_of (cached_node tree level index) l) (last level index)

  kept_same : (level index : ℕ) → kept_tag tree made' level index ≡ kept_tag tree made level index
  kept_same level index =
      ap (λ (block : List ℕ). cond (nat_lt level tree.geometry.levels) (tag_in_slot tree.geometry (slot tree.geometry index) block) tree.root)
      (block_same (parent tree.geometry level index).0 (parent tree.geometry level index).1)

  pub tree_same : IsTree tag_of tree made written → IsTree tag_of tree made' written'
  tree_same was = record {
    slots = λ level index inside.
        kept_same level index ∙ was.slots level index inside
        ∙ ap (λ (l : Option (List ℕ)). tag_of_last tag_of level index l) (sym (last level index));
    stored = λ level index inside. same level index ∙ was.stored level index inside ∙ ap block_or_zeros (sym (last level index));
    clean = λ level index copy inside is unchanged. was.clean level index copy inside is unchanged ∙ ap block_or_zeros (sym (last level index));
    long = λ level index inside. ap length (block_same level index) ∙ was.long level index inside;
  }

-- So do the counters and the copies of their blocks.
pub fits_same : {T : Type 0} (tag_of : Message → List ℕ) (counters : CountersView) (old new : BusHistory) (engine engine' : TagEngineView T) →
    ((level index : ℕ) → new.written (node_place level index) ≡ old.written (node_place level index)) →
    ((level index : ℕ) → last_node level index engine'.made ≡ last_node level index engine.made) → (engine'.evidence ≡ None → engine.evidence ≡ None) →
    HoldsCounters (λ (e : TagEngineView T). tag_of) counters old engine → HoldsCounters (λ (e : TagEngineView T). tag_of) counters new engine'
fits_same tag_of counters old new engine engine' same last before was = record {
  tree = record {
    fits = λ quiet. tree_same tag_of counters.tree engine.made engine'.made old.written new.written same last (was.tree.fits (before quiet));
  };
  clean = λ quiet page copy found unchanged. was.clean (before quiet) page copy found unchanged ∙ ap block_or_zeros (sym (last 0 page));
}

pub counters_same : (counters : CountersView) (made made' : List Message) (page : ℕ) → last_node 0 page made' ≡ last_node 0 page made →
    counters_in counters made' page ≡ counters_in counters made page
counters_same counters made made' page last = ap (λ (l : Option (List ℕ)). block_of (current_of (cached_block counters page) l)) last

-- The place of a line is none that is read to have a page's counters.
pub not_node : {P : Type 0} (geometry : GeometryView) (page at : ℕ) → IsFetchPlace geometry page (line_place at) → P
not_node geometry page at (inl own) = let here : line_place at ≡ node_place 0 page = own in absurd (cc)
not_node geometry page at (inr from) = let here : line_place at ≡ node_place from.level from.index = from.place_is in absurd (cc)

-- Messages without lines

pub no_line : (more : List Message) (line : ℕ) (counter : Counter) (cipher : List ℕ) → data_pairs more ≡ [] → ¬ Contains more (Line line counter cipher)
no_line more line counter cipher none listed =
    let there = rw none at (pair_listed more line counter cipher listed) in
    omega (arith, there.1)

pub line_before : (made more : List Message) (line : ℕ) (counter : Counter) (cipher : List ℕ) → data_pairs more ≡ [] →
    Contains (made ++ more) (Line line counter cipher) → Contains made (Line line counter cipher)
line_before made more line counter cipher none listed =
    elim (Contains-append_cases made more (Line line counter cipher) listed) [
      | inl early ↦ early
      | inr late ↦ absurd (no_line more line counter cipher none late)
    ]
