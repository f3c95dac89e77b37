-- What is read of the tree, and what is not changed.
use Rattle.std.proofs.Common.{◌≡◌, ◌≢◌, ◌⊎◌, inl, inr, ℕ, ◌+◌, ◌*◌, ◌/◌, ◌^◌, ◌<◌, ◌≤◌, Bool, true, false, cond, nat_lt, List, Option, Some, None, Result, Ok, Err, refl, ap, sym, ◌∙◌, subst, arith}
use Rattle.std.specs.Option.{option_or}
use Rattle.std.proofs.lemmas.Bool.{cases_eq}
use Rattle.std.proofs.lemmas.Grind.{pow_more}
use Rattle.std.proofs.Math.Nat.{div-div-eq-div-mul, div-one, mul_comm, pow-zero}
use Rattle.std.proofs.lemmas.Bool.Decides.{Decides-ltb}
use Rattle.sec_base.specs.Evidence.{evidence_place}
use Rattle.sec_base.specs.Geometry.{GeometryView, IsNode, arity, slot}
use Rattle.sec_base.specs.LastMessage.{last_node}
use Rattle.sec_base.specs.declared.evidence.Evidence.{Evidence}
use Rattle.sec_base.specs.declared.message.Message.{Message}
use Rattle.sec_base.specs.declared.place.Place.{Place}
use Rattle.sec_base.specs.declared.place.Place.TheVariants.{Node as node_place}
use Rattle.sec_base.specs.declared.stop.MemStop.{MemStop}
use Rattle.sec_base.specs.declared.stop.MemStop.TheVariants.{Tampered, Spent, NoMemory}
use Rattle.bus_model.specs.Access.{Access}
use Rattle.bus_model.specs.BusHistory.{BusHistory}
use Rattle.tag_engine.specs.TagEngine.{TagEngineView, collision_of, tags_of}
use Rattle.tag_engine.proofs.Collisions.{collides}
use Rattle.checked_bus.specs.Checks.{IsCheckedNode}
use Rattle.checked_bus.specs.Steps.{Moves}
use Rattle.bonsai_tree.specs.KeptRead.{IsKeptNode}
use Rattle.bonsai_tree.specs.Node.{block_or_zeros, path_index, tag_in_slot, tag_of_last}
use Rattle.bonsai_tree.specs.Tree.{TreeView, IsTree, above, current_block, kept_tag}

-- Two nodes are the same
abbrev pub SameNode : ℕ → ℕ → ℕ → ℕ → Type 0
SameNode level index other at = (other ≡ level) × (at ≡ index)

pub same_or_not : (level index other at : ℕ) → SameNode level index other at ⊎ ¬ (SameNode level index other at)
same_or_not level index other at =
    elim (cases_eq other level) [
      | inr differs ↦ inr (λ (same : SameNode level index other at). differs same.0)
      | inl level_same ↦ elim (cases_eq at index) [
        | inr differs ↦ inr (λ (same : SameNode level index other at). differs same.1)
        | inl index_same ↦ inl (level_same, index_same)
      ]
    ]

-- below the top a tag is kept in the parent's current block, and at the top in the root register
pub kept_below : (tree : TreeView) (made : List Message) (lower at : ℕ) → lower < tree.geometry.levels →
    kept_tag tree made lower at ≡ tag_in_slot tree.geometry (slot tree.geometry at) (current_block tree made (lower + 1) (at / arity tree.geometry))
kept_below tree made lower at below =
    let test : nat_lt lower tree.geometry.levels ≡ true = (Decides-ltb lower tree.geometry.levels).1 below in
    ap (λ (b : Bool). cond b (tag_in_slot tree.geometry (slot tree.geometry at) (current_block tree made (lower + 1) (at / arity tree.geometry))) tree.root) test

-- of a tree of the same geometry
pub kept_as : (tree : TreeView) (geometry : GeometryView) (made : List Message) (lower at : ℕ) → tree.geometry ≡ geometry → lower < geometry.levels →
    kept_tag tree made lower at ≡ tag_in_slot geometry (slot geometry at) (current_block tree made (lower + 1) (at / arity geometry))
kept_as tree geometry made lower at same below =
    kept_below tree made lower at (subst (λ (k : GeometryView). lower < k.levels) (sym same) below)
    ∙ ap (λ (k : GeometryView). tag_in_slot k (slot k at) (current_block tree made (lower + 1) (at / arity k))) same

not_below : (b : Bool) (x y : List ℕ) → (b ≡ true → ⊥) → cond b x y ≡ y
not_below true x y no_way = absurd (no_way refl)
not_below false x y no_way = refl

pub kept_top : (tree : TreeView) (made : List Message) (lower at : ℕ) → tree.geometry.levels ≤ lower → kept_tag tree made lower at ≡ tree.root
kept_top tree made lower at top =
    not_below (nat_lt lower tree.geometry.levels) _ tree.root
    (λ (below : nat_lt lower tree.geometry.levels ≡ true). let less : lower < tree.geometry.levels = (Decides-ltb lower tree.geometry.levels).0 below in absurd (omega arith))

-- of a tree of the same geometry
pub top_as : (tree : TreeView) (geometry : GeometryView) (made : List Message) (lower at : ℕ) → tree.geometry ≡ geometry → geometry.levels ≤ lower →
    kept_tag tree made lower at ≡ tree.root
top_as tree geometry made lower at same top = kept_top tree made lower at (subst (λ (k : GeometryView). k.levels ≤ lower) (sym same) top)

-- Results

pub some_not_none : (evidence : Option Evidence) (shown : Evidence) → evidence ≡ Some shown → evidence ≢ None
some_not_none evidence shown some none = cc

-- A read of a node

found_by : (tag_of : Message → List ℕ) (made : List Message) (level index : ℕ) (block tag : List ℕ) (before : Option Evidence) (evidence : Evidence) → before ≡ None →
    option_or before (collision_of tag_of made level index block tag true) ≡ Some evidence → evidence_place evidence ≡ node_place level index
found_by tag_of made level index block tag None evidence none shown =
    ap evidence_place (collides tag_of made level index block tag evidence shown).is
found_by tag_of made level index block tag (Some first) evidence none shown = absurd (cc)

-- what a read of a node finds is of the node
pub node_found : {T : Type 0} (tag_of : Message → List ℕ) (level index : ℕ) (tag : List ℕ) (accesses : List Access) (engine engine' : TagEngineView T)
    (result : Result (List ℕ) MemStop) → IsCheckedNode tag_of level index tag accesses engine engine' result →
    (evidence : Evidence) → engine.evidence ≡ None → engine'.evidence ≡ Some evidence → evidence_place evidence ≡ node_place level index
node_found {T} tag_of level index tag accesses engine engine' (Ok answer) passed evidence none shown =
    found_by tag_of engine.made level index passed.block tag engine.evidence evidence none
    (sym (ap (λ (e : TagEngineView T). e.evidence) passed.checked) ∙ shown)
node_found {T} tag_of level index tag accesses engine engine' (Err (Tampered place)) failed evidence none shown =
    let same : engine'.evidence ≡ engine.evidence = ap (λ (e : TagEngineView T). e.evidence) failed.1.unchanged in absurd (cc)
node_found tag_of level index tag accesses engine engine' (Err (Spent page)) refused evidence none shown = absurd refused
node_found {T} tag_of level index tag accesses engine engine' (Err NoMemory) refused evidence none shown =
    let same : engine'.evidence ≡ engine.evidence = ap (λ (e : TagEngineView T). e.evidence) refused.1 in absurd (cc)

-- moves leave the tags
pub same_tags : {T : Type 0} (d n : T → List ℕ → List ℕ) (old new : BusHistory) (engine engine' : TagEngineView T) → Moves old engine new engine' →
    tags_of d n engine' ≡ tags_of d n engine
same_tags {T} d n old new engine engine' moves =
    ap (λ (tagger : T). tags_of d n (record engine' { tagger = tagger })) moves.tagger
    ∙ ap (λ (geometry : GeometryView). tags_of d n (record engine { geometry = geometry })) moves.geometry

kept_by : (tag_of : Message → List ℕ) (made : List Message) (written : Place → List ℕ) (level index : ℕ) (tag : List ℕ) (last : Option (List ℕ)) →
    last_node level index made ≡ last → tag ≡ tag_of_last tag_of level index last → written (node_place level index) ≡ block_or_zeros last →
    IsKeptNode tag_of made written level index tag
kept_by tag_of made written level index tag None is tagged stored = inl (tagged, is)
kept_by tag_of made written level index tag (Some block) is tagged stored =
    inr (record { block = block; last = is; tagged = tagged; stored = stored })

-- where the tree fits, the tag that is kept of a node is that of its last block, or zeros where it was never made
pub is_kept : (tag_of : Message → List ℕ) (tree : TreeView) (made : List Message) (written : Place → List ℕ) (level index : ℕ) →
    IsNode tree.geometry level index → IsTree tag_of tree made written → IsKeptNode tag_of made written level index (kept_tag tree made level index)
is_kept tag_of tree made written level index node fits =
    kept_by tag_of made written level index (kept_tag tree made level index) (last_node level index made) refl
    (fits.slots level index node) (fits.stored level index node)

pub above_none : (geometry : GeometryView) (index : ℕ) → above geometry index 0 ≡ index
above_none geometry index = ap (λ (n : ℕ). index / n) (pow-zero (arity geometry)) ∙ div-one index

-- a path that goes on from the node above
pub path_up : (geometry : GeometryView) (page level more : ℕ) → level ≡ 1 + more → path_index geometry level page ≡ above geometry (page / arity geometry) more
path_up geometry page level more is =
    let slots : ℕ = arity geometry in
    let exponent : slots ^ level ≡ slots * slots ^ more =
    ap (λ (n : ℕ). slots ^ n) (is ∙ (omega arith)) ∙ pow_more slots more ∙ mul_comm (slots ^ more) slots in
    ap (λ (n : ℕ). page / n) exponent ∙ sym (div-div-eq-div-mul page slots (slots ^ more))
