-- Nodes that were made have in their slots the tags of the last messages of their children.
use Rattle.std.proofs.Common.{◌≡◌, ◌⊎◌, inl, inr, ℕ, ◌+◌, ◌-◌, ◌/◌, ◌<◌, List, [], ◌∷◌, ◌++◌, Contains, refl, ap, sym, ◌∙◌, subst, arith}
use Rattle.std.proofs.lemmas.List.{append-nil}
use Rattle.std.proofs.lemmas.List.Elements.{Contains-append_right}
use Rattle.sec_base.specs.Geometry.{GeometryView, IsNode, arity, child}
use Rattle.sec_base.specs.LastMessage.{last_node}
use Rattle.sec_base.specs.declared.message.Message.{Message}
use Rattle.sec_base.specs.declared.message.Message.TheVariants.{Node}
use Rattle.sec_base.specs.declared.place.Place.{Place}
use Rattle.sec_base.proofs.Numbers.{child_is}
use Rattle.sec_base.proofs.Slots.{child_above, child_slot}
use Rattle.bonsai_tree.specs.Node.{tag_in_slot, tag_of_last}
use Rattle.bonsai_tree.specs.Tree.{IsTree, SlotsAreTags, TreeView, current_block}
use Rattle.bonsai_tree.proofs.Nodes.{kept_below}

-- an item of two lists, one after the other, stands in the first or in the second
pub item_in : {A : Type 0} (front more before after : List A) (item : A) → front ++ more ≡ before ++ item ∷ after →
    ((rest : List A) × (front ≡ before ++ item ∷ rest)) ⊎ ((rest : List A) × (before ≡ front ++ rest) × (more ≡ rest ++ item ∷ after))
item_in [] more before after item is = inr (before, refl, is)
item_in (x ∷ front) more [] after item is = let same : x ≡ item = cc in inl (front, ap (λ y. y ∷ front) same)
item_in (x ∷ front) more (y ∷ before) after item is =
    let same : x ≡ y = cc in
    let rest_is : front ++ more ≡ before ++ item ∷ after = cc in
    elim (item_in front more before after item rest_is) [
      | inl first ↦ let here : x ∷ front ≡ y ∷ before ++ item ∷ first.0 = cc in inl (first.0, here)
      | inr second ↦ let here : y ∷ before ≡ x ∷ front ++ second.0 = cc in inr (second.0, here, second.2)
    ]

none_is : {A : Type 0} (before after : List A) (item : A) → ¬ ([] ≡ before ++ item ∷ after)
none_is [] after item is = cc
none_is (x ∷ before) after item is = cc

one_item : {A : Type 0} (only item : A) (before after : List A) → only ∷ [] ≡ before ++ item ∷ after → (before ≡ []) × (only ≡ item)
one_item only item [] after is = let same : only ≡ item = cc in (refl, same)
one_item only item (x ∷ before) after is = let none : [] ≡ before ++ item ∷ after = cc in absurd (none_is before after item none)

module _ (tag_of : Message → List ℕ) where
  pub slots_none : (geometry : GeometryView) → SlotsAreTags tag_of geometry []
  slots_none geometry = record { tagged = λ before after level index at block is inside. absurd (none_is before after (Node (level + 1) index block) is) }

  -- more messages, of no node
  pub slots_on : (geometry : GeometryView) (made more : List Message) → ((level index : ℕ) (block : List ℕ) → ¬ Contains more (Node level index block)) →
      SlotsAreTags tag_of geometry made → SlotsAreTags tag_of geometry (made ++ more)
  slots_on geometry made more no_node was = record {
    tagged = λ before after level index at block splits inside.
        elim (item_in made more before after (Node (level + 1) index block) splits) [
          | inl first ↦ was.tagged before first.0 level index at block first.1 inside
          | inr second ↦
              absurd (no_node (level + 1) index block
              (subst (λ (m : List Message). Contains m (Node (level + 1) index block)) (sym second.2)
              (Contains-append_right second.0 (Node (level + 1) index block ∷ after) (Node (level + 1) index block) (0, omega arith, refl))))
        ];
  }

  -- one message more
  pub slots_more : (geometry : GeometryView) (made : List Message) (level index : ℕ) (block : List ℕ) → SlotsAreTags tag_of geometry made →
      ((lower at : ℕ) → level ≡ lower + 1 → at < arity geometry →
      tag_in_slot geometry at block ≡ tag_of_last tag_of lower (child geometry index at) (last_node lower (child geometry index at) made)) →
      SlotsAreTags tag_of geometry (made ++ Node level index block ∷ [])
  slots_more geometry made level index block was own = record {
    tagged = λ before after lower parent at bytes splits inside.
        elim (item_in made (Node level index block ∷ []) before after (Node (lower + 1) parent bytes) splits) [
          | inl first ↦ was.tagged before first.0 lower parent at bytes first.1 inside
          | inr second ↦
              let one : (second.0 ≡ []) × (Node level index block ≡ Node (lower + 1) parent bytes) =
              one_item (Node level index block) (Node (lower + 1) parent bytes) second.0 after second.2 in
              let same : Node level index block ≡ Node (lower + 1) parent bytes = one.1 in
              let level_same : level ≡ lower + 1 = cc in
              let index_same : index ≡ parent = cc in
              let block_same : block ≡ bytes = cc in
              let before_is : made ≡ before = sym (second.1 ∙ ap (λ (m : List Message). made ++ m) one.0 ∙ append-nil made) in
              subst (λ (m : List Message). tag_in_slot geometry at bytes ≡ tag_of_last tag_of lower (child geometry parent at) (last_node lower (child geometry parent at) m)) before_is
              (subst (λ (i : ℕ). tag_in_slot geometry at bytes ≡ tag_of_last tag_of lower (child geometry i at) (last_node lower (child geometry i at) made)) index_same
              (subst (λ (b : List ℕ). tag_in_slot geometry at b ≡ tag_of_last tag_of lower (child geometry index at) (last_node lower (child geometry index at) made)) block_same
              (own lower at level_same inside)))
        ];
  }

  -- where the tree fits, each slot of a node's current block has the tag that is kept of the child
  pub current_slots : (tree : TreeView) (made : List Message) (written : Place → List ℕ) (level index at : ℕ) → IsTree tag_of tree made written →
      IsNode tree.geometry (level + 1) index → at < arity tree.geometry →
      tag_in_slot tree.geometry at (current_block tree made (level + 1) index)
      ≡ tag_of_last tag_of level (child tree.geometry index at) (last_node level (child tree.geometry index at) made)
  current_slots tree made written level index at fits node inside =
      let back : level + 1 - 1 ≡ level = omega arith in
      let below : ℕ = child tree.geometry index at in
      let is_node : IsNode tree.geometry level below =
      subst (λ (k : ℕ). IsNode tree.geometry k below) back (child_is tree.geometry (level + 1) index at node (omega arith) inside) in
      sym (ap (λ (s : ℕ). tag_in_slot tree.geometry s (current_block tree made (level + 1) (below / arity tree.geometry))) (child_slot tree.geometry.layout index at inside)
      ∙ ap (λ (i : ℕ). tag_in_slot tree.geometry at (current_block tree made (level + 1) i)) (child_above tree.geometry.layout index at inside))
      ∙ sym (kept_below tree made level below (omega (arith, node.0)))
      ∙ fits.slots level below is_node
