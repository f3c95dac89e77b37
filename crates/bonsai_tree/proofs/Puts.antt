-- The tree fits still where copies come and go, and where a node is written and its tag put into its parent's copy.
use Rattle.std.proofs.Common.{◌≡◌, ◌≢◌, ◌⊎◌, inl, inr, ℕ, ◌+◌, ◌/◌, ◌<◌, true, false, List, length, Option, Some, None, refl, ap, sym, ◌∙◌, subst, arith}
use Rattle.std.proofs.lemmas.Bool.{cases_lt}
use Rattle.sec_base.specs.Geometry.{GeometryView, IsNode, arity, slot}
use Rattle.sec_base.specs.LastMessage.{last_node}
use Rattle.sec_base.specs.declared.message.Message.{Message}
use Rattle.sec_base.specs.declared.message.Message.TheVariants.{Node}
use Rattle.sec_base.specs.declared.place.Place.{Place}
use Rattle.sec_base.specs.declared.place.Place.TheVariants.{Node as node_place}
use Rattle.sec_base.specs.Tag.{IsTag}
use Rattle.sec_base.proofs.Numbers.{parent_is}
use Rattle.sec_base.proofs.Slots.{parts_same, slot_inside}
use Rattle.bonsai_tree.specs.Node.{CachedNode, block_or_zeros, current_of, tag_in_slot, tag_of_last, with_tag}
use Rattle.bonsai_tree.specs.Tree.{TreeView, IsTree, cached_node, current_block, kept_tag}
use Rattle.bonsai_tree.proofs.Nodes.{SameNode, kept_as, kept_below, kept_top, same_or_not, top_as}
use Rattle.bonsai_tree.proofs.SlotTags.{slot_same, slot_other, with_tag_long}

-- other copies, but the same current blocks
pub tree_recached : (tag_of : Message → List ℕ) (tree tree' : TreeView) (made : List Message) (written : Place → List ℕ) → IsTree tag_of tree made written →
    tree'.geometry ≡ tree.geometry → tree'.root ≡ tree.root →
    ((level index : ℕ) → IsNode tree.geometry level index → current_block tree' made level index ≡ current_block tree made level index) →
    ((level index : ℕ) (copy : CachedNode) → IsNode tree.geometry level index → cached_node tree' level index ≡ Some copy → copy.changed ≡ false →
    copy.block ≡ block_or_zeros (last_node level index made)) →
    IsTree tag_of tree' made written
tree_recached tag_of tree tree' made written was geometry root same clean =
    let node_as : (level index : ℕ) → IsNode tree'.geometry level index → IsNode tree.geometry level index =
    λ level index node. subst (λ (k : GeometryView). IsNode k level index) geometry node in
    record {
      slots = λ level index node.
          elim (cases_lt level tree.geometry.levels) [
            | inl below ↦
                kept_as tree' tree.geometry made level index geometry below
                ∙ ap (λ (block : List ℕ). tag_in_slot tree.geometry (slot tree.geometry index) block) (same (level + 1) (index / arity tree.geometry) (parent_is tree.geometry level index (node_as level index node) below))
                ∙ sym (kept_below tree made level index below) ∙ was.slots level index (node_as level index node)
            | inr top ↦
                top_as tree' tree.geometry made level index geometry top ∙ root ∙ sym (kept_top tree made level index top)
                ∙ was.slots level index (node_as level index node)
          ];
      stored = λ level index node. was.stored level index (node_as level index node);
      clean = λ level index copy node found. clean level index copy (node_as level index node) found;
      long = λ level index node.
          ap (λ (block : List ℕ). length block) (same level index (node_as level index node)) ∙ was.long level index (node_as level index node);
    }

-- a node was made with a block and written, and no other
pub record IsPut (level index : ℕ) (block : List ℕ) (made made' : List Message) (written written' : Place → List ℕ) : Type 0 where
  pub own : last_node level index made' ≡ Some block
  pub stored : written' (node_place level index) ≡ block
  pub others : (other at : ℕ) → ¬ (SameNode level index other at) → last_node other at made' ≡ last_node other at made
  pub stays : (other at : ℕ) → ¬ (SameNode level index other at) → written' (node_place other at) ≡ written (node_place other at)

-- a tag was put into its slot in the copy of a node's parent
pub record PutsTag (tree tree' : TreeView) (level index : ℕ) (tag : List ℕ) : Type 0 where
  pub geometry : tree'.geometry ≡ tree.geometry
  pub root : tree'.root ≡ tree.root
  pub copy : CachedNode
  pub held : cached_node tree (level + 1) (index / arity tree.geometry) ≡ Some copy
  pub put : cached_node tree' (level + 1) (index / arity tree.geometry) ≡ Some (record { block = with_tag tree.geometry (slot tree.geometry index) tag copy.block; changed = true })
  pub same : (other at : ℕ) → ¬ (SameNode (level + 1) (index / arity tree.geometry) other at) → cached_node tree' other at ≡ cached_node tree other at

current_own : (found : Option CachedNode) (last : Option (List ℕ)) (block : List ℕ) → current_of found last ≡ block → current_of found (Some block) ≡ block
current_own None last block is = refl
current_own (Some copy) last block is = is

long_own : (found : Option CachedNode) (last : Option (List ℕ)) (block : List ℕ) → length block ≡ 64 → length (current_of found last) ≡ 64 →
    length (current_of found (Some block)) ≡ 64
long_own None last block long was = long
long_own (Some copy) last block long was = was

-- a copy that is the current block
copy_own : (found : Option CachedNode) (copy : CachedNode) (last : Option (List ℕ)) (block : List ℕ) → found ≡ Some copy → current_of found last ≡ block → copy.block ≡ block
copy_own None copy last block none is = absurd (cc)
copy_own (Some other) copy last block some is = let same : copy ≡ other = cc in ap (λ (c : CachedNode). c.block) same ∙ is

no_copy : (tree : TreeView) (level index : ℕ) (copy : CachedNode) → level ≡ 0 → cached_node tree level index ≡ Some copy → ⊥
no_copy tree level index copy first found =
    let none : cached_node tree 0 index ≡ Some copy = ap (λ (k : ℕ). cached_node tree k index) (sym first) ∙ found in absurd (cc)

module _ (tag_of : Message → List ℕ) (tree tree' : TreeView) (made made' : List Message) (written written' : Place → List ℕ) (level index : ℕ) (block tag : List ℕ)
    (was : IsTree tag_of tree made written) (puts : PutsTag tree tree' level index tag) (put : IsPut level index block made made' written written')
    (below : level < tree.geometry.levels) (node : IsNode tree.geometry level index) (is_tag : tag ≡ tag_of (Node level index block)) (fits : IsTag tree.geometry.layout tag) (long : length block ≡ 64)
    (is_current : (level ≡ 0) ⊎ (current_block tree made level index ≡ block)) where
  -- the current block of any other node than the parent is the same
  current_same : (other at : ℕ) → 0 < other → ¬ (SameNode (level + 1) (index / arity tree.geometry) other at) → current_block tree' made' other at ≡ current_block tree made other at
  current_same other at some apart =
      ap (λ (o : Option CachedNode). current_of o (last_node other at made')) (puts.same other at apart)
      ∙ (elim (same_or_not level index other at) [
        | inr differs ↦ ap (λ (o : Option (List ℕ)). current_of (cached_node tree other at) o) (put.others other at differs)
        | inl same ↦ elim is_current [
          | inl first ↦ absurd (omega (arith, first, same.0))
          | inr is ↦
              let own : last_node other at made' ≡ Some block =
              ap (λ (k : ℕ). last_node k at made') same.0 ∙ ap (λ (i : ℕ). last_node level i made') same.1 ∙ put.own in
              let before : current_block tree made other at ≡ block =
              ap (λ (k : ℕ). current_block tree made k at) same.0 ∙ ap (λ (i : ℕ). current_block tree made level i) same.1 ∙ is in
              ap (λ (o : Option (List ℕ)). current_of (cached_node tree other at) o) own
              ∙ current_own (cached_node tree other at) (last_node other at made) block before ∙ sym before
        ]
      ])

  parent_long : length puts.copy.block ≡ 64
  parent_long =
      ap (λ (o : Option CachedNode). length (current_of o (last_node (level + 1) (index / arity tree.geometry) made))) (sym puts.held)
      ∙ was.long (level + 1) (index / arity tree.geometry) (parent_is tree.geometry level index node below)

  parent_block : current_block tree' made' (level + 1) (index / arity tree.geometry) ≡ with_tag tree.geometry (slot tree.geometry index) tag puts.copy.block
  parent_block = ap (λ (o : Option CachedNode). current_of o (last_node (level + 1) (index / arity tree.geometry) made')) puts.put

  own_slot : kept_tag tree' made' level index ≡ tag_of_last tag_of level index (last_node level index made')
  own_slot =
      kept_as tree' tree.geometry made' level index puts.geometry below
      ∙ ap (λ (b : List ℕ). tag_in_slot tree.geometry (slot tree.geometry index) b) parent_block
      ∙ slot_same tree.geometry (slot tree.geometry index) tag puts.copy.block (slot_inside tree.geometry.layout index) fits parent_long ∙ is_tag
      ∙ sym (ap (λ (o : Option (List ℕ)). tag_of_last tag_of level index o) put.own)

  sibling_slot : (at : ℕ) → at ≢ index → at / arity tree.geometry ≡ index / arity tree.geometry → IsNode tree.geometry level at →
      kept_tag tree' made' level at ≡ tag_of_last tag_of level at (last_node level at made')
  sibling_slot at differs sibling inside =
      let slots : slot tree.geometry at ≢ slot tree.geometry index =
      λ (same : slot tree.geometry at ≡ slot tree.geometry index). differs (parts_same tree.geometry.layout at index sibling same) in
      kept_as tree' tree.geometry made' level at puts.geometry below
      ∙ ap (λ (i : ℕ). tag_in_slot tree.geometry (slot tree.geometry at) (current_block tree' made' (level + 1) i)) sibling
      ∙ ap (λ (b : List ℕ). tag_in_slot tree.geometry (slot tree.geometry at) b) parent_block
      ∙ slot_other tree.geometry (slot tree.geometry index) tag puts.copy.block (slot_inside tree.geometry.layout index) fits parent_long (slot tree.geometry at) slots
      ∙ ap (λ (o : Option CachedNode). tag_in_slot tree.geometry (slot tree.geometry at) (current_of o (last_node (level + 1) (index / arity tree.geometry) made))) (sym puts.held)
      ∙ ap (λ (i : ℕ). tag_in_slot tree.geometry (slot tree.geometry at) (current_block tree made (level + 1) i)) (sym sibling)
      ∙ sym (kept_below tree made level at below) ∙ was.slots level at inside
      ∙ sym (ap (λ (o : Option (List ℕ)). tag_of_last tag_of level at o) (put.others level at (λ (same : SameNode level index level at). differs same.1)))

  other_slot : (lower at : ℕ) → ¬ (SameNode level index lower at) → ¬ (SameNode (level + 1) (index / arity tree.geometry) (lower + 1) (at / arity tree.geometry)) → IsNode tree.geometry lower at →
      kept_tag tree' made' lower at ≡ tag_of_last tag_of lower at (last_node lower at made')
  other_slot lower at differs apart inside =
      (elim (cases_lt lower tree.geometry.levels) [
        | inl less ↦
            kept_as tree' tree.geometry made' lower at puts.geometry less
            ∙ ap (λ (b : List ℕ). tag_in_slot tree.geometry (slot tree.geometry at) b) (current_same (lower + 1) (at / arity tree.geometry) (omega arith) apart)
            ∙ sym (kept_below tree made lower at less)
        | inr top ↦ top_as tree' tree.geometry made' lower at puts.geometry top ∙ puts.root ∙ sym (kept_top tree made lower at top)
      ])
      ∙ was.slots lower at inside
      ∙ sym (ap (λ (o : Option (List ℕ)). tag_of_last tag_of lower at o) (put.others lower at differs))

  slots_after : (lower at : ℕ) → IsNode tree.geometry lower at → kept_tag tree' made' lower at ≡ tag_of_last tag_of lower at (last_node lower at made')
  slots_after lower at inside =
      elim (same_or_not level index lower at) [
        | inl same ↦
            rw (same.0, same.1) own_slot
        | inr differs ↦ elim (same_or_not (level + 1) (index / arity tree.geometry) (lower + 1) (at / arity tree.geometry)) [
          | inr apart ↦ other_slot lower at differs apart inside
          | inl same ↦
              let here : lower ≡ level = omega (arith, same.0) in
              subst (λ (k : ℕ). kept_tag tree' made' k at ≡ tag_of_last tag_of k at (last_node k at made')) (sym here)
              (sibling_slot at (λ (e : at ≡ index). differs (here, e)) same.1 (subst (λ (k : ℕ). IsNode tree.geometry k at) here inside))
        ]
      ]

  stored_after : (other at : ℕ) → IsNode tree.geometry other at → written' (node_place other at) ≡ block_or_zeros (last_node other at made')
  stored_after other at inside =
      elim (same_or_not level index other at) [
        | inl same ↦
            ap (λ (k : ℕ). written' (node_place k at)) same.0 ∙ ap (λ (i : ℕ). written' (node_place level i)) same.1 ∙ put.stored
            ∙ sym (ap (λ (k : ℕ). block_or_zeros (last_node k at made')) same.0
            ∙ ap (λ (i : ℕ). block_or_zeros (last_node level i made')) same.1 ∙ ap block_or_zeros put.own)
        | inr apart ↦ put.stays other at apart ∙ was.stored other at inside ∙ sym (ap block_or_zeros (put.others other at apart))
      ]

  -- a copy that was not changed before
  clean_before : (other at : ℕ) (copy : CachedNode) → IsNode tree.geometry other at → cached_node tree other at ≡ Some copy → copy.changed ≡ false →
      copy.block ≡ block_or_zeros (last_node other at made')
  clean_before other at copy inside found unchanged =
      elim (same_or_not level index other at) [
        | inr apart ↦ was.clean other at copy inside found unchanged ∙ sym (ap block_or_zeros (put.others other at apart))
        | inl same ↦
            let own : last_node other at made' ≡ Some block =
            ap (λ (k : ℕ). last_node k at made') same.0 ∙ ap (λ (i : ℕ). last_node level i made') same.1 ∙ put.own in
            (elim is_current [
              | inl first ↦ absurd (no_copy tree other at copy (same.0 ∙ first) found)
              | inr is ↦
                  copy_own (cached_node tree other at) copy (last_node other at made) block found
                  (ap (λ (k : ℕ). current_block tree made k at) same.0 ∙ ap (λ (i : ℕ). current_block tree made level i) same.1 ∙ is)
            ])
            ∙ sym (ap block_or_zeros own)
      ]

  clean_after : (other at : ℕ) (copy : CachedNode) → IsNode tree.geometry other at → cached_node tree' other at ≡ Some copy → copy.changed ≡ false →
      copy.block ≡ block_or_zeros (last_node other at made')
  clean_after other at copy inside found unchanged =
      elim (same_or_not (level + 1) (index / arity tree.geometry) other at) [
        | inr apart ↦ clean_before other at copy inside (sym (puts.same other at apart) ∙ found) unchanged
        | inl same ↦
            let is : Some (record { block = with_tag tree.geometry (slot tree.geometry index) tag puts.copy.block; changed = true }) ≡ Some copy =
            sym (ap (λ (k : ℕ). cached_node tree' k at) same.0 ∙ ap (λ (i : ℕ). cached_node tree' (level + 1) i) same.1 ∙ puts.put) ∙ found in
            let changed : copy.changed ≡ true = cc in
            absurd (cc)
      ]

  long_after : (other at : ℕ) → IsNode tree.geometry other at → length (current_block tree' made' other at) ≡ 64
  long_after other at inside =
      elim (same_or_not (level + 1) (index / arity tree.geometry) other at) [
        | inl same ↦
            ap (λ (k : ℕ). length (current_block tree' made' k at)) same.0 ∙ ap (λ (i : ℕ). length (current_block tree' made' (level + 1) i)) same.1
            ∙ ap (λ (b : List ℕ). length b) parent_block ∙ with_tag_long tree.geometry (slot tree.geometry index) tag puts.copy.block (slot_inside tree.geometry.layout index) fits parent_long
        | inr apart ↦
            ap (λ (o : Option CachedNode). length (current_of o (last_node other at made'))) (puts.same other at apart)
            ∙ (elim (same_or_not level index other at) [
              | inr differs ↦
                  ap (λ (o : Option (List ℕ)). length (current_of (cached_node tree other at) o)) (put.others other at differs) ∙ was.long other at inside
              | inl same ↦
                  let own : last_node other at made' ≡ Some block =
                  ap (λ (k : ℕ). last_node k at made') same.0 ∙ ap (λ (i : ℕ). last_node level i made') same.1 ∙ put.own in
                  ap (λ (o : Option (List ℕ)). length (current_of (cached_node tree other at) o)) own
                  ∙ long_own (cached_node tree other at) (last_node other at made) block long (was.long other at inside)
            ])
      ]

  pub tree_put : IsTree tag_of tree' made' written'
  tree_put =
      let node_as : (other at : ℕ) → IsNode tree'.geometry other at → IsNode tree.geometry other at =
      λ other at inside. subst (λ (k : GeometryView). IsNode k other at) puts.geometry inside in
      record {
        slots = λ other at inside. slots_after other at (node_as other at inside);
        stored = λ other at inside. stored_after other at (node_as other at inside);
        clean = λ other at copy inside found. clean_after other at copy (node_as other at inside) found;
        long = λ other at inside. long_after other at (node_as other at inside);
      }
