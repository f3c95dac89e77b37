-- A tree of which nothing was made.
use Rattle.std.proofs.Common.{◌≡◌, ℕ, ◌+◌, ◌-◌, ◌*◌, ◌/◌, ◌<◌, ◌≤◌, inl, inr, List, [], ◌++◌, length, take, replicate, Option, Some, None, refl, ap, sym, ◌∙◌, subst, arith}
use Rattle.std.specs.Option.{option_map}
use Rattle.std.proofs.lemmas.Bool.{cases_lt}
use Rattle.std.proofs.lemmas.List.{drop-replicate, replicate-append-replicate, take-replicate}
use Rattle.sec_base.specs.Geometry.{GeometryView, IsNode, arity, slot, slot_len}
use Rattle.sec_base.specs.LastMessage.{last_at, last_node}
use Rattle.sec_base.specs.declared.message.Message.{Message}
use Rattle.sec_base.specs.declared.sealed.TheConstants.{TAG_LEN}
use Rattle.sec_base.specs.declared.place.Place.TheVariants.{Node as node_place}
use Rattle.sec_base.proofs.Slots.{slot_ends, slot_inside, slot_short}
use Rattle.bus_model.specs.BusHistory.{BusHistory, NothingWritten}
use Rattle.tag_engine.specs.TagEngine.{TagEngineView, tags_of}
use Rattle.bonsai_tree.specs.Node.{CachedNode, block_or_zeros, current_of, no_block, no_tag, tag_in_slot, tag_of_last}
use Rattle.bonsai_tree.specs.NodeCache.{AreEmpty, copy_of}
use Rattle.bonsai_tree.specs.Tree.{HoldsTree, TreeView, cached_node, current_block, kept_tag}
use Rattle.bonsai_tree.proofs.Nodes.{kept_below, kept_top}

none_last : (level index : ℕ) → last_node level index [] ≡ None
unfolding last_at
none_last level index = refl

-- each slot of a block of zeros is zeros
zero_slot : (geometry : GeometryView) (slot : ℕ) → slot < arity geometry → tag_in_slot geometry slot no_block ≡ no_tag
zero_slot geometry slot inside =
    let short : slot_len geometry ≤ TAG_LEN = slot_short geometry.layout in
    let whole : slot_len geometry + (TAG_LEN - slot_len geometry) ≡ TAG_LEN = omega (arith, short) in
    let rest : List ℕ = replicate (TAG_LEN - slot_len geometry) 0 in
    ap (λ (xs : List ℕ). take (slot_len geometry) xs ++ rest) (drop-replicate (slot_len geometry * slot) 64 0)
    ∙ ap (λ (xs : List ℕ). xs ++ rest)
    (take-replicate (slot_len geometry) (64 - slot_len geometry * slot) 0 (omega (arith, slot_ends geometry.layout slot inside)))
    ∙ replicate-append-replicate (slot_len geometry) (TAG_LEN - slot_len geometry) 0
    ∙ ap (λ (n : ℕ). replicate n 0) whole

module _ {T : Type 0} (d n : T → List ℕ → List ℕ) (tree : TreeView) (history : BusHistory) (engine : TagEngineView T) (geometry : history.geometry ≡ tree.geometry)
    (root : tree.root ≡ no_tag) (empty : AreEmpty tree.caches) (written : NothingWritten history) (made : engine.made ≡ []) where
  unmade : (level index : ℕ) → last_node level index engine.made ≡ None
  unmade level index = ap (λ (m : List Message). last_node level index m) made ∙ none_last level index

  none_cached : (level index : ℕ) → cached_node tree level index ≡ None
  none_cached level index = ap (option_map copy_of) (empty level index)

  zero_block : (level index : ℕ) → current_block tree engine.made level index ≡ no_block
  zero_block level index =
      ap (λ (found : Option CachedNode). current_of found (last_node level index engine.made)) (none_cached level index)
      ∙ ap (λ (last : Option (List ℕ)). current_of None last) (unmade level index)

  zero_tag : (level index : ℕ) → kept_tag tree engine.made level index ≡ no_tag
  zero_tag level index = elim (cases_lt level tree.geometry.levels) [
    | inl below ↦
        kept_below tree engine.made level index below
        ∙ ap (λ (block : List ℕ). tag_in_slot tree.geometry (slot tree.geometry index) block) (zero_block (level + 1) (index / arity tree.geometry))
        ∙ zero_slot tree.geometry (slot tree.geometry index) (slot_inside tree.geometry.layout index)
    | inr top ↦ kept_top tree engine.made level index top ∙ root
  ]

  pub new_holds : HoldsTree (tags_of d n) tree history engine
  new_holds = record {
    fits = λ quiet. record {
      slots = λ level index node. zero_tag level index ∙ sym (ap (λ (last : Option (List ℕ)). tag_of_last (tags_of d n engine) level index last) (unmade level index));
      stored = λ level index node.
          written.zeros (node_place level index) (subst (λ (k : GeometryView). IsNode k level index) (sym geometry) node)
          ∙ sym (ap (λ (last : Option (List ℕ)). block_or_zeros last) (unmade level index));
      clean = λ level index copy node found unchanged. let none : None ≡ Some copy = sym (none_cached level index) ∙ found in absurd (cc);
      long = λ level index node. ap (λ (block : List ℕ). length block) (zero_block level index);
    };
  }
