-- A block that was had.
use Rattle.std.proofs.Common.{◌≡◌, inl, inr, ℕ, List, Option, Some, None, refl, sym, subst}
use Rattle.sec_base.specs.Evidence.{evidence_place}
use Rattle.sec_base.specs.declared.evidence.Evidence.{Evidence}
use Rattle.sec_base.specs.declared.evidence.Evidence.TheVariants.{Collision}
use Rattle.sec_base.specs.declared.message.Message.{Message}
use Rattle.sec_base.specs.declared.place.Place.TheVariants.{Node as node_place}
use Rattle.sec_base.proofs.Results.{some_or_none}
use Rattle.bonsai_tree.specs.Node.{CachedNode}
use Rattle.bonsai_tree.specs.Tree.{IsKept, IsNodeFrom}
use Rattle.bonsai_tree.proofs.PathCalls.{not_from_one}
use Rattle.counter_cache.specs.Counters.{CountersView, IsCopyOrTagged, IsHad, cached_block}
use Rattle.sec_base.specs.Geometry.{GeometryView}

-- a block that was fetched
pub had_tagged : (tag_of : Message → List ℕ) (counters counters' : CountersView) (made' : List Message) (page : ℕ) (before after : Option Evidence) (bytes : List ℕ) →
    cached_block counters page ≡ None → IsKept tag_of counters'.tree made' 0 page bytes →
    (before ≡ None → (made_at : ℕ) (shown tag : List ℕ) → after ≡ Some (Collision 0 page made_at shown tag) → bytes ≡ shown) →
    IsHad tag_of counters counters' made' page before after bytes
had_tagged tag_of counters counters' made' page before after bytes none tagged accepted = record {
  copy_or_tagged = subst (λ (o : Option CachedNode). IsCopyOrTagged o tag_of counters'.tree made' page bytes) (sym none) tagged;
  accepted = accepted;
}

-- evidence of a page's own block is not that of the nodes that were read before it
pub quiet_before : (geometry : GeometryView) (page : ℕ) (mid after : Option Evidence) → ((evidence : Evidence) → mid ≡ Some evidence → IsNodeFrom geometry 1 (evidence_place evidence)) →
    ((evidence : Evidence) → mid ≡ Some evidence → after ≡ Some evidence) → (made_at : ℕ) (bytes tag : List ℕ) →
    after ≡ Some (Collision 0 page made_at bytes tag) → mid ≡ None
quiet_before geometry page mid after found stays made_at bytes tag is = elim (some_or_none mid) [
  | inl quiet ↦ quiet
  | inr shown ↦
      let kept : after ≡ Some shown.0 = stays shown.0 shown.1 in
      let same : shown.0 ≡ Collision 0 page made_at bytes tag = cc in
      absurd (not_from_one geometry page (node_place 0 page) refl (subst (λ (e : Evidence). IsNodeFrom geometry 1 (evidence_place e)) same (found shown.0 shown.1)))
]
