-- Copies that go out, and what they go out for, over calls.
use Rattle.std.proofs.Common.{◌≡◌, ◌≢◌, inl, inr, ℕ, ◌%◌, List, Some, None, Result, Ok, Err, ap, sym, ◌∙◌, subst, arith}
use Rattle.std.specs.Prelude.{OnOk}
use Rattle.sec_base.specs.Count.{RoseBy}
use Rattle.sec_base.specs.Geometry.{GeometryView, IsNode}
use Rattle.sec_base.specs.LastMessage.{last_node}
use Rattle.sec_base.specs.declared.message.Message.{Message}
use Rattle.sec_base.specs.declared.place.Place.{Place}
use Rattle.sec_base.specs.declared.stop.MemStop.{MemStop}
use Rattle.bus_model.specs.BusHistory.{BusHistory}
use Rattle.bonsai_tree.specs.Climb.{MakesRoom}
use Rattle.bonsai_tree.specs.Node.{CachedNode}
use Rattle.bonsai_tree.specs.NodeCache.{node_sets}
use Rattle.bonsai_tree.specs.Tree.{CameBeside, GoesOutFor, NodeCame, TreeView, cached_node}
use Rattle.bonsai_tree.proofs.Climbs.{came_after, came_before, copy_or_not}
use Rattle.bonsai_tree.proofs.Nodes.{SameNode, same_or_not}

-- a fact of a call that was no refusal, from another
pub on_ok : {A P Q : Type 0} (result : Result A MemStop) → OnOk result P → (P → Q) → OnOk result Q
on_ok (Ok value) fact then = then fact
on_ok (Err stop) fact then = tt

-- what came beside, by a call before others, and by one after others
beside_before : {geometry : GeometryView} {made : List Message} {level index : ℕ} {first second third : BusHistory} → ((place : Place) → RoseBy 0 (second.reads place) (third.reads place)) → CameBeside geometry made level index first second →
    CameBeside geometry made level index first third
beside_before {geometry} {made} {level} {index} {first} {second} {third} after beside = record {
  other = beside.other;
  node = beside.node;
  differs = beside.differs;
  set = beside.set;
  came = came_before made level beside.other first second third after beside.came;
}

beside_after : {geometry mid : GeometryView} {made made' : List Message} {level index : ℕ} {first second third : BusHistory} → mid ≡ geometry →
    ((place : Place) → RoseBy 0 (first.reads place) (second.reads place)) →
    ((other at : ℕ) → last_node other at made' ≡ None → last_node other at made ≡ None) → CameBeside mid made' level index second third →
    CameBeside geometry made level index first third
beside_after {geometry} {mid} {made} {made'} {level} {index} {first} {second} {third} same before unmade beside = record {
  other = beside.other;
  node = subst (λ (k : GeometryView). IsNode k level beside.other) same beside.node;
  differs = beside.differs;
  set = beside.set;
  came = came_after made made' level beside.other first second third before (unmade level beside.other) beside.came;
}

-- no copy went out
pub out_kept : {tree tree' : TreeView} {old new : BusHistory} {made : List Message} → ((level index : ℕ) → cached_node tree level index ≢ None → cached_node tree' level index ≢ None) →
    GoesOutFor tree old made tree' new
out_kept {tree} {tree'} {old} {new} {made} kept = record { out = λ level index held none. absurd (kept level index held none) }

-- one call after another
pub out_on : {tree mid tree' : TreeView} {first second third : BusHistory} {made made' : List Message} → mid.geometry ≡ tree.geometry →
    ((place : Place) → RoseBy 0 (first.reads place) (second.reads place)) → ((place : Place) → RoseBy 0 (second.reads place) (third.reads place)) →
    ((level index : ℕ) → last_node level index made' ≡ None → last_node level index made ≡ None) →
    GoesOutFor tree first made mid second → GoesOutFor mid second made' tree' third → GoesOutFor tree first made tree' third
out_on {tree} {mid} {tree'} {first} {second} {third} {made} {made'} geometry before after unmade goes more = record {
  out = λ level index held none. elim (copy_or_not (cached_node mid level index)) [
    | inl gone ↦ beside_before after (goes.out level index held gone)
    | inr still ↦ beside_after geometry before unmade (more.out level index still none)
  ];
}

-- no copy goes out, or a victim's
pub room_kept : (level index : ℕ) (tree : TreeView) (history : BusHistory) (made : List Message) → MakesRoom level index tree history made tree history
room_kept level index tree history made = record { out = λ other at held none. absurd (held none) }

pub room_made : {level index : ℕ} (victim : ℕ) {tree mid tree' : TreeView} {old new : BusHistory} {made : List Message} → victim % node_sets ≡ index % node_sets →
    ((other at : ℕ) → ¬ (SameNode level victim other at) → cached_node tree' other at ≡ cached_node mid other at) →
    GoesOutFor tree old made mid new → MakesRoom level index tree old made tree' new
room_made {level} {index} victim {tree} {mid} {tree'} {old} {new} {made} beside same goes = record {
  out = λ other at held none. elim (same_or_not level victim other at) [
    | inl here ↦ inl (here.0, ap (λ (i : ℕ). i % node_sets) here.1 ∙ beside)
    | inr apart ↦ inr (goes.out other at held (sym (same other at apart) ∙ none))
  ];
}

-- a node came in, for which there was room
pub out_came : {level index : ℕ} {tree start mid high tree' : TreeView} {first second third fourth : BusHistory} {made made' : List Message} (made'' : List Message) → IsNode tree.geometry level index → start.geometry ≡ tree.geometry → mid.geometry ≡ tree.geometry →
    ((other at : ℕ) → cached_node start other at ≡ cached_node tree other at) → cached_node tree level index ≡ None →
    ((place : Place) → RoseBy 0 (first.reads place) (second.reads place)) → ((place : Place) → RoseBy 0 (second.reads place) (third.reads place)) →
    ((place : Place) → RoseBy 0 (third.reads place) (fourth.reads place)) →
    ((other at : ℕ) → last_node other at made' ≡ None → last_node other at made ≡ None) →
    ((other at : ℕ) → last_node other at made'' ≡ None → last_node other at made ≡ None) →
    MakesRoom level index start first made mid second → GoesOutFor mid second made' high third →
    ((other at : ℕ) → cached_node high other at ≢ None → cached_node tree' other at ≢ None) →
    NodeCame made'' level index third fourth → GoesOutFor tree first made tree' fourth
out_came {level} {index} {tree} {start} {mid} {high} {tree'} {first} {second} {third} {fourth} {made} {made'} made'' node starts geometry same absent stays on after unmade unmade_all room goes kept came_in =
    let last : (place : Place) → RoseBy 0 (second.reads place) (fourth.reads place) = λ place. omega (arith, on place, after place) in
    let early : (place : Place) → RoseBy 0 (first.reads place) (third.reads place) = λ place. omega (arith, stays place, on place) in
    let came : NodeCame made level index first fourth = came_after made made'' level index first third fourth early (unmade_all level index) came_in in
    record {
      out = λ other at held none. elim (copy_or_not (cached_node mid other at)) [
        | inl gone ↦ elim (room.out other at (λ (no : cached_node start other at ≡ None). held (sym (same other at) ∙ no)) gone) [
          | inl wanted ↦ record {
            other = index;
            node = subst (λ (k : ℕ). IsNode tree.geometry k index) (sym wanted.0) node;
            differs = λ (is : index ≡ at).
                held (ap (λ (k : ℕ). cached_node tree k at) wanted.0 ∙ ap (λ (i : ℕ). cached_node tree level i) (sym is) ∙ absent);
            set = sym wanted.1;
            came = subst (λ (k : ℕ). NodeCame made k index first fourth) (sym wanted.0) came;
          }
          | inr beside ↦ subst (λ (k : GeometryView). CameBeside k made other at first fourth) starts
              (beside_before last beside)
        ]
        | inr still ↦ elim (copy_or_not (cached_node high other at)) [
          | inl gone ↦
              beside_before after (beside_after geometry stays unmade (goes.out other at still gone))
          | inr there ↦ absurd (kept other at there none)
        ]
      ];
    }

-- a copy that is put, or that changes
pub kept_at : (level index : ℕ) (tree tree' : TreeView) (copy : CachedNode) → cached_node tree' level index ≡ Some copy →
    ((other at : ℕ) → ¬ (SameNode level index other at) → cached_node tree' other at ≡ cached_node tree other at) → (other at : ℕ) →
    cached_node tree other at ≢ None → cached_node tree' other at ≢ None
kept_at level index tree tree' copy put same other at held none =
    elim (same_or_not level index other at) [
      | inr apart ↦ held (sym (same other at apart) ∙ none)
      | inl here ↦
          let both : Some copy ≡ None =
          sym (ap (λ (k : ℕ). cached_node tree' k at) here.0 ∙ ap (λ (i : ℕ). cached_node tree' level i) here.1 ∙ put) ∙ none in
          absurd (cc)
    ]
