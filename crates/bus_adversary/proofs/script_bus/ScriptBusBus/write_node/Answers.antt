use Rattle.bus_adversary.proofs.ScriptStates.{written_state}
use Rattle.bus_adversary.proofs.ScriptTies.{refused_follows, write_follows}
use Rattle.bus_adversary.proofs.script_bus.ScriptBusBus.write_node.Goals as goal
use Rattle.bus_adversary.specs.Adversary.{AdversaryView}
use Rattle.bus_adversary.specs.ChangedPlaces.{ChangesOnly, script_may_change}
use Rattle.bus_adversary.specs.PlaceCounts.{PlaceCountsView}
use Rattle.bus_model.proofs.Accesses.{refused_write}
use Rattle.bus_model.proofs.LieSteps.{judged_write}
use Rattle.bus_model.specs.BusHistory.{BusHistory, after_write}
use Rattle.bus_model.specs.HonestBus.{honest_history}
use Rattle.bus_model.specs.Lies.{with_lies}
use Rattle.sec_base.specs.declared.place.Place.TheVariants.{Node}
use Rattle.std.proofs.Common.{ap, subst, sym, ◌∙◌}

pub invariant_of-self-2 : goal.invariant_of-self-2
invariant_of-self-2 c = (
  write_follows c.self.inside.script _ _ c.self.inside.adversary.places c.act_due.new.self.places c.put_block.new.self.places (Node c.args.level c.args.index) c.args.block.now
      c.self.invariant.0 (rw (← c.self.view_is) at c.requires.inside) c.act_due.ensures.geometry c.act_due.ensures.changes
      (ap (λ (m : AdversaryView). m.places) c.in_ok-put_block.ensures.ok) c.in_ok-put_block.ensures.here
      (judged_write (honest_history c.self.inside.bus) (honest_history c.write_node.new.self) c.self.inside.lies (Node c.args.level c.args.index) c.args.block.now (c.in_ok-write_node.ensures.access ∙ ap (after_write (Node c.args.level c.args.index) c.args.block.now) c.make_room.ensures.history)),
  ap (λ (n : PlaceCountsView). n.geometry) c.add_node.ensures ∙ c.self.invariant.1 ∙ sym (c.in_ok-write_node.ensures.geometry ∙ ap (λ (h : BusHistory). h.geometry) c.make_room.ensures.history),
)

pub returns-clause-state : goal.returns-clause-state
returns-clause-state c =
    rw (← c.self.view_is) (written_state c.self.inside.script (honest_history c.self.inside.bus) (honest_history c.write_node.new.self) c.self.inside.adversary c.act_due.new.self c.put_block.new.self
    c.self.inside.writes c.add_node.new.self (Node c.args.level c.args.index) c.args.block.now _ _ (c.in_ok-write_node.ensures.access ∙ ap (after_write (Node c.args.level c.args.index) c.args.block.now) c.make_room.ensures.history)
    c.in_ok-act_due.ensures.ok c.in_ok-put_block.ensures.ok c.accesses.ensures c.of_node.ensures c.add_node.ensures)

pub returns-clause-access : goal.returns-clause-access
returns-clause-access c =
    rw (← c.self.view_is) (judged_write (honest_history c.self.inside.bus) (honest_history c.write_node.new.self) c.self.inside.lies (Node c.args.level c.args.index) c.args.block.now (c.in_ok-write_node.ensures.access ∙ ap (after_write (Node c.args.level c.args.index) c.args.block.now) c.make_room.ensures.history))

pub invariant_of-self-in_err-make_room : goal.invariant_of-self-in_err-make_room
invariant_of-self-in_err-make_room c = (
  refused_follows c.self.inside.script _ _ c.self.inside.adversary.places c.act_due.new.self.places
      c.self.invariant.0 c.act_due.ensures.geometry c.act_due.ensures.changes (ap (with_lies c.self.inside.lies) c.make_room.ensures.history),
  c.self.invariant.1 ∙ sym (ap (λ (h : BusHistory). h.geometry) c.make_room.ensures.history),
)

pub returns-in_err-make_room-clause-access : goal.returns-in_err-make_room-clause-access
returns-in_err-make_room-clause-access c =
    rw (← c.self.view_is) (refused_write (Node c.args.level c.args.index) c.args.block.now _ _ c.from_residual-in_err-make_room.result c.from_residual-in_err-make_room.ensures.0
    (ap (with_lies c.self.inside.lies) c.make_room.ensures.history))

pub invariant_of-self-in_err-put_block : goal.invariant_of-self-in_err-put_block
invariant_of-self-in_err-put_block c = (
  refused_follows c.self.inside.script _ _ c.self.inside.adversary.places c.put_block.new.self.places
      c.self.invariant.0 (ap (λ (m : AdversaryView). m.places.geometry) c.in_err-put_block.ensures.err ∙ c.act_due.ensures.geometry)
      (subst (λ (m : AdversaryView). ChangesOnly c.self.inside.adversary.places m.places (script_may_change c.self.inside.script)) (sym c.in_err-put_block.ensures.err) c.act_due.ensures.changes)
      (ap (with_lies c.self.inside.lies) c.make_room.ensures.history),
  c.self.invariant.1 ∙ sym (ap (λ (h : BusHistory). h.geometry) c.make_room.ensures.history),
)

pub returns-in_err-put_block-clause-access : goal.returns-in_err-put_block-clause-access
returns-in_err-put_block-clause-access c =
    rw (← c.self.view_is) (refused_write (Node c.args.level c.args.index) c.args.block.now _ _ c.from_residual-in_err-put_block.result c.from_residual-in_err-put_block.ensures.0
    (ap (with_lies c.self.inside.lies) c.make_room.ensures.history))
