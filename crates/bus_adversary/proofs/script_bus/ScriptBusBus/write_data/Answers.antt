use Rattle.bus_adversary.proofs.ScriptStates.{written_state}
use Rattle.bus_adversary.proofs.ScriptTies.{refused_follows, write_follows}
use Rattle.bus_adversary.proofs.script_bus.ScriptBusBus.write_data.Goals as goal
use Rattle.bus_adversary.specs.Adversary.{AdversaryView}
use Rattle.bus_adversary.specs.ChangedPlaces.{ChangesOnly, script_may_change}
use Rattle.bus_adversary.specs.PlaceCounts.{PlaceCountsView}
use Rattle.bus_model.proofs.Accesses.{refused_write}
use Rattle.bus_model.proofs.LieSteps.{judged_write}
use Rattle.bus_model.specs.BusHistory.{BusHistory, after_write}
use Rattle.bus_model.specs.HonestBus.{honest_history}
use Rattle.bus_model.specs.Lies.{with_lies}
use Rattle.sec_base.specs.Evidence.{sealed_bytes}
use Rattle.sec_base.specs.declared.place.Place.TheVariants.{Line}
use Rattle.std.proofs.Common.{ap, subst, sym, ◌∙◌}

pub invariant_of-self-2 : goal.invariant_of-self-2
invariant_of-self-2 c = (
  write_follows c.self.inside.script _ _ c.self.inside.adversary.places c.act_due.new.self.places c.put_sealed.new.self.places (Line c.args.line) (sealed_bytes c.args.sealed.now)
      c.self.invariant.0 (rw (← c.self.view_is) at c.requires.inside) c.act_due.ensures.geometry c.act_due.ensures.changes
      (ap (λ (m : AdversaryView). m.places) c.in_ok-put_sealed.ensures.ok) c.in_ok-put_sealed.ensures.here
      (judged_write (honest_history c.self.inside.bus) (honest_history c.write_data.new.self) c.self.inside.lies (Line c.args.line) (sealed_bytes c.args.sealed.now) (c.in_ok-write_data.ensures.access ∙ ap (after_write (Line c.args.line) (sealed_bytes c.args.sealed.now)) c.make_room.ensures.history)),
  ap (λ (n : PlaceCountsView). n.geometry) c.add_line.ensures ∙ c.self.invariant.1 ∙ sym (c.in_ok-write_data.ensures.geometry ∙ ap (λ (h : BusHistory). h.geometry) c.make_room.ensures.history),
)

pub returns-clause-state : goal.returns-clause-state
returns-clause-state c =
    rw (← c.self.view_is) (written_state c.self.inside.script (honest_history c.self.inside.bus) (honest_history c.write_data.new.self) c.self.inside.adversary c.act_due.new.self c.put_sealed.new.self
    c.self.inside.writes c.add_line.new.self (Line c.args.line) (sealed_bytes c.args.sealed.now) _ _ (c.in_ok-write_data.ensures.access ∙ ap (after_write (Line c.args.line) (sealed_bytes c.args.sealed.now)) c.make_room.ensures.history)
    c.in_ok-act_due.ensures.ok c.in_ok-put_sealed.ensures.ok c.accesses.ensures c.of_line.ensures c.add_line.ensures)

pub returns-clause-access : goal.returns-clause-access
returns-clause-access c =
    rw (← c.self.view_is) (judged_write (honest_history c.self.inside.bus) (honest_history c.write_data.new.self) c.self.inside.lies (Line c.args.line) (sealed_bytes c.args.sealed.now) (c.in_ok-write_data.ensures.access ∙ ap (after_write (Line c.args.line) (sealed_bytes c.args.sealed.now)) c.make_room.ensures.history))

pub invariant_of-self-in_err-make_room : goal.invariant_of-self-in_err-make_room
invariant_of-self-in_err-make_room c = (
  refused_follows c.self.inside.script _ _ c.self.inside.adversary.places c.act_due.new.self.places
      c.self.invariant.0 c.act_due.ensures.geometry c.act_due.ensures.changes (ap (with_lies c.self.inside.lies) c.make_room.ensures.history),
  c.self.invariant.1 ∙ sym (ap (λ (h : BusHistory). h.geometry) c.make_room.ensures.history),
)

pub returns-in_err-make_room-clause-access : goal.returns-in_err-make_room-clause-access
returns-in_err-make_room-clause-access c =
    rw (← c.self.view_is) (refused_write (Line c.args.line) (sealed_bytes c.args.sealed.now) _ _ c.from_residual-in_err-make_room.result c.from_residual-in_err-make_room.ensures.0
    (ap (with_lies c.self.inside.lies) c.make_room.ensures.history))

pub invariant_of-self-in_err-put_sealed : goal.invariant_of-self-in_err-put_sealed
invariant_of-self-in_err-put_sealed c = (
  refused_follows c.self.inside.script _ _ c.self.inside.adversary.places c.put_sealed.new.self.places
      c.self.invariant.0 (ap (λ (m : AdversaryView). m.places.geometry) c.in_err-put_sealed.ensures.err ∙ c.act_due.ensures.geometry)
      (subst (λ (m : AdversaryView). ChangesOnly c.self.inside.adversary.places m.places (script_may_change c.self.inside.script)) (sym c.in_err-put_sealed.ensures.err) c.act_due.ensures.changes)
      (ap (with_lies c.self.inside.lies) c.make_room.ensures.history),
  c.self.invariant.1 ∙ sym (ap (λ (h : BusHistory). h.geometry) c.make_room.ensures.history),
)

pub returns-in_err-put_sealed-clause-access : goal.returns-in_err-put_sealed-clause-access
returns-in_err-put_sealed-clause-access c =
    rw (← c.self.view_is) (refused_write (Line c.args.line) (sealed_bytes c.args.sealed.now) _ _ c.from_residual-in_err-put_sealed.result c.from_residual-in_err-put_sealed.ensures.0
    (ap (with_lies c.self.inside.lies) c.make_room.ensures.history))
