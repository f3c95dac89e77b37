use Rattle.bus_adversary.proofs.ScriptStates.{new_is_state}
use Rattle.bus_adversary.proofs.ScriptTies.{new_follows}
use Rattle.bus_adversary.proofs.script_bus.ScriptBus.new.Goals as goal
use Rattle.bus_adversary.specs.Adversary.{AdversaryView}
use Rattle.bus_adversary.specs.PlaceCounts.{PlaceCountsView}
use Rattle.bus_model.proofs.LieSteps.{judged_new}
use Rattle.bus_model.specs.BusHistory.{BusHistory}
use Rattle.bus_model.specs.HonestBus.{honest_history}
use Rattle.std.proofs.Common.{ap, sym, ◌∙◌}

pub invariant_of-result : goal.invariant_of-result
invariant_of-result c = (
  new_follows c.args.script _ c.args.geometry c.in_ok-new-2.field-0.places
      (judged_new _ _ _ c.in_ok-new.ensures c.none.ensures)
      (ap (λ (m : AdversaryView). m.places) c.in_ok-new-2.ensures) c.requires.fits,
  ap (λ (n : PlaceCountsView). n.geometry) c.in_ok-new-3.ensures ∙ sym (ap (λ (h : BusHistory). h.geometry) c.in_ok-new.ensures),
)

pub returns-clause-history : goal.returns-clause-history
returns-clause-history c = judged_new _ _ _ c.in_ok-new.ensures c.none.ensures

pub returns-clause-state : goal.returns-clause-state
returns-clause-state c =
    new_is_state (honest_history c.in_ok-new.field-0) c.in_ok-new-2.field-0 c.in_ok-new-3.field-0 c.args.geometry
    c.in_ok-new.ensures c.in_ok-new-2.ensures c.in_ok-new-3.ensures
