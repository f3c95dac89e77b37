use Rattle.bus_adversary.proofs.ScriptStates.{read_state}
use Rattle.bus_adversary.proofs.ScriptTies.{read_follows}
use Rattle.bus_adversary.proofs.script_bus.ScriptBusBus.read_data.Goals as goal
use Rattle.bus_model.proofs.LieSteps.{judged_read}
use Rattle.bus_model.specs.HonestBus.{honest_history}
use Rattle.sec_base.specs.Evidence.{sealed_bytes}
use Rattle.sec_base.specs.declared.place.Place.TheVariants.{Line}
use Rattle.std.proofs.Common.{sym, ◌∙◌}

pub invariant_of-self-2 : goal.invariant_of-self-2
invariant_of-self-2 c = (
  read_follows c.self.inside.script _ _ c.self.inside.adversary.places c.act_due.new.self.places (Line c.args.line) (sealed_bytes c.sealed-answer.result)
      c.self.invariant.0 (rw (← c.self.view_is) at c.requires.inside) c.act_due.ensures.geometry c.act_due.ensures.changes c.sealed-answer.ensures.bytes
      (judged_read (honest_history c.self.inside.bus) (honest_history c.read_data.new.self) c.self.inside.lies c.judge_sealed.new.self (Line c.args.line)
      (sealed_bytes c.in_ok-written.written) (sealed_bytes c.sealed-answer.result) _
      c.in_ok-written.ensures.access c.in_ok-written.ensures.answer c.accesses-access.ensures c.judge_sealed.ensures),
  c.self.invariant.1 ∙ sym c.in_ok-written.ensures.geometry,
)

pub returns-clause-state : goal.returns-clause-state
returns-clause-state c =
    rw (← c.self.view_is) (read_state c.self.inside.script (honest_history c.self.inside.bus) (honest_history c.read_data.new.self) c.self.inside.adversary c.act_due.new.self
    c.self.inside.writes (Line c.args.line) (sealed_bytes c.in_ok-written.written) _ _ c.in_ok-written.ensures.access
    c.in_ok-act_due.ensures.ok c.accesses.ensures c.line_reads.ensures)

pub returns-clause-access : goal.returns-clause-access
returns-clause-access c =
    rw (← c.self.view_is) (judged_read (honest_history c.self.inside.bus) (honest_history c.read_data.new.self) c.self.inside.lies c.judge_sealed.new.self (Line c.args.line)
    (sealed_bytes c.in_ok-written.written) (sealed_bytes c.sealed-answer.result) _
    c.in_ok-written.ensures.access c.in_ok-written.ensures.answer c.accesses-access.ensures c.judge_sealed.ensures)
