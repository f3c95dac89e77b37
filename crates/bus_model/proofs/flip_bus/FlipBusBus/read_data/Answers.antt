use Rattle.std.proofs.Common.{rules}
use Rattle.sec_base.specs.Evidence.{sealed_bytes}
use Rattle.sec_base.specs.declared.place.Place.TheVariants.{Line}
use Rattle.bus_model.specs.HonestBus.{honest_history}
use Rattle.bus_model.proofs.FlipSteps.{answered_tag}
use Rattle.bus_model.proofs.LieSteps.{judged_read}
use Rattle.bus_model.proofs.flip_bus.FlipBusBus.read_data.Goals as goal

pub returns-clause-access : goal.returns-clause-access
returns-clause-access c =
    rw (← c.self.view_is) (judged_read (honest_history c.self.inside.bus) (honest_history c.read_data.new.self) c.self.inside.lies c.judge_sealed.new.self (Line c.args.line) (sealed_bytes c.in_ok-written.written) (sealed_bytes c.answer_sealed-answer.result) c.accesses-access.result
    c.in_ok-written.ensures.access c.in_ok-written.ensures.answer c.accesses-access.ensures c.judge_sealed.ensures)

pub returns-clause-fits : goal.returns-clause-fits
returns-clause-fits c =
    rw (← c.self.view_is) (answered_tag c.self.inside.bus.geometry c.self.inside.flip c.args.line c.line_reads.result c.is_due-due.result
    c.in_ok-written.written c.answer_sealed-answer.result (search rules) (search rules) c.is_due-due.ensures c.answer_sealed-answer.ensures
    c.self.invariant c.in_ok-written.ensures.fits)
