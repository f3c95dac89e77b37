use Rattle.std.proofs.Common.{◌≡◌, ◌∙◌, ap, sym, None}
use Rattle.rv32_run.specs.Progress.{Semantics, semantics_of}
use Rattle.rv32_run.specs.ExecutionView.{ExecutionView}
use Rattle.rv32_run.proofs.Progress.{prints_used_up}
use Rattle.rv32_run.proofs.execution.Execution.finish.Given.{Over}
use Rattle.rv32_run.proofs.execution.Execution.finish.Goals as goal

abbrev means_of : (g : Over) → Semantics g.row.P.Denot g.row.M.Denot
means_of g = let ram = g.M.Ram in semantics_of g.P.Processor.core ram.contents ram.extent ram.sound ram.stopped ram.moved

pub returns-in-None : goal.returns-in-None
returns-in-None g c =
    let is : c.advance-2.result ≡ None = cc in
    let went = c.advance-2.ensures.goes is in
    let used : c.advance-2.new.self.retired ≡ c.advance-2.new.self.budget =
    c.advance-2.ensures.arrived is ∙ (ap (λ (now : ExecutionView g.row.P.Denot g.row.M.Denot). now.budget) c.advance.view_is ∙ sym went.goes.budget) in
    record { ended = prints_used_up (means_of g) g.met.M.Ram.unmoved _ _ (g.S.Sink.state c.args.out.now) _ went used }
