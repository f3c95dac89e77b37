use Rattle.std.proofs.Common.{ap, ◌∙◌}
use Rattle.page_reencrypt.specs.SealedLines.{SealedLinesView}
use Rattle.secure_memory.proofs.secure_ram.SecureRam.boot.Goals as goal

pub returns-in-Err-clause-refused : goal.returns-in-Err-clause-refused
returns-in-Err-clause-refused g c =
    c.finish-account.ensures.bus
    ∙ ap (λ (m : SealedLinesView g.row.B.Denot g.row.T.Denot). m.bus) c.in-Err.ensures.refused
    ∙ c.in_ok-lines.ensures.new.bus_is
