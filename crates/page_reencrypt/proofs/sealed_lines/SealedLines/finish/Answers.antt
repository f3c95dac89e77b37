use Rattle.std.proofs.Common.{◌≡◌, None, List, ℕ, ap, sym, ◌∙◌, subst}
use Rattle.pad_stream.specs.PadBlocks.{ShareNoBlock}
use Rattle.pad_stream.specs.Pads.{NoRepeat}
use Rattle.pad_stream.proofs.RisingCounters.{rising_once}
use Rattle.page_reencrypt.specs.Outside.{OutsideView}
use Rattle.page_reencrypt.proofs.Successive.{counted_rising}
use Rattle.page_reencrypt.proofs.sealed_lines.SealedLines.finish.Goals as goal

-- where there is no evidence, the counters of each line rise, so no line and counter repeats
pub returns-clause-apart : goal.returns-clause-apart
returns-clause-apart g c = λ quiet.
    let pads = c.self.inside.outside.pads in
    let still : c.self.inside.outside.engine.evidence ≡ None = rw (← c.self.view_is) at quiet in
    let key : c.outside.inside.pads.key ≡ pads.key = ap (λ (o : OutsideView g.row.B.Denot g.row.T.Denot). o.pads.key) c.outside.view_is in
    let used : c.finish.result ≡ pads.used = c.finish.ensures.used ∙ ap (λ (o : OutsideView g.row.B.Denot g.row.T.Denot). o.pads.used) c.outside.view_is in
    let once : NoRepeat c.finish.result = subst NoRepeat (sym used) (rising_once pads.used (counted_rising pads.used (c.self.invariant.1.rise still).successive)) in
    rw (← c.self.view_is) (subst (λ (k : List ℕ). ShareNoBlock k c.finish.result) key (c.finish.ensures.apart once))
