use Rattle.rv32_asm_syntax.specs.Lines.{labels_in}
use Rattle.rv32_asm_syntax.specs.Parts.{parts}
use Rattle.rv32_asm.proofs.FirstSteps.{named, one_named}
use Rattle.rv32_asm.proofs.passes.add_labels.Goals as goal

pub loop-name-preserved : goal.loop-name-preserved
loop-name-preserved c =
    one_named c.args.site.address c.args.site.line
    (named c.args.site.address c.args.site.line (labels_in (parts c.args.text.now)) c.args.labels.now)
    (labels_in (parts c.loop-name.rest.now)) (labels_in (parts c.in-Some.behind.now)) c.in-Some.name.now
    c.loop-name.labels c.add.new.self c.in-Some.ensures.labels.0 c.in_ok-add.ensures.new c.in_ok-add.ensures.added c.loop-name.invariant
