use Rattle.std.proofs.Common.{length}
use Rattle.rv32_asm_syntax.specs.Lines.{labels_in}
use Rattle.rv32_asm_syntax.specs.Parts.{parts}
use Rattle.rv32_asm.proofs.FirstSteps.{ListsAlike, named}
use Rattle.rv32_asm.proofs.passes.add_labels.Given as goal

abbrev pub invariant-loop-name : goal.invariant-loop-name
invariant-loop-name l =
    ListsAlike
    (named l.site.address l.site.line (labels_in (parts l.text)) l.initial.labels)
    (named l.site.address l.site.line (labels_in (parts l.rest)) l.labels)

abbrev pub decreases-loop-name : goal.decreases-loop-name
decreases-loop-name l = length l.rest
