use Rattle.std.proofs.Common.{◌≡◌, ◌∙◌, Err, ap, sym, arith}
use Rattle.rv32_asm_syntax.specs.declared.fault.AsmFault.TheVariants.{Range}
use Rattle.rv32_asm.proofs.Emitting.{code_done, code_stops, code_goes_on, fault_in}
use Rattle.rv32_asm.proofs.emission.put_code.Goals as goal

pub returns-in-None-clause-refused : goal.returns-in-None-clause-refused
returns-in-None-clause-refused c = λ fault e.
    let same : Range ≡ fault = cc in
    let here = code_stops c.args.labels.now c.loop-instruction.bytes.items c.args.instructions.now c.loop-instruction.instruction-index
    c.instruction-item.result (omega arith) c.instruction-item.is c.len.result (omega arith) c.in-None.ensures in
    fault_in _ _ Range (sym c.loop-instruction.invariant.same ∙ here) ∙ ap Err same

pub loop-instruction-preserved : goal.loop-instruction-preserved
loop-instruction-preserved c =
    let on = code_goes_on c.args.labels.now c.loop-instruction.bytes.items c.args.instructions.now c.loop-instruction.instruction-index
    c.instruction-item.result (omega arith) c.instruction-item.is c.len.result (omega arith) c.in-Some.word
    c.put_word.new.bytes.items c.in-Some.ensures c.in_ok-put_word-in-Some.ensures in
    record {
      reached = omega (arith, on.0);
      same = on.1 ∙ c.loop-instruction.invariant.same;
    }

pub returns-clause-ok : goal.returns-clause-ok
returns-clause-ok c =
    sym c.loop-instruction.invariant.same
    ∙ code_done c.args.labels.now c.loop-instruction.bytes.items c.args.instructions.now c.loop-instruction.instruction-index (omega arith)
