use Rattle.std.proofs.Common.{◌≡◌, ◌∙◌, Err, SFits, rules, w64, ap, sym, arith}
use Rattle.std.proofs.lemmas.Int.{to_z-of_z}
use Rattle.rv32_asm_syntax.specs.declared.fault.AsmFault.TheVariants.{Range}
use Rattle.rv32_asm.proofs.Emitting.{data_done, data_stops, data_goes_on, fault_in}
use Rattle.rv32_asm.proofs.emission.put_data.Goals as goal

pub returns-then-not-fits_width-clause-refused : goal.returns-then-not-fits_width-clause-refused
returns-then-not-fits_width-clause-refused c = λ fault e.
    let wide : SFits w64 c.value_of-value.result = search rules in
    let same : Range ≡ fault = cc in
    let here = data_stops c.args.labels.now c.args.width c.loop-expression.bytes.items c.args.expressions.now c.loop-expression.expression-index
    c.expression-item.result (omega arith) c.expression-item.is c.value_of-value.result c.value_of-value.ensures.value
    (sym (simp to_z-of_z at c.if-not-fits_width.ensures)) in
    fault_in _ _ Range (sym c.loop-expression.invariant ∙ here) ∙ ap Err same

pub loop-expression-preserved : goal.loop-expression-preserved
loop-expression-preserved c =
    let wide : SFits w64 c.value_of-value.result = search rules in
    data_goes_on c.args.labels.now c.args.width c.loop-expression.bytes.items c.args.expressions.now c.loop-expression.expression-index
    c.expression-item.result (omega arith) c.expression-item.is c.value_of-value.result c.value_of-value.ensures.value
    c.put_number.new.bytes.items (sym (simp to_z-of_z at c.if-not-fits_width.ensures)) (simp to_z-of_z at c.in_ok-put_number.ensures)
    ∙ c.loop-expression.invariant

pub returns-clause-ok : goal.returns-clause-ok
returns-clause-ok c =
    sym c.loop-expression.invariant
    ∙ data_done c.args.labels.now c.args.width c.loop-expression.bytes.items c.args.expressions.now c.loop-expression.expression-index (omega arith)
