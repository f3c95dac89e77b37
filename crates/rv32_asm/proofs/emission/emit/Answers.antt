use Rattle.std.proofs.Common.{◌≡◌, ◌∙◌, List, Result, Ok, OnOk, ℕ, length, subst, sym}
use Rattle.rv32_asm_syntax.specs.Seen.{seen_statement}
use Rattle.rv32_asm.specs.Emission.{with_more}
use Rattle.rv32_asm_syntax.specs.declared.fault.AsmFault.{AsmFault}
use Rattle.rv32_asm.proofs.Emitting.{emitted_is}
use Rattle.rv32_asm.proofs.emission.emit.Goals as goal

pub returns-clause-ok : goal.returns-clause-ok
returns-clause-ok c =
    let same = emitted_is c.args.labels.now (length c.args.bytes.now.items) (seen_statement c.args.statement.now) (sym c.if-misses_label.ensures) in
    let P : Result (List ℕ) AsmFault → Type 0 =
    λ made. OnOk c.put_statement.result (with_more c.args.bytes.now.items made ≡ Ok c.put_statement.new.bytes.items) in
    subst P (sym same) c.put_statement.ensures.ok

pub returns-clause-refused : goal.returns-clause-refused
returns-clause-refused c = λ fault e.
    emitted_is c.args.labels.now (length c.args.bytes.now.items) (seen_statement c.args.statement.now) (sym c.if-misses_label.ensures)
    ∙ c.put_statement.ensures.refused fault e
