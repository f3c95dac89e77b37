use Rattle.std.proofs.Common.{◌≡◌, ◌∙◌, Err, length, ap}
use Rattle.std.proofs.lemmas.Result.{err_from_is_err_and, on_ok_weaker}
use Rattle.rv32_asm_syntax.specs.Seen.{seen_statement}
use Rattle.rv32_asm.specs.Emission.{with_more}
use Rattle.rv32_asm_syntax.specs.declared.fault.LineError.TheVariants.{Fault}
use Rattle.rv32_asm.proofs.Courses.{bytes_fault, bytes_are, placed, grown}
use Rattle.rv32_asm.proofs.passes.put_line.Goals as goal

pub returns-in_err-statement-clause-refused : goal.returns-in_err-statement-clause-refused
returns-in_err-statement-clause-refused c =
    let p = err_from_is_err_and c.from_residual.result c.from_residual.ensures.1 in
    rw (p.1, p.2) (λ fault e.
    let same : c.in_err-statement.field-0.0 ≡ Fault fault = cc in
    bytes_fault c.args.labels.now (length c.args.bytes.now.items) c.args.line.now fault
    (c.in_err-statement.ensures.refused fault (ap Err same)))

pub emit-requires-clause-placed : goal.emit-requires-clause-placed
emit-requires-clause-placed c =
    (placed (length c.args.bytes.now.items) c.args.line.now (seen_statement c.in_ok-statement.statement) c.in_ok-statement.ensures.read c.requires).0

pub emit-requires-clause-room : goal.emit-requires-clause-room
emit-requires-clause-room c =
    (placed (length c.args.bytes.now.items) c.args.line.now (seen_statement c.in_ok-statement.statement) c.in_ok-statement.ensures.read c.requires).1

pub returns-clause-ok : goal.returns-clause-ok
returns-clause-ok c =
    let same = bytes_are c.args.labels.now (length c.args.bytes.now.items) c.args.line.now (seen_statement c.in_ok-statement.statement) c.in_ok-statement.ensures.read in
    on_ok_weaker c.emit.result (λ e. ap (with_more c.args.bytes.now.items) same ∙ e) c.emit.ensures.ok

pub returns-clause-length : goal.returns-clause-length
returns-clause-length c =
    let ok = placed (length c.args.bytes.now.items) c.args.line.now (seen_statement c.in_ok-statement.statement) c.in_ok-statement.ensures.read c.requires in
    on_ok_weaker c.emit.result
    (λ e. grown c.args.labels.now c.args.bytes.now.items c.emit.new.bytes.items c.args.line.now (seen_statement c.in_ok-statement.statement) c.in_ok-statement.ensures.read ok.0 e)
    c.emit.ensures.ok

pub returns-clause-refused : goal.returns-clause-refused
returns-clause-refused c = λ fault e.
    bytes_are c.args.labels.now (length c.args.bytes.now.items) c.args.line.now (seen_statement c.in_ok-statement.statement) c.in_ok-statement.ensures.read
    ∙ c.emit.ensures.refused fault e
