use Rattle.std.proofs.Common.{◌≡◌, ◌∙◌, Err, ap, refl, sym}
use Rattle.std.proofs.lemmas.Result.{err_from_is_err_and}
use Rattle.sec_base.specs.Segment.{from_zero}
use Rattle.rv32_asm.specs.Program.{entry_at}
use Rattle.rv32_asm.specs.declared.fault.AsmError.TheVariants.{Fault}
use Rattle.rv32_asm.proofs.Assembling.{end_is, no_bytes, no_entry, no_labels, program_is}
use Rattle.rv32_asm.proofs.Sizes.{few_bytes}
use Rattle.rv32_asm.proofs.program.assemble.Goals as goal

pub returns-in_err-layout-clause-refused : goal.returns-in_err-layout-clause-refused
returns-in_err-layout-clause-refused c =
    let p = err_from_is_err_and c.from_residual.result c.from_residual.ensures.1 in
    rw (p.1, p.2) (λ line code e.
    let same : c.in_err-layout.field-0.0 ≡ Fault line code = cc in
    no_labels c.args.text.now c.args.size (record { line = line; code = code })
    (c.in_err-layout.ensures.refused line code (ap Err same)))

pub bytes_of-requires-clause-end : goal.bytes_of-requires-clause-end
bytes_of-requires-clause-end c =
    end_is c.args.text.now c.args.size c.in_ok-layout.layout.address c.in_ok-layout.layout.labels c.in_ok-layout.ensures.reached

pub returns-in_err-bytes-clause-refused : goal.returns-in_err-bytes-clause-refused
returns-in_err-bytes-clause-refused c =
    let p = err_from_is_err_and c.from_residual-in_err-bytes.result c.from_residual-in_err-bytes.ensures.1 in
    rw (p.1, p.2) (λ line code e.
    let same : c.in_err-bytes.field-0.0 ≡ Fault line code = cc in
    no_bytes c.args.text.now c.args.size c.in_ok-layout.layout.address c.in_ok-layout.layout.labels
    (record { line = line; code = code }) c.in_ok-layout.ensures.reached
    (c.in_err-bytes.ensures.refused line code (ap Err same)))

pub returns-in_err-entry-clause-refused : goal.returns-in_err-entry-clause-refused
returns-in_err-entry-clause-refused c =
    let p = err_from_is_err_and c.from_residual-in_err-entry.result c.from_residual-in_err-entry.ensures.1 in
    rw (p.1, p.2) (λ line code e.
    let same : c.in_err-entry.field-0.0 ≡ Fault line code = cc in
    no_entry c.args.text.now c.args.size c.in_ok-layout.layout.address c.in_ok-layout.layout.labels
    c.in_ok-bytes.bytes.items (record { line = line; code = code }) c.in_ok-layout.ensures.reached c.in_ok-bytes.ensures.bytes
    (sym (ap (entry_at c.args.size) c.get.ensures) ∙ c.in_err-entry.ensures.refused line code (ap Err same)))

pub returns-clause-program : goal.returns-clause-program
returns-clause-program c =
    rw (program_is c.args.text.now c.args.size c.in_ok-layout.layout.address c.in_ok-layout.layout.labels
    c.in_ok-bytes.bytes.items c.in_ok-entry.entry c.in_ok-layout.ensures.reached c.in_ok-bytes.ensures.bytes
    (sym (ap (entry_at c.args.size) c.get.ensures) ∙ c.in_ok-entry.ensures.entry))
    (record { entry = refl; memory = refl; segments = c.in_ok-segments.ensures ∙ ap from_zero c.from_vec.ensures })

pub returns-clause-small : goal.returns-clause-small
returns-clause-small c =
    few_bytes c.args.size c.in_ok-layout.layout.address c.in_ok-bytes.bytes.items _ _ c.requires.memory c.in_ok-layout.ensures.inside
    c.in_ok-bytes.ensures.length c.from_vec.ensures c.in_ok-segments.ensures
