use Rattle.std.proofs.Common.{◌≡◌, ◌∙◌, ℕ, Err, List, sym, ap, subst}
use Rattle.std.proofs.lemmas.Result.{err_from_is_err_and}
use Rattle.rv32_asm.specs.PassSteps.{Gives}
use Rattle.rv32_asm.specs.Passes.{Progress, with_names}
use Rattle.rv32_asm_syntax.specs.Seen.{seen_statement}
use Rattle.rv32_asm_syntax.specs.declared.fault.LineError.TheVariants.{Fault}
use Rattle.rv32_asm.proofs.FirstSteps.{labels_are, line_reaches, labels_refused, statement_refused, place_refused}
use Rattle.rv32_asm.proofs.passes.after_line.Goals as goal

pub returns-in_err-add_labels-clause-refused : goal.returns-in_err-add_labels-clause-refused
returns-in_err-add_labels-clause-refused c =
    let progress : Progress = record { address = c.args.progress.address; labels = c.args.progress.labels } in
    let p = err_from_is_err_and c.from_residual.result c.from_residual.ensures.1 in
    rw (p.1, p.2) (λ fault e.
    let same : c.in_err-add_labels.field-0.0 ≡ Fault fault = cc in
    labels_refused c.args.size c.args.number progress c.args.line.now fault
    (ap (λ (names : List (List ℕ)). with_names c.args.progress.address c.args.number names c.args.progress.labels)
    (sym (labels_are c.args.line.now c.without_comment.result.now c.without_comment.ensures))
    ∙ c.in_err-add_labels.ensures.refused fault (ap Err same)))

pub returns-in_err-statement-clause-refused : goal.returns-in_err-statement-clause-refused
returns-in_err-statement-clause-refused c =
    let progress : Progress = record { address = c.args.progress.address; labels = c.args.progress.labels } in
    let p = err_from_is_err_and c.from_residual-in_err-statement.result c.from_residual-in_err-statement.ensures.1 in
    let P : List (List ℕ) → Type 0 =
    λ names. Gives (with_names c.args.progress.address c.args.number names c.args.progress.labels) c.add_labels.new.labels in
    let given = subst P (labels_are c.args.line.now c.without_comment.result.now c.without_comment.ensures) c.in_ok-add_labels.ensures.added in
    rw (p.1, p.2) (λ fault e.
    let same : c.in_err-statement.field-0.0 ≡ Fault fault = cc in
    statement_refused c.args.size c.args.number progress c.args.line.now c.add_labels.new.labels fault given
    (c.in_err-statement.ensures.refused fault (ap Err same)))

pub returns-in-Ok-clause-after : goal.returns-in-Ok-clause-after
returns-in-Ok-clause-after c =
    let progress : Progress = record { address = c.args.progress.address; labels = c.args.progress.labels } in
    let P : List (List ℕ) → Type 0 =
    λ names. Gives (with_names c.args.progress.address c.args.number names c.args.progress.labels) c.add_labels.new.labels in
    let given = subst P (labels_are c.args.line.now c.without_comment.result.now c.without_comment.ensures) c.in_ok-add_labels.ensures.added in
    line_reaches c.args.size c.args.number progress c.args.line.now c.add_labels.new.labels (seen_statement c.in_ok-statement.statement)
    c.in-Ok.address given c.in_ok-statement.ensures.read (sym c.in-Ok.ensures)

pub returns-clause-refused : goal.returns-clause-refused
returns-clause-refused c = λ fault e.
    let progress : Progress = record { address = c.args.progress.address; labels = c.args.progress.labels } in
    let P : List (List ℕ) → Type 0 =
    λ names. Gives (with_names c.args.progress.address c.args.number names c.args.progress.labels) c.add_labels.new.labels in
    let given = subst P (labels_are c.args.line.now c.without_comment.result.now c.without_comment.ensures) c.in_ok-add_labels.ensures.added in
    let same : c.in-Err.fault ≡ fault = cc in
    place_refused c.args.size c.args.number progress c.args.line.now c.add_labels.new.labels (seen_statement c.in_ok-statement.statement)
    fault given c.in_ok-statement.ensures.read (sym c.in-Err.ensures ∙ ap Err same)
