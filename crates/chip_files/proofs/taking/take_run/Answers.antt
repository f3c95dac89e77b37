use Rattle.std.proofs.Common.{◌++◌, [], ◌∷◌, option_map}
use Rattle.std.proofs.lemmas.Result.{err_from_is_err_and}
use Rattle.chip_words.specs.Words.{file_asked}
use Rattle.chip_files.specs.Needs.{input_needs, program_need, script_needs}
use Rattle.chip_files.proofs.Accepted.{script_accepted}
use Rattle.chip_files.proofs.Takings.{later_by, stops_first, stops_later}
use Rattle.chip_files.proofs.taking.take_run.Goals as goal

pub returns-in_err-image-clause-stopped : goal.returns-in_err-image-clause-stopped
returns-in_err-image-clause-stopped g c =
    let p = err_from_is_err_and c.from_residual.result c.from_residual.ensures.1 in
    let asked = c.args.asked.now in
    let scripts = script_needs asked.execution.file.geometry (option_map (λ n. n.now) asked.script) in
    let inputs = input_needs (option_map (λ n. n.now) asked.execution.input) in
    rw (p.1, p.2) (stops_first c.in_err-image.field-0.0 (program_need (file_asked asked.execution.file) ∷ []) (scripts ++ inputs) _ _ c.in_err-image.ensures.stopped)

pub returns-in_err-script-clause-stopped : goal.returns-in_err-script-clause-stopped
returns-in_err-script-clause-stopped g c =
    let p = err_from_is_err_and c.from_residual-in_err-script.result c.from_residual-in_err-script.ensures.1 in
    let asked = c.args.asked.now in
    let scripts = script_needs asked.execution.file.geometry (option_map (λ n. n.now) asked.script) in
    let inputs = input_needs (option_map (λ n. n.now) asked.execution.input) in
    let told = c.in_ok-image.ensures.taken.2 in
    rw (p.1, p.2) (stops_later c.in_err-script.field-0.0 (program_need (file_asked asked.execution.file) ∷ []) (scripts ++ inputs) _ _ _
    ((told.bytes, told.accepted), tt) c.in_ok-image.ensures.asked (later_by c.in_ok-image.ensures.held c.in_ok-image.ensures.quiet c.in_ok-image.ensures.bytes_taken)
    (stops_first c.in_err-script.field-0.0 scripts inputs _ _ c.in_err-script.ensures.stopped))

pub returns-in_err-input-clause-stopped : goal.returns-in_err-input-clause-stopped
returns-in_err-input-clause-stopped g c =
    let p = err_from_is_err_and c.from_residual-in_err-input.result c.from_residual-in_err-input.ensures.1 in
    let asked = c.args.asked.now in
    let geometry = asked.execution.file.geometry in
    let name = option_map (λ n. n.now) asked.script in
    let scripts = script_needs geometry name in
    let inputs = input_needs (option_map (λ n. n.now) asked.execution.input) in
    let told = c.in_ok-image.ensures.taken.2 in
    rw (p.1, p.2) (stops_later c.in_err-input.field-0.0 (program_need (file_asked asked.execution.file) ∷ []) (scripts ++ inputs) _ _ _
    ((told.bytes, told.accepted), tt) c.in_ok-image.ensures.asked (later_by c.in_ok-image.ensures.held c.in_ok-image.ensures.quiet c.in_ok-image.ensures.bytes_taken)
    (stops_later c.in_err-input.field-0.0 scripts inputs _ _ _ (script_accepted name geometry c.in_ok-script.script _ c.in_ok-script.ensures.taken)
    c.in_ok-script.ensures.asked (later_by c.in_ok-script.ensures.held c.in_ok-script.ensures.quiet c.in_ok-script.ensures.bytes_taken) c.in_err-input.ensures.stopped))
