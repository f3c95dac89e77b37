use Rattle.std.proofs.Common.{◌≡◌, ap, option_map, refl}
use Rattle.std.proofs.lemmas.Result.{err_from_is_err_and}
use Rattle.sec_base.specs.Geometry.{one}
use Rattle.chip_words.specs.Request.{RunAsked}
use Rattle.chip_files.specs.Needs.{script_needs}
use Rattle.chip_files.proofs.Accepted.{script_accepted}
use Rattle.chip_files.proofs.Pairs.{script_fits, script_is, scripts_asked, scripts_stopped}
use Rattle.chip_files.proofs.Takings.{later_by, stops_first, stops_later}
use Rattle.chip_files.proofs.pair.take_scripts.Goals as goal

pub returns-in_err-first-clause-stopped : goal.returns-in_err-first-clause-stopped
returns-in_err-first-clause-stopped g c =
    let p = err_from_is_err_and c.from_residual.result c.from_residual.ensures.1 in
    let four : c.side_run-geometry.result.execution.file.geometry ≡ one 4 = ap (λ (run : RunAsked). run.execution.file.geometry) c.side_run-geometry.ensures.settings in
    let first = option_map (λ n. n.now) c.args.asked.now.first.script in
    let second = option_map (λ n. n.now) c.args.asked.now.second.script in
    let shape = c.side_run-geometry.result.execution.file.geometry in
    rw (p.1, p.2) (scripts_stopped shape (one 4) c.in_err-first.field-0.0 first second _ _ four
    (stops_first c.in_err-first.field-0.0 (script_needs shape first) (script_needs shape second) _ _ c.in_err-first.ensures.stopped))

pub returns-in_err-second-clause-stopped : goal.returns-in_err-second-clause-stopped
returns-in_err-second-clause-stopped g c =
    let p = err_from_is_err_and c.from_residual-in_err-second.result c.from_residual-in_err-second.ensures.1 in
    let four : c.side_run-geometry.result.execution.file.geometry ≡ one 4 = ap (λ (run : RunAsked). run.execution.file.geometry) c.side_run-geometry.ensures.settings in
    let first = option_map (λ n. n.now) c.args.asked.now.first.script in
    let second = option_map (λ n. n.now) c.args.asked.now.second.script in
    let shape = c.side_run-geometry.result.execution.file.geometry in
    let read = c.in_ok-first.ensures in
    rw (p.1, p.2) (scripts_stopped shape (one 4) c.in_err-second.field-0.0 first second _ _ four
    (stops_later c.in_err-second.field-0.0 (script_needs shape first) (script_needs shape second) _ _ _ (script_accepted first shape c.in_ok-first.first _ read.taken)
    read.asked (later_by read.held read.quiet read.bytes_taken) c.in_err-second.ensures.stopped))

pub returns-clause-first : goal.returns-clause-first
returns-clause-first g c =
    let four : c.side_run-geometry.result.execution.file.geometry ≡ one 4 = ap (λ (run : RunAsked). run.execution.file.geometry) c.side_run-geometry.ensures.settings in
    let first = option_map (λ n. n.now) c.args.asked.now.first.script in
    script_is c.side_run-geometry.result.execution.file.geometry (one 4) first c.in_ok-first.first _ _ four refl c.in_ok-first.ensures.taken

pub returns-clause-second : goal.returns-clause-second
returns-clause-second g c =
    let four : c.side_run-geometry.result.execution.file.geometry ≡ one 4 = ap (λ (run : RunAsked). run.execution.file.geometry) c.side_run-geometry.ensures.settings in
    let second = option_map (λ n. n.now) c.args.asked.now.second.script in
    script_is c.side_run-geometry.result.execution.file.geometry (one 4) second c.in_ok-second.second _ _ four c.in_ok-first.ensures.held c.in_ok-second.ensures.taken

pub returns-clause-first_fits : goal.returns-clause-first_fits
returns-clause-first_fits g c =
    let four : c.side_run-geometry.result.execution.file.geometry ≡ one 4 = ap (λ (run : RunAsked). run.execution.file.geometry) c.side_run-geometry.ensures.settings in
    script_fits c.side_run-geometry.result.execution.file.geometry (one 4) c.in_ok-first.first four c.in_ok-first.ensures.fits

pub returns-clause-second_fits : goal.returns-clause-second_fits
returns-clause-second_fits g c =
    let four : c.side_run-geometry.result.execution.file.geometry ≡ one 4 = ap (λ (run : RunAsked). run.execution.file.geometry) c.side_run-geometry.ensures.settings in
    script_fits c.side_run-geometry.result.execution.file.geometry (one 4) c.in_ok-second.second four c.in_ok-second.ensures.fits

pub returns-clause-asked : goal.returns-clause-asked
returns-clause-asked g c =
    let four : c.side_run-geometry.result.execution.file.geometry ≡ one 4 = ap (λ (run : RunAsked). run.execution.file.geometry) c.side_run-geometry.ensures.settings in
    let first = option_map (λ n. n.now) c.args.asked.now.first.script in
    let second = option_map (λ n. n.now) c.args.asked.now.second.script in
    scripts_asked c.side_run-geometry.result.execution.file.geometry (one 4) first second _ _ _ four c.in_ok-first.ensures.asked c.in_ok-second.ensures.asked
