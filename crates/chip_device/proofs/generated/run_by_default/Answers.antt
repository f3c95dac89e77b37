use Rattle.std.proofs.Common.{◌≡◌, ◌∙◌, ap, sym}
use Rattle.sec_base.specs.Geometry.{memory_size, one}
use Rattle.chip_words.specs.Defaults.{default_terms}
use Rattle.chip_words.specs.Request.{RunAsked}
use Rattle.chip_device.proofs.generated.run_by_default.Goals as goal

pub run_on_device-requires-clause-size : goal.run_on_device-requires-clause-size
run_on_device-requires-clause-size c =
    c.requires.size ∙ ap memory_size (sym (ap (λ (run : RunAsked). run.execution.file.geometry) c.default_run-default.ensures.settings))

pub returns-clause-ran : goal.returns-clause-ran
returns-clause-ran c =
    let settings = c.default_run-default.ensures.settings in
    let four : c.default_run-default.result.execution.file.geometry ≡ one 4 = ap (λ (run : RunAsked). run.execution.file.geometry) settings in
    let steps : c.default_run-default.result.execution.steps ≡ 10000000 = ap (λ (run : RunAsked). run.execution.steps) settings in
    let terms : c.default_run-default.result.terms ≡ default_terms = ap (λ (run : RunAsked). run.terms) settings in
    rw (four, steps, terms) at c.run_on_device.ensures.ran

pub returns-clause-accesses : goal.returns-clause-accesses
returns-clause-accesses c =
    let settings = c.default_run-default.ensures.settings in
    let four : c.default_run-default.result.execution.file.geometry ≡ one 4 = ap (λ (run : RunAsked). run.execution.file.geometry) settings in
    let steps : c.default_run-default.result.execution.steps ≡ 10000000 = ap (λ (run : RunAsked). run.execution.steps) settings in
    let terms : c.default_run-default.result.terms ≡ default_terms = ap (λ (run : RunAsked). run.terms) settings in
    rw (four, steps, terms) at c.run_on_device.ensures.accesses
