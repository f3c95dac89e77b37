use Rattle.std.proofs.Common.{◌≡◌, ◌∙◌, IfSome, ap, subst, sym}
use Rattle.adversary_script.specs.Script.{FitScript}
use Rattle.sec_base.specs.Geometry.{GeometryView, one}
use Rattle.chip_words.specs.Request.{RunAsked}
use Rattle.chip_device.specs.Device.{setup_of}
use Rattle.chip_device.proofs.paired.set_up.Goals as goal

pub new-requires : goal.new-requires
new-requires c =
    let four : c.side_run-run.result.execution.file.geometry ≡ one 4 = ap (λ (run : RunAsked). run.execution.file.geometry) c.side_run-run.ensures.settings in
    record { fits = subst (λ (shape : GeometryView). IfSome c.args.script (FitScript shape)) (sym four) c.requires.fits }

pub returns-clause-setup : goal.returns-clause-setup
returns-clause-setup c = c.setup_of-setup.ensures ∙ ap setup_of c.side_run-run.ensures.settings

pub returns-clause-history : goal.returns-clause-history
returns-clause-history c =
    let four : c.side_run-run.result.execution.file.geometry ≡ one 4 = ap (λ (run : RunAsked). run.execution.file.geometry) c.side_run-run.ensures.settings in
    rw four at c.in_ok-bus.ensures.history
