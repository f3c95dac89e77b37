use Rattle.std.proofs.Common.{subst}
use Rattle.plain_machine.specs.PlainRun.{RunsPlain}
use Rattle.rv32_core.specs.Machine.{opening}
use Rattle.bus_trace.specs.Comparison.{ComparisonView, compared, taken_by}
use Rattle.bus_trace.proofs.Stands.{stood, went_on}
use Rattle.bus_trace.proofs.judging.stand_at.Goals as goal

pub returns-in-WriteFault : goal.returns-in-WriteFault
returns-in-WriteFault c =
    let start = opening c.args.image.now c.args.input.now in
    let sink : ComparisonView = c.run-run.new.out in
    let runs = subst (λ (new : ComparisonView). RunsPlain start c.args.retired (compared new) (compared sink) c.run-run.result) c.new-sink.ensures c.run-run.ensures.run in
    record {
      run = λ other. absurd (other c.in-WriteFault.is);
      printed = went_on start c.args.retired c.run-run.result c.args.expected.now sink.expected (taken_by sink) c.printed-printed.result sink.faults runs
          c.printed-printed.ensures.tests c.in-WriteFault.is c.if-run-retired.true c.printed-printed.ensures.failed;
    }

pub returns-in_default : goal.returns-in_default
returns-in_default c =
    let start = opening c.args.image.now c.args.input.now in
    let sink : ComparisonView = c.run-run.new.out in
    let runs = subst (λ (new : ComparisonView). RunsPlain start c.args.retired (compared new) (compared sink) c.run-run.result) c.new-sink.ensures c.run-run.ensures.run in
    let both = stood start c.args.retired c.run-run.result c.args.expected.now sink.expected (taken_by sink) c.printed-printed.result sink.faults runs
    c.printed-printed.ensures.tests c.in_default.not-WriteFault c.in_default.not-NoMemory in
    record { run = λ _. both.0; printed = both.1 }
