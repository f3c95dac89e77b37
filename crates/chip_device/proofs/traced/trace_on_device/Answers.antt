use Rattle.chip_words.specs.Words.{run_asked}
use Rattle.chip_device.specs.Device.{terms_of}
use Rattle.chip_device.proofs.DeviceRuns.{still_of}
use Rattle.chip_device.proofs.TraceRuns.{traced}
use Rattle.chip_device.proofs.traced.trace_on_device.Goals as goal

pub returns-clause-traced : goal.returns-clause-traced
returns-clause-traced c = λ program flat.
    let terms = terms_of (run_asked c.args.asked.now) program c.args.input.now in
    let went = c.run_over-run.ensures.accesses in
    let runs = rw c.new-printed.ensures at (c.run_over-run.ensures.ran program flat) in
    let records = rw c.in_ok-recorded.ensures at went.1 in
    let few = rw c.finish-entries.ensures.entries at c.trace_by-trace.ensures.few in
    let fits = rw (c.finish-entries.ensures.entries, c.finish-entries.ensures.bus) at c.finish-entries.ensures.fits in
    let told = traced terms c.run_over-run.result.0 c.in_ok-bus.bus c.run_over-run.result.1 c.run_over-run.new.out went.0
    c.in_ok-bus.ensures.history runs records (went.2 program flat) few fits in
    rw (c.trace_by-trace.ensures.trace, c.into_bytes.ensures, c.finish-entries.ensures.entries, c.finish-entries.ensures.bus) told

pub returns-clause-bus : goal.returns-clause-bus
returns-clause-bus c =
    let went = c.run_over-run.ensures.accesses in
    let records = rw c.in_ok-recorded.ensures at went.1 in
    rw c.finish-entries.ensures.bus
    (still_of c.args.script c.in_ok-bus.bus c.run_over-run.result.1.bus went.0 c.in_ok-bus.ensures.script records.below)
