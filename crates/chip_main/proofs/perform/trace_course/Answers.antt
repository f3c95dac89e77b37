use Rattle.std.proofs.lemmas.Result.{err_from_is_err_and}
use Rattle.std.proofs.Common.{refl}
use Rattle.chip_words.specs.Words.{run_asked}
use Rattle.chip_main.proofs.Courses.{traced_without_memory}
use Rattle.chip_main.proofs.perform.trace_course.Goals as goal

pub returns-in_err-run-clause-stopped : goal.returns-in_err-run-clause-stopped
returns-in_err-run-clause-stopped g c =
    let p = err_from_is_err_and c.from_residual-in_err-run.result c.from_residual-in_err-run.ensures.1 in
    let taken = c.in_ok-image.ensures.taken in
    rw (p.1, p.2) (traced_without_memory (run_asked c.args.asked.now) _ _ taken.0 c.in_ok-image.script c.in_ok-image.input taken.2, refl)

pub returns-clause-came : goal.returns-clause-came
returns-clause-came g c =
    let taken = c.in_ok-image.ensures.taken in
    record {
      program = taken.0;
      script = c.in_ok-image.script;
      input = c.in_ok-image.input;
      reads = taken.2;
      bus_is = c.in_ok-run.ensures.bus;
      trace = c.in_ok-run.trace;
      traced = rw c.as_slice.ensures at (c.in_ok-run.ensures.traced taken.0 taken.1);
      written = c.write_trace-written.ensures.told;
    }
