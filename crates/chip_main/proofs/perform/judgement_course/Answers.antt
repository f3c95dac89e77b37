use Rattle.std.proofs.lemmas.Result.{err_from_is_err_and}
use Rattle.std.proofs.Common.{refl}
use Rattle.chip_words.specs.Words.{judge_asked}
use Rattle.chip_main.proofs.Courses.{judged_without_memory}
use Rattle.chip_main.proofs.perform.judgement_course.Goals as goal

pub returns-in_err-difference-clause-stopped : goal.returns-in_err-difference-clause-stopped
returns-in_err-difference-clause-stopped g c =
    let p = err_from_is_err_and c.from_residual-in_err-difference.result c.from_residual-in_err-difference.ensures.1 in
    let taken = c.in_ok-image.ensures.taken in
    rw (p.1, p.2) (judged_without_memory (judge_asked c.args.asked.now) _ _ taken.0 c.in_ok-image.input c.in_ok-image.trace taken.2, refl)

pub returns-clause-came : goal.returns-clause-came
returns-clause-came g c =
    let taken = c.in_ok-image.ensures.taken in
    record {
      program = taken.0;
      input = c.in_ok-image.input;
      trace = c.in_ok-image.trace;
      reads = taken.2;
      verdict = rw c.as_slice.ensures at (c.in_ok-difference.ensures taken.0 taken.1);
      written = c.write_verdict-written.ensures.told;
    }
