use Rattle.std.proofs.lemmas.Result.{err_from_is_err_and}
use Rattle.std.proofs.Common.{refl}
use Rattle.chip_words.specs.Words.{pair_asked}
use Rattle.chip_main.proofs.Courses.{paired_without_memory}
use Rattle.chip_main.proofs.Faults.{result_paired}
use Rattle.chip_main.proofs.perform.pair_course.Goals as goal

pub returns-in_err-first-2-clause-stopped : goal.returns-in_err-first-2-clause-stopped
returns-in_err-first-2-clause-stopped g c =
    let p = err_from_is_err_and c.from_residual-in_err-first-2.result c.from_residual-in_err-first-2.ensures.1 in
    let taken = c.in_ok-first.ensures.taken in
    rw (p.1, p.2) (paired_without_memory (pair_asked c.args.asked.now) _ _ taken.0 taken.1 _ _ _ taken.4, refl)

pub returns-clause-came : goal.returns-clause-came
returns-clause-came g c =
    let taken = c.in_ok-first.ensures.taken in
    let ran = c.in_ok-first-2.ensures in
    rw c.pair_ran.ensures.ran (record {
      program = taken.0;
      second_program = taken.1;
      order = _;
      script = _;
      second_script = _;
      reads = taken.4;
      bus_is = ran.first_bus;
      second_bus_is = ran.second_bus;
      printed = c.in_ok-first-2.first.printed;
      second_printed = c.in_ok-first-2.second.printed;
      runs = ran.first taken.0 taken.2;
      second_runs = ran.second taken.1 taken.3;
      second_lies = refl;
      second_by_script = c.pair_ran.ensures.by_script;
      written = rw (c.as_slice-2.ensures, c.as_slice-3.ensures) at c.write_both-written.ensures.told;
    })

pub returns-clause-quiet : goal.returns-clause-quiet
returns-clause-quiet g c =
    rw c.pair_ran.ensures.ran (λ is. (
      c.in_ok-first.ensures.quiet,
      result_paired c.in_ok-first-2.first.run c.in_ok-first-2.second.run c.write_both-written.result is c.write_both-written.ensures.quiet,
    ))
