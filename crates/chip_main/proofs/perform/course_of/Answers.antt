use Rattle.std.proofs.lemmas.Result.{err_from_is_err_and}
use Rattle.chip_words.specs.Request.{to_bench}
use Rattle.chip_words.specs.Words.{file_asked, run_asked}
use Rattle.chip_main.specs.Texts.{elf_file, listing, measurement_line}
use Rattle.std.proofs.Common.{Ok, refl}
use Rattle.chip_main.proofs.Courses.{came_refused, came_unread, came_without_memory, writes_of}
use Rattle.chip_main.proofs.Faults.{result_ending, result_quiet, result_summed, result_text}
use Rattle.chip_main.proofs.perform.course_of.Goals as goal

pub returns-in_err-asked-clause-stopped : goal.returns-in_err-asked-clause-stopped
returns-in_err-asked-clause-stopped g c =
    let p = err_from_is_err_and c.from_residual.result c.from_residual.ensures.1 in
    rw (p.1, p.2) (came_refused c.in_err-asked.field-0.0 _ _ _ c.in_err-asked.ensures.refused)

pub returns-in_err-run-in-Run-clause-stopped : goal.returns-in_err-run-in-Run-clause-stopped
returns-in_err-run-in-Run-clause-stopped g c =
    let p = err_from_is_err_and c.from_residual-in_err-run-in-Run.result c.from_residual-in_err-run-in-Run.ensures.1 in
    let taken = c.in_ok-image-in-Run.ensures.taken in
    rw (p.1, p.2, c.in_ok-asked.ensures.taken, c.in-Run.is)
    (came_without_memory (run_asked c.in-Run.asked) _ _ taken.0 c.in_ok-image-in-Run.script c.in_ok-image-in-Run.input taken.2, c.in_err-run-in-Run.ensures.silent)

pub returns-in_ok-run-in-Run-clause-came : goal.returns-in_ok-run-in-Run-clause-came
returns-in_ok-run-in-Run-clause-came g c =
    let taken = c.in_ok-image-in-Run.ensures.taken in
    rw (c.in_ok-asked.ensures.taken, c.in-Run.is) (record {
      program = taken.0;
      script = c.in_ok-image-in-Run.script;
      input = c.in_ok-image-in-Run.input;
      reads = taken.2;
      bus_is = c.in_ok-run-in-Run.ensures.bus;
      runs = rw c.as_slice.ensures at (c.in_ok-run-in-Run.ensures.ran taken.0 taken.1);
      accesses = rw c.as_slice.ensures at (c.in_ok-run-in-Run.ensures.accesses taken.0 taken.1);
    })

pub returns-in_ok-image-in-Plain-clause-came : goal.returns-in_ok-image-in-Plain-clause-came
returns-in_ok-image-in-Plain-clause-came g c =
    let taken = c.in_ok-image-in-Plain.ensures.taken in
    rw (c.in_ok-asked.ensures.taken, c.in-Plain.is)
    (taken.0, c.in_ok-image-in-Plain.input, taken.2, rw c.as_slice-in-Plain.ensures at (c.run_plain-run.ensures.ran taken.0 taken.1))

pub returns-in_ok-image-in-Asm-clause-came : goal.returns-in_ok-image-in-Asm-clause-came
returns-in_ok-image-in-Asm-clause-came g c =
    let read = c.in_ok-image-in-Asm.ensures in
    rw (c.in_ok-asked.ensures.taken, c.in-Asm.is)
    (writes_of (file_asked c.in-Asm.file) elf_file read.taken.0 c.in_ok-image-in-Asm.image _ _ _ _ _ read.taken.1 read.taken.2 read.asked c.write_elf_file.ensures.told)

pub returns-in_ok-image-in-Dis-clause-came : goal.returns-in_ok-image-in-Dis-clause-came
returns-in_ok-image-in-Dis-clause-came g c =
    let read = c.in_ok-image-in-Dis.ensures in
    rw (c.in_ok-asked.ensures.taken, c.in-Dis.is)
    (writes_of (file_asked c.in-Dis.file) listing read.taken.0 c.in_ok-image-in-Dis.image _ _ _ _ _ read.taken.1 read.taken.2 read.asked c.write_listing.ensures.listed)

pub returns-in_ok-image-in-Measure-clause-came : goal.returns-in_ok-image-in-Measure-clause-came
returns-in_ok-image-in-Measure-clause-came g c =
    let read = c.in_ok-image-in-Measure.ensures in
    rw (c.in_ok-asked.ensures.taken, c.in-Measure.is)
    (writes_of (file_asked c.in-Measure.file) measurement_line read.taken.0 c.in_ok-image-in-Measure.image _ _ _ _ _ read.taken.1 read.taken.2 read.asked c.write_measurement.ensures.told)

pub returns-in_err-run-in-Bench-clause-stopped : goal.returns-in_err-run-in-Bench-clause-stopped
returns-in_err-run-in-Bench-clause-stopped g c =
    let p = err_from_is_err_and c.from_residual-in_err-run-in-Bench.result c.from_residual-in_err-run-in-Bench.ensures.1 in
    rw (p.1, p.2, c.in_ok-asked.ensures.taken, c.in-Bench.is) (came_unread (Ok (to_bench c.in-Bench.number)) _, refl)

pub returns-in_ok-run-in-Bench-clause-came : goal.returns-in_ok-run-in-Bench-clause-came
returns-in_ok-run-in-Bench-clause-came g c =
    rw (c.in_ok-asked.ensures.taken, c.in-Bench.is) (record {
      asked = refl;
      printed = c.in_ok-run-in-Bench.printed;
      runs = c.in_ok-run-in-Bench.ensures.ran;
      written = rw c.as_slice-in-Bench.ensures at c.write_summary-written.ensures.told;
    })

pub returns-in_ok-run-in-Run-clause-quiet : goal.returns-in_ok-run-in-Run-clause-quiet
returns-in_ok-run-in-Run-clause-quiet g c =
    let taken = c.in_ok-image-in-Run.ensures.taken in
    λ is. (c.in_ok-image-in-Run.ensures.quiet, result_quiet (c.in_ok-run-in-Run.ensures.ran taken.0 taken.1) is)

pub returns-in_ok-image-in-Plain-clause-quiet : goal.returns-in_ok-image-in-Plain-clause-quiet
returns-in_ok-image-in-Plain-clause-quiet g c =
    let taken = c.in_ok-image-in-Plain.ensures.taken in
    λ is. (c.in_ok-image-in-Plain.ensures.quiet, (c.run_plain-run.ensures.ran taken.0 taken.1).sink.quiet (result_ending c.run_plain-run.result.ending is))

pub returns-in_ok-image-in-Asm-clause-quiet : goal.returns-in_ok-image-in-Asm-clause-quiet
returns-in_ok-image-in-Asm-clause-quiet g c =
    λ is. (c.in_ok-image-in-Asm.ensures.quiet, result_text c.write_elf_file.result is c.write_elf_file.ensures.quiet)

pub returns-in_ok-image-in-Dis-clause-quiet : goal.returns-in_ok-image-in-Dis-clause-quiet
returns-in_ok-image-in-Dis-clause-quiet g c =
    λ is. (c.in_ok-image-in-Dis.ensures.quiet, result_text c.write_listing.result is c.write_listing.ensures.quiet)

pub returns-in_ok-image-in-Measure-clause-quiet : goal.returns-in_ok-image-in-Measure-clause-quiet
returns-in_ok-image-in-Measure-clause-quiet g c =
    λ is. (c.in_ok-image-in-Measure.ensures.quiet, result_text c.write_measurement.result is c.write_measurement.ensures.quiet)

pub returns-in_ok-run-in-Bench-clause-quiet : goal.returns-in_ok-run-in-Bench-clause-quiet
returns-in_ok-run-in-Bench-clause-quiet g c =
    λ is. (refl, result_summed c.in_ok-run-in-Bench.ensures.ran c.write_summary-written.result is c.write_summary-written.ensures.quiet)
