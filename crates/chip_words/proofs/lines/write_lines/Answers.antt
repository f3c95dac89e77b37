use Rattle.std.proofs.Common.{◌≡◌, ◌∙◌, Err, refl, rules}
use Rattle.std.specs.Prelude.{string_bytes}
use Rattle.chip_words.proofs.LinesWritten.{all_written, line_next, next_stopped, next_written, no_line_left}
use Rattle.chip_words.proofs.lines.write_lines.Goals as goal

pub returns-in_err-write_line-clause-told : goal.returns-in_err-write_line-clause-told
returns-in_err-write_line-clause-told g c =
    let first = line_next string_bytes _ _ _ c.line-item.result _ refl c.loop-line-test.true c.line-item.is c.as_str.ensures.value in
    let same : c.from_residual.result ≡ Err c.in_err-write_line.field-0.0 = search rules in
    rw same (next_stopped _ _ _ _ _ _ _ _ first c.loop-line.invariant.goes_on c.in_err-write_line.ensures.told)

pub loop-line-preserved : goal.loop-line-preserved
loop-line-preserved g c =
    let first = line_next string_bytes _ _ _ c.line-item.result _ refl c.loop-line-test.true c.line-item.is c.as_str.ensures.value in
    record {
      goes_on = next_written _ _ _ _ _ _ _ first c.loop-line.invariant.goes_on c.in_ok-write_line.ensures.told c.write_line.ensures.faults;
      quiet = c.in_ok-write_line.ensures.quiet ∙ c.loop-line.invariant.quiet;
    }

pub returns-clause-told : goal.returns-clause-told
returns-clause-told g c =
    all_written _ _ _ _ (no_line_left string_bytes _ _ _ refl c.loop-line-test.false) c.loop-line.invariant.goes_on
