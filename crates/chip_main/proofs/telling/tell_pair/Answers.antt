use Rattle.std.proofs.Common.{◌++◌, Err, ap}
use Rattle.std.proofs.lemmas.Result.{err_from_is_err_and}
use Rattle.chip_device.specs.Buses.{run_history}
use Rattle.chip_words.specs.Texts.{second_line}
use Rattle.chip_words.proofs.LinesWritten.{told_first, told_then}
use Rattle.chip_main.specs.Texts.{run_text}
use Rattle.chip_main.proofs.telling.tell_pair.Goals as goal

pub returns-in_err-tell_record-clause-told : goal.returns-in_err-tell_record-clause-told
returns-in_err-tell_record-clause-told g c =
    let p = err_from_is_err_and c.from_residual.result c.from_residual.ensures.1 in
    let run = c.args.run.now in
    let second = c.args.second.now in
    rw (p.1, p.2) (told_first _ (run_text run (run_history c.args.bus.now).lies) (second_line ++ run_text second.run second.lies) _ _ _
    (ap (run_text run) c.lies.ensures.lies) c.in_err-tell_record.ensures.told)

pub returns-in_err-write_line-clause-told : goal.returns-in_err-write_line-clause-told
returns-in_err-write_line-clause-told g c =
    let p = err_from_is_err_and c.from_residual-in_err-write_line.result c.from_residual-in_err-write_line.ensures.1 in
    let run = c.args.run.now in
    let second = c.args.second.now in
    rw (p.1, p.2) (told_then _ (run_text run (run_history c.args.bus.now).lies) (second_line ++ run_text second.run second.lies) _
    (g.N.Sink.state c.tell_record.new.note) (g.N.Sink.state c.write_line.new.note) (Err c.in_err-write_line.field-0.0)
    (ap (run_text run) c.lies.ensures.lies) c.in_ok-tell_record.ensures.told c.tell_record.ensures.faults
    (told_first _ second_line (run_text second.run second.lies) _ _ _ c.second_line.ensures c.in_err-write_line.ensures.told))

pub returns-clause-told : goal.returns-clause-told
returns-clause-told g c =
    let run = c.args.run.now in
    let second = c.args.second.now in
    told_then _ (run_text run (run_history c.args.bus.now).lies) (second_line ++ run_text second.run second.lies) _ _ _ c.tell_record-2.result
    (ap (run_text run) c.lies.ensures.lies) c.in_ok-tell_record.ensures.told c.tell_record.ensures.faults
    (told_then _ second_line (run_text second.run second.lies) _ _ _ c.tell_record-2.result c.second_line.ensures
    c.in_ok-write_line.ensures.told c.write_line.ensures.faults c.tell_record-2.ensures.told)
