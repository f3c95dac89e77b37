-- What a call owes follows from what it came to.
use Rattle.chip_words.specs.Request.{Asked, WordsFault}
use Rattle.std.specs.Prelude.{Result}
use Rattle.chip_main.specs.declared.Done.{Done}
use Rattle.chip_main.specs.World.{World}
use Rattle.chip_main.specs.Course.{Outcome}
use Rattle.chip_main.specs.Call.{GivesAsked, GivesDue, SaysStatus}
use Rattle.chip_main.proofs.Outcomes as outcomes
use Rattle.chip_main.proofs.RunOutcomes as runs
use Rattle.chip_main.proofs.Requested as requested
use Rattle.chip_main.proofs.Faults as faults
use Rattle.chip_main.proofs.Wholes as wholes

pub says_status : {request : Result Asked WordsFault} {old new : World} {answer : Done} → Outcome request old new answer → SaysStatus request old new answer
says_status o = record {
  statuses = outcomes.statuses o;
  done = runs.is_done o;
  trapped = runs.trapped o;
  usage = outcomes.usage o;
  refused = outcomes.refused o;
  out_of_steps = runs.out_of_steps o;
  tampered = runs.tampered o;
  spent = runs.spent o;
  evidence = runs.with_evidence o;
  tag_differs = outcomes.tag_differs o;
  judged_no = outcomes.judged_no o;
  read_fault = outcomes.read_fault o;
  write_fault = runs.write_fault o;
  faultless = faults.faultless o;
}

pub gives_asked : {request : Result Asked WordsFault} {old new : World} {answer : Done} → Outcome request old new answer → GivesAsked request old new answer
gives_asked o = record {
  none = requested.none o;
  run = requested.run o;
  plain = requested.plain o;
  asm = requested.asm o;
  dis = requested.dis o;
  measure = requested.measure o;
  verify = requested.verify o;
  bench = requested.bench o;
  trace = requested.trace o;
  judge = requested.judge o;
  pair = requested.pair o;
}

pub gives_due : {request : Result Asked WordsFault} {old new : World} {answer : Done} → Outcome request old new answer → GivesDue request old new answer
gives_due o = record {
  unfit = requested.unfit o;
  whole = wholes.whole o;
  whole_run = wholes.whole_run o;
  whole_report = wholes.whole_report o;
  whole_bench = wholes.whole_bench o;
  whole_trace = wholes.whole_trace o;
  whole_judgement = wholes.whole_judgement o;
  whole_pair = wholes.whole_pair o;
}
