-- What the course of a call says of what was done.
use Rattle.std.proofs.Common.{◌≡◌, ◌≢◌, ◌<◌, ◌≤◌, ◌↔◌, ◌⊎◌, inl, inr, List, ℕ, Option, Some, None, IfSome, Result, Ok, Err, IsSome, [], refl, sym, ap, ◌∙◌, subst, arith}
use Rattle.sec_base.specs.Count.{Rose}
use Rattle.sec_base.specs.Files.{FilesState}
use Rattle.sec_base.specs.Sink.{SinkState}
use Rattle.sec_base.specs.declared.evidence.Evidence.{Evidence}
use Rattle.sec_base.specs.declared.ending.Ending.{Ending}
use Rattle.sec_base.specs.declared.ending.Ending.TheVariants.{WriteFault}
use Rattle.sec_base.specs.declared.image.Image.{Image}
use Rattle.sec_base.specs.declared.sink.SinkStop.TheVariants.{Failed, NoMemory as no_memory}
use Rattle.bus_trace.specs.declared.verdict.Difference.{Difference}
use Rattle.plain_machine.specs.declared.PlainRecord.{PlainRecord}
use Rattle.sec_base.specs.Sink.{IsWritten}
use Rattle.chip_run.specs.declared.RunRecord.{RunRecord}
use Rattle.chip_words.specs.Defaults.{side_run}
use Rattle.chip_words.specs.Request.{Asked, ExecutionAsked, FileAsked, JudgeAsked, PairAsked, ReportAsked, RunAsked, WordsFault, to_assemble, to_bench, to_disassemble, to_judge, to_measure, to_pair, to_run, to_run_plain, to_trace, to_verify}
use Rattle.chip_files.specs.declared.refusal.Refusal.{Refusal}
use Rattle.chip_files.specs.declared.refusal.Refusal.TheVariants.{Usage, WrongValue, Unread, TooLong, Elf, Asm, Script, Report, Trace as trace_refused, Order as order_refused}
use Rattle.chip_device.specs.declared.run_bus.RunBus.{RunBus}
use Rattle.chip_main.specs.declared.course.Course.{Course}
use Rattle.chip_main.specs.declared.course.Course.TheVariants.{Refused, NoMemory, Ran, RanPlain, Written, OtherTag, RanGenerated, RanTraced, Judged, RanPair}
use Rattle.chip_main.specs.declared.Done.{Done}
use Rattle.chip_main.specs.declared.second.Second.{Second}
use Rattle.chip_main.specs.declared.status.Status.{Status}
use Rattle.chip_main.specs.World.{World}
use Rattle.chip_words.specs.Texts.{report_text}
use Rattle.chip_main.specs.Texts.{elf_file, listing, measurement_line}
use Rattle.chip_main.specs.Status.{code_of, Telling, ending_status, evidence_status, joint_status, judged_status, refusal_status, run_status, status_with, text_status, told_pair_status, told_status}
use Rattle.bus_model.specs.BusHistory.{BusHistory}
use Rattle.chip_run.specs.Run.{RunsProtected, Terms}
use Rattle.sec_base.specs.Program.{Program}
use Rattle.chip_device.specs.Buses.{LiesByScript, lies_of, run_history, script_followed}
use Rattle.chip_device.specs.Device.{terms_of}
use Rattle.chip_device.specs.Generated.{generated_run}
use Rattle.chip_device.specs.Printed.{gathered}
use Rattle.chip_main.specs.Answer.{AreBothAnd, ArePairAnd, Ended, Halts, IsDone, IsOfPair, IsPairAnd, IsRunAnd, PlainlyEnded, RanAnd}
use Rattle.chip_main.specs.Endings.{EndedWithoutEvidence, IsHalted, IsTrapped, IsOutOfSteps, EndedTampered, EndedSpent, EndedWithEvidence}
use Rattle.chip_main.specs.Requests.{AsksPair, ByCommand, Judges, JudgesRequest, Pairs, PairsRequest, PlainlyRuns, PlainlyRunsRequest, RunsRequest, Summarizes, SummarizesRequest, Traces, TracesRequest, Writes, WritesReport, WritesRequest}
use Rattle.chip_main.specs.Course.{CameAbout, Outcome, TellsCourse, course_bus, course_run, course_second, course_status, status_of}
use Rattle.chip_main.proofs.Outcomes.{benched, joint_cases, judged, own_status, pair_own, paired, told_own, traced}
use Rattle.chip_main.proofs.RunStatuses.{evidence_cause, halted_status, halted_cause, halted_of, no_seven, out_of_steps_cause, out_of_steps_of, spent_cause, spent_of, tampered_cause, tampered_of, trapped_cause, trapped_of}

-- a run and its bus come together
together : (course : Course) → IsSome (course_run course) ↔ IsSome (course_bus course)
together (Refused refusal) = (λ is. is, λ is. is)
together NoMemory = (λ is. is, λ is. is)
together (Ran run bus) = (λ is. is, λ is. is)
together (RanPlain run) = (λ is. is, λ is. is)
together (Written telling) = (λ is. is, λ is. is)
together OtherTag = (λ is. is, λ is. is)
together (RanGenerated run bus telling) = (λ is. is, λ is. is)
together (RanTraced run bus telling) = (λ is. is, λ is. is)
together (Judged difference telling) = (λ is. is, λ is. is)
together (RanPair run bus second telling) = (λ is. is, λ is. is)

pub bus_together : {request : Result Asked WordsFault} {old new : World} {done : Done} → Outcome request old new done → IsSome done.run ↔ IsSome done.bus
bus_together o = rw (o.run, o.bus) (together o.course)

-- a bus that follows no line of a script is honest
none_false : (bus : Option RunBus) → IfSome bus LiesByScript → script_followed bus ≡ [] → lies_of bus ≡ 0
none_false None by_script none = refl
none_false (Some bus) by_script none = by_script.without_lines none

pub follows_script : {request : Result Asked WordsFault} {old new : World} {done : Done} → Outcome request old new done → IfSome done.bus LiesByScript
follows_script o = subst (λ (bus : Option RunBus). IfSome bus LiesByScript) (sym o.bus) o.by_script

pub honest : {request : Result Asked WordsFault} {old new : World} {done : Done} → Outcome request old new done → script_followed done.bus ≡ [] → done.lies ≡ 0
honest o none = o.lies ∙ none_false (course_bus o.course) o.by_script (ap script_followed (sym o.bus) ∙ none)

-- ---- what a status says of what was done, by the command

-- what a status says of a run on protected memory, of one on the plain machine, of a text, of a report and of a verdict
pub record Says (status : ℕ) (Run : RunAsked → RunRecord → RunBus → Type 0) (Plain : ExecutionAsked → Type 0) (Text : FileAsked → (Image → List ℕ) → Type 0) (Check : ReportAsked → Type 0) (Verdict : JudgeAsked → Type 0) (files files' : FilesState) (out out' : SinkState) : Type 0 where
  pub refuses : (refusal : Refusal) → code_of (refusal_status refusal) ≢ status
  pub low : status < 9
  pub of_run : (asked : RunAsked) (program : Program) (input : List ℕ) (old new : SinkState) (before : BusHistory) (run : RunRecord) (bus : RunBus) →
      RunsProtected (terms_of asked program input) old new before (run_history bus) run → code_of (run_status run) ≡ status → Run asked run bus
  pub of_plain : (execution : ExecutionAsked) (run : PlainRecord) → PlainlyRuns execution files files' out out' run → code_of (ending_status run.ending) ≡ status → Plain execution
  pub of_text : (file : FileAsked) (text : Image → List ℕ) (telling : Telling) → Writes file text files files' out out' telling → code_of (text_status telling) ≡ status → Text file text
  pub of_report : (asked : ReportAsked) (telling : Telling) → WritesReport asked files files' out out' telling → code_of (text_status telling) ≡ status → Check asked
  pub of_verdict : (judge : JudgeAsked) (difference : Option Difference) (telling : Telling) → Judges judge files files' out out' difference telling → code_of (judged_status difference telling) ≡ status → Verdict judge

said_of_run : (request : Result Asked WordsFault) (run : RunRecord) (bus : RunBus) (status : ℕ) (Run : RunAsked → RunRecord → RunBus → Type 0) (Plain : ExecutionAsked → Type 0) (Text : FileAsked → (Image → List ℕ) → Type 0) (Check : ReportAsked → Type 0) (Verdict : JudgeAsked → Type 0) (files files' : FilesState) (out out' : SinkState) →
    Says status Run Plain Text Check Verdict files files' out out' → RunsRequest request files files' out out' run bus → code_of (run_status run) ≡ status → ByCommand request (λ asked. Run asked run bus) Plain Text Check (λ _. Run generated_run run bus) (λ asked. Run asked run bus) Verdict (λ _. ⊥)
said_of_run (Err fault) run bus status Run Plain Text Check Verdict files files' out out' says came is = absurd came
said_of_run (Ok (to_run asked)) run bus status Run Plain Text Check Verdict files files' out out' says came is =
    says.of_run asked came.program came.input out out' _ run bus came.runs is
said_of_run (Ok (to_run_plain execution)) run bus status Run Plain Text Check Verdict files files' out out' says came is = absurd came
said_of_run (Ok (to_assemble file)) run bus status Run Plain Text Check Verdict files files' out out' says came is = absurd came
said_of_run (Ok (to_disassemble file)) run bus status Run Plain Text Check Verdict files files' out out' says came is = absurd came
said_of_run (Ok (to_measure file)) run bus status Run Plain Text Check Verdict files files' out out' says came is = absurd came
said_of_run (Ok (to_verify report)) run bus status Run Plain Text Check Verdict files files' out out' says came is = absurd came
said_of_run (Ok (to_bench number)) run bus status Run Plain Text Check Verdict files files' out out' says came is = absurd came
said_of_run (Ok (to_trace asked)) run bus status Run Plain Text Check Verdict files files' out out' says came is = absurd came
said_of_run (Ok (to_judge judge)) run bus status Run Plain Text Check Verdict files files' out out' says came is = absurd came
said_of_run (Ok (to_pair pair)) run bus status Run Plain Text Check Verdict files files' out out' says came is = absurd came

said_of_plain : (request : Result Asked WordsFault) (run : PlainRecord) (status : ℕ) (Run : RunAsked → RunRecord → RunBus → Type 0) (Plain : ExecutionAsked → Type 0) (Text : FileAsked → (Image → List ℕ) → Type 0) (Check : ReportAsked → Type 0) (Verdict : JudgeAsked → Type 0) (files files' : FilesState) (out out' : SinkState) →
    Says status Run Plain Text Check Verdict files files' out out' → PlainlyRunsRequest request files files' out out' run → code_of (ending_status run.ending) ≡ status → ByCommand request (λ _. ⊥) Plain Text Check (λ _. ⊥) (λ _. ⊥) Verdict (λ _. ⊥)
said_of_plain (Err fault) run status Run Plain Text Check Verdict files files' out out' says came is = absurd came
said_of_plain (Ok (to_run asked)) run status Run Plain Text Check Verdict files files' out out' says came is = absurd came
said_of_plain (Ok (to_run_plain execution)) run status Run Plain Text Check Verdict files files' out out' says came is = says.of_plain execution run came is
said_of_plain (Ok (to_assemble file)) run status Run Plain Text Check Verdict files files' out out' says came is = absurd came
said_of_plain (Ok (to_disassemble file)) run status Run Plain Text Check Verdict files files' out out' says came is = absurd came
said_of_plain (Ok (to_measure file)) run status Run Plain Text Check Verdict files files' out out' says came is = absurd came
said_of_plain (Ok (to_verify report)) run status Run Plain Text Check Verdict files files' out out' says came is = absurd came
said_of_plain (Ok (to_bench number)) run status Run Plain Text Check Verdict files files' out out' says came is = absurd came
said_of_plain (Ok (to_trace asked)) run status Run Plain Text Check Verdict files files' out out' says came is = absurd came
said_of_plain (Ok (to_judge judge)) run status Run Plain Text Check Verdict files files' out out' says came is = absurd came
said_of_plain (Ok (to_pair pair)) run status Run Plain Text Check Verdict files files' out out' says came is = absurd came

said_of_text : (request : Result Asked WordsFault) (telling : Telling) (status : ℕ) (Run : RunAsked → RunRecord → RunBus → Type 0) (Plain : ExecutionAsked → Type 0) (Text : FileAsked → (Image → List ℕ) → Type 0) (Check : ReportAsked → Type 0) (Verdict : JudgeAsked → Type 0) (files files' : FilesState) (out out' : SinkState) →
    Says status Run Plain Text Check Verdict files files' out out' → WritesRequest request files files' out out' telling → code_of (text_status telling) ≡ status → ByCommand request (λ _. ⊥) Plain Text Check (λ _. ⊥) (λ _. ⊥) Verdict (λ _. ⊥)
said_of_text (Err fault) telling status Run Plain Text Check Verdict files files' out out' says came is = absurd came
said_of_text (Ok (to_run asked)) telling status Run Plain Text Check Verdict files files' out out' says came is = absurd came
said_of_text (Ok (to_run_plain execution)) telling status Run Plain Text Check Verdict files files' out out' says came is = absurd came
said_of_text (Ok (to_assemble file)) telling status Run Plain Text Check Verdict files files' out out' says came is = says.of_text file elf_file telling came is
said_of_text (Ok (to_disassemble file)) telling status Run Plain Text Check Verdict files files' out out' says came is = says.of_text file listing telling came is
said_of_text (Ok (to_measure file)) telling status Run Plain Text Check Verdict files files' out out' says came is = says.of_text file measurement_line telling came is
said_of_text (Ok (to_verify report)) telling status Run Plain Text Check Verdict files files' out out' says came is = says.of_report report telling came is
said_of_text (Ok (to_bench number)) telling status Run Plain Text Check Verdict files files' out out' says came is = absurd came
said_of_text (Ok (to_trace asked)) telling status Run Plain Text Check Verdict files files' out out' says came is = absurd came
said_of_text (Ok (to_judge judge)) telling status Run Plain Text Check Verdict files files' out out' says came is = absurd came
said_of_text (Ok (to_pair pair)) telling status Run Plain Text Check Verdict files files' out out' says came is = absurd came

said_of_generated : (request : Result Asked WordsFault) (run : RunRecord) (bus : RunBus) (telling : Telling) (status : ℕ) (Run : RunAsked → RunRecord → RunBus → Type 0) (Plain : ExecutionAsked → Type 0) (Text : FileAsked → (Image → List ℕ) → Type 0) (Check : ReportAsked → Type 0) (Verdict : JudgeAsked → Type 0) (files files' : FilesState) (out out' : SinkState) →
    Says status Run Plain Text Check Verdict files files' out out' → SummarizesRequest request files files' out out' run bus telling → code_of (told_status run telling) ≡ status → ByCommand request (λ asked. Run asked run bus) Plain Text Check (λ _. Run generated_run run bus) (λ asked. Run asked run bus) Verdict (λ _. ⊥)
said_of_generated request run bus telling status Run Plain Text Check Verdict files files' out out' says came is =
    let found = benched request files files' out out' run bus telling came in
    let own = says.of_run generated_run found.2.runs.program [] _ _ _ run bus found.2.runs.runs (told_own run telling status says.low is) in
    subst (λ (r : Result Asked WordsFault). ByCommand r (λ asked. Run asked run bus) Plain Text Check (λ _. Run generated_run run bus) (λ asked. Run asked run bus) Verdict (λ _. ⊥)) (sym found.1) own

said_of_traced : (request : Result Asked WordsFault) (run : RunRecord) (bus : RunBus) (telling : Telling) (status : ℕ) (Run : RunAsked → RunRecord → RunBus → Type 0) (Plain : ExecutionAsked → Type 0) (Text : FileAsked → (Image → List ℕ) → Type 0) (Check : ReportAsked → Type 0) (Verdict : JudgeAsked → Type 0) (files files' : FilesState) (out out' : SinkState) →
    Says status Run Plain Text Check Verdict files files' out out' → TracesRequest request files files' out out' run bus telling → code_of (told_status run telling) ≡ status → ByCommand request (λ asked. Run asked run bus) Plain Text Check (λ _. Run generated_run run bus) (λ asked. Run asked run bus) Verdict (λ _. ⊥)
said_of_traced request run bus telling status Run Plain Text Check Verdict files files' out out' says came is =
    let found = traced request files files' out out' run bus telling came in
    let own = says.of_run found.0 found.2.program found.2.input _ _ _ run bus found.2.traced.runs (told_own run telling status says.low is) in
    subst (λ (r : Result Asked WordsFault). ByCommand r (λ asked. Run asked run bus) Plain Text Check (λ _. Run generated_run run bus) (λ asked. Run asked run bus) Verdict (λ _. ⊥)) (sym found.1) own

said_of_verdict : (request : Result Asked WordsFault) (difference : Option Difference) (telling : Telling) (status : ℕ) (Run : RunAsked → RunRecord → RunBus → Type 0) (Plain : ExecutionAsked → Type 0) (Text : FileAsked → (Image → List ℕ) → Type 0) (Check : ReportAsked → Type 0) (Verdict : JudgeAsked → Type 0) (files files' : FilesState) (out out' : SinkState) →
    Says status Run Plain Text Check Verdict files files' out out' → JudgesRequest request files files' out out' difference telling → code_of (judged_status difference telling) ≡ status → ByCommand request (λ _. ⊥) Plain Text Check (λ _. ⊥) (λ _. ⊥) Verdict (λ _. ⊥)
said_of_verdict request difference telling status Run Plain Text Check Verdict files files' out out' says came is =
    let found = judged request files files' out out' difference telling came in
    let own = says.of_verdict found.0 difference telling found.2 is in
    subst (λ (r : Result Asked WordsFault). ByCommand r (λ _. ⊥) Plain Text Check (λ _. ⊥) (λ _. ⊥) Verdict (λ _. ⊥)) (sym found.1) own

-- which of two programs a status is of
of_pair : (asked : PairAsked) (run : RunRecord) (bus : RunBus) (second : Second) (telling : Telling) (status : ℕ) (Run : RunAsked → RunRecord → RunBus → Type 0) (Plain : ExecutionAsked → Type 0) (Text : FileAsked → (Image → List ℕ) → Type 0) (Check : ReportAsked → Type 0) (Verdict : JudgeAsked → Type 0) (files files' : FilesState) (out out' : SinkState) →
    Says status Run Plain Text Check Verdict files files' out out' → Pairs asked files files' out out' run bus second telling → code_of (told_pair_status run second.run telling) ≡ status → IsOfPair Run asked run bus second
of_pair asked run bus second telling status Run Plain Text Check Verdict files files' out out' says pairs is =
    elim (pair_own run second.run telling status says.low is) [
      | inl first ↦ inl (
        λ halts. first.0 (halted_status run bus halts),
        says.of_run (side_run asked.first) pairs.program [] _ _ _ run bus pairs.runs.side.runs first.1,
      )
      | inr then ↦ inr (
        halted_cause bus pairs.runs.side.runs then.0,
        says.of_run (side_run asked.second) pairs.second_program [] _ _ _ second.run second.bus pairs.second_runs.side.runs then.1,
      )
    ]

said_of_pair : (request : Result Asked WordsFault) (run : RunRecord) (bus : RunBus) (second : Second) (telling : Telling) (status : ℕ) (Run : RunAsked → RunRecord → RunBus → Type 0) (Plain : ExecutionAsked → Type 0) (Text : FileAsked → (Image → List ℕ) → Type 0) (Check : ReportAsked → Type 0) (Verdict : JudgeAsked → Type 0) (files files' : FilesState) (out out' : SinkState) →
    Says status Run Plain Text Check Verdict files files' out out' → PairsRequest request files files' out out' run bus second telling → code_of (told_pair_status run second.run telling) ≡ status →
    ByCommand request (λ asked. Run asked run bus) Plain Text Check (λ _. Run generated_run run bus) (λ asked. Run asked run bus) Verdict (λ asked. IsOfPair Run asked run bus second)
said_of_pair request run bus second telling status Run Plain Text Check Verdict files files' out out' says came is =
    let found = paired request files files' out out' run bus second telling came in
    let own = of_pair found.0 run bus second telling status Run Plain Text Check Verdict files files' out out' says found.2 is in
    subst (λ (r : Result Asked WordsFault). ByCommand r (λ asked. Run asked run bus) Plain Text Check (λ _. Run generated_run run bus) (λ asked. Run asked run bus) Verdict (λ asked. IsOfPair Run asked run bus second)) (sym found.1) own

said : (course : Course) (request : Result Asked WordsFault) (status : ℕ) (Run : RunAsked → RunRecord → RunBus → Type 0) (Plain : ExecutionAsked → Type 0) (Text : FileAsked → (Image → List ℕ) → Type 0) (Check : ReportAsked → Type 0) (Verdict : JudgeAsked → Type 0) (files files' : FilesState) (out out' : SinkState) →
    Says status Run Plain Text Check Verdict files files' out out' → CameAbout course request files files' out out' → code_of (course_status course) ≡ status →
    ByCommand request (λ asked. AreBothAnd (course_run course) (course_bus course) (Run asked)) Plain Text Check
    (λ _. AreBothAnd (course_run course) (course_bus course) (Run generated_run))
    (λ asked. AreBothAnd (course_run course) (course_bus course) (Run asked)) Verdict
    (λ asked. ArePairAnd (course_run course) (course_bus course) (course_second course) (IsOfPair Run asked))
said (Refused refusal) request status Run Plain Text Check Verdict files files' out out' says came is = absurd (says.refuses refusal is)
said NoMemory request status Run Plain Text Check Verdict files files' out out' says came is = absurd (omega (arith, says.low))
said (Ran run bus) request status Run Plain Text Check Verdict files files' out out' says came is =
    said_of_run request run bus status Run Plain Text Check Verdict files files' out out' says came is
said (RanPlain run) request status Run Plain Text Check Verdict files files' out out' says came is =
    said_of_plain request run status Run Plain Text Check Verdict files files' out out' says came is
said (Written telling) request status Run Plain Text Check Verdict files files' out out' says came is =
    said_of_text request telling status Run Plain Text Check Verdict files files' out out' says came is
said OtherTag request status Run Plain Text Check Verdict files files' out out' says came is = absurd (omega (arith, says.low))
said (RanGenerated run bus telling) request status Run Plain Text Check Verdict files files' out out' says came is =
    said_of_generated request run bus telling status Run Plain Text Check Verdict files files' out out' says came is
said (RanTraced run bus telling) request status Run Plain Text Check Verdict files files' out out' says came is =
    said_of_traced request run bus telling status Run Plain Text Check Verdict files files' out out' says came is
said (Judged difference telling) request status Run Plain Text Check Verdict files files' out out' says came is =
    said_of_verdict request difference telling status Run Plain Text Check Verdict files files' out out' says came is
said (RanPair run bus second telling) request status Run Plain Text Check Verdict files files' out out' says came is =
    said_of_pair request run bus second telling status Run Plain Text Check Verdict files files' out out' says came is

by_command : (status : ℕ) (Run : RunAsked → RunRecord → RunBus → Type 0) (Plain : ExecutionAsked → Type 0) (Text : FileAsked → (Image → List ℕ) → Type 0) (Check : ReportAsked → Type 0) (Verdict : JudgeAsked → Type 0) {request : Result Asked WordsFault} {old new : World} {done : Done} →
    Says status Run Plain Text Check Verdict old.files new.files old.out new.out → Outcome request old new done → done.status ≡ status → ByCommand request (λ asked. IsRunAnd done (Run asked)) Plain Text Check (λ _. IsRunAnd done (Run generated_run)) (λ asked. IsRunAnd done (Run asked)) Verdict (λ asked. IsPairAnd done (IsOfPair Run asked))
by_command status Run Plain Text Check Verdict {request} {old} {new} says o is =
    rw (o.run, o.bus, o.second) (said o.course request status Run Plain Text Check Verdict old.files new.files old.out new.out says o.came (own_status o status says.low is))

-- no refusal has one of these statuses
unrefused : (status : ℕ) → status ≢ 2 → status ≢ 3 → status ≢ 8 → (refusal : Refusal) → code_of (refusal_status refusal) ≢ status
unrefused status two three eight (Usage text) is = two (sym is)
unrefused status two three eight (WrongValue fault) is = two (sym is)
unrefused status two three eight Unread is = eight (sym is)
unrefused status two three eight TooLong is = three (sym is)
unrefused status two three eight (Elf fault) is = three (sym is)
unrefused status two three eight (Asm line fault) is = three (sym is)
unrefused status two three eight (Script line fault) is = three (sym is)
unrefused status two three eight (Report fault) is = three (sym is)
unrefused status two three eight (trace_refused fault) is = three (sym is)
unrefused status two three eight (order_refused error) is = three (sym is)

-- a text has no status from 1 to 8
unwritten : (status : ℕ) → 0 < status → status < 9 → (telling : Telling) → code_of (text_status telling) ≢ status
unwritten status some low (Ok _) is = omega arith
unwritten status some low (Err Failed) is = omega arith
unwritten status some low (Err no_memory) is = omega arith

-- and neither has a verdict
unjudged : (status : ℕ) → 0 < status → status < 9 → (difference : Option Difference) (telling : Telling) → code_of (judged_status difference telling) ≢ status
unjudged status some low None (Ok _) is = omega arith
unjudged status some low (Some difference) (Ok _) is = omega arith
unjudged status some low difference (Err Failed) is = omega arith
unjudged status some low difference (Err no_memory) is = omega arith

written_whole : (file : FileAsked) (text : Image → List ℕ) (telling : Telling) (files files' : FilesState) (out out' : SinkState) → Writes file text files files' out out' telling → code_of (text_status telling) ≡ 0 →
    Writes file text files files' out out' (Ok tt)
written_whole file text (Ok _) files files' out out' writes is = writes
written_whole file text (Err Failed) files files' out out' writes is = absurd (omega arith)
written_whole file text (Err no_memory) files files' out out' writes is = absurd (omega arith)

report_whole : (asked : ReportAsked) (telling : Telling) (files files' : FilesState) (out out' : SinkState) → WritesReport asked files files' out out' telling → code_of (text_status telling) ≡ 0 →
    WritesReport asked files files' out out' (Ok tt)
report_whole asked (Ok _) files files' out out' writes is = writes
report_whole asked (Err Failed) files files' out out' writes is = absurd (omega arith)
report_whole asked (Err no_memory) files files' out out' writes is = absurd (omega arith)

judged_whole : (judge : JudgeAsked) (difference : Option Difference) (telling : Telling) (files files' : FilesState) (out out' : SinkState) → Judges judge files files' out out' difference telling → code_of (judged_status difference telling) ≡ 0 →
    Judges judge files files' out out' None (Ok tt)
judged_whole judge None (Ok _) files files' out out' judges is = judges
judged_whole judge (Some difference) (Ok _) files files' out out' judges is = absurd (omega arith)
judged_whole judge difference (Err Failed) files files' out out' judges is = absurd (omega arith)
judged_whole judge difference (Err no_memory) files files' out out' judges is = absurd (omega arith)

-- either a program ran, or a text was written, or a trace was judged
ran_or_written : (request : Result Asked WordsFault) (Run : Type 0) (Plain : ExecutionAsked → Type 0) (Text : FileAsked → (Image → List ℕ) → Type 0) (Check : ReportAsked → Type 0) (Verdict : JudgeAsked → Type 0) (Pair : PairAsked → Type 0) → ByCommand request (λ _. Run) Plain Text Check (λ _. Run) (λ _. Run) Verdict Pair →
    ByCommand request (λ _. Run) Plain (λ _ _. ⊥) (λ _. ⊥) (λ _. Run) (λ _. Run) (λ _. ⊥) Pair ⊎ ByCommand request (λ _. ⊥) (λ _. ⊥) Text Check (λ _. ⊥) (λ _. ⊥) (λ _. ⊥) (λ _. ⊥)
    ⊎ ByCommand request (λ _. ⊥) (λ _. ⊥) (λ _ _. ⊥) (λ _. ⊥) (λ _. ⊥) (λ _. ⊥) Verdict (λ _. ⊥)
ran_or_written (Err fault) Run Plain Text Check Verdict Pair holds = absurd holds
ran_or_written (Ok (to_run asked)) Run Plain Text Check Verdict Pair holds = inl holds
ran_or_written (Ok (to_run_plain execution)) Run Plain Text Check Verdict Pair holds = inl holds
ran_or_written (Ok (to_assemble file)) Run Plain Text Check Verdict Pair holds = inr (inl holds)
ran_or_written (Ok (to_disassemble file)) Run Plain Text Check Verdict Pair holds = inr (inl holds)
ran_or_written (Ok (to_measure file)) Run Plain Text Check Verdict Pair holds = inr (inl holds)
ran_or_written (Ok (to_verify report)) Run Plain Text Check Verdict Pair holds = inr (inl holds)
ran_or_written (Ok (to_bench number)) Run Plain Text Check Verdict Pair holds = inl holds
ran_or_written (Ok (to_trace asked)) Run Plain Text Check Verdict Pair holds = inl holds
ran_or_written (Ok (to_judge judge)) Run Plain Text Check Verdict Pair holds = inr (inr holds)
ran_or_written (Ok (to_pair pair)) Run Plain Text Check Verdict Pair holds = inl holds

pub is_done : {request : Result Asked WordsFault} {old new : World} {done : Done} → Outcome request old new done → done.status ≡ 0 → IsDone request old new done
is_done {request = request} {old = old} {new = new} {done = done} o is =
    let text : FileAsked → (Image → List ℕ) → Type 0 = λ file text. Writes file text old.files new.files old.out new.out (Ok tt) in
    let check : ReportAsked → Type 0 = λ asked. WritesReport asked old.files new.files old.out new.out (Ok tt) in
    let verdict : JudgeAsked → Type 0 = λ judge. Judges judge old.files new.files old.out new.out None (Ok tt) in
    ran_or_written request (IsRunAnd done (EndedWithoutEvidence IsHalted)) (λ execution. PlainlyEnded IsHalted execution old new) text check verdict
    (λ asked. IsPairAnd done (IsOfPair (λ _. EndedWithoutEvidence IsHalted) asked))
    (by_command 0 (λ _. EndedWithoutEvidence IsHalted) (λ execution. PlainlyEnded IsHalted execution old new) text check verdict (record {
      refuses = unrefused 0 (omega arith) (omega arith) (omega arith);
      low = omega arith;
      of_run = λ asked program input from to before run bus runs is. halted_cause bus runs is;
      of_plain = λ execution run runs is. (run, runs, halted_of run.ending is);
      of_text = λ file text telling writes is. written_whole file text telling old.files new.files old.out new.out writes is;
      of_report = λ asked telling writes is. report_whole asked telling old.files new.files old.out new.out writes is;
      of_verdict = λ judge difference telling judges is. judged_whole judge difference telling old.files new.files old.out new.out judges is;
    }) o is)

pub trapped : {request : Result Asked WordsFault} {old new : World} {done : Done} → Outcome request old new done → done.status ≡ 1 → Ended IsTrapped request old new done
trapped {old = old} {new = new} o is =
    by_command 1 (λ _. EndedWithoutEvidence IsTrapped) (λ execution. PlainlyEnded IsTrapped execution old new) (λ _ _. ⊥) (λ _. ⊥) (λ _. ⊥) (record {
      refuses = unrefused 1 (omega arith) (omega arith) (omega arith);
      low = omega arith;
      of_run = λ asked program input from to before run bus runs is. trapped_cause bus runs is;
      of_plain = λ execution run runs is. (run, runs, trapped_of run.ending is);
      of_text = λ file text telling writes is. unwritten 1 (omega arith) (omega arith) telling is;
      of_report = λ asked telling writes is. unwritten 1 (omega arith) (omega arith) telling is;
      of_verdict = λ judge difference telling judges is. unjudged 1 (omega arith) (omega arith) difference telling is;
    }) o is

pub out_of_steps : {request : Result Asked WordsFault} {old new : World} {done : Done} → Outcome request old new done → done.status ≡ 4 → Ended IsOutOfSteps request old new done
out_of_steps {old = old} {new = new} o is =
    by_command 4 (λ _. EndedWithoutEvidence IsOutOfSteps) (λ execution. PlainlyEnded IsOutOfSteps execution old new) (λ _ _. ⊥) (λ _. ⊥) (λ _. ⊥) (record {
      refuses = unrefused 4 (omega arith) (omega arith) (omega arith);
      low = omega arith;
      of_run = λ asked program input from to before run bus runs is. out_of_steps_cause bus runs is;
      of_plain = λ execution run runs is. (run, runs, out_of_steps_of run.ending is);
      of_text = λ file text telling writes is. unwritten 4 (omega arith) (omega arith) telling is;
      of_report = λ asked telling writes is. unwritten 4 (omega arith) (omega arith) telling is;
      of_verdict = λ judge difference telling judges is. unjudged 4 (omega arith) (omega arith) difference telling is;
    }) o is

pub tampered : {request : Result Asked WordsFault} {old new : World} {done : Done} → Outcome request old new done → done.status ≡ 5 →
    RanAnd EndedTampered request done
tampered o is = by_command 5 EndedTampered (λ _. ⊥) (λ _ _. ⊥) (λ _. ⊥) (λ _. ⊥) (record {
  refuses = unrefused 5 (omega arith) (omega arith) (omega arith);
  low = omega arith;
  of_run = λ asked program input from to before run bus runs is. tampered_cause asked program input bus runs is;
  of_plain = λ execution run runs is. let place = tampered_of run.ending is in runs.3.untampered place.0 place.1;
  of_text = λ file text telling writes is. unwritten 5 (omega arith) (omega arith) telling is;
  of_report = λ asked telling writes is. unwritten 5 (omega arith) (omega arith) telling is;
  of_verdict = λ judge difference telling judges is. unjudged 5 (omega arith) (omega arith) difference telling is;
}) o is

pub spent : {request : Result Asked WordsFault} {old new : World} {done : Done} → Outcome request old new done → done.status ≡ 6 →
    RanAnd EndedSpent request done
spent o is = by_command 6 EndedSpent (λ _. ⊥) (λ _ _. ⊥) (λ _. ⊥) (λ _. ⊥) (record {
  refuses = unrefused 6 (omega arith) (omega arith) (omega arith);
  low = omega arith;
  of_run = λ asked program input from to before run bus runs is. spent_cause asked program input bus runs is;
  of_plain = λ execution run runs is. let page = spent_of run.ending is in runs.3.unspent page.0 page.1;
  of_text = λ file text telling writes is. unwritten 6 (omega arith) (omega arith) telling is;
  of_report = λ asked telling writes is. unwritten 6 (omega arith) (omega arith) telling is;
  of_verdict = λ judge difference telling judges is. unjudged 6 (omega arith) (omega arith) difference telling is;
}) o is

pub with_evidence : {request : Result Asked WordsFault} {old new : World} {done : Done} → Outcome request old new done → done.status ≡ 7 →
    RanAnd EndedWithEvidence request done
with_evidence o is = by_command 7 EndedWithEvidence (λ _. ⊥) (λ _ _. ⊥) (λ _. ⊥) (λ _. ⊥) (record {
  refuses = unrefused 7 (omega arith) (omega arith) (omega arith);
  low = omega arith;
  of_run = λ asked program input from to before run bus runs is. evidence_cause asked program input bus runs is;
  of_plain = λ execution run runs is. no_seven run.ending is;
  of_text = λ file text telling writes is. unwritten 7 (omega arith) (omega arith) telling is;
  of_report = λ asked telling writes is. unwritten 7 (omega arith) (omega arith) telling is;
  of_verdict = λ judge difference telling judges is. unjudged 7 (omega arith) (omega arith) difference telling is;
}) o is

-- ---- failed writes

fault_of : (ending : Ending) → code_of (ending_status ending) ≡ 9 → ending ≡ WriteFault
fault_of WriteFault is = refl
fault_of _ is = absurd (omega arith)

evidence_fault_of : (ending : Ending) → code_of (evidence_status ending) ≡ 9 → ending ≡ WriteFault
evidence_fault_of WriteFault is = refl
evidence_fault_of _ is = absurd (omega arith)

run_fault_of : (evidence : Option Evidence) (ending : Ending) → code_of (status_with evidence ending) ≡ 9 → ending ≡ WriteFault
run_fault_of None ending is = fault_of ending is
run_fault_of (Some evidence) ending is = evidence_fault_of ending is

refusal_no_fault : (refusal : Refusal) → code_of (refusal_status refusal) ≢ 9
refusal_no_fault (Usage text) is = omega arith
refusal_no_fault (WrongValue fault) is = omega arith
refusal_no_fault Unread is = omega arith
refusal_no_fault TooLong is = omega arith
refusal_no_fault (Elf fault) is = omega arith
refusal_no_fault (Asm line fault) is = omega arith
refusal_no_fault (Script line fault) is = omega arith
refusal_no_fault (Report fault) is = omega arith
refusal_no_fault (trace_refused fault) is = omega arith
refusal_no_fault (order_refused error) is = omega arith

-- the request is for a text, or for the check of a report
pub text_written : (request : Result Asked WordsFault) (files files' : FilesState) (out out' : SinkState) (telling : Telling) → WritesRequest request files files' out out' telling →
    (text : List ℕ) × IsWritten text out out' telling
text_written (Err fault) files files' out out' telling came = absurd came
text_written (Ok (to_run asked)) files files' out out' telling came = absurd came
text_written (Ok (to_run_plain execution)) files files' out out' telling came = absurd came
text_written (Ok (to_assemble file)) files files' out out' telling came = (elf_file came.image, came.written)
text_written (Ok (to_disassemble file)) files files' out out' telling came = (listing came.image, came.written)
text_written (Ok (to_measure file)) files files' out out' telling came = (measurement_line came.image, came.written)
text_written (Ok (to_verify report)) files files' out out' telling came = (report_text came.signed, came.written)
text_written (Ok (to_bench number)) files files' out out' telling came = absurd came
text_written (Ok (to_trace asked)) files files' out out' telling came = absurd came
text_written (Ok (to_judge judge)) files files' out out' telling came = absurd came
text_written (Ok (to_pair pair)) files files' out out' telling came = absurd came

text_failed : (text : List ℕ) (old new : SinkState) (telling : Telling) → IsWritten text old new telling → code_of (text_status telling) ≡ 9 → Rose old.faults new.faults
text_failed text old new (Ok _) told is = absurd (omega arith)
text_failed text old new (Err Failed) told is = told.1
text_failed text old new (Err no_memory) told is = absurd (omega arith)

-- what a generated program prints is gathered without a fault, so it is the summary that could not be written
summary_failed : (number : ℕ) (run : RunRecord) (bus : RunBus) (telling : Telling) (files files' : FilesState) (out out' : SinkState) → Summarizes number files files' out out' run bus telling → code_of (told_status run telling) ≡ 9 →
    Rose out.faults out'.faults
summary_failed number run bus (Ok _) files files' out out' summarizes is =
    let risen : 1 ≤ 0 = summarizes.runs.runs.sink.write_fault (run_fault_of run.evidence run.ending is) in absurd (omega arith)
summary_failed number run bus (Err Failed) files files' out out' summarizes is = summarizes.written.1
summary_failed number run bus (Err no_memory) files files' out out' summarizes is = absurd (omega arith)

-- and what a traced program prints likewise, so it is the trace
trace_failed : (asked : RunAsked) (run : RunRecord) (bus : RunBus) (telling : Telling) (files files' : FilesState) (out out' : SinkState) → Traces asked files files' out out' run bus telling → code_of (told_status run telling) ≡ 9 →
    Rose out.faults out'.faults
trace_failed asked run bus (Ok _) files files' out out' traces is =
    let risen : 1 ≤ 0 = traces.traced.runs.sink.write_fault (run_fault_of run.evidence run.ending is) in absurd (omega arith)
trace_failed asked run bus (Err Failed) files files' out out' traces is = traces.written.1
trace_failed asked run bus (Err no_memory) files files' out out' traces is = absurd (omega arith)

verdict_failed : (judge : JudgeAsked) (difference : Option Difference) (telling : Telling) (files files' : FilesState) (out out' : SinkState) → Judges judge files files' out out' difference telling → code_of (judged_status difference telling) ≡ 9 →
    Rose out.faults out'.faults
verdict_failed judge None (Ok _) files files' out out' judges is = absurd (omega arith)
verdict_failed judge (Some difference) (Ok _) files files' out out' judges is = absurd (omega arith)
verdict_failed judge difference (Err Failed) files files' out out' judges is = judges.written.1
verdict_failed judge difference (Err no_memory) files files' out out' judges is = absurd (omega arith)

-- and what two programs print likewise, so it is the write of both
gathered_fault : {terms : Terms} {printed : List ℕ} {before : BusHistory} (run : RunRecord) (bus : RunBus) → RunsProtected terms (gathered []) (gathered printed) before (run_history bus) run → code_of (run_status run) ≢ 9
gathered_fault run bus runs is = let risen : 1 ≤ 0 = runs.sink.write_fault (run_fault_of run.evidence run.ending is) in omega arith

pair_failed : (asked : PairAsked) (run : RunRecord) (bus : RunBus) (second : Second) (telling : Telling) (files files' : FilesState) (out out' : SinkState) → Pairs asked files files' out out' run bus second telling →
    code_of (told_pair_status run second.run telling) ≡ 9 → Rose out.faults out'.faults
pair_failed asked run bus second (Ok _) files files' out out' pairs is = elim (joint_cases (run_status run) (run_status second.run)) [
  | inl first ↦ absurd (gathered_fault run bus pairs.runs.side.runs (sym (ap code_of first) ∙ is))
  | inr then ↦ absurd (gathered_fault second.run second.bus pairs.second_runs.side.runs (sym (ap code_of then) ∙ is))
]
pair_failed asked run bus second (Err Failed) files files' out out' pairs is = pairs.written.1
pair_failed asked run bus second (Err no_memory) files files' out out' pairs is = absurd (omega arith)

-- a failed write of the sink for what is printed
out_failed : (course : Course) (request : Result Asked WordsFault) (files files' : FilesState) (out out' : SinkState) → CameAbout course request files files' out out' → code_of (course_status course) ≡ 9 → Rose out.faults out'.faults
out_failed (Refused refusal) request files files' out out' came is = absurd (refusal_no_fault refusal is)
out_failed NoMemory request files files' out out' came is = absurd (omega arith)
out_failed (Ran run bus) (Err fault) files files' out out' came is = absurd came
out_failed (Ran run bus) (Ok (to_run asked)) files files' out out' came is = came.runs.sink.write_fault (run_fault_of run.evidence run.ending is)
out_failed (Ran run bus) (Ok (to_run_plain execution)) files files' out out' came is = absurd came
out_failed (Ran run bus) (Ok (to_assemble file)) files files' out out' came is = absurd came
out_failed (Ran run bus) (Ok (to_disassemble file)) files files' out out' came is = absurd came
out_failed (Ran run bus) (Ok (to_measure file)) files files' out out' came is = absurd came
out_failed (Ran run bus) (Ok (to_verify report)) files files' out out' came is = absurd came
out_failed (Ran run bus) (Ok (to_bench number)) files files' out out' came is = absurd came
out_failed (Ran run bus) (Ok (to_trace asked)) files files' out out' came is = absurd came
out_failed (Ran run bus) (Ok (to_judge judge)) files files' out out' came is = absurd came
out_failed (Ran run bus) (Ok (to_pair pair)) files files' out out' came is = absurd came
out_failed (RanPlain run) (Err fault) files files' out out' came is = absurd came
out_failed (RanPlain run) (Ok (to_run asked)) files files' out out' came is = absurd came
out_failed (RanPlain run) (Ok (to_run_plain execution)) files files' out out' came is = came.3.sink.write_fault (fault_of run.ending is)
out_failed (RanPlain run) (Ok (to_assemble file)) files files' out out' came is = absurd came
out_failed (RanPlain run) (Ok (to_disassemble file)) files files' out out' came is = absurd came
out_failed (RanPlain run) (Ok (to_measure file)) files files' out out' came is = absurd came
out_failed (RanPlain run) (Ok (to_verify report)) files files' out out' came is = absurd came
out_failed (RanPlain run) (Ok (to_bench number)) files files' out out' came is = absurd came
out_failed (RanPlain run) (Ok (to_trace asked)) files files' out out' came is = absurd came
out_failed (RanPlain run) (Ok (to_judge judge)) files files' out out' came is = absurd came
out_failed (RanPlain run) (Ok (to_pair pair)) files files' out out' came is = absurd came
out_failed (Written telling) request files files' out out' came is =
    let written = text_written request files files' out out' telling came in
    text_failed written.0 out out' telling written.1 is
out_failed OtherTag request files files' out out' came is = absurd (omega arith)
out_failed (RanGenerated run bus telling) request files files' out out' came is =
    let found = benched request files files' out out' run bus telling came in
    summary_failed found.0 run bus telling files files' out out' found.2 is
out_failed (RanTraced run bus telling) request files files' out out' came is =
    let found = traced request files files' out out' run bus telling came in
    trace_failed found.0 run bus telling files files' out out' found.2 is
out_failed (Judged difference telling) request files files' out out' came is =
    let found = judged request files files' out out' difference telling came in
    verdict_failed found.0 difference telling files files' out out' found.2 is
out_failed (RanPair run bus second telling) request files files' out out' came is =
    let found = paired request files files' out out' run bus second telling came in
    pair_failed found.0 run bus second telling files files' out out' found.2 is

failed : (course : Course) (telling : Telling) (request : Result Asked WordsFault) (files files' : FilesState) (out out' note note' : SinkState) → CameAbout course request files files' out out' → TellsCourse course note note' telling → code_of (status_of course telling) ≡ 9 →
    Rose out.faults out'.faults ⊎ Rose note.faults note'.faults
failed course (Ok _) request files files' out out' note note' came tells is = inl (out_failed course request files files' out out' came is)
failed course (Err no_memory) request files files' out out' note note' came tells is = absurd (omega arith)
failed (Refused refusal) (Err Failed) request files files' out out' note note' came tells is = inr tells.1
failed NoMemory (Err Failed) request files files' out out' note note' came tells is = absurd (omega arith)
failed (Ran run bus) (Err Failed) request files files' out out' note note' came tells is = inr tells.1
failed (RanPlain run) (Err Failed) request files files' out out' note note' came tells is = inr tells.1
failed (Written written) (Err Failed) request files files' out out' note note' came tells is = inl (out_failed (Written written) request files files' out out' came is)
failed OtherTag (Err Failed) request files files' out out' note note' came tells is = inr tells.1
failed (RanGenerated run bus written) (Err Failed) request files files' out out' note note' came tells is =
    inl (out_failed (RanGenerated run bus written) request files files' out out' came is)
failed (RanTraced run bus written) (Err Failed) request files files' out out' note note' came tells is = inr tells.1
failed (Judged difference written) (Err Failed) request files files' out out' note note' came tells is =
    inl (out_failed (Judged difference written) request files files' out out' came is)
failed (RanPair run bus second written) (Err Failed) request files files' out out' note note' came tells is = inr tells.1

pub write_fault : {request : Result Asked WordsFault} {old new : World} {done : Done} → Outcome request old new done → done.status ≡ 9 →
    Rose old.out.faults new.out.faults ⊎ Rose old.note.faults new.note.faults
write_fault {request} {old} {new} o is =
    failed o.course o.told request old.files new.files old.out new.out old.note new.note o.came o.tells (sym o.status ∙ is)

-- ---- whether there is a second one

unpaired_run : (request : Result Asked WordsFault) (files files' : FilesState) (out out' : SinkState) (run : RunRecord) (bus : RunBus) → RunsRequest request files files' out out' run bus → ¬ AsksPair request
unpaired_run (Err fault) files files' out out' run bus came asks = asks
unpaired_run (Ok (to_run asked)) files files' out out' run bus came asks = asks
unpaired_run (Ok (to_run_plain execution)) files files' out out' run bus came asks = asks
unpaired_run (Ok (to_assemble file)) files files' out out' run bus came asks = asks
unpaired_run (Ok (to_disassemble file)) files files' out out' run bus came asks = asks
unpaired_run (Ok (to_measure file)) files files' out out' run bus came asks = asks
unpaired_run (Ok (to_verify report)) files files' out out' run bus came asks = asks
unpaired_run (Ok (to_bench number)) files files' out out' run bus came asks = asks
unpaired_run (Ok (to_trace asked)) files files' out out' run bus came asks = asks
unpaired_run (Ok (to_judge judge)) files files' out out' run bus came asks = asks
unpaired_run (Ok (to_pair pair)) files files' out out' run bus came asks = came

-- there is none of a course in which no second one ran
abbrev pub IsSecond : Course → Result Asked WordsFault → Type 0
IsSecond course request = IsSome (course_second course) ↔ (IsSome (course_run course) × AsksPair request)

second_is : (course : Course) (request : Result Asked WordsFault) (files files' : FilesState) (out out' : SinkState) → CameAbout course request files files' out out' → IsSecond course request
second_is (Refused refusal) request files files' out out' came = (λ is. absurd cc, λ both. let none = both.0 in absurd cc)
second_is NoMemory request files files' out out' came = (λ is. absurd cc, λ both. let none = both.0 in absurd cc)
second_is (Ran run bus) request files files' out out' came = (λ is. absurd cc, λ both. absurd (unpaired_run request files files' out out' run bus came both.1))
second_is (RanPlain run) request files files' out out' came = (λ is. absurd cc, λ both. let none = both.0 in absurd cc)
second_is (Written telling) request files files' out out' came = (λ is. absurd cc, λ both. let none = both.0 in absurd cc)
second_is OtherTag request files files' out out' came = (λ is. absurd cc, λ both. let none = both.0 in absurd cc)
second_is (RanGenerated run bus telling) request files files' out out' came =
    let found = benched request files files' out out' run bus telling came in
    (λ is. absurd cc, λ both. absurd (subst AsksPair found.1 both.1))
second_is (RanTraced run bus telling) request files files' out out' came =
    let found = traced request files files' out out' run bus telling came in
    (λ is. absurd cc, λ both. absurd (subst AsksPair found.1 both.1))
second_is (Judged difference telling) request files files' out out' came = (λ is. absurd cc, λ both. let none = both.0 in absurd cc)
second_is (RanPair run bus second telling) request files files' out out' came =
    let found = paired request files files' out out' run bus second telling came in
    (λ is. (refl, subst AsksPair (sym found.1) tt), λ both. refl)

pub second_there : {request : Result Asked WordsFault} {old new : World} {done : Done} → Outcome request old new done → IsSome done.second ↔ (IsSome done.run × AsksPair request)
second_there {request} {old} {new} o = rw (o.run, o.second) (second_is o.course request old.files new.files old.out new.out o.came)
