-- Where the files tell all that is needed and nothing fails, what was asked for is done whole.
use Rattle.std.proofs.Common.{◌≡◌, ◌≢◌, ◌<◌, ◌≤◌, ◌⊎◌, inl, inr, List, [], ◌∷◌, ℕ, suc, length, Option, Some, None, Result, Ok, Err, IsSome, refl, sym, ap, ◌∙◌, subst, arith}
use Rattle.adversary_script.specs.declared.script.ScriptLine.{ScriptLine}
use Rattle.sec_base.specs.Count.{Rose}
use Rattle.sec_base.specs.Files.{FilesState, HasBytes, HasOver, IsOver}
use Rattle.sec_base.specs.Geometry.{GeometryView}
use Rattle.sec_base.specs.Sink.{Gains, SinkState}
use Rattle.sec_base.specs.declared.ending.Ending.{Ending}
use Rattle.sec_base.specs.declared.ending.Ending.TheVariants.{Halted, Trapped, OutOfSteps, Tampered, Spent, WriteFault, NoMemory as memory_ended}
use Rattle.sec_base.specs.declared.image.Image.{Image}
use Rattle.sec_base.specs.declared.sink.SinkStop.TheVariants.{Failed, NoMemory as no_memory}
use Rattle.attest_report.specs.ToldEnding.{ending_and_code}
use Rattle.bus_model.specs.BusHistory.{BusHistory, new_history}
use Rattle.bus_trace.specs.declared.trace.Trace.{Trace}
use Rattle.bus_trace.specs.declared.verdict.Difference.{Difference}
use Rattle.rv32_core.specs.Follows.{IsWhole}
use Rattle.plain_machine.specs.declared.PlainRecord.{PlainRecord}
use Rattle.chip_run.specs.Run.{IsCutOff, RunsProtected, Terms}
use Rattle.chip_run.specs.declared.RunRecord.{RunRecord}
use Rattle.chip_words.specs.Defaults.{side_run}
use Rattle.chip_words.specs.Request.{Asked, ExecutionAsked, FileAsked, JudgeAsked, PairAsked, ReportAsked, RunAsked, SideAsked, WordsFault, to_assemble, to_bench, to_disassemble, to_judge, to_measure, to_pair, to_run, to_run_plain, to_trace, to_verify}
use Rattle.sec_base.specs.Program.{Program}
use Rattle.chip_files.specs.declared.refusal.Refusal.{Refusal}
use Rattle.chip_files.specs.declared.refusal.Refusal.TheVariants.{Usage, WrongValue, Unread, TooLong, Elf, Asm, Script, Report, Trace as trace_refused, Order as order_refused}
use Rattle.chip_device.specs.declared.run_bus.RunBus.{RunBus}
use Rattle.chip_main.specs.declared.course.Course.{Course}
use Rattle.chip_main.specs.declared.course.Course.TheVariants.{Refused, NoMemory, Ran, RanPlain, Written, OtherTag, RanGenerated, RanTraced, Judged, RanPair}
use Rattle.chip_main.specs.declared.Done.{Done}
use Rattle.chip_main.specs.declared.second.Second.{Second}
use Rattle.workload_gen.specs.Workload.{workload_of}
use Rattle.chip_files.specs.Program.{program_of_file}
use Rattle.chip_device.specs.Device.{terms_of, opening}
use Rattle.plain_machine.specs.PlainRun.{RunsPlain}
use Rattle.chip_main.specs.World.{World}
use Rattle.attest_report.specs.declared.refusal.ReportError.{ReportError}
use Rattle.attest_report.specs.declared.refusal.ReportError.TheVariants.{Tag}
use Rattle.chip_files.specs.Verdict.{verdict_of}
use Rattle.chip_files.specs.Needs.{Need, AreAccepted, HasTold, IsAccepted, asked_needs, pair_needs, report_need}
use Rattle.chip_files.specs.Traces.{trace_in}
use Rattle.chip_files.specs.Causes.{IsCause, IsMisformed, IsRefused, Stops}
use Rattle.chip_files.specs.Taken.{IsInput, IsProgram, IsTraceFile, Tell}
use Rattle.chip_device.specs.Buses.{lies_of, run_history}
use Rattle.chip_device.specs.Generated.{generated_execution, generated_run}
use Rattle.chip_device.specs.Judged.{IsJudged}
use Rattle.chip_device.specs.Printed.{gathered}
use Rattle.chip_device.specs.Traced.{IsTold}
use Rattle.chip_main.specs.Status.{IsOneOf, code_of, Telling, ending_status, found_status, joint_status, judged_status, run_status, told_pair_status, told_status}
use Rattle.chip_main.specs.declared.status.Status.{Status}
use Rattle.chip_main.specs.declared.status.Status.TheVariants as status
use Rattle.chip_main.specs.Answer.{AreBothAnd, ArePairAnd}
use Rattle.chip_main.specs.Whole.{Faultless, JudgedWhole, PairWhole, PairedWhole, RanSideWhole, RanWhole, Ready, ReadyPair, TracedWhole, WroteTrace, plain_status, second_lies, verdict_status, whole_statuses}
use Rattle.chip_main.specs.Requests.{Judges, Pairs, PlainlyRuns, RunsRequested, Summarizes, Traces, Writes, WritesReport}
use Rattle.chip_main.specs.Course.{CameAbout, Outcome, TellsCourse, course_bus, course_run, course_second, status_of}
use Rattle.chip_main.specs.Texts.{elf_file, listing, measurement_line, verdict_line}
use Rattle.chip_files.proofs.Accepted.{all_accepted, input_accepted, program_accepted}
use Rattle.chip_files.proofs.Judged.{all_judged_accepted}
use Rattle.chip_files.proofs.Paired.{all_pair_accepted}
use Rattle.chip_files.proofs.Takings.{whole_cause}
use Rattle.chip_files.proofs.Verdicts.{made_verdict}
use Rattle.chip_main.proofs.Requested.{WritesOr, accepted_at, asm_came, came_as, dis_came, measure_came, same_bytes, unrefused_bench}
use Rattle.chip_main.proofs.RunStatuses.{honest_without_evidence, run_status_without_evidence, same_run_status}

-- ---- nothing is refused

-- a name has these bytes where the files tell
has_told : (held : Option (List ℕ → Option (List ℕ))) (name bytes : List ℕ) → IsSome held → HasBytes held name bytes → HasTold held name bytes
has_told None name bytes tells has = absurd cc
has_told (Some held) name bytes tells has = has

told_bytes : (files : FilesState) (name bytes other : List ℕ) → Tell files → HasBytes files.held name bytes → HasBytes files.held name other → other ≡ bytes
told_bytes files name bytes other tells has had = same_bytes files.held name bytes other (has_told files.held name bytes tells has) had

not_over : (held : Option (List ℕ → Option (List ℕ))) (name bytes : List ℕ) (limit : ℕ) → HasTold held name bytes → length bytes ≤ limit → ¬ HasOver held name limit
not_over None name bytes limit content short over = absurd content
not_over (Some held) name bytes limit content short over =
    let long : limit < length bytes = subst (λ (o : Option (List ℕ)). IsOver o limit) content over in omega arith

formed : (refusal : Refusal) (need : Need) (bytes : List ℕ) (files : FilesState) → Tell files → IsAccepted files need bytes → ¬ IsMisformed refusal need files
formed refusal need bytes files tells accepted bad =
    let same = told_bytes files need.name bytes bad.bytes tells accepted.told bad.told in
    let none : need.fault bad.bytes ≡ None = ap need.fault same ∙ accepted.formed in
    let e : None ≡ Some refusal = sym none ∙ bad.fault in cc

no_cause : (refusal : Refusal) (need : Need) (bytes : List ℕ) (files files' : FilesState) → Tell files → IsAccepted files need bytes → ¬ Rose files.faults files'.faults → ¬ IsCause refusal need files files'
no_cause (Usage text) need bytes files files' tells accepted quiet cause = cause
no_cause (WrongValue fault) need bytes files files' tells accepted quiet cause = cause
no_cause Unread need bytes files files' tells accepted quiet cause = quiet cause
no_cause TooLong need bytes files files' tells accepted quiet cause =
    not_over files.held need.name bytes need.limit (has_told files.held need.name bytes tells accepted.told) accepted.within cause.0
no_cause (Elf fault) need bytes files files' tells accepted quiet cause = formed (Elf fault) need bytes files tells accepted cause
no_cause (Asm line fault) need bytes files files' tells accepted quiet cause = formed (Asm line fault) need bytes files tells accepted cause
no_cause (Script line fault) need bytes files files' tells accepted quiet cause = formed (Script line fault) need bytes files tells accepted cause
no_cause (Report fault) need bytes files files' tells accepted quiet cause = formed (Report fault) need bytes files tells accepted cause
no_cause (trace_refused fault) need bytes files files' tells accepted quiet cause = formed (trace_refused fault) need bytes files tells accepted cause
no_cause (order_refused error) need bytes files files' tells accepted quiet cause = formed (order_refused error) need bytes files tells accepted cause

no_stop : (refusal : Refusal) (needs : List Need) (files files' : FilesState) → Tell files → AreAccepted files needs → ¬ Rose files.faults files'.faults → ¬ Stops refusal needs files files'
no_stop refusal needs files files' tells accepted quiet stops =
    let at = accepted_at stops.before stops.here stops.after files (subst (λ (n : List Need). AreAccepted files n) stops.order accepted) in
    no_cause refusal stops.here at.0 files files' tells at.1 quiet (whole_cause refusal stops.here files stops.mid files' stops.later stops.cause)

unrefused : (refusal : Refusal) (asked : Asked) (files files' : FilesState) → Tell files → AreAccepted files (asked_needs asked) → ¬ Rose files.faults files'.faults → ¬ IsRefused refusal (Ok asked) files files'
unrefused (Usage text) asked files files' tells accepted quiet cause = let e : ◌≡◌ {A = Result Asked WordsFault} (Ok asked) (Err _) = cause.0 in cc
unrefused (WrongValue fault) asked files files' tells accepted quiet cause = let e : ◌≡◌ {A = Result Asked WordsFault} (Ok asked) (Err _) = cause.0 in cc
unrefused Unread asked files files' tells accepted quiet cause = no_stop Unread (asked_needs asked) files files' tells accepted quiet cause
unrefused TooLong asked files files' tells accepted quiet cause = no_stop TooLong (asked_needs asked) files files' tells accepted quiet cause
unrefused (Elf fault) asked files files' tells accepted quiet cause = no_stop (Elf fault) (asked_needs asked) files files' tells accepted quiet cause
unrefused (Asm line fault) asked files files' tells accepted quiet cause = no_stop (Asm line fault) (asked_needs asked) files files' tells accepted quiet cause
unrefused (Script line fault) asked files files' tells accepted quiet cause = no_stop (Script line fault) (asked_needs asked) files files' tells accepted quiet cause
unrefused (Report fault) asked files files' tells accepted quiet cause = no_stop (Report fault) (asked_needs asked) files files' tells accepted quiet cause
unrefused (trace_refused fault) asked files files' tells accepted quiet cause = no_stop (trace_refused fault) (asked_needs asked) files files' tells accepted quiet cause
unrefused (order_refused error) asked files files' tells accepted quiet cause = no_stop (order_refused error) (asked_needs asked) files files' tells accepted quiet cause

-- all that is needed is accepted
ready_accepted : (asked : Asked) (files : FilesState) (program : Program) (script : Option (List ScriptLine)) (input : List ℕ) → Ready asked files program script input → AreAccepted files (asked_needs asked)
ready_accepted (to_run asked) files program script input ready = all_accepted asked files program script input ready.program_is ready.script_is ready.input_is
ready_accepted (to_run_plain execution) files program script input ready =
    (program_accepted execution.file program files ready.program_is, input_accepted execution.input input files ready.input_is)
ready_accepted (to_assemble file) files program script input ready = (program_accepted file program files ready.program_is, tt)
ready_accepted (to_disassemble file) files program script input ready = (program_accepted file program files ready.program_is, tt)
ready_accepted (to_measure file) files program script input ready = (program_accepted file program files ready.program_is, tt)
ready_accepted (to_verify report) files program script input ready = absurd ready.program_is
ready_accepted (to_bench number) files program script input ready = absurd ready.program_is
ready_accepted (to_trace asked) files program script input ready = all_accepted asked files program script input ready.program_is ready.script_is ready.input_is
ready_accepted (to_judge judge) files program script input ready =
    all_judged_accepted judge files program input ready.trace_is.0 ready.program_is ready.input_is ready.trace_is.1
ready_accepted (to_pair pair) files program script input ready = absurd ready.program_is

-- ---- what was taken is what is ready

same_input : (file : Option (List ℕ)) (input other : List ℕ) (files : FilesState) → Tell files → IsInput files file input → IsInput files file other → other ≡ input
same_input None input other files tells ready taken = taken ∙ sym ready
same_input (Some file) input other files tells ready taken = told_bytes files file input other tells ready.told taken.told

same_program : (files : FilesState) (file : FileAsked) (program other : Program) → Tell files → IsProgram files file program → IsProgram files file other → other ≡ program
same_program files file program other tells ready taken =
    let same = told_bytes files file.name ready.bytes taken.bytes tells ready.accepted.told taken.accepted.told in
    let e : Ok other ≡ Ok program = sym taken.is ∙ ap (program_of_file file) same ∙ ready.is in cc

same_trace : (files : FilesState) (geometry : GeometryView) (name : List ℕ) (trace other : Trace) → Tell files → IsTraceFile files geometry name trace → IsTraceFile files geometry name other → other ≡ trace
same_trace files geometry name trace other tells ready taken =
    let same = told_bytes files name ready.bytes taken.bytes tells ready.accepted.told taken.accepted.told in
    let e : Ok other ≡ Ok trace = sym taken.is ∙ ap (trace_in geometry) same ∙ ready.is in cc

memory_cases : (ending : Ending) → (ending ≡ memory_ended) ⊎ (ending ≢ memory_ended)
memory_cases memory_ended = inl refl
memory_cases _ = inr (λ e. cc)

-- ---- a run on protected memory

-- it is the run over the whole budget
abbrev pub IsRunWhole : ExecutionAsked → Program → List ℕ → ℕ → RunRecord → RunBus → Type 0
IsRunWhole execution program input status run bus =
    IsWhole (opening execution.file.geometry program input) execution.steps run.retired run.ending × (status ≡ code_of (ending_status run.ending))

abbrev pub other_statuses : List Status
other_statuses = status.Spent ∷ status.NoMemory ∷ []

other : (status : ℕ) → status ≡ 10 → IsOneOf other_statuses status
other status is = subst (λ (n : ℕ). IsOneOf other_statuses n) (sym is) (1, omega arith, refl)

used_up : (status : ℕ) → status ≡ 6 → IsOneOf other_statuses status
used_up status is = subst (λ (n : ℕ). IsOneOf other_statuses n) (sym is) (0, omega arith, refl)

-- nothing cut it off
not_cut_off : {terms : Terms} {out out' : SinkState} {before after : BusHistory} {run : RunRecord} → RunsProtected terms out out' before after run → ¬ Rose out.faults out'.faults →
    run.ending ≢ memory_ended → ¬ IsCutOff run.ending
not_cut_off runs quiet had (inl fault) = quiet (runs.sink.write_fault fault)
not_cut_off runs quiet had (inr gone) = had gone

-- out of memory, or a page was spent, or the whole budget
abbrev pub WholeOr : ExecutionAsked → Program → List ℕ → ℕ → RunRecord → RunBus → Type 0
WholeOr execution program input status run bus = (status ≡ 10) ⊎ (status ≡ 6) ⊎ IsRunWhole execution program input status run bus

ran_whole_or : (asked : RunAsked) (program : Program) (input : List ℕ) (out out' : SinkState) (before : BusHistory) (bus : RunBus) (run : RunRecord) → RunsProtected (terms_of asked program input) out out' before (run_history bus) run → (run_history bus).lies ≡ 0 → ¬ Rose out.faults out'.faults →
    WholeOr asked.execution program input (code_of (run_status run)) run bus
ran_whole_or asked program input out out' before bus run runs none quiet =
    let without = honest_without_evidence runs none in
    let ending_is = run_status_without_evidence run without in
    elim (memory_cases run.ending) [
      | inl gone ↦ inl (ending_is ∙ ap (λ e. code_of (ending_status e)) gone)
      | inr had ↦ elim ((runs.ran.without_evidence without).plain.whole none (not_cut_off runs quiet had)) [
        | inl whole ↦ inr (inr (whole, ending_is))
        | inr spent ↦ inr (inl (ending_is ∙ ap (λ e. code_of (ending_status e)) spent.1))
      ]
    ]

whole_or : (execution : ExecutionAsked) (program : Program) (input : List ℕ) (status : ℕ) (run : RunRecord) (bus : RunBus) → WholeOr execution program input status run bus →
    IsOneOf other_statuses status ⊎ IsRunWhole execution program input status run bus
whole_or execution program input status run bus (inl gone) = inl (other status gone)
whole_or execution program input status run bus (inr (inl spent)) = inl (used_up status spent)
whole_or execution program input status run bus (inr (inr whole)) = inr whole

ran_whole : (asked : RunAsked) (program : Program) (input : List ℕ) (out out' : SinkState) (before : BusHistory) (bus : RunBus) (run : RunRecord) → RunsProtected (terms_of asked program input) out out' before (run_history bus) run → (run_history bus).lies ≡ 0 → ¬ Rose out.faults out'.faults →
    IsOneOf other_statuses (code_of (run_status run)) ⊎ IsRunWhole asked.execution program input (code_of (run_status run)) run bus
ran_whole asked program input out out' before bus run runs none quiet =
    whole_or asked.execution program input (code_of (run_status run)) run bus (ran_whole_or asked program input out out' before bus run runs none quiet)

ran_ready : (asked : RunAsked) (program : Program) (script : Option (List ScriptLine)) (input : List ℕ) (files files' : FilesState) (out out' : SinkState) (run : RunRecord) (bus : RunBus) → Ready (to_run asked) files program script input → RunsRequested asked files files' out out' run bus →
    (run_history bus).lies ≡ 0 → ¬ Rose out.faults out'.faults → IsOneOf other_statuses (code_of (run_status run)) ⊎ IsRunWhole asked.execution program input (code_of (run_status run)) run bus
ran_ready asked program script input files files' out out' run bus ready came none quiet =
    let same = same_program files asked.execution.file program came.program ready.tells ready.program_is came.reads.program_is in
    let same_in = same_input asked.execution.input input came.input files ready.tells ready.input_is came.reads.input_is in
    ran_whole asked program input out out' (new_history asked.execution.file.geometry) bus run
    (subst (λ (p : Program). RunsProtected (terms_of asked p input) out out' (new_history asked.execution.file.geometry) (run_history bus) run) same
    (subst (λ (i : List ℕ). RunsProtected (terms_of asked came.program i) out out' (new_history asked.execution.file.geometry) (run_history bus) run) same_in came.runs)) none quiet

whole_of : (course : Course) (telling : Telling) (asked : RunAsked) (program : Program) (script : Option (List ScriptLine)) (input : List ℕ) (files files' : FilesState) (out out' note note' : SinkState) → CameAbout course (Ok (to_run asked)) files files' out out' →
    TellsCourse course note note' telling → Ready (to_run asked) files program script input → lies_of (course_bus course) ≡ 0 → ¬ Rose files.faults files'.faults → ¬ Rose out.faults out'.faults → ¬ Rose note.faults note'.faults →
    IsOneOf other_statuses (code_of (status_of course telling)) ⊎ AreBothAnd (course_run course) (course_bus course) (IsRunWhole asked.execution program input (code_of (status_of course telling)))
whole_of course (Err no_memory) asked program script input files files' out out' note note' came tells ready none quiet_files quiet_out quiet_note = inl (other 10 refl)
whole_of (Refused refusal) (Ok _) asked program script input files files' out out' note note' came tells ready none quiet_files quiet_out quiet_note =
    absurd (unrefused refusal (to_run asked) files files' ready.tells (ready_accepted (to_run asked) files program script input ready) quiet_files came.0)
whole_of (Refused refusal) (Err Failed) asked program script input files files' out out' note note' came tells ready none quiet_files quiet_out quiet_note = absurd (quiet_note tells.1)
whole_of NoMemory (Ok _) asked program script input files files' out out' note note' came tells ready none quiet_files quiet_out quiet_note = inl (other 10 refl)
whole_of NoMemory (Err Failed) asked program script input files files' out out' note note' came tells ready none quiet_files quiet_out quiet_note = inl (other 10 refl)
whole_of (Ran run bus) (Ok _) asked program script input files files' out out' note note' came tells ready none quiet_files quiet_out quiet_note =
    ran_ready asked program script input files files' out out' run bus ready came none quiet_out
whole_of (Ran run bus) (Err Failed) asked program script input files files' out out' note note' came tells ready none quiet_files quiet_out quiet_note = absurd (quiet_note tells.1)
whole_of (RanPlain run) (Ok _) asked program script input files files' out out' note note' came tells ready none quiet_files quiet_out quiet_note = absurd came
whole_of (RanPlain run) (Err Failed) asked program script input files files' out out' note note' came tells ready none quiet_files quiet_out quiet_note = absurd came
whole_of (Written written) (Ok _) asked program script input files files' out out' note note' came tells ready none quiet_files quiet_out quiet_note = absurd came
whole_of (Written written) (Err Failed) asked program script input files files' out out' note note' came tells ready none quiet_files quiet_out quiet_note = absurd came
whole_of OtherTag (Ok _) asked program script input files files' out out' note note' came tells ready none quiet_files quiet_out quiet_note = absurd came.0
whole_of OtherTag (Err Failed) asked program script input files files' out out' note note' came tells ready none quiet_files quiet_out quiet_note = absurd came.0
whole_of (RanGenerated run bus written) (Ok _) asked program script input files files' out out' note note' came tells ready none quiet_files quiet_out quiet_note = absurd came
whole_of (RanGenerated run bus written) (Err Failed) asked program script input files files' out out' note note' came tells ready none quiet_files quiet_out quiet_note = absurd came
whole_of (RanTraced run bus written) (Ok _) asked program script input files files' out out' note note' came tells ready none quiet_files quiet_out quiet_note = absurd came
whole_of (RanTraced run bus written) (Err Failed) asked program script input files files' out out' note note' came tells ready none quiet_files quiet_out quiet_note = absurd came
whole_of (Judged difference written) (Ok _) asked program script input files files' out out' note note' came tells ready none quiet_files quiet_out quiet_note = absurd came
whole_of (RanPair run bus second written) (Ok _) asked program script input files files' out out' note note' came tells ready none quiet_files quiet_out quiet_note = absurd came
whole_of (Judged difference written) (Err Failed) asked program script input files files' out out' note note' came tells ready none quiet_files quiet_out quiet_note = absurd came
whole_of (RanPair run bus second written) (Err Failed) asked program script input files files' out out' note note' came tells ready none quiet_files quiet_out quiet_note = absurd came

pub whole_run : {request : Result Asked WordsFault} {old new : World} {done : Done} → Outcome request old new done → (asked : RunAsked) (program : Program) (script : Option (List ScriptLine)) (input : List ℕ) →
    request ≡ Ok (to_run asked) → Ready (to_run asked) old.files program script input → Faultless (to_run asked) old new done → IsOneOf other_statuses done.status ⊎ RanWhole asked.execution program input done
whole_run {request} {old} {new} {done} o asked program script input asks ready sound =
    rw (o.run, o.bus, o.status) (whole_of o.course o.told asked program script input old.files new.files old.out new.out old.note new.note
    (came_as o (Ok (to_run asked)) asks) o.tells ready (sym o.lies ∙ sound.bus) sound.files sound.out sound.note)

-- the status of a whole run is the plain machine's
status_of_whole : (run : Option RunRecord) (bus : Option RunBus) (execution : ExecutionAsked) (program : Program) (input : List ℕ) (status : ℕ) → AreBothAnd run bus (IsRunWhole execution program input status) → status ≡ code_of (plain_status execution program input)
status_of_whole None bus execution program input status whole = absurd whole
status_of_whole (Some run) None execution program input status whole = absurd whole
status_of_whole (Some run) (Some bus) execution program input status whole = whole.1 ∙ ap (λ e. code_of (ending_status e)) whole.0.ending_is

one_more : (first : Status) (status : ℕ) → IsOneOf other_statuses status → IsOneOf (first ∷ other_statuses) status
one_more first status found = (suc found.0, omega (arith, found.1), found.2)

run_whole : (execution : ExecutionAsked) (program : Program) (input : List ℕ) (done : Done) → IsOneOf other_statuses done.status ⊎ RanWhole execution program input done → IsOneOf (plain_status execution program input ∷ other_statuses) done.status
run_whole execution program input done (inl other) = one_more (plain_status execution program input) done.status other
run_whole execution program input done (inr whole) = (0, omega arith, sym (status_of_whole done.run done.bus execution program input done.status whole))

-- ---- a run on the plain machine

abbrev pub plain_statuses : ExecutionAsked → Program → List ℕ → List Status
plain_statuses execution program input = plain_status execution program input ∷ status.NoMemory ∷ []

plain_other : (execution : ExecutionAsked) (program : Program) (input : List ℕ) (status : ℕ) → status ≡ 10 → IsOneOf (plain_statuses execution program input) status
plain_other execution program input status is = (1, omega arith, sym is)

plainly_whole : (execution : ExecutionAsked) (program : Program) (input : List ℕ) (out out' : SinkState) (run : PlainRecord) → RunsPlain (opening execution.file.geometry program input) execution.steps out out' run → ¬ Rose out.faults out'.faults →
    IsOneOf (plain_statuses execution program input) (code_of (ending_status run.ending))
plainly_whole execution program input out out' run runs quiet = elim (memory_cases run.ending) [
  | inl gone ↦ plain_other execution program input (code_of (ending_status run.ending)) (ap (λ e. code_of (ending_status e)) gone)
  | inr had ↦ (0, omega arith, sym (ap (λ e. code_of (ending_status e)) (runs.whole quiet had).ending_is))
]

plainly_ready : (execution : ExecutionAsked) (program : Program) (script : Option (List ScriptLine)) (input : List ℕ) (files files' : FilesState) (out out' : SinkState) (run : PlainRecord) → Ready (to_run_plain execution) files program script input → PlainlyRuns execution files files' out out' run →
    ¬ Rose out.faults out'.faults → IsOneOf (plain_statuses execution program input) (code_of (ending_status run.ending))
plainly_ready execution program script input files files' out out' run ready came quiet =
    let same = same_program files execution.file program came.0 ready.tells ready.program_is came.2.program_is in
    let same_in = same_input execution.input input came.1 files ready.tells ready.input_is came.2.input_is in
    plainly_whole execution program input out out' run (rw (← same, ← same_in) came.3) quiet

whole_plain_of : (course : Course) (telling : Telling) (execution : ExecutionAsked) (program : Program) (script : Option (List ScriptLine)) (input : List ℕ) (files files' : FilesState) (out out' note note' : SinkState) → CameAbout course (Ok (to_run_plain execution)) files files' out out' →
    TellsCourse course note note' telling → Ready (to_run_plain execution) files program script input → ¬ Rose files.faults files'.faults → ¬ Rose out.faults out'.faults → ¬ Rose note.faults note'.faults →
    IsOneOf (plain_statuses execution program input) (code_of (status_of course telling))
whole_plain_of course (Err no_memory) execution program script input files files' out out' note note' came tells ready quiet_files quiet_out quiet_note = plain_other execution program input 10 refl
whole_plain_of (Refused refusal) (Ok _) execution program script input files files' out out' note note' came tells ready quiet_files quiet_out quiet_note =
    absurd (unrefused refusal (to_run_plain execution) files files' ready.tells (ready_accepted (to_run_plain execution) files program script input ready) quiet_files came.0)
whole_plain_of (Refused refusal) (Err Failed) execution program script input files files' out out' note note' came tells ready quiet_files quiet_out quiet_note = absurd (quiet_note tells.1)
whole_plain_of NoMemory (Ok _) execution program script input files files' out out' note note' came tells ready quiet_files quiet_out quiet_note = plain_other execution program input 10 refl
whole_plain_of NoMemory (Err Failed) execution program script input files files' out out' note note' came tells ready quiet_files quiet_out quiet_note = plain_other execution program input 10 refl
whole_plain_of (Ran run bus) (Ok _) execution program script input files files' out out' note note' came tells ready quiet_files quiet_out quiet_note = absurd came
whole_plain_of (Ran run bus) (Err Failed) execution program script input files files' out out' note note' came tells ready quiet_files quiet_out quiet_note = absurd came
whole_plain_of (RanPlain run) (Ok _) execution program script input files files' out out' note note' came tells ready quiet_files quiet_out quiet_note =
    plainly_ready execution program script input files files' out out' run ready came quiet_out
whole_plain_of (RanPlain run) (Err Failed) execution program script input files files' out out' note note' came tells ready quiet_files quiet_out quiet_note = absurd (quiet_note tells.1)
whole_plain_of (Written written) (Ok _) execution program script input files files' out out' note note' came tells ready quiet_files quiet_out quiet_note = absurd came
whole_plain_of (Written written) (Err Failed) execution program script input files files' out out' note note' came tells ready quiet_files quiet_out quiet_note = absurd came
whole_plain_of OtherTag (Ok _) execution program script input files files' out out' note note' came tells ready quiet_files quiet_out quiet_note = absurd came.0
whole_plain_of OtherTag (Err Failed) execution program script input files files' out out' note note' came tells ready quiet_files quiet_out quiet_note = absurd came.0
whole_plain_of (RanGenerated run bus written) (Ok _) execution program script input files files' out out' note note' came tells ready quiet_files quiet_out quiet_note = absurd came
whole_plain_of (RanGenerated run bus written) (Err Failed) execution program script input files files' out out' note note' came tells ready quiet_files quiet_out quiet_note = absurd came
whole_plain_of (RanTraced run bus written) (Ok _) execution program script input files files' out out' note note' came tells ready quiet_files quiet_out quiet_note = absurd came
whole_plain_of (RanTraced run bus written) (Err Failed) execution program script input files files' out out' note note' came tells ready quiet_files quiet_out quiet_note = absurd came
whole_plain_of (Judged difference written) (Ok _) execution program script input files files' out out' note note' came tells ready quiet_files quiet_out quiet_note = absurd came
whole_plain_of (RanPair run bus second written) (Ok _) execution program script input files files' out out' note note' came tells ready quiet_files quiet_out quiet_note = absurd came
whole_plain_of (Judged difference written) (Err Failed) execution program script input files files' out out' note note' came tells ready quiet_files quiet_out quiet_note = absurd came
whole_plain_of (RanPair run bus second written) (Err Failed) execution program script input files files' out out' note note' came tells ready quiet_files quiet_out quiet_note = absurd came

plain_whole : {request : Result Asked WordsFault} {old new : World} {done : Done} → Outcome request old new done → (execution : ExecutionAsked) (program : Program) (script : Option (List ScriptLine)) (input : List ℕ) →
    request ≡ Ok (to_run_plain execution) → Ready (to_run_plain execution) old.files program script input → Faultless (to_run_plain execution) old new done → IsOneOf (plain_statuses execution program input) done.status
plain_whole {request} {old} {new} {done} o execution program script input asks ready sound =
    subst (λ (n : ℕ). IsOneOf (plain_statuses execution program input) n) (sym o.status)
    (whole_plain_of o.course o.told execution program script input old.files new.files old.out new.out old.note new.note
    (came_as o (Ok (to_run_plain execution)) asks) o.tells ready sound.files sound.out sound.note)

-- ---- a text

abbrev pub text_statuses : List Status
text_statuses = status.Done ∷ status.NoMemory ∷ []

written_whole : (written telling : Telling) (file : FileAsked) (text : Image → List ℕ) (files files' : FilesState) (out out' note note' : SinkState) → Writes file text files files' out out' written → TellsCourse (Written written) note note' telling →
    ¬ Rose out.faults out'.faults → IsOneOf text_statuses (code_of (status_of (Written written) telling))
written_whole (Ok _) telling file text files files' out out' note note' writes tells quiet = rw tells.1 (0, omega arith, refl)
written_whole (Err Failed) telling file text files files' out out' note note' writes tells quiet = absurd (quiet writes.written.1)
written_whole (Err no_memory) telling file text files files' out out' note note' writes tells quiet = rw tells.1 (1, omega arith, refl)

whole_text_of : (course : Course) (telling : Telling) (asked : Asked) (file : FileAsked) (text : Image → List ℕ) (program : Program) (script : Option (List ScriptLine)) (input : List ℕ) (files files' : FilesState) (out out' note note' : SinkState) →
    CameAbout course (Ok asked) files files' out out' → WritesOr course file text files files' out out' → TellsCourse course note note' telling → Ready asked files program script input → ¬ Rose files.faults files'.faults → ¬ Rose out.faults out'.faults →
    IsOneOf text_statuses (code_of (status_of course telling))
whole_text_of (Refused refusal) telling asked file text program script input files files' out out' note note' came writes tells ready quiet_files quiet_out =
    absurd (unrefused refusal asked files files' ready.tells (ready_accepted asked files program script input ready) quiet_files came.0)
whole_text_of NoMemory telling asked file text program script input files files' out out' note note' came writes tells ready quiet_files quiet_out = rw tells.1 (1, omega arith, refl)
whole_text_of (Ran run bus) telling asked file text program script input files files' out out' note note' came writes tells ready quiet_files quiet_out = absurd writes
whole_text_of (RanPlain run) telling asked file text program script input files files' out out' note note' came writes tells ready quiet_files quiet_out = absurd writes
whole_text_of (Written written) telling asked file text program script input files files' out out' note note' came writes tells ready quiet_files quiet_out =
    written_whole written telling file text files files' out out' note note' writes tells quiet_out
whole_text_of OtherTag telling asked file text program script input files files' out out' note note' came writes tells ready quiet_files quiet_out = absurd writes
whole_text_of (RanGenerated run bus written) telling asked file text program script input files files' out out' note note' came writes tells ready quiet_files quiet_out = absurd writes
whole_text_of (RanTraced run bus written) telling asked file text program script input files files' out out' note note' came writes tells ready quiet_files quiet_out = absurd writes
whole_text_of (Judged difference written) telling asked file text program script input files files' out out' note note' came writes tells ready quiet_files quiet_out = absurd writes
whole_text_of (RanPair run bus second written) telling asked file text program script input files files' out out' note note' came writes tells ready quiet_files quiet_out = absurd writes

text_whole : {request : Result Asked WordsFault} {old new : World} {done : Done} → (o : Outcome request old new done) → (asked : Asked) (file : FileAsked) (text : Image → List ℕ) (program : Program) (script : Option (List ScriptLine)) (input : List ℕ) → request ≡ Ok asked →
    WritesOr o.course file text old.files new.files old.out new.out → Ready asked old.files program script input → Faultless asked old new done → IsOneOf text_statuses done.status
text_whole {request} {old} {new} {done} o asked file text program script input asks writes ready sound =
    subst (λ (n : ℕ). IsOneOf text_statuses n) (sym o.status)
    (whole_text_of o.course o.told asked file text program script input old.files new.files old.out new.out old.note new.note
    (came_as o (Ok asked) asks) writes o.tells ready sound.files sound.out)

-- ---- a report

abbrev pub checked_statuses : ReportAsked → List ℕ → List Status
checked_statuses asked text = verdict_status (verdict_of asked.device_key text) ∷ status.NoMemory ∷ []

lacking : (asked : ReportAsked) (text : List ℕ) → IsOneOf (checked_statuses asked text) 10
lacking asked text = (1, omega arith, refl)

-- the verdict on what was read is that on what is ready
with_verdict : (asked : ReportAsked) (files : FilesState) (text other : List ℕ) (verdict : Option ReportError) → Tell files → IsAccepted files (report_need asked) text →
    IsAccepted files (report_need asked) other → verdict_of asked.device_key other ≡ verdict → verdict_of asked.device_key text ≡ verdict
with_verdict asked files text other verdict tells ready taken is =
    ap (verdict_of asked.device_key) (sym (told_bytes files asked.name text other tells ready.told taken.told)) ∙ is

written_report_whole : (written telling : Telling) (asked : ReportAsked) (text : List ℕ) (files files' : FilesState) (out out' note note' : SinkState) → WritesReport asked files files' out out' written →
    TellsCourse (Written written) note note' telling → Tell files → IsAccepted files (report_need asked) text → ¬ Rose out.faults out'.faults →
    IsOneOf (checked_statuses asked text) (code_of (status_of (Written written) telling))
written_report_whole (Ok _) telling asked text files files' out out' note note' writes tells told ready quiet =
    let verdict = with_verdict asked files text writes.text None told ready writes.reads.accepted (made_verdict writes.made) in
    rw tells.1 (0, omega arith, ap (λ v. code_of (verdict_status v)) verdict)
written_report_whole (Err Failed) telling asked text files files' out out' note note' writes tells told ready quiet = absurd (quiet writes.written.1)
written_report_whole (Err no_memory) telling asked text files files' out out' note note' writes tells told ready quiet = rw tells.1 (lacking asked text)

whole_report_of : (course : Course) (telling : Telling) (asked : ReportAsked) (text : List ℕ) (files files' : FilesState) (out out' note note' : SinkState) → CameAbout course (Ok (to_verify asked)) files files' out out' →
    TellsCourse course note note' telling → Tell files → IsAccepted files (report_need asked) text → ¬ Rose files.faults files'.faults → ¬ Rose out.faults out'.faults → ¬ Rose note.faults note'.faults →
    IsOneOf (checked_statuses asked text) (code_of (status_of course telling))
whole_report_of (Refused refusal) telling asked text files files' out out' note note' came tells told ready quiet_files quiet_out quiet_note =
    absurd (unrefused refusal (to_verify asked) files files' told ((text, ready), tt) quiet_files came.0)
whole_report_of NoMemory telling asked text files files' out out' note note' came tells told ready quiet_files quiet_out quiet_note = rw tells.1 (lacking asked text)
whole_report_of (Ran run bus) telling asked text files files' out out' note note' came tells told ready quiet_files quiet_out quiet_note = absurd came
whole_report_of (RanPlain run) telling asked text files files' out out' note note' came tells told ready quiet_files quiet_out quiet_note = absurd came
whole_report_of (Written written) telling asked text files files' out out' note note' came tells told ready quiet_files quiet_out quiet_note =
    written_report_whole written telling asked text files files' out out' note note' came tells told ready quiet_out
whole_report_of OtherTag (Ok _) asked text files files' out out' note note' came tells told ready quiet_files quiet_out quiet_note =
    let found = came.0 in
    (0, omega arith, ap (λ v. code_of (verdict_status v)) (with_verdict asked files text found.0 (Some Tag) told ready found.1.accepted found.2))
whole_report_of OtherTag (Err Failed) asked text files files' out out' note note' came tells told ready quiet_files quiet_out quiet_note = absurd (quiet_note tells.1)
whole_report_of OtherTag (Err no_memory) asked text files files' out out' note note' came tells told ready quiet_files quiet_out quiet_note = lacking asked text
whole_report_of (RanGenerated run bus written) telling asked text files files' out out' note note' came tells told ready quiet_files quiet_out quiet_note = absurd came
whole_report_of (RanTraced run bus written) telling asked text files files' out out' note note' came tells told ready quiet_files quiet_out quiet_note = absurd came
whole_report_of (Judged difference written) telling asked text files files' out out' note note' came tells told ready quiet_files quiet_out quiet_note = absurd came
whole_report_of (RanPair run bus second written) telling asked text files files' out out' note note' came tells told ready quiet_files quiet_out quiet_note = absurd came

pub whole_report : {request : Result Asked WordsFault} {old new : World} {done : Done} → Outcome request old new done → (asked : ReportAsked) (text : List ℕ) → request ≡ Ok (to_verify asked) → Tell old.files →
    IsAccepted old.files (report_need asked) text → Faultless (to_verify asked) old new done → IsOneOf (checked_statuses asked text) done.status
whole_report {request} {old} {new} {done} o asked text asks tells ready sound =
    subst (λ (n : ℕ). IsOneOf (checked_statuses asked text) n) (sym o.status)
    (whole_report_of o.course o.told asked text old.files new.files old.out new.out old.note new.note
    (came_as o (Ok (to_verify asked)) asks) o.tells tells ready sound.files sound.out sound.note)

-- ---- a generated program

-- nothing rises in a sink in memory
none_risen : ¬ Rose 0 0
none_risen risen = let r : 1 ≤ 0 = risen in omega arith

-- it is the run over the whole budget, since no page is spent under the default limit
generated_whole : (program : Program) (old new : SinkState) (before : BusHistory) (bus : RunBus) (run : RunRecord) → RunsProtected (terms_of generated_run program []) old new before (run_history bus) run → (run_history bus).lies ≡ 0 → ¬ Rose old.faults new.faults →
    (code_of (run_status run) ≡ 10) ⊎ IsRunWhole generated_execution program [] (code_of (run_status run)) run bus
generated_whole program old new before bus run runs none quiet =
    let without = honest_without_evidence runs none in
    let ending_is = run_status_without_evidence run without in
    elim (memory_cases run.ending) [
      | inl gone ↦ inl (ending_is ∙ ap (λ e. code_of (ending_status e)) gone)
      | inr had ↦ elim ((runs.ran.without_evidence without).plain.whole none (not_cut_off runs quiet had)) [
        | inl whole ↦ inr (whole, ending_is)
        | inr spent ↦ absurd ((runs.ran.without_evidence without).pads.unspent refl spent.0 spent.1)
      ]
    ]

summary_whole : (number : ℕ) (program : Program) (run : RunRecord) (bus : RunBus) (telling : Telling) (files files' : FilesState) (out out' : SinkState) → Summarizes number files files' out out' run bus telling → workload_of number ≡ Ok program →
    (run_history bus).lies ≡ 0 → ¬ Rose out.faults out'.faults → (code_of (told_status run telling) ≡ 10) ⊎ IsRunWhole generated_execution program [] (code_of (told_status run telling)) run bus
summary_whole number program run bus (Ok _) files files' out out' summarizes is none quiet =
    let e : Ok summarizes.runs.program ≡ Ok program = sym summarizes.runs.program_is ∙ is in
    let same : summarizes.runs.program ≡ program = cc in
    generated_whole program (gathered []) (gathered summarizes.printed) (new_history generated_execution.file.geometry) bus run
    (subst (λ (p : Program). RunsProtected (terms_of generated_run p []) (gathered []) (gathered summarizes.printed) (new_history generated_execution.file.geometry) (run_history bus) run) same summarizes.runs.runs)
    none none_risen
summary_whole number program run bus (Err Failed) files files' out out' summarizes is none quiet = absurd (quiet summarizes.written.1)
summary_whole number program run bus (Err no_memory) files files' out out' summarizes is none quiet = inl refl

whole_bench_of : (course : Course) (telling : Telling) (number : ℕ) (program : Program) (files files' : FilesState) (out out' note note' : SinkState) → CameAbout course (Ok (to_bench number)) files files' out out' → TellsCourse course note note' telling →
    workload_of number ≡ Ok program → lies_of (course_bus course) ≡ 0 → ¬ Rose out.faults out'.faults →
    (code_of (status_of course telling) ≡ 10) ⊎ AreBothAnd (course_run course) (course_bus course) (IsRunWhole generated_execution program [] (code_of (status_of course telling)))
whole_bench_of (Refused refusal) telling number program files files' out out' note note' came tells is none quiet = absurd (unrefused_bench refusal number files files' came.0)
whole_bench_of NoMemory telling number program files files' out out' note note' came tells is none quiet = rw tells.1 (inl refl)
whole_bench_of (Ran run bus) telling number program files files' out out' note note' came tells is none quiet = absurd came
whole_bench_of (RanPlain run) telling number program files files' out out' note note' came tells is none quiet = absurd came
whole_bench_of (Written written) telling number program files files' out out' note note' came tells is none quiet = absurd came
whole_bench_of OtherTag telling number program files files' out out' note note' came tells is none quiet = absurd came.0
whole_bench_of (RanGenerated run bus written) telling number program files files' out out' note note' came tells is none quiet =
    rw tells.1 (summary_whole number program run bus written files files' out out' came is none quiet)
whole_bench_of (RanTraced run bus written) telling number program files files' out out' note note' came tells is none quiet = absurd came
whole_bench_of (Judged difference written) telling number program files files' out out' note note' came tells is none quiet = absurd came
whole_bench_of (RanPair run bus second written) telling number program files files' out out' note note' came tells is none quiet = absurd came

pub whole_bench : {request : Result Asked WordsFault} {old new : World} {done : Done} → Outcome request old new done → (number : ℕ) (program : Program) → request ≡ Ok (to_bench number) → workload_of number ≡ Ok program →
    Faultless (to_bench number) old new done → (done.status ≡ 10) ⊎ RanWhole generated_execution program [] done
whole_bench {request} {old} {new} {done} o number program asks is sound =
    rw (o.run, o.bus, o.status) (whole_bench_of o.course o.told number program old.files new.files old.out new.out old.note new.note
    (came_as o (Ok (to_bench number)) asks) o.tells is (sym o.lies ∙ sound.bus) sound.out)

-- ---- a trace

-- reports tell any other ending
told_some : (ending : Ending) → ending ≢ WriteFault → ending ≢ memory_ended → ending_and_code ending ≢ None
told_some (Halted exit) written had none = cc
told_some (Trapped cause pc) written had none = cc
told_some OutOfSteps written had none = cc
told_some (Tampered place) written had none = cc
told_some (Spent page) written had none = cc
told_some WriteFault written had none = written refl
told_some memory_ended written had none = had refl

has_trace : (terms : Terms) (run : RunRecord) (bus : RunBus) (printed : List ℕ) (trace : Option Trace) → IsTold terms run bus printed trace → ending_and_code run.ending ≢ None → IsSome trace
has_trace terms run bus printed None told some = absurd (some told)
has_trace terms run bus printed (Some trace) told some = refl

-- a run that was not out of memory has a trace
wrote_trace : (asked : RunAsked) (old new : World) (run : RunRecord) (bus : RunBus) → (traces : Traces asked old.files new.files old.out new.out run bus (Ok tt)) → (run_history bus).lies ≡ 0 →
    (code_of (run_status run) ≡ 10) ⊎ WroteTrace asked old new run bus
wrote_trace asked old new run bus traces none =
    let runs = traces.traced.runs in
    let ending_is = run_status_without_evidence run (honest_without_evidence runs none) in
    elim (memory_cases run.ending) [
      | inl gone ↦ inl (ending_is ∙ ap (λ e. code_of (ending_status e)) gone)
      | inr had ↦ inr (record {
        traces = traces;
        there = has_trace (terms_of asked traces.program traces.input) run bus traces.traced.printed traces.trace traces.traced.told
            (told_some run.ending (λ fault. none_risen (runs.sink.write_fault fault)) had);
      })
    ]

-- it is that of a whole run, or of one that spent a page
abbrev pub TracedWholeOr : RunAsked → Program → List ℕ → World → World → ℕ → RunRecord → RunBus → Type 0
TracedWholeOr asked program input old new status run bus =
    WroteTrace asked old new run bus × ((status ≡ 6) ⊎ IsRunWhole asked.execution program input status run bus)

traced_or : (asked : RunAsked) (program : Program) (input : List ℕ) (old new : World) (status : ℕ) (run : RunRecord) (bus : RunBus) → (status ≡ 10) ⊎ WroteTrace asked old new run bus → WholeOr asked.execution program input status run bus →
    (status ≡ 10) ⊎ TracedWholeOr asked program input old new status run bus
traced_or asked program input old new status run bus (inl gone) ran = inl gone
traced_or asked program input old new status run bus (inr wrote) (inl gone) = inl gone
traced_or asked program input old new status run bus (inr wrote) (inr ran) = inr (wrote, ran)

traced_ready : (asked : RunAsked) (program : Program) (script : Option (List ScriptLine)) (input : List ℕ) (old new : World) (run : RunRecord) (bus : RunBus) → Ready (to_trace asked) old.files program script input →
    Traces asked old.files new.files old.out new.out run bus (Ok tt) → (run_history bus).lies ≡ 0 →
    (code_of (run_status run) ≡ 10) ⊎ TracedWholeOr asked program input old new (code_of (run_status run)) run bus
traced_ready asked program script input old new run bus ready traces none =
    let same = same_program old.files asked.execution.file program traces.program ready.tells ready.program_is traces.reads.program_is in
    let same_in = same_input asked.execution.input input traces.input old.files ready.tells ready.input_is traces.reads.input_is in
    let history = new_history asked.execution.file.geometry in
    let runs = subst (λ (p : Program). RunsProtected (terms_of asked p input) (gathered []) (gathered traces.traced.printed) history (run_history bus) run) same
    (subst (λ (i : List ℕ). RunsProtected (terms_of asked traces.program i) (gathered []) (gathered traces.traced.printed) history (run_history bus) run) same_in traces.traced.runs) in
    traced_or asked program input old new (code_of (run_status run)) run bus (wrote_trace asked old new run bus traces none)
    (ran_whole_or asked program input (gathered []) (gathered traces.traced.printed) history bus run runs none none_risen)

-- the trace's write did not fail
traced_told : (asked : RunAsked) (program : Program) (script : Option (List ScriptLine)) (input : List ℕ) (old new : World) (run : RunRecord) (bus : RunBus) (written : Telling) → Ready (to_trace asked) old.files program script input →
    Traces asked old.files new.files old.out new.out run bus written → (run_history bus).lies ≡ 0 → ¬ Rose old.out.faults new.out.faults →
    (code_of (told_status run written) ≡ 10) ⊎ TracedWholeOr asked program input old new (code_of (told_status run written)) run bus
traced_told asked program script input old new run bus (Ok _) ready traces none quiet = traced_ready asked program script input old new run bus ready traces none
traced_told asked program script input old new run bus (Err Failed) ready traces none quiet = absurd (quiet traces.written.1)
traced_told asked program script input old new run bus (Err no_memory) ready traces none quiet = inl refl

whole_trace_of : (course : Course) (telling : Telling) (asked : RunAsked) (program : Program) (script : Option (List ScriptLine)) (input : List ℕ) (old new : World) → CameAbout course (Ok (to_trace asked)) old.files new.files old.out new.out →
    TellsCourse course old.note new.note telling → Ready (to_trace asked) old.files program script input → lies_of (course_bus course) ≡ 0 → ¬ Rose old.files.faults new.files.faults → ¬ Rose old.out.faults new.out.faults → ¬ Rose old.note.faults new.note.faults →
    (code_of (status_of course telling) ≡ 10) ⊎ AreBothAnd (course_run course) (course_bus course) (TracedWholeOr asked program input old new (code_of (status_of course telling)))
whole_trace_of course (Err no_memory) asked program script input old new came tells ready none quiet_files quiet_out quiet_note = inl refl
whole_trace_of (Refused refusal) (Ok _) asked program script input old new came tells ready none quiet_files quiet_out quiet_note =
    absurd (unrefused refusal (to_trace asked) old.files new.files ready.tells (ready_accepted (to_trace asked) old.files program script input ready) quiet_files came.0)
whole_trace_of (Refused refusal) (Err Failed) asked program script input old new came tells ready none quiet_files quiet_out quiet_note = absurd (quiet_note tells.1)
whole_trace_of NoMemory (Ok _) asked program script input old new came tells ready none quiet_files quiet_out quiet_note = inl refl
whole_trace_of NoMemory (Err Failed) asked program script input old new came tells ready none quiet_files quiet_out quiet_note = inl refl
whole_trace_of (Ran run bus) (Ok _) asked program script input old new came tells ready none quiet_files quiet_out quiet_note = absurd came
whole_trace_of (Ran run bus) (Err Failed) asked program script input old new came tells ready none quiet_files quiet_out quiet_note = absurd came
whole_trace_of (RanPlain run) (Ok _) asked program script input old new came tells ready none quiet_files quiet_out quiet_note = absurd came
whole_trace_of (RanPlain run) (Err Failed) asked program script input old new came tells ready none quiet_files quiet_out quiet_note = absurd came
whole_trace_of (Written written) (Ok _) asked program script input old new came tells ready none quiet_files quiet_out quiet_note = absurd came
whole_trace_of (Written written) (Err Failed) asked program script input old new came tells ready none quiet_files quiet_out quiet_note = absurd came
whole_trace_of OtherTag (Ok _) asked program script input old new came tells ready none quiet_files quiet_out quiet_note = absurd came.0
whole_trace_of OtherTag (Err Failed) asked program script input old new came tells ready none quiet_files quiet_out quiet_note = absurd came.0
whole_trace_of (RanGenerated run bus written) (Ok _) asked program script input old new came tells ready none quiet_files quiet_out quiet_note = absurd came
whole_trace_of (RanGenerated run bus written) (Err Failed) asked program script input old new came tells ready none quiet_files quiet_out quiet_note = absurd came
whole_trace_of (RanTraced run bus written) (Ok _) asked program script input old new came tells ready none quiet_files quiet_out quiet_note =
    traced_told asked program script input old new run bus written ready came none quiet_out
whole_trace_of (RanTraced run bus written) (Err Failed) asked program script input old new came tells ready none quiet_files quiet_out quiet_note = absurd (quiet_note tells.1)
whole_trace_of (Judged difference written) (Ok _) asked program script input old new came tells ready none quiet_files quiet_out quiet_note = absurd came
whole_trace_of (RanPair run bus second written) (Ok _) asked program script input old new came tells ready none quiet_files quiet_out quiet_note = absurd came
whole_trace_of (Judged difference written) (Err Failed) asked program script input old new came tells ready none quiet_files quiet_out quiet_note = absurd came
whole_trace_of (RanPair run bus second written) (Err Failed) asked program script input old new came tells ready none quiet_files quiet_out quiet_note = absurd came

-- the run, the bus and the status are the answer's
traced_answer : (asked : RunAsked) (program : Program) (input : List ℕ) (old new : World) (done : Done) (run : Option RunRecord) (bus : Option RunBus) (status : ℕ) → done.run ≡ run → done.bus ≡ bus → done.status ≡ status →
    (status ≡ 10) ⊎ AreBothAnd run bus (TracedWholeOr asked program input old new status) → (done.status ≡ 10) ⊎ TracedWhole asked program input old new done
traced_answer asked program input old new done run bus status run_is bus_is status_is (inl gone) = inl (status_is ∙ gone)
traced_answer asked program input old new done None bus status run_is bus_is status_is (inr whole) = absurd whole
traced_answer asked program input old new done (Some run) None status run_is bus_is status_is (inr whole) = absurd whole
traced_answer asked program input old new done (Some run) (Some bus) status run_is bus_is status_is (inr whole) = inr (record {
  wrote = rw (run_is, bus_is) whole.0;
  ran = rw (run_is, bus_is, status_is) whole.1;
})

pub whole_trace : {request : Result Asked WordsFault} {old new : World} {done : Done} → Outcome request old new done → (asked : RunAsked) (program : Program) (script : Option (List ScriptLine)) (input : List ℕ) →
    request ≡ Ok (to_trace asked) → Ready (to_trace asked) old.files program script input → Faultless (to_trace asked) old new done → (done.status ≡ 10) ⊎ TracedWhole asked program input old new done
whole_trace {request} {old} {new} {done} o asked program script input asks ready sound =
    traced_answer asked program input old new done (course_run o.course) (course_bus o.course) (code_of (status_of o.course o.told)) o.run o.bus o.status
    (whole_trace_of o.course o.told asked program script input old new
    (came_as o (Ok (to_trace asked)) asks) o.tells ready (sym o.lies ∙ sound.bus) sound.files sound.out sound.note)

-- its status is among those that are due
traced_due : (asked : RunAsked) (program : Program) (input : List ℕ) (old new : World) (done : Done) → (done.status ≡ 10) ⊎ TracedWhole asked program input old new done →
    IsOneOf other_statuses done.status ⊎ RanWhole asked.execution program input done
traced_due asked program input old new done (inl gone) = inl (other done.status gone)
traced_due asked program input old new done (inr whole) = elim whole.ran [
  | inl spent ↦ inl (used_up done.status spent)
  | inr ran ↦ inr ran
]

-- ---- a judgement

-- the verdict was written, and has this status
abbrev pub VerdictWhole : JudgeAsked → Program → List ℕ → Trace → World → World → ℕ → Type 0
VerdictWhole judge program input trace old new status =
    (difference : Option Difference) × IsJudged (opening judge.execution.file.geometry program input) judge.execution.steps trace difference
    × Gains old.out (verdict_line difference) new.out × (status ≡ code_of (found_status difference))

-- it needs no script
unscripted : (judge : JudgeAsked) (files : FilesState) (program : Program) (script : Option (List ScriptLine)) (input : List ℕ) → Ready (to_judge judge) files program script input → Ready (to_judge judge) files program None input
unscripted judge files program script input ready = subst (λ (s : Option (List ScriptLine)). Ready (to_judge judge) files program s input) ready.script_is ready

-- what was judged is what is ready
judged_ready : (judge : JudgeAsked) (program : Program) (input : List ℕ) (trace : Trace) (old new : World) (difference : Option Difference) → Ready (to_judge judge) old.files program None input →
    IsTraceFile old.files judge.execution.file.geometry judge.trace trace → Judges judge old.files new.files old.out new.out difference (Ok tt) →
    IsJudged (opening judge.execution.file.geometry program input) judge.execution.steps trace difference
judged_ready judge program input trace old new difference ready trace_is judges =
    let same = same_program old.files judge.execution.file program judges.program ready.tells ready.program_is judges.reads.program_is in
    let same_in = same_input judge.execution.input input judges.input old.files ready.tells ready.input_is judges.reads.input_is in
    let same_file = same_trace old.files judge.execution.file.geometry judge.trace trace judges.trace ready.tells trace_is judges.reads.trace_is in
    subst (λ (p : Program). IsJudged (opening judge.execution.file.geometry p input) judge.execution.steps trace difference) same
    (subst (λ (i : List ℕ). IsJudged (opening judge.execution.file.geometry judges.program i) judge.execution.steps trace difference) same_in
    (subst (λ (t : Trace). IsJudged (opening judge.execution.file.geometry judges.program judges.input) judge.execution.steps t difference) same_file judges.verdict))

judged_told : (judge : JudgeAsked) (program : Program) (input : List ℕ) (trace : Trace) (old new : World) (difference : Option Difference) (written : Telling) → Ready (to_judge judge) old.files program None input →
    IsTraceFile old.files judge.execution.file.geometry judge.trace trace → Judges judge old.files new.files old.out new.out difference written → ¬ Rose old.out.faults new.out.faults →
    (code_of (judged_status difference written) ≡ 10) ⊎ VerdictWhole judge program input trace old new (code_of (judged_status difference written))
judged_told judge program input trace old new difference (Ok _) ready trace_is judges quiet =
    inr (difference, judged_ready judge program input trace old new difference ready trace_is judges, judges.written, refl)
judged_told judge program input trace old new difference (Err Failed) ready trace_is judges quiet = absurd (quiet judges.written.1)
judged_told judge program input trace old new difference (Err no_memory) ready trace_is judges quiet = inl refl

whole_judgement_of : (course : Course) (telling : Telling) (judge : JudgeAsked) (program : Program) (input : List ℕ) (trace : Trace) (old new : World) → CameAbout course (Ok (to_judge judge)) old.files new.files old.out new.out →
    TellsCourse course old.note new.note telling → Ready (to_judge judge) old.files program None input → IsTraceFile old.files judge.execution.file.geometry judge.trace trace → ¬ Rose old.files.faults new.files.faults → ¬ Rose old.out.faults new.out.faults →
    (code_of (status_of course telling) ≡ 10) ⊎ VerdictWhole judge program input trace old new (code_of (status_of course telling))
whole_judgement_of (Refused refusal) telling judge program input trace old new came tells ready trace_is quiet_files quiet_out =
    absurd (unrefused refusal (to_judge judge) old.files new.files ready.tells (ready_accepted (to_judge judge) old.files program None input ready) quiet_files came.0)
whole_judgement_of NoMemory telling judge program input trace old new came tells ready trace_is quiet_files quiet_out = rw tells.1 (inl refl)
whole_judgement_of (Ran run bus) telling judge program input trace old new came tells ready trace_is quiet_files quiet_out = absurd came
whole_judgement_of (RanPlain run) telling judge program input trace old new came tells ready trace_is quiet_files quiet_out = absurd came
whole_judgement_of (Written written) telling judge program input trace old new came tells ready trace_is quiet_files quiet_out = absurd came
whole_judgement_of OtherTag telling judge program input trace old new came tells ready trace_is quiet_files quiet_out = absurd came.0
whole_judgement_of (RanGenerated run bus written) telling judge program input trace old new came tells ready trace_is quiet_files quiet_out = absurd came
whole_judgement_of (RanTraced run bus written) telling judge program input trace old new came tells ready trace_is quiet_files quiet_out = absurd came
whole_judgement_of (RanPair run bus second written) telling judge program input trace old new came tells ready trace_is quiet_files quiet_out = absurd came
whole_judgement_of (Judged difference written) telling judge program input trace old new came tells ready trace_is quiet_files quiet_out =
    rw tells.1 (judged_told judge program input trace old new difference written ready trace_is came quiet_out)

judged_answer : (judge : JudgeAsked) (program : Program) (input : List ℕ) (trace : Trace) (old new : World) (done : Done) (status : ℕ) → done.status ≡ status → (status ≡ 10) ⊎ VerdictWhole judge program input trace old new status →
    (done.status ≡ 10) ⊎ JudgedWhole judge program input trace old new done
judged_answer judge program input trace old new done status status_is (inl gone) = inl (status_is ∙ gone)
judged_answer judge program input trace old new done status status_is (inr whole) =
    inr (record { difference = whole.0; verdict = whole.1; written = whole.2; status_is = status_is ∙ whole.3 })

pub whole_judgement : {request : Result Asked WordsFault} {old new : World} {done : Done} → Outcome request old new done → (judge : JudgeAsked) (program : Program) (input : List ℕ) (trace : Trace) →
    request ≡ Ok (to_judge judge) → Ready (to_judge judge) old.files program None input → IsTraceFile old.files judge.execution.file.geometry judge.trace trace → Faultless (to_judge judge) old new done →
    (done.status ≡ 10) ⊎ JudgedWhole judge program input trace old new done
whole_judgement {request} {old} {new} {done} o judge program input trace asks ready trace_is sound =
    judged_answer judge program input trace old new done (code_of (status_of o.course o.told)) o.status
    (whole_judgement_of o.course o.told judge program input trace old new
    (came_as o (Ok (to_judge judge)) asks) o.tells ready trace_is sound.files sound.out)

-- its status is among those that are due
abbrev pub judged_statuses : List Status
judged_statuses = status.Done ∷ status.JudgedNo ∷ status.NoMemory ∷ []

found_due : (difference : Option Difference) (number : ℕ) → number ≡ code_of (found_status difference) → IsOneOf judged_statuses number
found_due None number is = (0, omega arith, sym is)
found_due (Some difference) number is = (1, omega arith, sym is)

judged_due : (judge : JudgeAsked) (program : Program) (input : List ℕ) (trace : Trace) (old new : World) (done : Done) → (done.status ≡ 10) ⊎ JudgedWhole judge program input trace old new done →
    IsOneOf judged_statuses done.status
judged_due judge program input trace old new done (inl gone) = (2, omega arith, sym gone)
judged_due judge program input trace old new done (inr whole) = found_due whole.difference done.status whole.status_is

-- ---- two programs

-- a run is the one over the whole budget, since no page is spent under the default limit; or it is out of memory
side_whole : (side : SideAsked) (program : Program) (printed : List ℕ) (bus : RunBus) (run : RunRecord) → RunsProtected (terms_of (side_run side) program []) (gathered []) (gathered printed) (new_history (side_run side).execution.file.geometry) (run_history bus) run →
    (run_history bus).lies ≡ 0 → (run_status run ≡ status.NoMemory) ⊎ (RanSideWhole side program run × (run_status run ≡ ending_status run.ending))
side_whole side program printed bus run runs none =
    let without = honest_without_evidence runs none in
    let status_is = same_run_status run without in
    elim (memory_cases run.ending) [
      | inl gone ↦ inl (status_is ∙ ap ending_status gone)
      | inr had ↦ elim ((runs.ran.without_evidence without).plain.whole none (not_cut_off runs none_risen had)) [
        | inl whole ↦ inr (whole, status_is)
        | inr spent ↦ absurd ((runs.ran.without_evidence without).pads.unspent refl spent.0 spent.1)
      ]
    ]

-- both runs are whole, and this is their status
abbrev pub ArePairWhole : PairAsked → Program → Program → ℕ → RunRecord → RunBus → Second → Type 0
ArePairWhole asked first second status run bus beside =
    RanSideWhole asked.first first run × RanSideWhole asked.second second beside.run
    × (status ≡ code_of (joint_status (ending_status run.ending) (ending_status beside.run.ending)))

first_gone : (first second : Status) → first ≡ status.NoMemory → code_of (joint_status first second) ≡ 10
first_gone first status.NoMemory gone = refl
first_gone first second gone = rw gone refl

both_whole : (asked : PairAsked) (first second : Program) (run : RunRecord) (bus : RunBus) (beside : Second) → (run_status run ≡ status.NoMemory) ⊎ (RanSideWhole asked.first first run × (run_status run ≡ ending_status run.ending)) →
    (run_status beside.run ≡ status.NoMemory) ⊎ (RanSideWhole asked.second second beside.run × (run_status beside.run ≡ ending_status beside.run.ending)) →
    (code_of (told_pair_status run beside.run (Ok tt)) ≡ 10) ⊎ ArePairWhole asked first second (code_of (told_pair_status run beside.run (Ok tt))) run bus beside
both_whole asked first second run bus beside (inl gone) there = inl (first_gone (run_status run) (run_status beside.run) gone)
both_whole asked first second run bus beside (inr here) (inl gone) = inl (rw gone refl)
both_whole asked first second run bus beside (inr here) (inr there) = inr (here.0, there.0, rw (here.1, there.1) refl)

-- what both programs are, they were
paired_ready : (asked : PairAsked) (first second : Program) (old new : World) (run : RunRecord) (bus : RunBus) (beside : Second) → ReadyPair asked old.files first second → Pairs asked old.files new.files old.out new.out run bus beside (Ok tt) →
    (run_history bus).lies ≡ 0 → beside.lies ≡ 0 →
    (code_of (told_pair_status run beside.run (Ok tt)) ≡ 10) ⊎ ArePairWhole asked first second (code_of (told_pair_status run beside.run (Ok tt))) run bus beside
paired_ready asked first second old new run bus beside ready pairs none second_none =
    let same = same_program old.files (side_run asked.first).execution.file first pairs.program ready.tells ready.first_ready.program_is pairs.reads.first_is in
    let second_same = same_program old.files (side_run asked.second).execution.file second pairs.second_program ready.tells ready.second_ready.program_is pairs.reads.second_is in
    both_whole asked first second run bus beside
    (side_whole asked.first first pairs.printed bus run
    (subst (λ (p : Program). RunsProtected (terms_of (side_run asked.first) p []) (gathered []) (gathered pairs.printed) (new_history (side_run asked.first).execution.file.geometry) (run_history bus) run) same pairs.runs.side.runs) none)
    (side_whole asked.second second pairs.second_printed beside.bus beside.run
    (subst (λ (p : Program). RunsProtected (terms_of (side_run asked.second) p []) (gathered []) (gathered pairs.second_printed) (new_history (side_run asked.second).execution.file.geometry) (run_history beside.bus) beside.run) second_same pairs.second_runs.side.runs) (sym pairs.second_lies ∙ second_none))

-- the write of what they printed did not fail
paired_told : (asked : PairAsked) (first second : Program) (old new : World) (run : RunRecord) (bus : RunBus) (beside : Second) (written : Telling) → ReadyPair asked old.files first second → Pairs asked old.files new.files old.out new.out run bus beside written →
    (run_history bus).lies ≡ 0 → beside.lies ≡ 0 → ¬ Rose old.out.faults new.out.faults →
    (code_of (told_pair_status run beside.run written) ≡ 10) ⊎ ArePairWhole asked first second (code_of (told_pair_status run beside.run written)) run bus beside
paired_told asked first second old new run bus beside (Ok _) ready pairs none second_none quiet = paired_ready asked first second old new run bus beside ready pairs none second_none
paired_told asked first second old new run bus beside (Err Failed) ready pairs none second_none quiet = absurd (quiet pairs.written.1)
paired_told asked first second old new run bus beside (Err no_memory) ready pairs none second_none quiet = inl refl

-- all that a pair needs is accepted
pair_ready_accepted : (asked : PairAsked) (files : FilesState) (first second : Program) → ReadyPair asked files first second → AreAccepted files (pair_needs asked)
pair_ready_accepted asked files first second ready =
    all_pair_accepted asked files first second ready.order ready.first_ready.script ready.second_ready.script
    ready.first_ready.program_is ready.second_ready.program_is ready.order_is ready.first_ready.script_is ready.second_ready.script_is

whole_pair_of : (course : Course) (telling : Telling) (asked : PairAsked) (first second : Program) (old new : World) → CameAbout course (Ok (to_pair asked)) old.files new.files old.out new.out → TellsCourse course old.note new.note telling →
    ReadyPair asked old.files first second → lies_of (course_bus course) ≡ 0 → second_lies (course_second course) ≡ 0 → ¬ Rose old.files.faults new.files.faults → ¬ Rose old.out.faults new.out.faults → ¬ Rose old.note.faults new.note.faults →
    (code_of (status_of course telling) ≡ 10) ⊎ ArePairAnd (course_run course) (course_bus course) (course_second course) (ArePairWhole asked first second (code_of (status_of course telling)))
whole_pair_of course (Err no_memory) asked first second old new came tells ready none second_none quiet_files quiet_out quiet_note = inl refl
whole_pair_of (Refused refusal) (Ok _) asked first second old new came tells ready none second_none quiet_files quiet_out quiet_note =
    absurd (unrefused refusal (to_pair asked) old.files new.files ready.tells (pair_ready_accepted asked old.files first second ready) quiet_files came.0)
whole_pair_of (Refused refusal) (Err Failed) asked first second old new came tells ready none second_none quiet_files quiet_out quiet_note = absurd (quiet_note tells.1)
whole_pair_of NoMemory (Ok _) asked first second old new came tells ready none second_none quiet_files quiet_out quiet_note = inl refl
whole_pair_of NoMemory (Err Failed) asked first second old new came tells ready none second_none quiet_files quiet_out quiet_note = inl refl
whole_pair_of (Ran run bus) (Ok _) asked first second old new came tells ready none second_none quiet_files quiet_out quiet_note = absurd came
whole_pair_of (Ran run bus) (Err Failed) asked first second old new came tells ready none second_none quiet_files quiet_out quiet_note = absurd came
whole_pair_of (RanPlain run) (Ok _) asked first second old new came tells ready none second_none quiet_files quiet_out quiet_note = absurd came
whole_pair_of (RanPlain run) (Err Failed) asked first second old new came tells ready none second_none quiet_files quiet_out quiet_note = absurd came
whole_pair_of (Written written) (Ok _) asked first second old new came tells ready none second_none quiet_files quiet_out quiet_note = absurd came
whole_pair_of (Written written) (Err Failed) asked first second old new came tells ready none second_none quiet_files quiet_out quiet_note = absurd came
whole_pair_of OtherTag (Ok _) asked first second old new came tells ready none second_none quiet_files quiet_out quiet_note = absurd came.0
whole_pair_of OtherTag (Err Failed) asked first second old new came tells ready none second_none quiet_files quiet_out quiet_note = absurd came.0
whole_pair_of (RanGenerated run bus written) (Ok _) asked first second old new came tells ready none second_none quiet_files quiet_out quiet_note = absurd came
whole_pair_of (RanGenerated run bus written) (Err Failed) asked first second old new came tells ready none second_none quiet_files quiet_out quiet_note = absurd came
whole_pair_of (RanTraced run bus written) (Ok _) asked first second old new came tells ready none second_none quiet_files quiet_out quiet_note = absurd came
whole_pair_of (RanTraced run bus written) (Err Failed) asked first second old new came tells ready none second_none quiet_files quiet_out quiet_note = absurd came
whole_pair_of (Judged difference written) (Ok _) asked first second old new came tells ready none second_none quiet_files quiet_out quiet_note = absurd came
whole_pair_of (Judged difference written) (Err Failed) asked first second old new came tells ready none second_none quiet_files quiet_out quiet_note = absurd came
whole_pair_of (RanPair run bus beside written) (Ok _) asked first second old new came tells ready none second_none quiet_files quiet_out quiet_note =
    paired_told asked first second old new run bus beside written ready came none second_none quiet_out
whole_pair_of (RanPair run bus beside written) (Err Failed) asked first second old new came tells ready none second_none quiet_files quiet_out quiet_note = absurd (quiet_note tells.1)

-- both runs, the first one's bus and the status are the answer's
pair_answer : (asked : PairAsked) (first second : Program) (done : Done) (run : Option RunRecord) (bus : Option RunBus) (beside : Option Second) (status : ℕ) → done.run ≡ run → done.bus ≡ bus → done.second ≡ beside → done.status ≡ status →
    (status ≡ 10) ⊎ ArePairAnd run bus beside (ArePairWhole asked first second status) → (done.status ≡ 10) ⊎ PairWhole asked first second done
pair_answer asked first second done run bus beside status run_is bus_is second_is status_is (inl gone) = inl (status_is ∙ gone)
pair_answer asked first second done run bus None status run_is bus_is second_is status_is (inr whole) = absurd whole
pair_answer asked first second done None bus (Some beside) status run_is bus_is second_is status_is (inr whole) = absurd whole
pair_answer asked first second done (Some run) None (Some beside) status run_is bus_is second_is status_is (inr whole) = absurd whole
pair_answer asked first second done (Some run) (Some bus) (Some beside) status run_is bus_is second_is status_is (inr whole) = inr (rw (run_is, bus_is, second_is) (record {
  first_whole = whole.0;
  second_whole = whole.1;
  status_is = status_is ∙ whole.2;
}))

pub whole_pair : {request : Result Asked WordsFault} {old new : World} {done : Done} → Outcome request old new done → (asked : PairAsked) (first second : Program) → request ≡ Ok (to_pair asked) → ReadyPair asked old.files first second →
    Faultless (to_pair asked) old new done → second_lies done.second ≡ 0 → (done.status ≡ 10) ⊎ PairWhole asked first second done
whole_pair {request} {old} {new} {done} o asked first second asks ready sound second_none =
    pair_answer asked first second done (course_run o.course) (course_bus o.course) (course_second o.course) (code_of (status_of o.course o.told)) o.run o.bus o.second o.status
    (whole_pair_of o.course o.told asked first second old new
    (came_as o (Ok (to_pair asked)) asks) o.tells ready (sym o.lies ∙ sound.bus) (rw (← o.second) second_none) sound.files sound.out sound.note)

-- ---- any request

pub whole : {request : Result Asked WordsFault} {old new : World} {done : Done} → Outcome request old new done → (asked : Asked) (program : Program) (script : Option (List ScriptLine)) (input : List ℕ) →
    request ≡ Ok asked → Ready asked old.files program script input → Faultless asked old new done → IsOneOf (whole_statuses asked program input) done.status
whole {done = done} o (to_run asked) program script input asks ready sound =
    run_whole asked.execution program input done (whole_run o asked program script input asks ready sound)
whole o (to_run_plain execution) program script input asks ready sound = plain_whole o execution program script input asks ready sound
whole {old = old} {new = new} o (to_assemble file) program script input asks ready sound =
    let writes = asm_came o.course file old.files new.files old.out new.out (came_as o (Ok (to_assemble file)) asks) in
    text_whole o (to_assemble file) file elf_file program script input asks writes ready sound
whole {old = old} {new = new} o (to_disassemble file) program script input asks ready sound =
    let writes = dis_came o.course file old.files new.files old.out new.out (came_as o (Ok (to_disassemble file)) asks) in
    text_whole o (to_disassemble file) file listing program script input asks writes ready sound
whole {old = old} {new = new} o (to_measure file) program script input asks ready sound =
    let writes = measure_came o.course file old.files new.files old.out new.out (came_as o (Ok (to_measure file)) asks) in
    text_whole o (to_measure file) file measurement_line program script input asks writes ready sound
whole o (to_verify report) program script input asks ready sound = absurd ready.program_is
whole o (to_bench number) program script input asks ready sound = absurd ready.program_is
whole o (to_pair pair) program script input asks ready sound = absurd ready.program_is
whole {old = old} {new = new} {done = done} o (to_trace asked) program script input asks ready sound =
    run_whole asked.execution program input done (traced_due asked program input old new done (whole_trace o asked program script input asks ready sound))
whole {old = old} {new = new} {done = done} o (to_judge judge) program script input asks ready sound =
    judged_due judge program input ready.trace_is.0 old new done
    (whole_judgement o judge program input ready.trace_is.0 asks (unscripted judge old.files program script input ready) ready.trace_is.1 sound)
