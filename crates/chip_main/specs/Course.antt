-- What a call came to, how that came about, and what is made of it.
use Rattle.std.specs.Prelude.{◌≡◌, Option, Some, None, IfSome, Result, Ok, Err, OnOk}
use Rattle.sec_base.specs.Files.{FilesState}
use Rattle.sec_base.specs.Sink.{SinkState, IsSilent, IsWritten}
use Rattle.sec_base.specs.declared.sink.SinkStop.TheVariants.{Failed, NoMemory as no_memory}
use Rattle.chip_run.specs.declared.RunRecord.{RunRecord}
use Rattle.chip_words.specs.Request.{Asked, WordsFault}
use Rattle.chip_words.specs.Texts.{plain_text, record_text, tag_differs_line}
use Rattle.chip_files.specs.declared.stop.Stop.{Stop}
use Rattle.chip_files.specs.declared.stop.Stop.TheVariants.{Refused as stop_refused, NoMemory as stop_no_memory}
use Rattle.chip_files.specs.Needs.{needs_of}
use Rattle.chip_files.specs.Causes.{IsRefused, RunsOut}
use Rattle.chip_device.specs.declared.run_bus.RunBus.{RunBus}
use Rattle.chip_device.specs.Buses.{LiesByScript, run_history, lies_of}
use Rattle.chip_main.specs.declared.Done.{Done}
use Rattle.chip_main.specs.declared.course.Course.{Course}
use Rattle.chip_main.specs.declared.course.Course.TheVariants.{Refused, NoMemory, Ran, RanPlain, Written, OtherTag, RanGenerated, RanTraced, Judged, RanPair}
use Rattle.chip_main.specs.declared.second.Second.{Second}
use Rattle.chip_main.specs.World.{World}
use Rattle.chip_main.specs.Requests.{JudgesRequest, OtherTagRequest, PairsRequest, PlainlyRunsRequest, RunsRequest, SummarizesRequest, TracesRequest, WritesRequest}
use Rattle.chip_main.specs.Texts.{pair_text, refusal_text}
use Rattle.chip_main.specs.Status.{IsResult, Telling, code_of, ending_status, judged_status, refusal_status, run_status, text_status, told_pair_status, told_status, untold_ending_status, untold_told_pair_status, untold_told_status}
use Rattle.chip_main.specs.declared.status.Status.{Status}
use Rattle.chip_main.specs.declared.status.Status.TheVariants.{NoMemory as out_of_memory, TagDiffers, WriteFault}

-- how each course came about, from the request, the files and the sink for what is printed
abbrev pub CameAbout : Course → Result Asked WordsFault → FilesState → FilesState → SinkState → SinkState → Type 0
CameAbout (Refused refusal) request files files' out out' = IsRefused refusal request files files' × IsSilent out out'
CameAbout NoMemory request files files' out out' = RunsOut (needs_of request) files files' × IsSilent out out'
CameAbout (Ran run bus) request files files' out out' = RunsRequest request files files' out out' run bus
CameAbout (RanPlain run) request files files' out out' = PlainlyRunsRequest request files files' out out' run
CameAbout (Written telling) request files files' out out' = WritesRequest request files files' out out' telling
CameAbout OtherTag request files files' out out' = OtherTagRequest request files files' × IsSilent out out'
CameAbout (RanGenerated run bus telling) request files files' out out' =
    SummarizesRequest request files files' out out' run bus telling
CameAbout (RanTraced run bus telling) request files files' out out' = TracesRequest request files files' out out' run bus telling
CameAbout (Judged difference telling) request files files' out out' = JudgesRequest request files files' out out' difference telling
CameAbout (RanPair run bus second telling) request files files' out out' =
    PairsRequest request files files' out out' run bus second telling

-- what a call comes to where a stop ended it
abbrev pub stopped_course : Stop → Course
stopped_course (stop_refused refusal) = Refused refusal
stopped_course stop_no_memory = NoMemory

-- there is nothing to tell
abbrev pub TellsNothing : SinkState → SinkState → Telling → Type 0
TellsNothing old new telling = IsSilent old new × (telling ≡ Ok tt)

-- what is told of it, and how far
abbrev pub TellsCourse : Course → SinkState → SinkState → Telling → Type 0
TellsCourse (Refused refusal) old new telling = IsWritten (refusal_text refusal) old new telling
TellsCourse NoMemory old new telling = TellsNothing old new telling
TellsCourse (Ran run bus) old new telling =
    IsWritten (record_text run.ending run.retired (run_history bus).lies run.made run.evidence run.report) old new telling
TellsCourse (RanPlain run) old new telling = IsWritten (plain_text run.ending run.retired) old new telling
TellsCourse (Written written) old new telling = TellsNothing old new telling
TellsCourse OtherTag old new telling = IsWritten tag_differs_line old new telling
TellsCourse (RanGenerated run bus written) old new telling = TellsNothing old new telling
TellsCourse (RanTraced run bus written) old new telling =
    IsWritten (record_text run.ending run.retired (run_history bus).lies run.made run.evidence run.report) old new telling
TellsCourse (Judged difference written) old new telling = TellsNothing old new telling
TellsCourse (RanPair run bus second written) old new telling =
    IsWritten (pair_text run (run_history bus).lies second.run second.lies) old new telling

-- the record of a run on protected memory, where there was one; of a pair, the first one's
abbrev pub course_run : Course → Option RunRecord
course_run (Refused refusal) = None
course_run NoMemory = None
course_run (Ran run bus) = Some run
course_run (RanPlain run) = None
course_run (Written telling) = None
course_run OtherTag = None
course_run (RanGenerated run bus telling) = Some run
course_run (RanTraced run bus telling) = Some run
course_run (Judged difference telling) = None
course_run (RanPair run bus second telling) = Some run

-- the bus of a run on protected memory, where there was one; of a pair, the first one's
abbrev pub course_bus : Course → Option RunBus
course_bus (Refused refusal) = None
course_bus NoMemory = None
course_bus (Ran run bus) = Some bus
course_bus (RanPlain run) = None
course_bus (Written telling) = None
course_bus OtherTag = None
course_bus (RanGenerated run bus telling) = Some bus
course_bus (RanTraced run bus telling) = Some bus
course_bus (Judged difference telling) = None
course_bus (RanPair run bus second telling) = Some bus

-- the second one of two programs that shared the core
abbrev pub course_second : Course → Option Second
course_second (Refused refusal) = None
course_second NoMemory = None
course_second (Ran run bus) = None
course_second (RanPlain run) = None
course_second (Written telling) = None
course_second OtherTag = None
course_second (RanGenerated run bus telling) = None
course_second (RanTraced run bus telling) = None
course_second (Judged difference telling) = None
course_second (RanPair run bus second telling) = Some second

-- the status, where it was told whole
abbrev pub course_status : Course → Status
course_status (Refused refusal) = refusal_status refusal
course_status NoMemory = out_of_memory
course_status (Ran run bus) = run_status run
course_status (RanPlain run) = ending_status run.ending
course_status (Written telling) = text_status telling
course_status OtherTag = TagDiffers
course_status (RanGenerated run bus telling) = told_status run telling
course_status (RanTraced run bus telling) = told_status run telling
course_status (Judged difference telling) = judged_status difference telling
course_status (RanPair run bus second telling) = told_pair_status run second.run telling

-- a refusal that could not be told keeps its status
abbrev pub untold_status : Course → Status
untold_status (Refused refusal) = refusal_status refusal
untold_status NoMemory = out_of_memory
untold_status (Ran run bus) = untold_ending_status run.ending
untold_status (RanPlain run) = untold_ending_status run.ending
untold_status (Written telling) = text_status telling
untold_status OtherTag = WriteFault
untold_status (RanGenerated run bus telling) = told_status run telling
untold_status (RanTraced run bus telling) = untold_told_status run telling
untold_status (Judged difference telling) = judged_status difference telling
untold_status (RanPair run bus second telling) = untold_told_pair_status run second.run telling

-- the status of the process
abbrev pub status_of : Course → Telling → Status
status_of course (Ok _) = course_status course
status_of course (Err Failed) = untold_status course
status_of course (Err no_memory) = out_of_memory

-- the whole of a call, with its answer
pub record Outcome (request : Result Asked WordsFault) (old new : World) (done : Done) : Type 0 where
  pub course : Course
  pub told : Telling
  pub came : CameAbout course request old.files new.files old.out new.out
  pub tells : TellsCourse course old.note new.note told
  pub taken : IsResult (code_of (course_status course)) → (new.files.faults ≡ old.files.faults) × (new.out.faults ≡ old.out.faults)
  pub noted : OnOk told (new.note.faults ≡ old.note.faults)
  pub status : done.status ≡ code_of (status_of course told)
  pub run : done.run ≡ course_run course
  pub bus : done.bus ≡ course_bus course
  pub lies : done.lies ≡ lies_of (course_bus course)
  pub by_script : IfSome (course_bus course) LiesByScript
  pub second : done.second ≡ course_second course
