-- A run turn by turn: what contracts see of it, how far it came, and what it comes to.
use Rattle.std.specs.Prelude.{◌≡◌, ◌++◌, ℕ, ◌<◌, List, [], Option, Some, None}
use Rattle.sha2.specs.Sha256.{sha256}
use Rattle.sec_base.specs.Geometry.{line_count}
use Rattle.sec_base.specs.Sink.{SinkState}
use Rattle.sec_base.specs.declared.ending.Ending.{Ending}
use Rattle.sec_base.specs.declared.image.Image.{Image}
use Rattle.sec_base.specs.declared.stop.MemStop.{MemStop}
use Rattle.bus_model.specs.Access.{Access}
use Rattle.bus_model.specs.BusHistory.{BusHistory}
use Rattle.tag_engine.specs.Tag.{engine_tag}
use Rattle.rv32_core.specs.Printing.{HoldsTaken}
use Rattle.rv32_core.specs.State.{CoreView}
use Rattle.rv32_run.specs.Execution.{stop_ending}
use Rattle.rv32_run.specs.ExecutionView.{ExecutionView}
use Rattle.rv32_run.specs.Progress.{SinkEnds, SinkGoes}
use Rattle.secure_memory.specs.SecureRam.{SecureRamView, stopped}
use Rattle.chip_run.specs.Report.{ReportTerms, signed_report}
use Rattle.chip_run.specs.Run.{RanProtected, Terms, run_terms}
use Rattle.chip_run.specs.Running.{HasRun, HasRunTo, HasStored}
use Rattle.chip_run.specs.declared.record.RunRecord.{RunRecord}
use Rattle.chip_run.specs.declared.record.Setup.{Setup}

-- A program on protected memory, what its report is of, the stop of its memory while it was stored, where there was one, and the
-- ending that a turn answered.
pub record SessionView (B T : Type 0) : Type 0 where
  pub execution : ExecutionView CoreView (SecureRamView B T)
  pub report : ReportTerms
  pub kept : Option MemStop
  pub ended : Option Ending

-- What a turn gave the sink, by the ending that had been answered before: nothing after one, and else what it printed.
abbrev pub SinkTakes : Option Ending → Option Ending → SinkState → List ℕ → SinkState → Type 0
SinkTakes (Some ended) result out printed out' = (printed ≡ []) × (out' ≡ out)
SinkTakes None None out printed out' = SinkGoes out printed out'
SinkTakes None (Some ending) out printed out' = SinkEnds out printed ending out'

module _ {B T : Type 0} (data_tag node_tag : T → List ℕ → List ℕ) (history : B → BusHistory) (bus_moved : B → List Access → B → Type 0) where
  module _ (bus : B) (tagger : T) (terms : Terms) where
    -- The memory stopped so while the program was stored, and no turn did anything.
    pub record HasStopped (stop : MemStop) (execution : ExecutionView CoreView (SecureRamView B T)) : Type 0 where
      pub stored : HasStored data_tag node_tag history bus_moved bus tagger terms execution.memory
      pub stopped_so : stopped execution.memory ≡ Some stop
      pub none_retired : execution.retired ≡ 0

    -- Where its turns came to that printed these bytes, by the ending that was answered and the stop that is kept: a run that
    -- ended so, or a stop that was answered; a stop that is still to be answered; or a run that goes on.
    abbrev pub CameTo : List ℕ → ExecutionView CoreView (SecureRamView B T) → Option MemStop → Option Ending → Type 0
    CameTo printed execution None (Some ending) = HasRunTo (λ core. core) data_tag node_tag history bus_moved bus tagger terms printed ending execution
    CameTo printed execution (Some stop) (Some ending) = (printed ≡ []) × HasStopped stop execution × (ending ≡ stop_ending stop)
    CameTo printed execution (Some stop) None = (printed ≡ []) × HasStopped stop execution
    CameTo printed execution None None = HasRun (λ core. core) data_tag node_tag history bus_moved bus tagger terms printed execution

    -- It is the session of a run of these terms over this bus, of which no answer was false before, and printed these bytes so
    -- far.
    pub record HasPrinted (printed : List ℕ) (session : SessionView B T) : Type 0 where
      pub image : Image
      pub input : List ℕ
      pub setup : Setup
      pub terms_are : terms ≡ run_terms image input setup (engine_tag (data_tag tagger) (node_tag tagger) setup.geometry)
      pub report_is : terms.report ≡ session.report
      pub honest : (history bus).lies ≡ 0
      pub taken : HoldsTaken session.execution.calls.taken printed
      pub came_to : CameTo printed session.execution session.kept session.ended

  -- A turn, or turns up to the last one, that answered so: they printed some bytes, and lead from each run to that run with these
  -- bytes added to what it had printed.
  pub record PrintsOn (result : Option Ending) (out out' : SinkState) (old new : SessionView B T) : Type 0 where
    pub printed : List ℕ
    pub sink : SinkTakes old.ended result out printed out'
    pub leads : (bus : B) (tagger : T) (terms : Terms) (before : List ℕ) → HasPrinted bus tagger terms before old →
        HasPrinted bus tagger terms (before ++ printed) new

-- What a run comes to that printed these bytes, in whatever turns: what `RunsProtected` says of one, but of its sink.
pub record ComesTo (terms : Terms) (printed : List ℕ) (before after : BusHistory) (run : RunRecord) : Type 0 where
  pub ran : RanProtected (λ line. line < line_count terms.geometry) terms printed before after run
  pub report : run.report ≡ signed_report terms.report (sha256 printed) run.retired run.ending
