-- The ways in which a run ends before its first instruction.
use Rattle.std.proofs.Common.{◌≡◌, ℕ, List, [], None, sym, subst}
use Rattle.sha2.specs.Sha256.{sha256}
use Rattle.sec_base.specs.Sink.{SinkState}
use Rattle.sec_base.specs.declared.ending.Ending.TheVariants.{NoMemory}
use Rattle.sec_base.specs.declared.segment.Segment.{Segment}
use Rattle.sec_base.specs.declared.stop.MemStop.{MemStop}
use Rattle.sec_base.specs.declared.stop.MemStop.TheVariants.{NoMemory as no_memory}
use Rattle.bus_model.specs.BusHistory.{BusHistory, NothingWritten}
use Rattle.rv32_core.specs.Machine.{opening_of}
use Rattle.rv32_run.specs.Execution.{stop_ending}
use Rattle.chip_run.specs.Report.{signed_report}
use Rattle.chip_run.specs.Run.{Terms, RunsProtected}
use Rattle.chip_run.specs.Session.{ComesTo}
use Rattle.chip_run.specs.declared.record.RunRecord.{RunRecord}
use Rattle.chip_run.proofs.Ends.{OfMemory, ran_protected}
use Rattle.chip_run.proofs.Memories.{no_memory_run}
use Rattle.chip_run.proofs.Reports.{unreported}
use Rattle.chip_run.proofs.Runs.{stopped_instructions, stopped_sink}

-- its memory stopped while the program was stored
pub storing_stopped : (terms : Terms) (before after : BusHistory) (run : RunRecord) (entry size : ℕ) (segments : List Segment) (input : List ℕ) (stop : MemStop) →
    terms.start ≡ opening_of entry size segments input → OfMemory terms before after run → run.retired ≡ 0 → run.ending ≡ stop_ending stop →
    run.report ≡ signed_report terms.report (sha256 []) run.retired run.ending → ComesTo terms [] before after run
storing_stopped terms before after run entry size segments input stop begins memory none ended signed = record {
  ran = ran_protected terms [] before after run memory
      (stopped_instructions terms before after run entry size segments input stop begins none ended memory.reads);
  report = signed;
}

-- no memory was found for its memory
pub refused_comes : (terms : Terms) (before after : BusHistory) (run : RunRecord) (entry size : ℕ) (segments : List Segment) (input : List ℕ) →
    terms.start ≡ opening_of entry size segments input → before.geometry ≡ terms.geometry → before.lies ≡ 0 → NothingWritten before → after ≡ before →
    run.retired ≡ 0 → run.ending ≡ NoMemory → run.made ≡ [] → run.used ≡ [] → run.evidence ≡ None → run.report ≡ None → ComesTo terms [] before after run
refused_comes terms before after run entry size segments input begins as_many honest empty same none ended none_made none_used quiet unsigned =
    storing_stopped terms before after run entry size segments input no_memory begins
    (subst (λ (bus : BusHistory). OfMemory terms before bus run) (sym same) (no_memory_run terms before run as_many honest empty ended none_made none_used quiet))
    none ended (unreported terms.report (sha256 []) run.retired run.ending run.report ended unsigned)

pub boot_refused : (terms : Terms) (out : SinkState) (before after : BusHistory) (run : RunRecord) (entry size : ℕ) (segments : List Segment) (input : List ℕ) →
    terms.start ≡ opening_of entry size segments input → before.geometry ≡ terms.geometry → before.lies ≡ 0 → NothingWritten before → after ≡ before →
    run.retired ≡ 0 → run.ending ≡ NoMemory → run.made ≡ [] → run.used ≡ [] → run.evidence ≡ None → run.report ≡ None →
    RunsProtected terms out out before after run
boot_refused terms out before after run entry size segments input begins as_many honest empty same none ended none_made none_used quiet unsigned =
    let comes = refused_comes terms before after run entry size segments input begins as_many honest empty same none ended none_made none_used quiet unsigned in
    record { printed = []; sink = stopped_sink out run.ending no_memory ended; ran = comes.ran; report = comes.report }
