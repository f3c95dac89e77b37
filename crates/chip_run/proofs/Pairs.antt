-- A side of a pair, turn by turn, and what it comes to.
use Rattle.std.proofs.Common.{◌≡◌, ◌≢◌, ◌+◌, ◌<◌, ◌≤◌, ℕ, List, [], ◌++◌, length, Option, Some, None, refl, sym, ap, ◌∙◌, subst, arith}
use Rattle.sec_base.specs.Count.{more_by}
use Rattle.sec_base.specs.Sink.{SinkState}
use Rattle.sec_base.specs.declared.ending.Ending.{Ending}
use Rattle.sec_base.specs.declared.ending.Ending.TheVariants.{Halted, NoMemory, OutOfSteps, Spent, Tampered, Trapped, WriteFault}
use Rattle.bus_model.specs.BusHistory.{BusHistory}
use Rattle.rv32_run.specs.Execution.{IsMemoryEnding}
use Rattle.rv32_run.specs.Progress.{SinkEnds}
use Rattle.rv32_run.proofs.Progress.{sink_goes_on, sink_to_end}
use Rattle.chip_run.specs.Pair.{IsStopOf, RunsAsSide, SinkTook, stop_at, turns_of}
use Rattle.chip_run.specs.Run.{Terms}
use Rattle.chip_run.specs.Session.{ComesTo, SinkTakes}
use Rattle.chip_run.specs.declared.pair.SideStop.{SideStop}
use Rattle.chip_run.specs.declared.record.RunRecord.{RunRecord}
use Rattle.sec_base.specs.declared.stop.MemStop.TheVariants.{NoMemory as no_memory}
use Rattle.chip_run.proofs.Alone.{alone_by}
use Rattle.chip_run.proofs.Runs.{stopped_sink}

-- what a sink took, and then a turn of a side that had not ended
pub took_on : (ended result : Option Ending) (start mid out : SinkState) (before more : List ℕ) → ended ≡ None → SinkTook ended start before mid →
    SinkTakes ended result mid more out → SinkTook result start (before ++ more) out
took_on None None start mid out before more none took takes = sink_goes_on start mid out before more took takes
took_on None (Some ending) start mid out before more none took takes = sink_to_end start mid out before more ending took takes
took_on (Some ending) result start mid out before more none took takes = absurd (cc)

-- a side that has turns left has not ended
pub not_ended : (ended : Option Ending) (budget retired : ℕ) → 0 < turns_of ended budget retired → ended ≡ None
not_ended None budget retired left = refl
not_ended (Some ending) budget retired left = absurd (omega (arith, left))

pub has_ended : (ended : Option Ending) (budget retired : ℕ) → ended ≢ None → turns_of ended budget retired ≡ 0
has_ended None budget retired some = absurd (some refl)
has_ended (Some ending) budget retired some = refl

pub ended_so : (ended : Option Ending) (budget retired : ℕ) → turns_of ended budget retired ≡ 0 → ended ≢ None
ended_so None budget retired none is = absurd (omega (arith, none))
ended_so (Some ending) budget retired none is = cc

-- a turn is one less, since it retires an instruction within the budget, or ends the side
pub turn_fewer : (ended result : Option Ending) (budget budget' retired retired' : ℕ) → ended ≡ None → budget' ≡ budget → retired ≤ budget →
    (result ≡ None → (retired' ≡ retired + 1) × (retired' ≤ budget')) → turns_of result budget' retired' < turns_of ended budget retired
turn_fewer (Some ending) result budget budget' retired retired' none same within goes = absurd (cc)
turn_fewer None None budget budget' retired retired' none same within goes =
    let went = goes refl in
    omega (arith, same, within, went.0, went.1)
turn_fewer None (Some ending) budget budget' retired retired' none same within goes = omega arith

-- the stop of a run that ended so
pub stop_of : (ending : Ending) (run : RunRecord) (printed : List ℕ) (retired : ℕ) (stop : Option SideStop) → run.ending ≡ ending → run.retired ≡ retired →
    stop ≡ stop_at (Some ending) retired (more_by (length printed) 0) → IsStopOf stop run printed
stop_of (Tampered place) run printed retired stop ends count is = subst (λ (s : Option SideStop). IsStopOf s run printed) (sym is) (ends, sym count, refl)
stop_of (Spent page) run printed retired stop ends count is = subst (λ (s : Option SideStop). IsStopOf s run printed) (sym is) (ends, sym count, refl)
stop_of NoMemory run printed retired stop ends count is = subst (λ (s : Option SideStop). IsStopOf s run printed) (sym is) (ends, sym count, refl)
stop_of (Halted code) run printed retired stop ends count is =
    subst (λ (s : Option SideStop). IsStopOf s run printed) (sym is) (λ memory. subst IsMemoryEnding ends memory)
stop_of (Trapped cause pc) run printed retired stop ends count is =
    subst (λ (s : Option SideStop). IsStopOf s run printed) (sym is) (λ memory. subst IsMemoryEnding ends memory)
stop_of OutOfSteps run printed retired stop ends count is =
    subst (λ (s : Option SideStop). IsStopOf s run printed) (sym is) (λ memory. subst IsMemoryEnding ends memory)
stop_of WriteFault run printed retired stop ends count is =
    subst (λ (s : Option SideStop). IsStopOf s run printed) (sym is) (λ memory. subst IsMemoryEnding ends memory)

took_all : (ended : Option Ending) (ending : Ending) (out out' : SinkState) (printed : List ℕ) → ended ≡ Some ending → SinkTook ended out printed out' →
    SinkEnds out printed ending out'
took_all ended ending out out' printed is took = subst (λ (e : Option Ending). SinkTook e out printed out') is took

-- a side that has ended, by what its session came to
pub side_of : (terms : Terms) (ended : Option Ending) (retired : ℕ) (out out' : SinkState) (before after : BusHistory) (stop : Option SideStop) (run : RunRecord)
    (printed : List ℕ) → ComesTo terms printed before after run → ended ≡ Some run.ending → run.retired ≡ retired → SinkTook ended out printed out' →
    stop ≡ stop_at ended retired (more_by (length printed) 0) → RunsAsSide terms out out' before after stop run
side_of terms ended retired out out' before after stop run printed comes is count took stops =
    let stop_is : IsStopOf stop run printed =
    stop_of run.ending run printed retired stop refl count
    (stops ∙ ap (λ (e : Option Ending). stop_at e retired (more_by (length printed) 0)) is) in
    record {
      runs = record {
        printed = printed;
        sink = took_all ended run.ending out out' printed is took;
        ran = comes.ran;
        report = comes.report;
      };
      stop_is = stop_is;
      alone = λ quiet written counted.
          alone_by terms.start terms.budget stop run printed stop_is (comes.ran.without_evidence quiet).plain.follows written counted;
    }

-- a side that found no memory for its memory
pub refused_side : (terms : Terms) (out out' : SinkState) (before after : BusHistory) (run : RunRecord) → out' ≡ out → run.retired ≡ 0 → run.ending ≡ NoMemory →
    ComesTo terms [] before after run →
    RunsAsSide terms out out' before after (Some (record { turn = 0; printed = 0; stop = no_memory })) run
refused_side terms out out' before after run same none ended comes =
    side_of terms (Some run.ending) 0 out out' before after (Some (record { turn = 0; printed = 0; stop = no_memory })) run [] comes refl none
    (subst (λ (sink : SinkState). SinkEnds out [] run.ending sink) (sym same) (stopped_sink out run.ending no_memory ended))
    (ap (λ (e : Ending). stop_at (Some e) 0 0) (sym ended))
