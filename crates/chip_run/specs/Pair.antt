-- Two programs that share the core, each with its own device key, memory and bus: what each comes to by itself, and what it
-- comes to beside the other one.
use Rattle.std.specs.Prelude.{◌≡◌, ◌≢◌, ◌+◌, ◌-◌, ◌<◌, ℕ, List, length, take, Option, Some, None, IfSome}
use Rattle.sec_base.specs.Count.{more_by, top}
use Rattle.sec_base.specs.Sink.{SinkState}
use Rattle.sec_base.specs.declared.ending.Ending.{Ending}
use Rattle.sec_base.specs.declared.ending.Ending.TheVariants.{NoMemory, Spent, Tampered, WriteFault}
use Rattle.sec_base.specs.declared.image.Image.{Image}
use Rattle.sec_base.specs.declared.stop.MemStop.TheVariants.{NoMemory as no_memory, Spent as spent, Tampered as tampered}
use Rattle.bus_model.specs.Access.{Access}
use Rattle.bus_model.specs.BusHistory.{BusHistory, NothingWritten}
use Rattle.rv32_core.specs.Follows.{ending_at}
use Rattle.rv32_core.specs.Machine.{Machine, opening, plain}
use Rattle.rv32_run.specs.Execution.{IsMemoryEnding, stop_ending}
use Rattle.rv32_run.specs.Progress.{SinkEnds, SinkGoes}
use Rattle.chip_run.specs.Run.{RunsProtected, Terms}
use Rattle.chip_run.specs.Session.{HasPrinted}
use Rattle.chip_run.specs.declared.pair.SideStop.{SideStop}
use Rattle.chip_run.specs.declared.pair.UnderWay.{UnderWay}
use Rattle.chip_run.specs.declared.pair.UnderWay.TheVariants.{Refused, Begun}
use Rattle.chip_run.specs.declared.record.RunRecord.{RunRecord}

-- What a program comes to: how many instructions it retires, the bytes that it prints, and how it ends.
pub record ComesOut : Type 0 where
  pub retired : ℕ
  pub printed : List ℕ
  pub ending : Ending

-- What a program comes to alone, up to a stop that its own memory or want of memory gave it: without one, what the plain machine
-- comes to at the budget; else the stop's own count, the first bytes, as many as the stop says, of what the plain machine prints
-- by one instruction more, and the stop.
abbrev pub comes_alone : Machine → ℕ → Option SideStop → ComesOut
comes_alone start budget None = record {
  retired = (plain start budget).retired;
  printed = (plain start budget).output;
  ending = ending_at (plain start budget) budget;
}
comes_alone start budget (Some stop) = record {
  retired = stop.turn;
  printed = take stop.printed (plain start (stop.turn + 1)).output;
  ending = stop_ending stop.stop;
}

-- A side's stop is the one that ended its run, at its retired count and the number of bytes that it printed (which stands still
-- at 2^64 - 1). It has none where neither its memory nor want of memory ended it.
abbrev pub IsStopOf : Option SideStop → RunRecord → List ℕ → Type 0
IsStopOf None run printed = ¬ IsMemoryEnding run.ending
IsStopOf (Some stop) run printed =
    (run.ending ≡ stop_ending stop.stop) × (stop.turn ≡ run.retired) × (stop.printed ≡ more_by (length printed) 0)

-- the number of printed bytes in a stop does not stand at its end
abbrev pub IsCounted : Option SideStop → Type 0
IsCounted stop = IfSome stop (λ at. at.printed < top)

-- A side of a pair. Over its own bus it has the theorem of a run; and without evidence, where no write of its sink failed, it
-- comes to what it comes to alone, whatever the other side is and does.
pub record RunsAsSide (terms : Terms) (out out' : SinkState) (before after : BusHistory) (stop : Option SideStop) (run : RunRecord)
    : Type 0 where
  pub runs : RunsProtected terms out out' before after run
  pub stop_is : IsStopOf stop run runs.printed
  pub alone : run.evidence ≡ None → run.ending ≢ WriteFault → IsCounted stop →
      comes_alone terms.start terms.budget stop
      ≡ record { retired = run.retired; printed = runs.printed; ending = run.ending }

-- A run as one side of a pair, in one world: its terms, its sink and its bus before and after it, its stop and its record.
pub record World : Type 0 where
  pub terms : Terms
  pub out_before : SinkState
  pub out_after : SinkState
  pub bus_before : BusHistory
  pub bus_after : BusHistory
  pub stop : Option SideStop
  pub run : RunRecord

-- it is a side of a pair, without evidence, and no write of its sink failed
pub record IsQuietSide (world : World) : Type 0 where
  pub side : RunsAsSide world.terms world.out_before world.out_after world.bus_before world.bus_after world.stop world.run
  pub no_evidence : world.run.evidence ≡ None
  pub no_fault : world.run.ending ≢ WriteFault

-- In two worlds one program on one input and budget comes to the same, where its own memory, or want of memory, gave it the same
-- stop: whatever runs beside it, and whatever its keys and its memory are.
abbrev pub IsIsolated : Type 0
IsIsolated = (here there : World) → (quiet : IsQuietSide here) → (quiet_there : IsQuietSide there) →
    here.terms.start ≡ there.terms.start → here.terms.budget ≡ there.terms.budget → here.stop ≡ there.stop → IsCounted here.stop →
    (here.run.retired ≡ there.run.retired) × (quiet.side.runs.printed ≡ quiet_there.side.runs.printed)
    × (here.run.ending ≡ there.run.ending)

-- What follows serves private contracts alone.

-- the stop of a run that ended so, after so many instructions and printed bytes
abbrev pub stop_at : Option Ending → ℕ → ℕ → Option SideStop
stop_at (Some (Tampered place)) turn printed = Some (record { turn = turn; printed = printed; stop = tampered place })
stop_at (Some (Spent page)) turn printed = Some (record { turn = turn; printed = printed; stop = spent page })
stop_at (Some NoMemory) turn printed = Some (record { turn = turn; printed = printed; stop = no_memory })
stop_at (Some _) turn printed = None
stop_at None turn printed = None

-- A sink took these bytes of a run that goes on, or that ended so.
abbrev pub SinkTook : Option Ending → SinkState → List ℕ → SinkState → Type 0
SinkTook None out printed out' = SinkGoes out printed out'
SinkTook (Some ending) out printed out' = SinkEnds out printed ending out'

-- how many turns a side takes at most: one for each instruction that the budget leaves, and one that answers how it ended
abbrev pub turns_of : Option Ending → ℕ → ℕ → ℕ
turns_of (Some ending) budget retired = 0
turns_of None budget retired = budget - retired + 1

abbrev pub turns_left : {B T : Type 0} → UnderWay B T → ℕ
turns_left (Refused bus) = 0
turns_left (Begun session) = turns_of session.ended session.execution.budget session.execution.retired

module _ {B T : Type 0} (data_tag node_tag : T → List ℕ → List ℕ) (history : B → BusHistory) (bus_moved : B → List Access → B → Type 0)
    (bus : B) (tagger : T) (terms : Terms) where
  -- There was no memory for a side's memory: its bus is as it was given, and its sink took nothing.
  pub record IsRefused (out out' : SinkState) (left : B) : Type 0 where
    pub image : Image
    pub input : List ℕ
    pub start_is : terms.start ≡ opening image input
    pub geometry : (history bus).geometry ≡ terms.geometry
    pub no_lie : (history bus).lies ≡ 0
    pub nothing_written : NothingWritten (history bus)
    pub bus_is : left ≡ bus
    pub sink_is : out' ≡ out

  -- How far a side has come: it was refused, or its turns printed some bytes, which its sink took.
  abbrev pub HasCome : SinkState → SinkState → UnderWay B T → Type 0
  HasCome out out' (Refused left) = IsRefused out out' left
  HasCome out out' (Begun session) = (printed : List ℕ) × SinkTook session.ended out printed out'
      × HasPrinted data_tag node_tag history bus_moved bus tagger terms printed session
