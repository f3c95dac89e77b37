-- What turns make of an execution: it goes along, or it has ended. Turns and further turns are turns.
use Rattle.std.specs.Prelude.{◌≡◌, ◌≢◌, ◌<◌, ◌≤◌, ◌++◌, ℕ, List, [], length, Option, Some, None}
use Rattle.sec_base.specs.declared.ending.Ending.{Ending}
use Rattle.sec_base.specs.declared.ending.Ending.TheVariants.{OutOfSteps, WriteFault, NoMemory}
use Rattle.sec_base.specs.declared.stop.MemStop.{MemStop}
use Rattle.sec_base.specs.Count.{Rose}
use Rattle.sec_base.specs.Ram.{GoesOn}
use Rattle.sec_base.specs.Sink.{SinkState, Gains}
use Rattle.rv32_core.specs.State.{CoreView}
use Rattle.rv32_core.specs.Effect.{next}
use Rattle.rv32_core.specs.Outcome.{prints_of}
use Rattle.rv32_core.specs.Machine.{Machine, plain}
use Rattle.rv32_core.specs.Printing.{Digests}
use Rattle.rv32_run.specs.Execution.{CarriesEnding, EndsBetween, FollowsWith, IsStop, Reaches, StandsAt}
use Rattle.rv32_run.specs.ExecutionView.{ExecutionView}
use Rattle.rv32_run.specs.Trail.{HasTrail, IsWalked}

-- how a processor and a memory are seen, and whether there may be pauses between turns
pub record Semantics (P M : Type 0) : Type 1 where
  pub core : P → CoreView
  pub contents : M → List ℕ
  pub extent : M → ℕ
  pub sound : M → Type 0
  pub stopped : M → Option MemStop
  pub moved : M → List ℕ → M → Type 0
  pub pauses : Type 0

-- A processor and a memory that are seen so, with no pauses.
abbrev pub semantics_of : {P M : Type 0} → (P → CoreView) → (M → List ℕ) → (M → ℕ) → (M → Type 0) → (M → Option MemStop)
    → (M → List ℕ → M → Type 0) → Semantics P M
semantics_of core contents extent sound stopped moved =
    record { core = core; contents = contents; extent = extent; sound = sound; stopped = stopped; moved = moved; pauses = ⊥ }

-- The sink gained these bytes, and no write of it failed.
pub record SinkGoes (out : SinkState) (printed : List ℕ) (out' : SinkState) : Type 0 where
  pub gained : Gains out printed out'
  pub quiet : out'.faults ≡ out.faults

-- The sink gained these bytes, and a write of it failed exactly where that ended the run.
pub record SinkEnds (out : SinkState) (printed : List ℕ) (ending : Ending) (out' : SinkState) : Type 0 where
  pub gained : Gains out printed out'
  pub faults : out.faults ≤ out'.faults
  pub write_fault : ending ≡ WriteFault → Rose out.faults out'.faults
  pub quiet : ending ≢ WriteFault → out'.faults ≡ out.faults

module _ {P M : Type 0} (means : Semantics P M) where
  -- after so many instructions the plain machine has the execution's processor, services and memory, has printed this, and
  -- goes on
  abbrev pub StandsWith : Machine → ExecutionView P M → List ℕ → Type 0
  StandsWith start now printed =
      Reaches start now.retired (means.core now.processor) now.calls.services (means.contents now.memory) printed

  -- The memory did not stop. Where it can be relied on, no turn ended the execution: it is still where the plain machine is, and
  -- went through a memory of the plain machine after each instruction.
  pub record GoesAlong (from : ExecutionView P M) (printed : List ℕ) (to : ExecutionView P M) : Type 0 where
    pub budget : to.budget ≡ from.budget
    pub within : to.retired ≤ to.budget
    pub going : means.stopped to.memory ≡ None
    pub moved : GoesOn means.extent means.sound means.moved (λ lines. Unit {0}) from.memory to.memory
    pub reaches : means.sound to.memory → (start : Machine) (before : List ℕ) → StandsWith start from before →
        StandsWith start to (before ++ printed)
    pub walked : means.sound to.memory → (start : Machine) (before : List ℕ) → StandsWith start from before →
        IsWalked means.stopped means.contents means.moved means.pauses start from.retired to.retired from.memory to.memory

  -- The last turn ended it so.
  pub record HasEnded (from : ExecutionView P M) (printed : List ℕ) (ending : Ending) (to : ExecutionView P M) : Type 0 where
    pub budget : to.budget ≡ from.budget
    pub within : to.retired ≤ to.budget
    pub budget_used : ending ≡ OutOfSteps → to.retired ≡ to.budget
    -- a stop comes while the budget allows one more instruction
    pub early : IsStop ending → to.retired < to.budget
    pub carries : CarriesEnding (means.stopped to.memory) (Some ending)
    pub moved : GoesOn means.extent means.sound means.moved (λ lines. Unit {0}) from.memory to.memory
    -- where the memory can be relied on, the run follows the plain machine, and leaves its processor and its services
    pub follows : means.sound to.memory → (start : Machine) (before : List ℕ) → StandsWith start from before →
        FollowsWith start to.budget to.retired ending (means.contents to.memory) (before ++ printed)
    pub stands : means.sound to.memory → (start : Machine) (before : List ℕ) → StandsWith start from before →
        StandsAt (plain start to.retired) (means.core to.processor) to.calls.services
    -- where the memory did not stop, it was out of memory only at an instruction that prints
    pub sink_stop : means.stopped to.memory ≡ None → means.sound to.memory → (start : Machine) (before : List ℕ) →
        StandsWith start from before → ending ≡ NoMemory → 0 < length (prints_of (next (plain start to.retired).state))
    -- it went through a memory of the plain machine after each instruction that was retired, and touched no lines beyond
    -- those of one more
    pub trail : means.sound to.memory → (start : Machine) (before : List ℕ) → StandsWith start from before →
        HasTrail means.stopped means.contents means.moved start from.retired to.retired from.memory to.memory
    -- where it ended between two instructions, nothing but pauses came after the last one
    pub none_left : EndsBetween ending → means.sound to.memory → (start : Machine) (before : List ℕ) → StandsWith start from before →
        IsWalked means.stopped means.contents means.moved means.pauses start from.retired to.retired from.memory to.memory

  -- A pause: calls that touched no line led to another memory. Where that can be relied on, it has the same bytes, and the
  -- processor, the services and the count are the same.
  pub record IsPause (from to : ExecutionView P M) : Type 0 where
    pub allowed : means.pauses
    pub budget : to.budget ≡ from.budget
    pub within : to.retired ≤ to.budget
    pub going : means.stopped to.memory ≡ None
    pub extent : means.extent to.memory ≡ means.extent from.memory
    pub lost : means.sound to.memory → means.sound from.memory
    pub idle : means.moved from.memory [] to.memory
    pub contents : means.sound to.memory → means.contents to.memory ≡ means.contents from.memory
    pub retired : means.sound to.memory → to.retired ≡ from.retired
    pub core : means.sound to.memory → means.core to.processor ≡ means.core from.processor
    pub services : means.sound to.memory → to.calls.services ≡ from.calls.services

  -- Bytes were printed, digested and counted, and the execution goes along.
  pub record PrintsAndGoes (out out' : SinkState) (from to : ExecutionView P M) : Type 0 where
    pub printed : List ℕ
    pub digest : Digests from.calls.taken printed to.calls.taken
    pub sink : SinkGoes out printed out'
    pub goes : GoesAlong from printed to

  -- Bytes were printed, digested and counted, and the execution has ended so.
  pub record PrintsAndEnds (ending : Ending) (out out' : SinkState) (from to : ExecutionView P M) : Type 0 where
    pub printed : List ℕ
    pub digest : Digests from.calls.taken printed to.calls.taken
    pub sink : SinkEnds out printed ending out'
    pub ended : HasEnded from printed ending to
