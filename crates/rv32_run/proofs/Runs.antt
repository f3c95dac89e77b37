-- Whole runs: how they begin, and how the budget ends them.
use Rattle.std.proofs.Common.{◌≡◌, ◌≢◌, ◌<◌, ◌↔◌, ℕ, List, [], ◌++◌, Some, None, refl, sym, ap, ◌∙◌, subst, arith}
use Rattle.sec_base.specs.declared.ending.Ending.{Ending}
use Rattle.sec_base.specs.declared.ending.Ending.TheVariants.{OutOfSteps, Tampered, Spent, WriteFault, NoMemory}
use Rattle.sec_base.specs.declared.stop.MemStop.{MemStop}
use Rattle.sec_base.specs.declared.stop.MemStop.TheVariants.{Tampered as tampered, Spent as spent}
use Rattle.sec_base.specs.declared.place.Place.{Place}
use Rattle.sec_base.specs.declared.segment.Segment.{Segment}
use Rattle.sec_base.specs.Opening.{opening_memory}
use Rattle.rv32_core.specs.State.{State, CoreView, ServicesView, opening_core}
use Rattle.rv32_core.specs.Effect.{next}
use Rattle.rv32_core.specs.Outcome.{prints_of}
use Rattle.rv32_core.specs.Machine.{Machine, plain, opening_calls, opening_of}
use Rattle.rv32_core.specs.Follows.{Follows}
use Rattle.rv32_core.proofs.Plain.{going_on, stopped_follows, out_of_steps_run}
use Rattle.rv32_run.specs.Execution.{Reaches, IsStop, IsMemoryEnding, FollowsWith, stop_ending, CarriesEnding}
use Rattle.rv32_run.proofs.Turns.{stop_ends}

-- A program as it begins

opening_reaches : (entry size : ℕ) (segments : List Segment) (input : List ℕ) (core : CoreView) (calls : ServicesView) (memory : List ℕ) → core ≡ opening_core entry size → calls ≡ opening_calls segments input → memory ≡ opening_memory size segments → Reaches (opening_of entry size segments input) 0 core calls memory []
unfolding plain opening_of
opening_reaches entry size segments input core calls memory is_core services bytes = sym (
    ap (λ (h : CoreView). going_on (record { core = h; calls = calls; memory = memory }) [] 0) is_core
    ∙ ap (λ (s : ServicesView). going_on (record { core = opening_core entry size; calls = s; memory = memory }) [] 0) services
    ∙ ap (λ (m : List ℕ). going_on (record { core = opening_core entry size; calls = opening_calls segments input; memory = m }) [] 0) bytes)

pub opening_begins : (entry size : ℕ) (segments : List Segment) (input : List ℕ) (core : CoreView) (calls : ServicesView) (memory : List ℕ) (n : ℕ) → core ≡ opening_core entry size → calls ≡ opening_calls segments input → memory ≡ opening_memory size segments → n ≡ 0 → Reaches (opening_of entry size segments input) n core calls memory []
opening_begins entry size segments input core calls memory n is_core services bytes none =
    subst (λ (m : ℕ). Reaches (opening_of entry size segments input) m core calls memory []) (sym none)
    (opening_reaches entry size segments input core calls memory is_core services bytes)

-- an execution that began so follows it
pub opening_follows : (entry size : ℕ) (segments : List Segment) (input : List ℕ) (core : CoreView) (calls : ServicesView) (opened memory : List ℕ) (n budget allowance finished retired : ℕ) (ended ending : Ending) (printed : List ℕ) → core ≡ opening_core entry size → calls ≡ opening_calls segments input → opened ≡ opening_memory size segments → n ≡ 0 → budget ≡ allowance → retired ≡ finished → ending ≡ ended → ((start : Machine) (before : List ℕ) → Reaches start n core calls opened before → FollowsWith start budget finished ended memory (before ++ printed)) → FollowsWith (opening_of entry size segments input) allowance retired ending memory printed
opening_follows entry size segments input core calls opened memory n budget allowance finished retired ended ending printed is_core services bytes none same count is follows =
    let start = opening_of entry size segments input in
    let here = opening_begins entry size segments input core calls opened n is_core services bytes none in
    subst (λ (e : Ending). FollowsWith start allowance retired e memory printed) (sym is)
    (subst (λ (m : ℕ). FollowsWith start allowance m ended memory printed) (sym count)
    (subst (λ (b : ℕ). FollowsWith start b finished ended memory printed) same (follows start [] here)))

-- a run that the memory stops before its first instruction
pub nothing_follows : (entry size : ℕ) (segments : List Segment) (input : List ℕ) (budget retired : ℕ) (stop : MemStop) (ending : Ending) → retired ≡ 0 → ending ≡ stop_ending stop → Follows (opening_of entry size segments input) budget retired ending []
nothing_follows entry size segments input budget retired stop ending none e =
    let state : State = record { core = opening_core entry size; calls = opening_calls segments input; memory = opening_memory size segments } in
    subst (λ (n : ℕ). Follows (opening_of entry size segments input) budget n ending []) (sym none)
    (stopped_follows (opening_of entry size segments input) budget 0 state [] [] ending
    (opening_reaches entry size segments input (opening_core entry size) (opening_calls segments input) (opening_memory size segments) refl refl refl)
    (omega arith) (prints_of (next state), refl) (stop_ends stop ending state [] [] 0 budget e))

-- A run whose memory did not stop ended neither as tampering nor as a page that is used up

pub never_tampered : (ending : Ending) → CarriesEnding None (Some ending) → (place : Place) → ending ≢ Tampered place
never_tampered ending carries place e = let stop = carries (tampered place) (ap Some e) in cc

pub never_spent : (ending : Ending) → CarriesEnding None (Some ending) → (page : ℕ) → ending ≢ Spent page
never_spent ending carries page e = let stop = carries (spent page) (ap Some e) in cc

-- The run and its budget

by_memory : (ending other : Ending) → IsMemoryEnding other → ¬ IsMemoryEnding ending → ending ≢ other
by_memory ending other is quiet same = quiet (subst IsMemoryEnding (sym same) is)

-- a fault of the sink comes early
early_fault : (ending : Ending) (n budget : ℕ) → (IsStop ending → n < budget) → ending ≡ WriteFault → n < budget
early_fault ending n budget early e = early (subst IsStop (sym e) tt)

pub budget_ends : (start : Machine) (budget n : ℕ) (ending : Ending) (printed : List ℕ) → Follows start budget n ending printed → (IsStop ending → n < budget) → ¬ IsMemoryEnding ending → (ending ≡ OutOfSteps) ↔ ((n ≡ budget) × ((plain start budget).exit ≡ None))
budget_ends start budget n ending printed follows early quiet =
    out_of_steps_run start budget n ending printed follows (early_fault ending n budget early) (by_memory ending NoMemory tt quiet)
    (λ (place : Place). by_memory ending (Tampered place) tt quiet) (λ (page : ℕ). by_memory ending (Spent page) tt quiet)
