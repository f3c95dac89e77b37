-- The bus of a run: what it follows, and where its false answers come from.
use Rattle.std.proofs.Common.{refl}
use Rattle.std.specs.Prelude.{◌≡◌, ◌++◌, ℕ, List, [], Option, Some, None, IfSome, IsTrue}
use Rattle.adversary_script.specs.declared.script.ScriptLine.{ScriptLine}
use Rattle.bus_adversary.specs.ChangedPlaces.{script_may_change}
use Rattle.bus_adversary.specs.ScriptBus.{KeepsScript, keeps_on, script_history}
use Rattle.bus_model.specs.Access.{Access, CameBy, came_on}
use Rattle.bus_model.specs.BusHistory.{BusHistory, new_history}
use Rattle.bus_model.specs.HonestBus.{honest_history}
use Rattle.chip_run.specs.Run.{KeepsAccesses, Terms}
use Rattle.chip_run.specs.declared.RunRecord.{RunRecord}
use Rattle.chip_device.specs.declared.run_bus.RunBus.{RunBus}
use Rattle.chip_device.specs.declared.run_bus.RunBus.TheVariants.{Honest, Script}

-- what it was asked and what it answered
abbrev pub run_history : RunBus → BusHistory
run_history (Honest bus) = honest_history bus
run_history (Script bus) = script_history bus

-- a bus became another one of its kind by these accesses, and one that follows a script kept it
abbrev pub IsSameKind : RunBus → List Access → RunBus → Type 0
IsSameKind (Honest old) accesses (Honest new) = CameBy (honest_history old) accesses (honest_history new)
IsSameKind (Script old) accesses (Script new) = KeepsScript old accesses new
IsSameKind (Honest old) accesses (Script new) = ⊥
IsSameKind (Script old) accesses (Honest new) = ⊥

-- a bus is of its own kind
pub same_kind : (bus : RunBus) → IsSameKind bus [] bus
same_kind (Honest bus) = refl
same_kind (Script bus) = (refl, refl)

-- the kind stays the same over accesses and then others
pub same_kinds : (first second third : RunBus) (before after : List Access) →
    IsSameKind first before second → IsSameKind second after third → IsSameKind first (before ++ after) third
same_kinds (Honest first) (Honest second) (Honest third) before after once then =
    came_on (honest_history first) (honest_history second) (honest_history third) before after once then
same_kinds (Script first) (Script second) (Script third) before after once then =
    keeps_on first second third before after once then
same_kinds (Honest first) (Honest second) (Script third) before after once then = absurd then
same_kinds (Script first) (Script second) (Honest third) before after once then = absurd then
same_kinds (Honest first) (Script second) third before after once then = absurd once
same_kinds (Script first) (Honest second) third before after once then = absurd once

-- the accesses are all that its history tells
pub kind_told : (old new : RunBus) (accesses : List Access) →
    IsSameKind old accesses new → CameBy (run_history old) accesses (run_history new)
kind_told (Honest old) (Honest new) accesses same = same
kind_told (Script old) (Script new) accesses same = same.1
kind_told (Honest old) (Script new) accesses same = absurd same
kind_told (Script old) (Honest new) accesses same = absurd same

-- the lines of the script that it follows: an honest bus follows none
abbrev pub bus_script : RunBus → List ScriptLine
bus_script (Honest bus) = []
bus_script (Script bus) = bus.script

-- it follows just this script, and is honest where there is none
abbrev pub IsBusOf : Option (List ScriptLine) → RunBus → Type 0
IsBusOf None (Honest bus) = Unit {0}
IsBusOf (Some script) (Script bus) = bus.script ≡ script
IsBusOf None (Script bus) = ⊥
IsBusOf (Some script) (Honest bus) = ⊥

-- What went over the bus of a run, which was new before it, as far as its history tells: some accesses that give it, whose
-- writes are the run's messages, in order.
pub record WentOver (terms : Terms) (run : RunRecord) (bus : RunBus) : Type 0 where
  pub accesses : List Access
  pub came : CameBy (new_history terms.geometry) accesses (run_history bus)
  pub keeps : KeepsAccesses terms (run_history bus) accesses run

-- False answers come of the script: there is none where it has no line, and the first is about a place that the action
-- of some line may change.
pub record LiesByScript (bus : RunBus) : Type 0 where
  pub without_lines : bus_script bus ≡ [] → (run_history bus).lies ≡ 0
  pub first : IfSome (run_history bus).lie (λ lie. IsTrue (script_may_change (bus_script bus) lie.place))

-- how many answers were false: none where there is no bus
abbrev pub lies_of : Option RunBus → ℕ
lies_of None = 0
lies_of (Some bus) = (run_history bus).lies

-- the lines of the script that a run's bus follows, where there is a bus
abbrev pub script_followed : Option RunBus → List ScriptLine
script_followed None = []
script_followed (Some bus) = bus_script bus
