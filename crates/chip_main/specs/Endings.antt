-- How a run ended, as each status says.
use Rattle.std.specs.Prelude.{◌≡◌, ◌≢◌, ℕ, Some, None}
use Rattle.sec_base.specs.Evidence.{IsEvidence}
use Rattle.sec_base.specs.Geometry.{line_count}
use Rattle.sec_base.specs.declared.evidence.Evidence.{Evidence}
use Rattle.sec_base.specs.declared.ending.Cause.{Cause}
use Rattle.sec_base.specs.declared.ending.Ending.{Ending}
use Rattle.sec_base.specs.declared.ending.Ending.TheVariants.{Halted, Trapped, OutOfSteps, Tampered, Spent, WriteFault, NoMemory}
use Rattle.chip_run.specs.Run.{default_page_limit}
use Rattle.chip_run.specs.declared.RunRecord.{RunRecord}
use Rattle.bus_model.specs.FirstLie.{IsCaught, IsOfFirstLie}
use Rattle.page_reencrypt.specs.Contents.{IsSpent}
use Rattle.chip_words.specs.Request.{RunAsked}
use Rattle.chip_device.specs.declared.run_bus.RunBus.{RunBus}
use Rattle.chip_device.specs.Buses.{run_history}
use Rattle.chip_device.specs.Device.{device_tag}

-- the program halted, with any exit code
abbrev pub IsHalted : Ending → Type 0
IsHalted ending = (code : ℕ) × (ending ≡ Halted code)

-- the program trapped, for any cause and at any address
abbrev pub IsTrapped : Ending → Type 0
IsTrapped ending = (cause : Cause) × (pc : ℕ) × (ending ≡ Trapped cause pc)

-- the limit of steps ended the run
abbrev pub IsOutOfSteps : Ending → Type 0
IsOutOfSteps ending = ending ≡ OutOfSteps

-- it ended so, and there is no evidence
pub record EndedWithoutEvidence (P : Ending → Type 0) (run : RunRecord) (bus : RunBus) : Type 0 where
  pub no_evidence : run.evidence ≡ None
  pub ended : P run.ending

-- The one false answer of the bus failed its check, was the last access, and ended the run as tampering of its place.
pub record EndedTampered (asked : RunAsked) (run : RunRecord) (bus : RunBus) : Type 0 where
  pub no_evidence : run.evidence ≡ None
  pub caught : IsCaught (device_tag asked.terms asked.execution.file.geometry) run.used run.made (run_history bus)
      (λ place. run.ending ≡ Tampered place)

-- Some line of the page has the last counter that the limit allows, which is not the default limit.
pub record EndedSpent (asked : RunAsked) (run : RunRecord) (bus : RunBus) : Type 0 where
  pub no_evidence : run.evidence ≡ None
  pub page : ℕ
  pub ended : run.ending ≡ Spent page
  pub used_up : IsSpent (line_count asked.execution.file.geometry) asked.terms.page_limit run.used page
  pub below : asked.terms.page_limit ≢ default_page_limit

-- There is evidence of the first false answer, and neither the sink nor being out of memory ended the run.
pub record EndedWithEvidence (asked : RunAsked) (run : RunRecord) (bus : RunBus) : Type 0 where
  pub evidence : Evidence
  pub there : run.evidence ≡ Some evidence
  pub genuine : IsEvidence (device_tag asked.terms asked.execution.file.geometry) run.made evidence
  pub first_lie : IsOfFirstLie run.made (run_history bus) evidence
  pub written : run.ending ≢ WriteFault
  pub in_memory : run.ending ≢ NoMemory
