-- A program that runs on protected memory: how it began, how far it came, and what it hands out. `HasPrinted`, which the contracts
-- of a session cite, stands on it.
use Rattle.std.specs.Prelude.{◌≡◌, ◌*◌, ◌^◌, ◌<◌, ◌≤◌, ℕ, List, [], length, None}
use Rattle.sec_base.specs.declared.ending.Ending.{Ending}
use Rattle.sec_base.specs.Prefix.{IsPrefix}
use Rattle.bus_model.specs.Access.{Access}
use Rattle.bus_model.specs.BusHistory.{BusHistory}
use Rattle.tag_engine.specs.Tag.{engine_tag}
use Rattle.tag_engine.specs.TagEngine.{tags_of}
use Rattle.pad_stream.specs.PadBlocks.{ShareNoBlock}
use Rattle.rv32_core.specs.State.{CoreView}
use Rattle.rv32_run.specs.ExecutionView.{ExecutionView}
use Rattle.rv32_run.specs.Progress.{GoesAlong, HasEnded, Semantics, StandsWith, semantics_of}
use Rattle.page_reencrypt.specs.SealedLines.{AreNew, AreProtected, LinesFit, enc_key}
use Rattle.secure_memory.specs.SecureRam.{IsMoved, IsQuiet, SecureRamView, cached_pages, contents, evidence, held_lines, lines_of, made, stopped, used}
use Rattle.chip_run.specs.ByInstruction.{most_left}
use Rattle.chip_run.specs.Run.{Terms}
use Rattle.chip_run.specs.declared.record.RunRecord.{RunRecord}

-- what a memory of messages with these tags means, over buses with these histories
abbrev pub protected_by : {P B T : Type 0} → (P → CoreView) → (T → List ℕ → List ℕ) → (T → List ℕ → List ℕ) → (B → BusHistory)
    → (B → List Access → B → Type 0) → Semantics P (SecureRamView B T)
protected_by core data_tag node_tag history bus_moved =
    semantics_of core (λ memory. contents memory) (λ memory. 64 * lines_of memory) (λ memory. IsQuiet memory) (λ memory. stopped memory)
    (λ before lines after. IsMoved history bus_moved (tags_of data_tag node_tag) before lines after)

-- A memory was booted over a new bus, with the tags of the run, and stores to these lines were made.
pub record HasStored {B T : Type 0} (data_tag node_tag : T → List ℕ → List ℕ) (history : B → BusHistory) (bus_moved : B → List Access → B → Type 0)
    (bus : B) (tagger : T) (terms : Terms) (memory : SecureRamView B T) : Type 0 where
  pub tags : terms.tag_of ≡ engine_tag (data_tag tagger) (node_tag tagger) terms.geometry
  pub booted : SecureRamView B T
  pub new : AreNew bus tagger terms.enc_key terms.geometry terms.page_limit booted.lines
  pub fits : LinesFit data_tag node_tag history booted.lines
  pub none_held : held_lines booted ≡ []
  pub none_cached : cached_pages booted ≡ []
  pub lines : List ℕ
  pub stored : IsMoved history bus_moved (tags_of data_tag node_tag) booted lines memory
  -- a front part of those that storing the program touches, and all of them unless the memory stopped
  pub front : IsPrefix lines terms.stored_lines
  pub whole : stopped memory ≡ None → lines ≡ terms.stored_lines

-- A program stands in such a memory before its first instruction, where the plain machine begins.
pub record HasBegun {P B T : Type 0} (core : P → CoreView) (data_tag node_tag : T → List ℕ → List ℕ) (history : B → BusHistory)
    (bus_moved : B → List Access → B → Type 0) (bus : B) (tagger : T) (terms : Terms) (first : ExecutionView P (SecureRamView B T)) : Type 0 where
  pub stored : HasStored data_tag node_tag history bus_moved bus tagger terms first.memory
  pub going : stopped first.memory ≡ None
  pub stands : IsQuiet first.memory → StandsWith (protected_by core data_tag node_tag history bus_moved) terms.start first []
  pub none_retired : first.retired ≡ 0
  pub budget : first.budget ≡ terms.budget

-- It began so, its turns printed these bytes since, and it goes along.
pub record HasRun {P B T : Type 0} (core : P → CoreView) (data_tag node_tag : T → List ℕ → List ℕ) (history : B → BusHistory)
    (bus_moved : B → List Access → B → Type 0) (bus : B) (tagger : T) (terms : Terms) (printed : List ℕ) (now : ExecutionView P (SecureRamView B T))
    : Type 0 where
  pub first : ExecutionView P (SecureRamView B T)
  pub begun : HasBegun core data_tag node_tag history bus_moved bus tagger terms first
  pub goes : GoesAlong (protected_by core data_tag node_tag history bus_moved) first printed now

-- It began so, its turns printed these bytes since, and the last one ended it so.
pub record HasRunTo {P B T : Type 0} (core : P → CoreView) (data_tag node_tag : T → List ℕ → List ℕ) (history : B → BusHistory)
    (bus_moved : B → List Access → B → Type 0) (bus : B) (tagger : T) (terms : Terms) (printed : List ℕ) (ending : Ending)
    (now : ExecutionView P (SecureRamView B T)) : Type 0 where
  pub first : ExecutionView P (SecureRamView B T)
  pub begun : HasBegun core data_tag node_tag history bus_moved bus tagger terms first
  pub ended : HasEnded (protected_by core data_tag node_tag history bus_moved) first printed ending now

-- A run has the lists and the evidence of its memory, and its bus is the memory's.
pub record HandsOut {B T : Type 0} (data_tag node_tag : T → List ℕ → List ℕ) (history : B → BusHistory) (memory : SecureRamView B T)
    (bus : B) (run : RunRecord) : Type 0 where
  pub made_is : run.made ≡ made memory
  pub used_is : run.used ≡ used memory
  pub evidence_is : run.evidence ≡ evidence memory
  pub bus_is : bus ≡ memory.lines.bus
  pub few : length run.used < 2 ^ 64
  pub few_held : length (held_lines memory) ≤ most_left
  pub apart : IsQuiet memory → ShareNoBlock (enc_key memory.lines) run.used
  pub protected : AreProtected data_tag node_tag history memory.lines
