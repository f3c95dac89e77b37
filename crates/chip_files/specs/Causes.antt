-- What is asked of the files, and why a request is refused.
use Rattle.std.specs.Prelude.{◌≡◌, ◌≤◌, ◌+◌, List, [], ◌∷◌, ◌++◌, ℕ, length, Some, Result, Err}
use Rattle.sec_base.specs.Count.{Rose, RoseBy}
use Rattle.sec_base.specs.Prefix.{IsPrefix}
use Rattle.sec_base.specs.Files.{FilesState, HasBytes, HasOver}
use Rattle.chip_words.specs.Request.{Asked, WordsFault, not_taken, wrong_value}
use Rattle.chip_files.specs.declared.refusal.Refusal.{Refusal}
use Rattle.chip_files.specs.declared.refusal.Refusal.TheVariants.{Usage, WrongValue, Unread, TooLong, Elf, Asm, Script, Report, Trace, Order}
use Rattle.chip_files.specs.Needs.{Need, AreAccepted, names, needs_of}

-- ---- what is asked for

-- just these files were asked for, in order, each once
abbrev pub Asks : List Need → FilesState → FilesState → Type 0
Asks needs old new = new.asked ≡ old.asked ++ names needs

-- nothing was asked for
abbrev pub AsksNothing : FilesState → FilesState → Type 0
AsksNothing old new = new.asked ≡ old.asked

-- just the first of these files were asked for, in order, each once
abbrev pub AsksFront : List Need → FilesState → FilesState → Type 0
AsksFront needs old new = (front : List Need) × IsPrefix front needs × Asks front old new

-- ---- why a file is refused

-- the file is within its limit, and its bytes don't have their form for this reason
pub record IsMisformed (refusal : Refusal) (need : Need) (files : FilesState) : Type 0 where
  pub bytes : List ℕ
  pub told : HasBytes files.held need.name bytes
  pub within : length bytes ≤ need.limit
  pub fault : need.fault bytes ≡ Some refusal

-- Why a file is refused, by the files before its read and after: the read failed; or the file is longer than the limit,
-- and more was taken than that; or its bytes don't have their form.
abbrev pub IsCause : Refusal → Need → FilesState → FilesState → Type 0
IsCause (Usage text) need old new = ⊥
IsCause (WrongValue fault) need old new = ⊥
IsCause Unread need old new = Rose old.faults new.faults
IsCause TooLong need old new = HasOver old.held need.name need.limit × RoseBy (need.limit + 1) old.taken new.taken
IsCause (Elf fault) need old new = IsMisformed (Elf fault) need old
IsCause (Asm line fault) need old new = IsMisformed (Asm line fault) need old
IsCause (Script line fault) need old new = IsMisformed (Script line fault) need old
IsCause (Report fault) need old new = IsMisformed (Report fault) need old
IsCause (Trace fault) need old new = IsMisformed (Trace fault) need old
IsCause (Order error) need old new = IsMisformed (Order error) need old

-- other files were read since, each whole and without a fault
pub record IsLater (old new : FilesState) : Type 0 where
  pub held : new.held ≡ old.held
  pub faults : new.faults ≡ old.faults
  pub taken : old.taken ≤ new.taken

-- One of the files was refused: those before it were accepted, its own read is why, and those behind it were not asked
-- for. `mid` are the files as they stood before that read.
pub record Stops (refusal : Refusal) (needs : List Need) (old new : FilesState) : Type 0 where
  pub before : List Need
  pub here : Need
  pub after : List Need
  pub order : needs ≡ before ++ here ∷ after
  pub accepted : AreAccepted old before
  pub mid : FilesState
  pub later : IsLater old mid
  pub reached : Asks before old mid
  pub asked : Asks (here ∷ []) mid new
  pub cause : IsCause refusal here mid new

-- Out of memory: the first files were accepted, and at most one more was asked for, of which nothing is said.
pub record RunsOut (needs : List Need) (old new : FilesState) : Type 0 where
  pub before : List Need
  pub tried : List Need
  pub after : List Need
  pub order : needs ≡ before ++ tried ++ after
  pub accepted : AreAccepted old before
  pub one : length tried ≤ 1
  pub asked : Asks (before ++ tried) old new

-- why each refusal comes
abbrev pub IsRefused : Refusal → Result Asked WordsFault → FilesState → FilesState → Type 0
IsRefused (Usage text) request old new = (request ≡ Err not_taken) × AsksNothing old new
IsRefused (WrongValue fault) request old new = (request ≡ Err (wrong_value fault)) × AsksNothing old new
IsRefused Unread request old new = Stops Unread (needs_of request) old new
IsRefused TooLong request old new = Stops TooLong (needs_of request) old new
IsRefused (Elf fault) request old new = Stops (Elf fault) (needs_of request) old new
IsRefused (Asm line fault) request old new = Stops (Asm line fault) (needs_of request) old new
IsRefused (Script line fault) request old new = Stops (Script line fault) (needs_of request) old new
IsRefused (Report fault) request old new = Stops (Report fault) (needs_of request) old new
IsRefused (Trace fault) request old new = Stops (Trace fault) (needs_of request) old new
IsRefused (Order error) request old new = Stops (Order error) (needs_of request) old new
