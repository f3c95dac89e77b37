-- Files that are taken one after another, as far as one stops it.
use Rattle.std.proofs.Common.{◌≡◌, ◌≢◌, ◌≤◌, ◌⊎◌, inl, inr, ℕ, List, [], ◌∷◌, ◌++◌, length, Option, Some, IfSome, IsOkAnd, Result, Ok, Err, ◌+◌, refl, sym, ap, ◌∙◌, subst, arith, append-nil, append_assoc}
use Rattle.std.specs.Result.{result_err, IfErr}
use Rattle.sec_base.specs.Count.{Rose, RoseBy}
use Rattle.sec_base.specs.Geometry.{GeometryView, memory_size}
use Rattle.sec_base.specs.Files.{FilesState, HasBytes, HasOver}
use Rattle.sec_base.specs.declared.files.ReadStop.{ReadStop}
use Rattle.sec_base.specs.declared.files.ReadStop.TheVariants.{Failed, Long, NoMemory as no_memory_read}
use Rattle.sec_base.specs.declared.image.Image.{Image}
use Rattle.adversary_script.specs.Script.{script_of}
use Rattle.adversary_script.specs.declared.fault.ScriptError.{ScriptError}
use Rattle.adversary_script.specs.declared.fault.ScriptError.TheVariants.{Fault as ScriptFaulty, NoMemory as script_no_memory}
use Rattle.adversary_script.specs.declared.fault.ScriptFault.{ScriptFault}
use Rattle.elf_load.specs.Program.{elf_program, flat_program}
use Rattle.rv32_asm.specs.Program.{assembled_program}
use Rattle.chip_words.specs.Request.{FileAsked}
use Rattle.chip_words.specs.declared.request.ProgramForm.{ProgramForm}
use Rattle.chip_words.specs.declared.request.ProgramForm.TheVariants.{ElfFile, FlatFile, AssemblyText}
use Rattle.sec_base.specs.Program.{IsImageOf, Program}
use Rattle.chip_files.specs.declared.refusal.Refusal.{Refusal}
use Rattle.chip_files.specs.declared.refusal.Refusal.TheVariants.{Usage, WrongValue, Unread, TooLong, Elf, Asm, Script, Report, Trace, Order}
use Rattle.chip_files.specs.declared.stop.Stop.{Stop}
use Rattle.chip_files.specs.declared.stop.Stop.TheVariants.{Refused, NoMemory}
use Rattle.chip_files.specs.Program.{IsImageIn, limit_of, or_refusal, program_in, program_of_file, script_in, script_limit}
use Rattle.chip_files.specs.Needs.{Need, AreAccepted, IsAccepted, names, program_need, script_need}
use Rattle.chip_files.specs.Causes.{Asks, IsCause, IsMisformed, IsLater}
use Rattle.chip_files.specs.Stop.{IsStoppedBy, read_stop_of, script_stop_of}

-- what holds of each error that a result may be holds of its error
pub at_err : {A E : Type 0} (result : Result A E) (P : E → Type 0) → ((error : E) → result ≡ Err error → P error) → IfErr result P
at_err (Ok value) P each = tt
at_err (Err error) P each = each error refl

-- ---- one file

no_later : (files : FilesState) → IsLater files files
no_later files = record { held = refl; faults = refl; taken = omega arith }

pub stops_here : (refusal : Refusal) (need : Need) (old new : FilesState) → Asks (need ∷ []) old new → IsCause refusal need old new → IsStoppedBy (Refused refusal) (need ∷ []) old new
stops_here refusal need old new asked cause = record {
  before = [];
  here = need;
  after = [];
  order = refl;
  accepted = tt;
  mid = old;
  later = no_later old;
  reached = sym (append-nil old.asked);
  asked = asked;
  cause = cause;
}

pub runs_out_here : (need : Need) (old new : FilesState) → (new.asked ≡ old.asked) ⊎ Asks (need ∷ []) old new → IsStoppedBy NoMemory (need ∷ []) old new
runs_out_here need old new (inl same) = record {
  before = [];
  tried = [];
  after = need ∷ [];
  order = refl;
  accepted = tt;
  one = omega arith;
  asked = same ∙ sym (append-nil old.asked);
}
runs_out_here need old new (inr asked) =
    record { before = []; tried = need ∷ []; after = []; order = refl; accepted = tt; one = omega arith; asked = asked }

-- a file was not read, for this reason
pub unread : (why : ReadStop) (need : Need) (old new : FilesState) → (why ≢ no_memory_read → Asks (need ∷ []) old new) → (why ≡ Long → HasOver old.held need.name need.limit × RoseBy (need.limit + 1) old.taken new.taken) →
    (why ≡ Failed → Rose old.faults new.faults) → (why ≡ no_memory_read → (new.asked ≡ old.asked) ⊎ Asks (need ∷ []) old new) → IsStoppedBy (read_stop_of why) (need ∷ []) old new
unread Failed need old new asked long failed vain = stops_here Unread need old new (asked (λ e. cc)) (failed refl)
unread Long need old new asked long failed vain = stops_here TooLong need old new (asked (λ e. cc)) (long refl)
unread no_memory_read need old new asked long failed vain = runs_out_here need old new (vain refl)

-- ---- a program

-- its file was read, and is refused
misformed : (files : FilesState) (file : FileAsked) (bytes : List ℕ) (refusal : Refusal) → HasBytes files.held file.name bytes → length bytes ≤ limit_of file.form → program_of_file file bytes ≡ Err refusal →
    IsMisformed refusal (program_need file) files
misformed files file bytes refusal told within is =
    record { bytes = bytes; told = told; within = within; fault = ap result_err is }

-- a reason that a file's bytes may be refused for
abbrev pub IsOfBytes : Refusal → Type 0
IsOfBytes (Usage text) = ⊥
IsOfBytes (WrongValue fault) = ⊥
IsOfBytes Unread = ⊥
IsOfBytes TooLong = ⊥
IsOfBytes (Elf fault) = Unit {0}
IsOfBytes (Asm line fault) = Unit {0}
IsOfBytes (Script line fault) = Unit {0}
IsOfBytes (Report fault) = Unit {0}
IsOfBytes (Trace fault) = Unit {0}
IsOfBytes (Order error) = Unit {0}

as_refused : {X : Type 0} (refusal other : Refusal) → IsOfBytes refusal → ◌≡◌ {A = Result X Refusal} (Err refusal) (Err other) → IsOfBytes other
as_refused refusal other is same =
    let both : Some refusal ≡ Some other = ap result_err same in subst (λ (o : Option Refusal). IfSome o IsOfBytes) both is

fault_refused : {X E : Type 0} (refused : E → Refusal) (read : Result X E) (refusal : Refusal) → ((fault : E) → IsOfBytes (refused fault)) →
    or_refusal refused read ≡ Err refusal → IsOfBytes refusal
fault_refused refused (Ok read) refusal of_bytes is = absurd cc
fault_refused refused (Err fault) refusal of_bytes is = as_refused (refused fault) refusal (of_bytes fault) is

file_refused : (form : ProgramForm) (size : ℕ) (bytes : List ℕ) (refusal : Refusal) → program_in form size bytes ≡ Err refusal → IsOfBytes refusal
file_refused ElfFile size bytes refusal is = fault_refused Elf (elf_program bytes size) refusal (λ fault. tt) is
file_refused FlatFile size bytes refusal is = fault_refused Elf (flat_program bytes size) refusal (λ fault. tt) is
file_refused AssemblyText size bytes refusal is =
    fault_refused (λ fault. Asm fault.line fault.code) (assembled_program bytes size) refusal (λ fault. tt) is

pub is_cause : (refusal : Refusal) (need : Need) (old new : FilesState) → IsOfBytes refusal → IsMisformed refusal need old → IsCause refusal need old new
is_cause (Usage text) need old new of_bytes bad = absurd of_bytes
is_cause (WrongValue fault) need old new of_bytes bad = absurd of_bytes
is_cause Unread need old new of_bytes bad = absurd of_bytes
is_cause TooLong need old new of_bytes bad = absurd of_bytes
is_cause (Elf fault) need old new of_bytes bad = bad
is_cause (Asm line fault) need old new of_bytes bad = bad
is_cause (Script line fault) need old new of_bytes bad = bad
is_cause (Report fault) need old new of_bytes bad = bad
is_cause (Trace fault) need old new of_bytes bad = bad
is_cause (Order error) need old new of_bytes bad = bad

-- its file was read, and is no program
pub untold : (stop : Stop) (file : FileAsked) (bytes : List ℕ) (old new : FilesState) → HasBytes old.held file.name bytes → length bytes ≤ limit_of file.form → Asks (program_need file ∷ []) old new →
    ((refusal : Refusal) → stop ≡ Refused refusal → program_of_file file bytes ≡ Err refusal) → IsStoppedBy stop (program_need file ∷ []) old new
untold (Refused refusal) file bytes old new told within asked refused =
    let is = refused refusal refl in
    stops_here refusal (program_need file) old new asked
    (is_cause refusal (program_need file) old new (file_refused file.form (memory_size file.geometry) bytes refusal is) (misformed old file bytes refusal told within is))
untold NoMemory file bytes old new told within asked refused = runs_out_here (program_need file) old new (inr asked)

-- the image that was made of a file
image_in : {E : Type 0} (refused : E → Refusal) (form : ProgramForm) (size : ℕ) (file : List ℕ) (image : Image) (read : Result Program E) →
    program_in form size file ≡ or_refusal refused read → IsOkAnd read (λ program. IsImageOf size program image) → IsImageIn form size file image
image_in refused form size file image (Ok program) same is = record { program = program; is = same; is_image = is }
image_in refused form size file image (Err fault) same is = absurd is

pub elf_image : (size : ℕ) (file : List ℕ) (image : Image) → IsOkAnd (elf_program file size) (λ program. IsImageOf size program image) → IsImageIn ElfFile size file image
elf_image size file image is = image_in Elf ElfFile size file image (elf_program file size) refl is

pub flat_image : (size : ℕ) (file : List ℕ) (image : Image) → IsOkAnd (flat_program file size) (λ program. IsImageOf size program image) → IsImageIn FlatFile size file image
flat_image size file image is = image_in Elf FlatFile size file image (flat_program file size) refl is

pub text_image : (size : ℕ) (text : List ℕ) (image : Image) → IsOkAnd (assembled_program text size) (λ program. IsImageOf size program image) → IsImageIn AssemblyText size text image
text_image size text image is =
    image_in (λ fault. Asm fault.line fault.code) AssemblyText size text image (assembled_program text size) refl is

-- ---- one file and then others

pub later_by : {old new : FilesState} → new.held ≡ old.held → new.faults ≡ old.faults → old.taken ≤ new.taken → IsLater old new
later_by held faults taken = record { held = held; faults = faults; taken = taken }

pub later_on : (old mid new : FilesState) → IsLater old mid → IsLater mid new → IsLater old new
later_on old mid new first then = record {
  held = then.held ∙ first.held;
  faults = then.faults ∙ first.faults;
  taken = let more = first.taken in let yet = then.taken in omega arith;
}

pub accepted_before : (need : Need) (bytes : List ℕ) (old mid : FilesState) → mid.held ≡ old.held → IsAccepted mid need bytes → IsAccepted old need bytes
accepted_before need bytes old mid same accepted = record {
  told = subst (λ (held : Option (List ℕ → Option (List ℕ))). HasBytes held need.name bytes) same accepted.told;
  within = accepted.within;
  formed = accepted.formed;
}

pub all_before : (needs : List Need) (old mid : FilesState) → mid.held ≡ old.held → AreAccepted mid needs → AreAccepted old needs
all_before [] old mid same accepted = tt
all_before (need ∷ needs) old mid same accepted =
    ((accepted.0.0, accepted_before need accepted.0.0 old mid same accepted.0.1), all_before needs old mid same accepted.1)

misformed_before : (refusal : Refusal) (need : Need) (old mid : FilesState) → mid.held ≡ old.held → IsMisformed refusal need mid → IsMisformed refusal need old
misformed_before refusal need old mid same bad = record {
  bytes = bad.bytes;
  told = subst (λ (held : Option (List ℕ → Option (List ℕ))). HasBytes held need.name bad.bytes) same bad.told;
  within = bad.within;
  fault = bad.fault;
}

-- the cause in the read of a file is one in all that was read
pub whole_cause : (refusal : Refusal) (need : Need) (old mid new : FilesState) → IsLater old mid → IsCause refusal need mid new → IsCause refusal need old new
whole_cause (Usage text) need old mid new later cause = cause
whole_cause (WrongValue fault) need old mid new later cause = cause
whole_cause Unread need old mid new later cause = let risen : Rose mid.faults new.faults = cause in let grew = later.faults in omega arith
whole_cause TooLong need old mid new later cause = (
  subst (λ (held : Option (List ℕ → Option (List ℕ))). HasOver held need.name need.limit) later.held cause.0,
  let risen : RoseBy (need.limit + 1) mid.taken new.taken = cause.1 in let grew = later.taken in omega arith,
)
whole_cause (Elf fault) need old mid new later cause = misformed_before (Elf fault) need old mid later.held cause
whole_cause (Asm line fault) need old mid new later cause = misformed_before (Asm line fault) need old mid later.held cause
whole_cause (Script line fault) need old mid new later cause = misformed_before (Script line fault) need old mid later.held cause
whole_cause (Report fault) need old mid new later cause = misformed_before (Report fault) need old mid later.held cause
whole_cause (Trace fault) need old mid new later cause = misformed_before (Trace fault) need old mid later.held cause
whole_cause (Order error) need old mid new later cause = misformed_before (Order error) need old mid later.held cause

names_of_both : (before after : List Need) → names (before ++ after) ≡ names before ++ names after
names_of_both [] after = refl
names_of_both (need ∷ before) after = ap (λ (l : List (List ℕ)). need.name ∷ l) (names_of_both before after)

pub asks_more : (before after : List Need) (old mid new : FilesState) → Asks before old mid → Asks after mid new → Asks (before ++ after) old new
asks_more before after old mid new first others =
    others ∙ ap (λ (asked : List (List ℕ)). asked ++ names after) first ∙ append_assoc old.asked (names before) (names after)
    ∙ ap (λ (l : List (List ℕ)). old.asked ++ l) (sym (names_of_both before after))

pub both_accepted : (first others : List Need) (files : FilesState) → AreAccepted files first → AreAccepted files others → AreAccepted files (first ++ others)
both_accepted [] others files accepted more = more
both_accepted (need ∷ first) others files accepted more = (accepted.0, both_accepted first others files accepted.1 more)

-- the first files were taken, and one of the others stopped it
pub stops_later : (stop : Stop) (first needs : List Need) (old mid new : FilesState) → AreAccepted old first → Asks first old mid → IsLater old mid → IsStoppedBy stop needs mid new → IsStoppedBy stop (first ++ needs) old new
stops_later (Refused refusal) first needs old mid new accepted asked later stops = record {
  before = first ++ stops.before;
  here = stops.here;
  after = stops.after;
  order = ap (λ (l : List Need). first ++ l) stops.order ∙ sym (append_assoc first stops.before (stops.here ∷ stops.after));
  accepted = both_accepted first stops.before old accepted (all_before stops.before old mid later.held stops.accepted);
  mid = stops.mid;
  later = later_on old mid stops.mid later stops.later;
  reached = asks_more first stops.before old mid stops.mid asked stops.reached;
  asked = stops.asked;
  cause = stops.cause;
}
stops_later NoMemory first needs old mid new accepted asked later stops = record {
  before = first ++ stops.before;
  tried = stops.tried;
  after = stops.after;
  order = ap (λ (l : List Need). first ++ l) stops.order ∙ sym (append_assoc first (stops.before ++ stops.tried) stops.after)
      ∙ ap (λ (l : List Need). l ++ stops.after) (sym (append_assoc first stops.before stops.tried));
  accepted = both_accepted first stops.before old accepted (all_before stops.before old mid later.held stops.accepted);
  one = stops.one;
  asked = subst (λ (l : List Need). Asks l old new) (sym (append_assoc first stops.before stops.tried))
      (asks_more first (stops.before ++ stops.tried) old mid new asked stops.asked);
}

-- one of the first files stopped it
pub stops_first : (stop : Stop) (needs more : List Need) (old new : FilesState) → IsStoppedBy stop needs old new → IsStoppedBy stop (needs ++ more) old new
stops_first (Refused refusal) needs more old new stops = record {
  before = stops.before;
  here = stops.here;
  after = stops.after ++ more;
  order = ap (λ (l : List Need). l ++ more) stops.order ∙ append_assoc stops.before (stops.here ∷ stops.after) more;
  accepted = stops.accepted;
  mid = stops.mid;
  later = stops.later;
  reached = stops.reached;
  asked = stops.asked;
  cause = stops.cause;
}
stops_first NoMemory needs more old new stops = record {
  before = stops.before;
  tried = stops.tried;
  after = stops.after ++ more;
  order = ap (λ (l : List Need). l ++ more) stops.order
      ∙ append_assoc (stops.before ++ stops.tried) stops.after more;
  accepted = stops.accepted;
  one = stops.one;
  asked = stops.asked;
}

-- ---- a script

-- its file was read, and is no script
pub no_script : (error : ScriptError) (geometry : GeometryView) (name bytes : List ℕ) (old new : FilesState) → HasBytes old.held name bytes → length bytes ≤ script_limit → Asks (script_need geometry name ∷ []) old new →
    ((line : ℕ) (code : ScriptFault) → error ≡ ScriptFaulty line code → script_of geometry bytes ≡ Err (record { line = line; code = code })) → IsStoppedBy (script_stop_of error) (script_need geometry name ∷ []) old new
no_script (ScriptFaulty line code) geometry name bytes old new told within asked refused =
    let same : script_in geometry bytes ≡ Err (Script line code) = ap (or_refusal (λ fault. Script fault.line fault.code)) (refused line code refl) in
    stops_here (Script line code) (script_need geometry name) old new asked
    (record { bytes = bytes; told = told; within = within; fault = ap result_err same })
no_script script_no_memory geometry name bytes old new told within asked refused = runs_out_here (script_need geometry name) old new (inr asked)
