-- What a process does with its words.
use Rattle.std.specs.Prelude.{◌≡◌, ◌≢◌, ◌≤◌, ◌⊎◌, [], List, ℕ, None, Result, IfErr, IfOk, IfSome, String, Vec, codes, map, string_bytes}
use Rattle.std.specs.IoError.{error_kind}
use Rattle.std.specs.declared.alloc.Global.{Global}
use Rattle.std.specs.declared.io.Error.{Error}
use Rattle.std.specs.declared.io.ErrorKind.TheVariants.{OutOfMemory}
use Rattle.std.specs.declared.io.Stderr.{Stderr}
use Rattle.std.specs.declared.io.Stdout.{Stdout}
use Rattle.sec_base.specs.Files.{FilesState}
use Rattle.sec_base.specs.Sink.{GainsFront, IsSilent, SinkState}
use Rattle.chip_words.specs.Request.{request_of}
use Rattle.chip_files.specs.Causes.{AsksFront}
use Rattle.chip_files.specs.Needs.{needs_of}
use Rattle.chip_device.specs.Buses.{LiesByScript, lies_of, script_followed}
use Rattle.chip_main.specs.declared.Done.{Done}
use Rattle.chip_main.specs.declared.status.Status.TheVariants.{NoMemory, Usage}
use Rattle.chip_main.specs.Status.{code_of}
use Rattle.chip_main.specs.World.{world}
use Rattle.chip_main.specs.Call.{GivesAsked, GivesDue, SaysStatus}
use Rattle.chip_edge.specs.declared.stream.Stream.{Stream}
use Rattle.chip_edge.specs.Stream.{fresh_stream, stream_state}

-- the files of the file system before anything was asked of them
abbrev pub fresh_files : FilesState
fresh_files = record { held = None; faults = 0; taken = 0; asked = [] }

-- what these words ask for was done: results went to `out` and all else to `note`, and the status is the call's. False
-- answers of its bus come of the script that the bus follows.
pub record IsCall (words : List (List ℕ)) (out out' note note' : SinkState) (status : ℕ) : Type 0 where
  pub files : FilesState
  pub done : Done
  pub status_is : status ≡ done.status
  pub says : SaysStatus (request_of words) (world fresh_files out note) (world files out' note') done
  pub gives : GivesAsked (request_of words) (world fresh_files out note) (world files out' note') done
  pub due : GivesDue (request_of words) (world fresh_files out note) (world files out' note') done
  pub lies : done.lies ≡ lies_of done.bus
  pub by_script : IfSome done.bus LiesByScript
  pub honest : script_followed done.bus ≡ [] → done.lies ≡ 0
  pub asks : AsksFront (needs_of (request_of words)) fresh_files files
  pub out_faults : out.faults ≤ out'.faults
  pub note_faults : note.faults ≤ note'.faults

-- nothing was done: out of memory
pub record IsOutOfMemory (out out' note note' : SinkState) (status : ℕ) : Type 0 where
  pub status_is : status ≡ code_of NoMemory
  pub out_silent : IsSilent out out'
  pub note_silent : IsSilent note note'

-- nothing was done: the words are no text
pub record AreNoText (out out' note note' : SinkState) (status : ℕ) : Type 0 where
  pub status_is : status ≡ code_of Usage
  pub out_silent : IsSilent out out'
  pub told : GainsFront note (codes "usage\n") note'

-- these words were answered by this status
abbrev pub IsAnswered : List (List ℕ) → SinkState → SinkState → SinkState → SinkState → ℕ → Type 0
IsAnswered words out out' note note' status =
    IsCall words out out' note note' status ⊎ IsOutOfMemory out out' note note' status

-- what was read as the words of a process: the words, or why not
abbrev pub WordsRead : Type 0
WordsRead = Result (Vec (String Global) Global) Error

-- What was read as the words of a process was answered by this status: words as a call of them; want of memory, and
-- words that are no text, with nothing done.
pub record IsReadAnswered (read : WordsRead) (out out' note note' : SinkState) (status : ℕ) : Type 0 where
  pub words : IfOk read (λ words. IsAnswered (map string_bytes words.items) out out' note note' status)
  pub no_memory : IfErr read (λ error. error_kind error ≡ OutOfMemory → IsOutOfMemory out out' note note' status)
  pub no_text : IfErr read (λ error. error_kind error ≢ OutOfMemory → AreNoText out out' note note' status)

-- The process ends with this status: it answered what was read as its words, over a stream to standard output and one to
-- standard error, neither of which had failed before.
pub record EndsProcess (status : ℕ) : Type 0 where
  pub read : WordsRead
  pub out : Stream Stdout
  pub note : Stream Stderr
  pub answered : IsReadAnswered read fresh_stream (stream_state out) fresh_stream (stream_state note) status
