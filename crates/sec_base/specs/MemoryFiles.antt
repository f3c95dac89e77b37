-- Files in memory, some of whose reads fail.
use Rattle.std.specs.Prelude.{ℕ, ◌+◌, List, [], ◌∷◌, ◌++◌, length, fold, nat_lt, if◌then◌else◌, Option, Some, None, Result, Ok, Err}
use Rattle.std.specs.Str.{bytes_eq}
use Rattle.sec_base.specs.Count.{more_by}
use Rattle.sec_base.specs.FailingCalls.{next_fails}
use Rattle.sec_base.specs.Files.{FilesState}
use Rattle.sec_base.specs.declared.memory_files.NamedFile.{NamedFile}
use Rattle.sec_base.specs.declared.files.ReadStop.{ReadStop}
use Rattle.sec_base.specs.declared.files.ReadStop.TheVariants.{Failed, Long, NoMemory as no_memory}

-- the files in the order in which they were added, the numbers of the calls that are to fail, how many calls
-- and faults there were and how many bytes were taken, and the names that were asked for
pub record MemoryFilesView : Type 0 where
  pub files : List NamedFile
  pub fails : List ℕ
  pub calls : ℕ
  pub faults : ℕ
  pub taken : ℕ
  pub asked : List (List ℕ)

-- no file, and no call yet
abbrev pub new_files : List ℕ → MemoryFilesView
new_files fails = record { files = []; fails = fails; calls = 0; faults = 0; taken = 0; asked = [] }

-- what a name has with one more file
abbrev pub content_with : List ℕ → Option (List ℕ) → NamedFile → Option (List ℕ)
content_with name before file = if bytes_eq file.name name then Some file.bytes else before

-- the bytes of the last file of that name
unfoldable pub content_of : List NamedFile → List ℕ → Option (List ℕ)
content_of files name = fold (content_with name) None files

-- they tell the bytes of each name
abbrev pub files_state : MemoryFilesView → FilesState
files_state seen =
    record { held = Some (content_of seen.files); faults = seen.faults; taken = seen.taken; asked = seen.asked }

-- one more file
abbrev pub with_file : List ℕ → List ℕ → MemoryFilesView → MemoryFilesView
with_file name bytes seen = record seen { files = seen.files ++ record { name = name; bytes = bytes } ∷ [] }

-- a file's bytes, where there are no more than the limit
abbrev pub within_limit : ℕ → Option (List ℕ) → Result (List ℕ) ReadStop
within_limit limit None = Err Failed
within_limit limit (Some bytes) = if nat_lt limit (length bytes) then Err Long else Ok bytes

-- the answer of the next read, where there is memory for it
abbrev pub read_answer : MemoryFilesView → List ℕ → ℕ → Result (List ℕ) ReadStop
read_answer seen name limit =
    if next_fails seen.fails seen.calls then Err Failed else within_limit limit (content_of seen.files name)

-- a call that found no memory for its name
abbrev pub files_after_call : MemoryFilesView → MemoryFilesView
files_after_call seen = record seen { calls = more_by 1 seen.calls }

-- a call that asked for the name
abbrev pub files_after_asking : List ℕ → MemoryFilesView → MemoryFilesView
files_after_asking name seen = record seen { calls = more_by 1 seen.calls; asked = seen.asked ++ name ∷ [] }

-- an answer counts: the bytes of a file, one more than the limit of a file that is longer, or a fault
abbrev pub files_after_answer : ℕ → Result (List ℕ) ReadStop → MemoryFilesView → MemoryFilesView
files_after_answer limit (Ok bytes) seen = record seen { taken = more_by (length bytes) seen.taken }
files_after_answer limit (Err Failed) seen = record seen { faults = more_by 1 seen.faults }
files_after_answer limit (Err Long) seen = record seen { taken = more_by (limit + 1) seen.taken }
files_after_answer limit (Err no_memory) seen = seen

-- a call that asked for the name and got as far as its answer
abbrev pub files_after_read : List ℕ → ℕ → MemoryFilesView → MemoryFilesView
files_after_read name limit seen = files_after_answer limit (read_answer seen name limit) (files_after_asking name seen)
