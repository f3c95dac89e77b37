-- A run by its instructions: the accesses that each made, what was read for it, and what the messages that were made in it say.
use Rattle.std.specs.Prelude.{◌≡◌, ◌≢◌, ◌⊎◌, ℕ, ◌+◌, ◌*◌, ◌<◌, ◌≤◌, false, List, [], ◌++◌, length, replicate, slice_index_or, take, Contains}
use Rattle.std.specs.List.{flat_map}
use Rattle.sec_base.specs.Count.{top}
use Rattle.sec_base.specs.Geometry.{GeometryView, line_count}
use Rattle.sec_base.specs.declared.ending.Ending.{Ending}
use Rattle.sec_base.specs.declared.message.Message.{Message}
use Rattle.sec_base.specs.declared.place.Place.{Place}
use Rattle.sec_base.specs.declared.place.Place.TheVariants.{Line}
use Rattle.bus_model.specs.Access.{Access, AreOf, reads_of, writes_in}
use Rattle.bus_model.specs.BusHistory.{BusHistory}
use Rattle.rv32_core.specs.Machine.{Machine, plain}
use Rattle.rv32_core.specs.TouchedLines.{touched_lines}
use Rattle.rv32_core.specs.Turnover.{is_old}
use Rattle.rv32_run.specs.Execution.{EndsBetween, IsMemoryEnding}
use Rattle.secure_memory.specs.Encrypted.{EncryptsContents}

-- What a program's run rests on: the plain machine as it begins, the lines that storing it touches, one for each store, the
-- memory's geometry, and the key that lines are encrypted under.
pub record Basis : Type 0 where
  pub start : Machine
  pub stored_lines : List ℕ
  pub geometry : GeometryView
  pub enc_key : List ℕ

-- how many lines may stand on the chip alone
abbrev pub most_left : ℕ
most_left = 128

-- none of these accesses wrote to a place
abbrev pub IsUnwritten : Place → List Access → Type 0
IsUnwritten place accesses = AreOf (λ other. other ≢ place) (writes_in accesses)

-- the accesses of all pieces, in order
abbrev pub joined : List (List Access) → List Access
joined pieces = flat_map (λ piece. piece) pieces

-- A place was read among accesses, or its count of reads stands at its end.
abbrev pub WasReadIn : BusHistory → Place → List Access → Type 0
WasReadIn after place accesses = (0 < reads_of place accesses) ⊎ (top ≤ after.reads place)

-- the accesses of a run so far: those that stored the image, and those of the first instructions
abbrev pub accesses_until : List Access → List (List Access) → ℕ → List Access
accesses_until stored pieces count = stored ++ joined (take count pieces)

-- how many messages were made by them: each write puts out one
abbrev pub made_until : List Access → List (List Access) → ℕ → ℕ
made_until stored pieces count = length (writes_in (accesses_until stored pieces count))

module _ (basis : Basis) where
  -- the plain machine's memory after so many instructions, and the lines that the next one touches
  abbrev pub memory_after : ℕ → List ℕ
  memory_after count = (plain basis.start count).state.memory

  abbrev pub touched_by : ℕ → List ℕ
  touched_by count = touched_lines (plain basis.start count).state

  -- The messages of what did not finish: of an instruction or, where the memory ended the run, of storing the image. Where the
  -- memory did not end it, the lines have what the plain machine's have.
  abbrev pub EncryptsAtLast : List Message → ℕ → ℕ → Ending → Type 0
  EncryptsAtLast made from retired ending = (new : List ℕ) × (¬ IsMemoryEnding ending → new ≡ memory_after retired)
      × (EncryptsContents basis.enc_key made from (length made) (touched_by retired) (memory_after retired) new
      ⊎ ((retired ≡ 0) × IsMemoryEnding ending × EncryptsContents basis.enc_key made from (length made) basis.stored_lines
      (replicate (64 * line_count basis.geometry) 0) new))

  module _ (after : BusHistory) where
    -- A line was had for the instruction after so many: it was held before it, its place was read among the accesses of that
    -- instruction, or nothing was written to its place before and it is zeros in the plain machine's memory before that
    -- instruction.
    abbrev pub IsHadFor : List Access → List (List Access) → (ℕ → List ℕ) → ℕ → ℕ → Type 0
    IsHadFor stored pieces held count line = Contains (held count) line
        ⊎ (WasReadIn after (Line line) (slice_index_or pieces count [])
        ⊎ (IsUnwritten (Line line) (accesses_until stored pieces count) × (is_old (memory_after count) line ≡ false)))

    -- Refused, by what stands at the boundaries of instructions: a line that an instruction touches, or that is held after it,
    -- and that was neither held before it, nor read for it (unless its count of reads is at its end), nor zeros that were never
    -- written; and a message of a line that says neither what the line had before its instruction, nor what it had after it, nor
    -- anew what its last message said. Of the order within an instruction nothing is said, nor of a message of a line that it
    -- touches more than once. The accesses are those that stored the image, those of each retired instruction, and those of what
    -- did not finish.
    pub record GoesByInstruction (accesses : List Access) (made : List Message) (retired : ℕ) (ending : Ending) : Type 0 where
      pub stored : List Access
      pub pieces : List (List Access)
      pub last : List Access
      pub all : accesses ≡ stored ++ (joined pieces ++ last)
      pub each : length pieces ≡ retired
      pub none_left : EndsBetween ending → last ≡ []
      -- Some lines, at most 128, are held at each time; these, once so many instructions were retired.
      pub held : ℕ → List ℕ
      pub few : (count : ℕ) → count ≤ retired → length (held count) ≤ most_left
      -- Each line that an instruction touches, or that is among the held ones after it, was held before it, or its place was read
      -- for it, or nothing was written to its place before and it is zeros.
      pub touched : (count line : ℕ) → count < retired → Contains (touched_by count) line → IsHadFor stored pieces held count line
      pub kept : (count line : ℕ) → count < retired → Contains (held (count + 1)) line → IsHadFor stored pieces held count line
      -- Each message of a line says under its counter what the line had, as the image was stored or as an instruction was done.
      pub encrypts_stored : EncryptsContents basis.enc_key made 0 (made_until stored pieces 0) basis.stored_lines
          (replicate (64 * line_count basis.geometry) 0) (memory_after 0)
      pub encrypts : (count : ℕ) → count < retired → EncryptsContents basis.enc_key made (made_until stored pieces count)
          (made_until stored pieces (count + 1)) (touched_by count) (memory_after count) (memory_after (count + 1))
      pub encrypts_last : EncryptsAtLast made (made_until stored pieces retired) retired ending
