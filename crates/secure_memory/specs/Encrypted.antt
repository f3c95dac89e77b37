-- What the messages of lines say, under their counters, of what the lines had as calls were made.
use Rattle.std.specs.Prelude.{◌≡◌, ◌⊎◌, ℕ, ◌<◌, ◌≤◌, List, ◌++◌, take, Some, Contains}
use Rattle.std.specs.List.{slice_get}
use Rattle.sec_base.specs.Lines.{line_at}
use Rattle.sec_base.specs.declared.counter.Counter.{Counter}
use Rattle.sec_base.specs.declared.message.Message.{Message}
use Rattle.sec_base.specs.declared.message.Message.TheVariants.{Line}
use Rattle.pad_stream.specs.Pad.{cipher_of}
use Rattle.page_reencrypt.specs.Contents.{line_bytes}

-- The bytes are those that a line had as one of some calls on these lines was made: those before all of them, where no call
-- before it touches the line; and those after all of them, where neither it nor a later one does.
pub record HadAtCall (lines old new : List ℕ) (line : ℕ) (bytes : List ℕ) : Type 0 where
  pub sooner : List ℕ
  pub later : List ℕ
  pub all : lines ≡ sooner ++ later
  pub before : ¬ Contains sooner line → bytes ≡ line_at old line
  pub after : ¬ Contains later line → bytes ≡ line_at new line

-- Each message of a line that was made from one place of the list to another says, under its counter, what the line had as a
-- call on these lines was made; or under a new page counter what the line's last message before it says, as in an overflow. Of a
-- message that is made between two calls on its line nothing is said.
pub record EncryptsContents (key : List ℕ) (made : List Message) (from to : ℕ) (lines old new : List ℕ) : Type 0 where
  pub says : (at line : ℕ) (counter : Counter) (cipher : List ℕ) → from ≤ at → at < to →
      slice_get made at ≡ Some (Line line counter cipher) →
      ((counter.line ≡ 0) × (cipher_of key line counter cipher ≡ line_bytes key (take at made) line))
      ⊎ HadAtCall lines old new line (cipher_of key line counter cipher)
