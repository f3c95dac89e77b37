-- What a memory of lines holds, by the messages that were tagged and the key that lines are encrypted under.
use Rattle.std.specs.Prelude.{◌==◌, ◌≡◌, ◌⊎◌, ℕ, ◌+◌, ◌*◌, ◌<◌, ◌≤◌, List, [], ◌∷◌, length, replicate, take, Option, Some, None, Contains, unwrap_or, if◌then◌else◌}
use Rattle.std.specs.List.{filter, range_with_len, slice_get}
use Rattle.sec_base.specs.declared.place.Place.{Place}
use Rattle.sec_base.specs.declared.place.Place.TheVariants.{Line as line_place}
use Rattle.sec_base.specs.declared.counter.Counter.{Counter}
use Rattle.sec_base.specs.declared.message.Message.{Message}
use Rattle.sec_base.specs.declared.message.Message.TheVariants.{Line, Node}
use Rattle.sec_base.specs.LastMessage.{last_data, last_pair}
use Rattle.sec_base.specs.Geometry.{GeometryView, page_of}
use Rattle.sec_base.specs.declared.geometry.TheConstants.{LINES_PER_PAGE}
use Rattle.sec_base.specs.Place.{zeros_of}
use Rattle.sec_base.specs.Lines.{joined_lines}
use Rattle.pad_stream.specs.Pad.{cipher_of}
use Rattle.checked_bus.specs.SealedLine.{sealed_line}
use Rattle.split_counter.specs.CounterBlock.{block_of, counter_of, last_counter, next_counter, place_of}
use Rattle.bonsai_tree.specs.Tree.{SlotsAreTags}

-- the bytes of a line, by its last message: its ciphertext, decrypted under its counter; zeros where it has none
abbrev pub bytes_of : List ℕ → ℕ → Option (Counter × List ℕ) → List ℕ
bytes_of key line None = replicate 64 0
bytes_of key line (Some last) = cipher_of key line last.0 last.1

-- the bytes of a line, decrypted from its last message; a line that was never written is zeros
abbrev pub line_bytes : List ℕ → List Message → ℕ → List ℕ
line_bytes key made line = bytes_of key line (last_data line made)

-- all lines, in order
abbrev pub contents_of : List ℕ → ℕ → List Message → List ℕ
contents_of key lines made = joined_lines (line_bytes key made) lines

-- the counter of a line that was never written
abbrev pub never_written : Counter
never_written = record { page = 0; line = 0 }

-- a line's counter: its last entry
abbrev pub counter_in : List (ℕ × Counter) → ℕ → Counter
counter_in used line = unwrap_or (last_pair line used) never_written

-- the lines of a page, in the order of their places
abbrev pub page_lines : ℕ → List ℕ
page_lines page = range_with_len (LINES_PER_PAGE * page) LINES_PER_PAGE

-- the lines that a write of a line encrypts under this counter: where its page counter is new, all lines of the page
abbrev pub lines_encrypted : Counter → ℕ → List ℕ
lines_encrypted counter line = if counter.line == 0 then page_lines (page_of line) else line ∷ []

-- how often lines of the page were encrypted: the entries that name one of them
abbrev pub page_entries : List (ℕ × Counter) → ℕ → ℕ
page_entries used page = length (filter (λ entry. page_of entry.0 == page) used)

-- A line's next counter behind these entries: the line's own counter is one more; or the page's is one more and the line's own
-- begins again, where the counter of the line, or of another one of its page, was used up.
abbrev pub IsRightAfter : List (ℕ × Counter) → ℕ → Counter → Type 0
IsRightAfter used line later = (later ≡ next_counter (counter_in used line))
    ⊎ ((other : ℕ) × (page_of other ≡ page_of line) × Contains used (other, last_counter (counter_in used line).page)
    × (later ≡ record { page = (counter_in used line).page + 1; line = 0 }))

-- The counters of each line are successive: each entry's comes right after that of the line's entry before it, and the first one's
-- after that of a line that was never written. So they rise, none is skipped, and none is that of a line that was never written.
pub record AreSuccessive (used : List (ℕ × Counter)) : Type 0 where
  pub each : (at line : ℕ) (counter : Counter) → slice_get used at ≡ Some (line, counter) →
      IsRightAfter (take at used) line counter

-- The lines of a page have one page counter, and where it is M, they were encrypted 64 M times at least.
pub record ArePaged (lines : ℕ) (used : List (ℕ × Counter)) : Type 0 where
  pub one : (line other : ℕ) → line < lines → other < lines → page_of line ≡ page_of other →
      (counter_in used line).page ≡ (counter_in used other).page
  pub reached : (line : ℕ) → line < lines → LINES_PER_PAGE * (counter_in used line).page ≤ page_entries used (page_of line)

-- No line of the memory was encrypted under a page counter past the limit.
pub record AreWithin (lines limit : ℕ) (used : List (ℕ × Counter)) : Type 0 where
  pub limited : (line : ℕ) (counter : Counter) → line < lines → Contains used (line, counter) → counter.page ≤ limit

-- A counter block that was made says of each line of its page the counter of a line that was never written, or one that the
-- line was encrypted under.
pub record BlocksSayEntries (used : List (ℕ × Counter)) (made : List Message) : Type 0 where
  pub said : (page line : ℕ) (block : List ℕ) → Contains made (Node 0 page block) → page_of line ≡ page →
      (counter_of (place_of line) (block_of block) ≡ never_written) ⊎ Contains used (line, counter_of (place_of line) (block_of block))

-- What was made of nodes says tags and counters alone: each slot the tag of that child's last message, or zeros where it was
-- never made, and each counter block counters of its lines.
pub record NodesSay (tag_of : Message → List ℕ) (geometry : GeometryView) (used : List (ℕ × Counter)) (made : List Message) : Type 0 where
  pub slots : SlotsAreTags tag_of geometry made
  pub blocks : BlocksSayEntries used made

-- some line of the page has the last counter that the limit allows
pub record IsSpent (lines limit : ℕ) (used : List (ℕ × Counter)) (page : ℕ) : Type 0 where
  pub line : ℕ
  pub inside : line < lines
  pub of_page : page_of line ≡ page
  pub used_up : counter_in used line ≡ last_counter limit

-- a line's place holds a message that was tagged, under a counter that was used for it, with its tag
pub record IsSealed (tag_of : Message → List ℕ) (made : List Message) (used : List (ℕ × Counter)) (line : ℕ) (bytes : List ℕ) : Type 0 where
  pub counter : Counter
  pub cipher : List ℕ
  pub made_there : Contains made (Line line counter cipher)
  pub used_there : Contains used (line, counter)
  pub sealed : bytes ≡ sealed_line tag_of line counter cipher

-- Each line's place that isn't zeros holds such a message.
pub record HoldsSealed (tag_of : Message → List ℕ) (lines : ℕ) (made : List Message) (used : List (ℕ × Counter)) (written : Place → List ℕ) : Type 0 where
  pub holds : (line : ℕ) → line < lines →
      (written (line_place line) ≡ zeros_of (line_place line)) ⊎ IsSealed tag_of made used line (written (line_place line))

-- The place of each line that was written holds its last message, with its tag.
pub record HoldsLast (tag_of : Message → List ℕ) (lines : ℕ) (made : List Message) (written : Place → List ℕ) : Type 0 where
  pub holds : (line : ℕ) (counter : Counter) (cipher : List ℕ) → line < lines → last_data line made ≡ Some (counter, cipher) →
      written (line_place line) ≡ sealed_line tag_of line counter cipher
