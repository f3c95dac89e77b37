-- The counters of a page and how they are spelled: split counters, after Yan et al. (ISCA 2006), who call the page
-- counter major and the line counters minor.
use Rattle.std.specs.Prelude.{◌≡◌, ◌==◌, ℕ, ◌+◌, ◌*◌, ◌/◌, ◌%◌, ◌^◌, ◌<◌, nat_lt, if◌then◌else◌, List, ◌++◌, length, take, drop, replicate, All, slice_index, slice_set}
use Rattle.std.specs.Int.{w64, to_le_bytes, from_le_bytes, bit_at}
use Rattle.sec_base.specs.declared.counter.Counter.{Counter}
use Rattle.sec_base.specs.declared.geometry.TheConstants.{LINES_PER_PAGE}
use Rattle.split_counter.specs.declared.bumped.Bumped.{Bumped}
use Rattle.split_counter.specs.declared.bumped.Bumped.TheVariants.{Line, Page, Spent}
use Rattle.split_counter.specs.Digits.{number_of, digits_of}

-- a page counter, and the line counters in the order of the lines' places in the page
pub record CounterBlockView : Type 0 where
  pub page : ℕ
  pub lines : List ℕ

-- the page counter has 64 bits, and each of the 64 line counters has 7
pub record IsCounterBlock (block : CounterBlockView) : Type 0 where
  pub page_fits : block.page < 2 ^ 64
  pub whole : length block.lines ≡ 64
  pub lines_fit : All (λ counter. counter < 128) block.lines

-- a page that no line of was written
abbrev pub new_block : CounterBlockView
new_block = record { page = 0; lines = replicate 64 0 }

-- the counter of the line at a place
abbrev pub counter_of : ℕ → CounterBlockView → Counter
counter_of place block = record { page = block.page; line = slice_index block.lines place }

-- a counter as one number: the page counter is its upper digit, the line counter its lower one
abbrev pub counter_number : Counter → ℕ
counter_number counter = 128 * counter.page + counter.line

-- the place of a line in its page
abbrev pub place_of : ℕ → ℕ
place_of line = line % LINES_PER_PAGE

-- the counter that the next write of a line encrypts under: its line counter goes up by one; where that is used up, the
-- page counter does, and the line counter begins again
abbrev pub next_counter : Counter → Counter
next_counter counter =
    if counter.line == 127 then record { page = counter.page + 1; line = 0 } else record { page = counter.page; line = counter.line + 1 }

-- the last counter that a limit of page counters allows
abbrev pub last_counter : ℕ → Counter
last_counter limit = record { page = limit; line = 127 }

-- What a write of a line with this counter comes to, under a limit of the page counter. A line counter that stands at
-- 127 overflows where the page counter is below the limit, and is spent where it isn't.
unfoldable pub bumped : ℕ → Counter → Bumped
bumped limit counter =
    if counter.line == 127
    then (if nat_lt counter.page limit then Page (next_counter counter).page else Spent)
    else Line (next_counter counter)

-- the counters of a page after a write of the line at a place that came to this
abbrev pub after_outcome : ℕ → Bumped → CounterBlockView → CounterBlockView
after_outcome place (Line counter) block = record block { lines = slice_set block.lines place counter.line }
after_outcome place (Page page) block = record { page = page; lines = replicate 64 0 }
after_outcome place Spent block = block

-- a write of the line at a place, under a limit of the page counter: what it comes to, and the counters after it
unfoldable pub after_bump : ℕ → ℕ → CounterBlockView → Bumped × CounterBlockView
after_bump place limit block =
    (bumped limit (counter_of place block), after_outcome place (bumped limit (counter_of place block)) block)

-- The 64 bytes of a block: 8 bytes of the page counter, then 56 bytes of the number whose digits in base 128 are the
-- line counters, always the lowest first.
unfoldable pub block_bytes : CounterBlockView → List ℕ
block_bytes block = to_le_bytes w64 block.page ++ digits_of 256 56 (number_of 128 block.lines)

-- the block that 64 bytes spell
unfoldable pub block_of : List ℕ → CounterBlockView
block_of bytes =
    record { page = from_le_bytes w64 (take 8 bytes); lines = digits_of 128 64 (number_of 256 (drop 8 bytes)) }

-- a bit of the line counters: bit k stands in byte 8 + k / 8, at the binary place k % 8
abbrev pub line_bit : List ℕ → ℕ → ℕ
line_bit bytes k = bit_at (slice_index bytes (8 + k / 8)) (k % 8)

-- in these bytes the line counter of place i takes the bits 7 i to 7 i + 6, its lowest bit first
abbrev pub HasLineBits : List ℕ → List ℕ → Type 0
HasLineBits bytes lines = (place bit : ℕ) → place < 64 → bit < 7 →
    line_bit bytes (7 * place + bit) ≡ bit_at (slice_index lines place) bit
