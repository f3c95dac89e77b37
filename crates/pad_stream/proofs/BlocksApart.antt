-- Pads of entries that don't repeat have no block in common.
use Rattle.std.proofs.Common.{◌≡◌, ℕ, zero, suc, ◌%◌, ◌<◌, List, [], ◌∷◌, ◌++◌, slice_index, take, drop, Some, refl, ap, sym, ◌∙◌, subst, arith, w32, w64}
use Rattle.std.specs.List.{slice_get}
use Rattle.std.specs.Int.{byte_at, bytes_low_first, to_le_bytes, from_le_bytes}
use Rattle.std.proofs.lemmas.Nat.{from_le_bytes-to_le_bytes_4, from_le_bytes-to_le_bytes_8}
use Rattle.std.proofs.lemmas.Option.{slice_get_within, get_or_from_slice_get}
use Rattle.sec_base.specs.declared.counter.Counter.{Counter}
use Rattle.aes128_block.specs.Word.{IsBlock}
use Rattle.aes128_block.proofs.Laws.{encrypted-injective}
use Rattle.pad_stream.specs.Pad.{pad_input, pad_block}
use Rattle.pad_stream.specs.Pads.{NoRepeat}
use Rattle.pad_stream.specs.PadBlocks.{IsFit, AreFit, ShareNoBlock}

-- each is a byte
abbrev AreBytes : List ℕ → Type 0
AreBytes bytes = (i : ℕ) → slice_index bytes i < 256

byte_more : (byte : ℕ) (bytes : List ℕ) → byte < 256 → AreBytes bytes → AreBytes (byte ∷ bytes)
byte_more byte bytes small rest zero = small
byte_more byte bytes small rest (suc i) = rest i

bytes_joined : (bytes more : List ℕ) → AreBytes bytes → AreBytes more → AreBytes (bytes ++ more)
bytes_joined [] more are rest = rest
bytes_joined (byte ∷ bytes) more are rest =
    byte_more byte (bytes ++ more) (are 0) (bytes_joined bytes more (λ i. are (suc i)) rest)

low_byte : (n : ℕ) → n % 256 < 256
low_byte n = omega arith

byte_at_small : (i n : ℕ) → byte_at i n < 256
byte_at_small zero n = low_byte n
byte_at_small (suc i) n = low_byte _

number_bytes : (i count n : ℕ) → AreBytes (bytes_low_first i count n)
number_bytes i zero n = λ at. omega arith
number_bytes i (suc count) n = byte_more (byte_at i n) (bytes_low_first (suc i) count n) (byte_at_small i n) (number_bytes (suc i) count n)

-- a counter block is a block of AES
input_is_block : (line block : ℕ) (counter : Counter) → counter.line < 256 → block < 256 → IsBlock (pad_input line counter block)
unfolding pad_input
input_is_block line block counter own small = record {
  long = refl;
  bytes =
      bytes_joined (to_le_bytes w32 line) (to_le_bytes w64 counter.page ++ counter.line ∷ block ∷ 0 ∷ 0 ∷ []) (number_bytes 0 4 line)
      (bytes_joined (to_le_bytes w64 counter.page) (counter.line ∷ block ∷ 0 ∷ 0 ∷ []) (number_bytes 0 8 counter.page)
      (byte_more counter.line (block ∷ 0 ∷ 0 ∷ []) own (byte_more block (0 ∷ 0 ∷ []) small (number_bytes 0 2 0))));
}

same_counter : (counter later : Counter) → counter.page ≡ later.page → counter.line ≡ later.line → counter ≡ later
same_counter counter later a b =
    ap (λ (p : ℕ). record counter { page = p }) a ∙ ap (λ (l : ℕ). record later { line = l }) b

same_entry : (used : List (ℕ × Counter)) (at line other : ℕ) (counter later : Counter) → line ≡ other → counter ≡ later →
    slice_get used at ≡ Some (line, counter) → slice_get used at ≡ Some (other, later)
same_entry used at line other counter later a b here = cc

-- a counter block tells its line, its counter and its number
input_apart : (line other : ℕ) (counter later : Counter) (block another : ℕ) → IsFit line counter → IsFit other later →
    pad_input line counter block ≡ pad_input other later another → (line ≡ other) × (counter ≡ later) × (block ≡ another)
unfolding pad_input
input_apart line other counter later block another fit fit' same =
    let lines : line ≡ other =
    sym (from_le_bytes-to_le_bytes_4 line fit.0)
    ∙ ap (λ (xs : List ℕ). from_le_bytes w32 (take 4 xs)) same
    ∙ from_le_bytes-to_le_bytes_4 other fit'.0 in
    let pages : counter.page ≡ later.page =
    sym (from_le_bytes-to_le_bytes_8 counter.page fit.1)
    ∙ ap (λ (xs : List ℕ). from_le_bytes w64 (take 8 (drop 4 xs))) same
    ∙ from_le_bytes-to_le_bytes_8 later.page fit'.1 in
    (lines, same_counter counter later pages (ap (λ (xs : List ℕ). slice_index xs 12) same), ap (λ (xs : List ℕ). slice_index xs 13) same)

-- and so does the block of the pad that is its cipher
block_apart : (key : List ℕ) (line other : ℕ) (counter later : Counter) (block another : ℕ) → IsFit line counter → IsFit other later →
    block < 4 → another < 4 → pad_block key line counter block ≡ pad_block key other later another →
    (line ≡ other) × (counter ≡ later) × (block ≡ another)
unfolding pad_block
block_apart key line other counter later block another fit fit' few few' same =
    input_apart line other counter later block another fit fit'
    (encrypted-injective key (pad_input line counter block) (pad_input other later another)
    (input_is_block line block counter fit.2 (omega (arith, few))) (input_is_block other another later fit'.2 (omega (arith, few'))) same)

listed_fit : (used : List (ℕ × Counter)) (at line : ℕ) (counter : Counter) → AreFit used →
    slice_get used at ≡ Some (line, counter) → IsFit line counter
listed_fit used at line counter fit there =
    subst (λ (entry : ℕ × Counter). IsFit entry.0 entry.1) (get_or_from_slice_get used at (line, counter) (line, counter) there)
    (fit at (line, counter) (slice_get_within used at (line, counter) there))

-- pads of entries that don't repeat have no block in common
pub blocks_apart : (key : List ℕ) (used : List (ℕ × Counter)) → AreFit used → NoRepeat used → ShareNoBlock key used
blocks_apart key used fit no_repeat = record {
  apart = λ first second line other counter later block another here there few few' same.
      let apart = block_apart key line other counter later block another (listed_fit used first line counter fit here)
      (listed_fit used second other later fit there) few few' same in
      (no_repeat.once first second (other, later) (same_entry used first line other counter later apart.0 apart.1 here) there, apart.2);
}
