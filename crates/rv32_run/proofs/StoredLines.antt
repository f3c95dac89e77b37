-- The lines in which a segment, and a program, is stored.
use Rattle.std.proofs.Common.{◌≡◌, ◌≢◌, ◌<◌, ◌≤◌, ℕ, ◌+◌, ◌-◌, ◌%◌, Bool, true, false, cond, ◌||◌, List, [], ◌∷◌, ◌++◌, map, length, take, drop, get_or, refl, sym, ap, ◌∙◌, subst, arith, inl, inr, ne_eqb}
use Rattle.std.specs.List.{filter, flat_map, range_with_len}
use Rattle.std.proofs.lemmas.Bool.{cases_lt, le-leb, lt-leb}
use Rattle.std.proofs.lemmas.Grind.{flat_map-append}
use Rattle.std.proofs.lemmas.List.{append-nil, map-append, take_more, take_all, take-append-drop}
use Rattle.std.proofs.lemmas.List.Elements.{filter-append}
use Rattle.std.proofs.lemmas.List.FromFn.{filter_of_map_range_with_len_more, take-map-range_with_len}
use Rattle.sec_base.specs.Geometry.{line_of}
use Rattle.sec_base.specs.Prefix.{IsPrefix}
use Rattle.sec_base.specs.declared.segment.Segment.{Segment}
use Rattle.rv32_core.proofs.TouchedLines.{prefix_behind, prefix_prefix}
use Rattle.rv32_run.specs.StoredLines.{IsStoreOf, begins_store, front_lines, image_lines, segment_lines}

-- no word that lies in the segment whole has this address behind its first
pub record IsStart (segment : Segment) (address : ℕ) : Type 0 where
  pub alone : address % 4 ≢ 0 → segment.addr ≤ address - address % 4 → address - address % 4 + 4 ≤ segment.addr + segment.length → ⊥

or_true : (b : Bool) → (b || true) ≡ true
or_true true = refl
or_true false = refl

begins_aligned : (segment : Segment) (address : ℕ) → address % 4 ≡ 0 → begins_store segment address ≡ true
begins_aligned segment address aligned = rw aligned refl

begins_below : (segment : Segment) (address : ℕ) → address - address % 4 < segment.addr → begins_store segment address ≡ true
begins_below segment address below = rw (lt-leb segment.addr (address - address % 4) below) (or_true _)

begins_above : (segment : Segment) (address : ℕ) → segment.addr ≤ address - address % 4 → segment.addr + segment.length < address - address % 4 + 4 → begins_store segment address ≡ true
begins_above segment address low above =
    rw (le-leb segment.addr (address - address % 4) low, lt-leb (address - address % 4 + 4) (segment.addr + segment.length) above) (or_true _)

begins : (segment : Segment) (address : ℕ) → IsStart segment address → begins_store segment address ≡ true
begins segment address start =
    elim (cases_lt 0 (address % 4)) [
      | inr aligned ↦ begins_aligned segment address (omega arith)
      | inl apart ↦ elim (cases_lt (address - address % 4) segment.addr) [
        | inl below ↦ begins_below segment address below
        | inr low ↦ elim (cases_lt (segment.addr + segment.length) (address - address % 4 + 4)) [
          | inl above ↦ begins_above segment address low above
          | inr high ↦ absurd (start.alone (omega arith) low high)
        ]
      ]
    ]

-- behind the first address of a word
behind : (segment : Segment) (address : ℕ) → address % 4 ≢ 0 → segment.addr ≤ address - address % 4 → address - address % 4 + 4 ≤ segment.addr + segment.length → begins_store segment address ≡ false
behind segment address apart low high =
    rw (ne_eqb _ _ apart, le-leb segment.addr (address - address % 4) low, le-leb (address - address % 4 + 4) (segment.addr + segment.length) high) refl

-- one address more

pub no_front : (segment : Segment) → front_lines segment 0 ≡ []
unfolding front_lines
no_front segment = refl

front_more : (segment : Segment) (n : ℕ) → front_lines segment (n + 1) ≡ front_lines segment n ++ map line_of (cond (begins_store segment (segment.addr + n)) ((segment.addr + n) ∷ []) [])
unfolding front_lines
front_more segment n =
    ap (map line_of) (filter_of_map_range_with_len_more (begins_store segment) (λ (k : ℕ). segment.addr + k) 0 n n (omega arith))
    ∙ map-append line_of (filter (begins_store segment) (map (λ (k : ℕ). segment.addr + k) (range_with_len 0 n))) (cond (begins_store segment (segment.addr + n)) ((segment.addr + n) ∷ []) [])

front_begins : (segment : Segment) (n : ℕ) → begins_store segment (segment.addr + n) ≡ true → front_lines segment (n + 1) ≡ front_lines segment n ++ line_of (segment.addr + n) ∷ []
front_begins segment n is =
    front_more segment n ∙ ap (λ (b : Bool). front_lines segment n ++ map line_of (cond b ((segment.addr + n) ∷ []) [])) is

front_behind : (segment : Segment) (n : ℕ) → begins_store segment (segment.addr + n) ≡ false → front_lines segment (n + 1) ≡ front_lines segment n
front_behind segment n is =
    front_more segment n ∙ ap (λ (b : Bool). front_lines segment n ++ map line_of (cond b ((segment.addr + n) ∷ []) [])) is
    ∙ append-nil (front_lines segment n)

-- a word's other addresses
front_word : (segment : Segment) (at : ℕ) → (segment.addr + at) % 4 ≡ 0 → at + 4 ≤ segment.length → front_lines segment (at + 4) ≡ front_lines segment (at + 1)
front_word segment at aligned inside =
    let second : at + 1 + 1 ≡ at + 2 = omega arith in
    let third : at + 2 + 1 ≡ at + 3 = omega arith in
    let fourth : at + 3 + 1 ≡ at + 4 = omega arith in
    sym (ap (front_lines segment) fourth) ∙ front_behind segment (at + 3) (behind segment (segment.addr + (at + 3)) (omega arith) (omega arith) (omega arith))
    ∙ sym (ap (front_lines segment) third) ∙ front_behind segment (at + 2) (behind segment (segment.addr + (at + 2)) (omega arith) (omega arith) (omega arith))
    ∙ sym (ap (front_lines segment) second) ∙ front_behind segment (at + 1) (behind segment (segment.addr + (at + 1)) (omega arith) (omega arith) (omega arith))

-- one store more
pub store_more : (segment : Segment) (at count : ℕ) (lines : List ℕ) → IsStoreOf segment at count → IsStart segment (segment.addr + at) → lines ≡ front_lines segment at → lines ++ line_of (segment.addr + at) ∷ [] ≡ front_lines segment (at + count)
store_more segment at count lines (inl word) start is =
    ap (λ (xs : List ℕ). xs ++ line_of (segment.addr + at) ∷ []) is ∙ sym (front_begins segment at (begins segment (segment.addr + at) start))
    ∙ sym (front_word segment at word.1 word.2) ∙ ap (λ (n : ℕ). front_lines segment (at + n)) (sym word.0)
store_more segment at count lines (inr byte) start is =
    ap (λ (xs : List ℕ). xs ++ line_of (segment.addr + at) ∷ []) is ∙ sym (front_begins segment at (begins segment (segment.addr + at) start))
    ∙ ap (λ (n : ℕ). front_lines segment (at + n)) (sym byte.0)

-- the first address, and the next
pub starts_first : (segment : Segment) → IsStart segment (segment.addr + 0)
starts_first segment = record { alone = λ apart low high. omega arith }

pub starts_next : (segment : Segment) (at count : ℕ) → IsStoreOf segment at count → IsStart segment (segment.addr + at) → IsStart segment (segment.addr + (at + count))
starts_next segment at count (inl word) start = record { alone = λ apart low high. let four = word.0 in let aligned = word.1 in omega arith }
starts_next segment at count (inr byte) start = record {
  alone = λ apart low high.
      let one = byte.0 in
      elim (cases_lt 0 ((segment.addr + at) % 4)) [
        | inr aligned ↦ let short = byte.1 (omega arith) in omega arith
        | inl behind ↦ start.alone (omega arith) (omega arith) (omega arith)
      ];
}

-- Front parts

pub front_front : (segment : Segment) (m n : ℕ) → m ≤ n → IsPrefix (front_lines segment m) (front_lines segment n)
unfolding front_lines
front_front segment m n inside =
    let place = λ (k : ℕ). segment.addr + k in
    let all = map place (range_with_len 0 n) in
    let front : take m all ≡ map place (range_with_len 0 m) = take-map-range_with_len place 0 n m inside in
    let test = begins_store segment in (
      map line_of (filter test (drop m all)),
      ap (λ (xs : List ℕ). map line_of (filter test xs)) (sym (take-append-drop m all))
          ∙ ap (map line_of) (filter-append test (take m all) (drop m all))
          ∙ map-append line_of (filter test (take m all)) (filter test (drop m all))
          ∙ ap (λ (xs : List ℕ). map line_of (filter test xs) ++ map line_of (filter test (drop m all))) front,
    )

-- the last store, which the memory stopped
pub last_store : (segment : Segment) (at : ℕ) (lines : List ℕ) → at < segment.length → IsStart segment (segment.addr + at) → lines ≡ front_lines segment at → IsPrefix (lines ++ line_of (segment.addr + at) ∷ []) (segment_lines segment)
last_store segment at lines below start is =
    let whole : lines ++ line_of (segment.addr + at) ∷ [] ≡ front_lines segment (at + 1) =
    ap (λ (xs : List ℕ). xs ++ line_of (segment.addr + at) ∷ []) is ∙ sym (front_begins segment at (begins segment (segment.addr + at) start)) in
    rw whole (front_front segment (at + 1) segment.length (omega arith))

-- Segments

pub no_segments : image_lines [] ≡ []
unfolding image_lines
no_segments = refl

pub segments_whole : (segments all : List Segment) (i : ℕ) (lines : List ℕ) → length segments ≤ i → segments ≡ all → lines ≡ image_lines (take i segments) → lines ≡ image_lines all
segments_whole segments all i lines past same is = is ∙ ap image_lines (take_all i segments past ∙ same)

pub segments_more : (segments : List Segment) (i : ℕ) (segment : Segment) (lines more : List ℕ) → i < length segments → segment ≡ get_or segments i segment → lines ≡ image_lines (take i segments) → more ≡ segment_lines segment → lines ++ more ≡ image_lines (take (i + 1) segments)
unfolding image_lines
segments_more segments i segment lines more below item is stored =
    let front = take i segments in
    ap (λ (xs : List ℕ). xs ++ more) is ∙ ap (λ (xs : List ℕ). flat_map segment_lines front ++ xs) (stored ∙ sym (append-nil (segment_lines segment)))
    ∙ sym (flat_map-append segment_lines front (segment ∷ []))
    ∙ ap (λ (x : Segment). flat_map segment_lines (front ++ x ∷ [])) item
    ∙ ap (flat_map segment_lines) (sym (take_more segments i segment below))

pub segments_front : (segments : List Segment) (i : ℕ) → IsPrefix (image_lines (take i segments)) (image_lines segments)
unfolding image_lines
segments_front segments i = (
  flat_map segment_lines (drop i segments),
  ap (flat_map segment_lines) (sym (take-append-drop i segments)) ∙ flat_map-append segment_lines (take i segments) (drop i segments),
)

-- a segment of which a front part was stored
pub last_segment : (segments : List Segment) (i : ℕ) (segment : Segment) (lines part : List ℕ) → i < length segments → segment ≡ get_or segments i segment → lines ≡ image_lines (take i segments) → IsPrefix part (segment_lines segment) → IsPrefix (lines ++ part) (image_lines segments)
last_segment segments i segment lines part below item is front =
    let whole = segments_more segments i segment lines (segment_lines segment) below item is refl in
    prefix_prefix (lines ++ part) (image_lines (take (i + 1) segments)) (image_lines segments)
    (subst (λ (xs : List ℕ). IsPrefix (lines ++ part) xs) whole (prefix_behind lines part (segment_lines segment) front))
    (segments_front segments (i + 1))
