-- Lines that are touched, one call after another.
use Rattle.std.proofs.Common.{◌≡◌, ◌+◌, ◌-◌, ◌≤◌, ℕ, zero, suc, List, [], ◌∷◌, ◌++◌, drop, refl, sym, ap, ◌∙◌, subst, arith, Result, Ok, Err, Some, append_assoc, add-zero, add-one}
use Rattle.std.proofs.lemmas.List.{append-nil, take-append-drop}
use Rattle.std.proofs.lemmas.List.FromFn.{map-range_with_len_more, take-map-range_with_len}
use Rattle.sec_base.specs.Geometry.{line_of}
use Rattle.sec_base.specs.Prefix.{IsPrefix}
use Rattle.sec_base.specs.Ram.{GoesOn}
use Rattle.rv32_decode.specs.declared.Inst.{Inst}
use Rattle.rv32_decode.specs.Decoding.{instruction_of}
use Rattle.rv32_core.specs.State.{State}
use Rattle.rv32_core.specs.Effect.{fetched_word}
use Rattle.rv32_core.specs.TouchedLines.{AreTouched, byte_lines, data_lines, touched_lines}

-- Front parts

pub prefix_all : (whole : List ℕ) → IsPrefix whole whole
prefix_all whole = ([], sym (append-nil whole))

pub prefix_more : (front whole more : List ℕ) → IsPrefix front whole → IsPrefix front (whole ++ more)
prefix_more front whole more p = (p.0 ++ more, ap (λ (xs : List ℕ). xs ++ more) p.1 ∙ append_assoc front p.0 more)

pub prefix_behind : (before front whole : List ℕ) → IsPrefix front whole → IsPrefix (before ++ front) (before ++ whole)
prefix_behind before front whole p = (p.0, ap (λ (xs : List ℕ). before ++ xs) p.1 ∙ sym (append_assoc before front p.0))

pub prefix_prefix : (front middle whole : List ℕ) → IsPrefix front middle → IsPrefix middle whole → IsPrefix front whole
prefix_prefix front middle whole p q =
    let more = prefix_more front middle q.0 p in
    (more.0, q.1 ∙ more.1)

pub touched_all : {A E : Type 0} → (result : Result A E) (all lines : List ℕ) → lines ≡ all → AreTouched result all lines
touched_all (Ok x) all lines is = is
touched_all (Err e) all lines is = ([], sym is ∙ sym (append-nil lines))

-- an error after calls that touched a front part
pub touched_front : {A E : Type 0} → (result : Result A E) (e : E) (all lines : List ℕ) → result ≡ Err e → IsPrefix lines all → AreTouched result all lines
touched_front {A} {E} result e all lines is p = subst (λ (r : Result A E). AreTouched r all lines) (sym is) p

-- what an error of one call leaves is a front part of all
pub front_touched : {A E : Type 0} → (result : Result A E) (e : E) (all lines : List ℕ) → result ≡ Err e → AreTouched result all lines → IsPrefix lines all
front_touched {A} {E} result e all lines is touched = subst (λ (r : Result A E). AreTouched r all lines) is touched

-- calls by a front part that is whole, and then others
pub touched_behind : {A E : Type 0} → (result : Result A E) (first second all lines : List ℕ) → first ≡ all → AreTouched result second lines → AreTouched result (all ++ second) (first ++ lines)
touched_behind (Ok x) first second all lines is more = ap (λ (xs : List ℕ). xs ++ lines) is ∙ ap (λ (xs : List ℕ). all ++ xs) more
touched_behind (Err e) first second all lines is more =
    let p = prefix_behind all lines second more in
    (p.0, p.1 ∙ ap (λ (xs : List ℕ). xs ++ lines ++ p.0) (sym is))

-- Memories

-- no call was made
pub untouched : {M : Type 0} (extent : M → ℕ) (sound : M → Type 0) (moved : M → List ℕ → M → Type 0) (touched : List ℕ → Type 0) (memory : M) → moved memory [] memory → touched [] → GoesOn extent sound moved touched memory memory
untouched {M} extent sound moved touched memory still holds = record {
  extent = refl;
  lost = λ sound. sound;
  lines = [];
  moved = still;
  touched = holds;
}

-- the same calls, of which something else is so
pub touched_as : {M : Type 0} (extent : M → ℕ) (sound : M → Type 0) (moved : M → List ℕ → M → Type 0) (touched others : List ℕ → Type 0) (old new : M) → ((lines : List ℕ) → touched lines → others lines) → GoesOn extent sound moved touched old new → GoesOn extent sound moved others old new
touched_as {M} extent sound moved touched others old new so calls = record {
  extent = calls.extent;
  lost = calls.lost;
  lines = calls.lines;
  moved = calls.moved;
  touched = so calls.lines calls.touched;
}

-- calls after others
pub touched_after : {M : Type 0} (extent : M → ℕ) (sound : M → Type 0) (moved : M → List ℕ → M → Type 0) (one two both : List ℕ → Type 0) (old mid new : M) → ((first second third : M) (before after : List ℕ) → moved first before second → moved second after third → moved first (before ++ after) third) → GoesOn extent sound moved one old mid → GoesOn extent sound moved two mid new → ((first second : List ℕ) → one first → two second → both (first ++ second)) → GoesOn extent sound moved both old new
touched_after {M} extent sound moved one two both old mid new moved_on first second so = record {
  extent = second.extent ∙ first.extent;
  lost = λ here. first.lost (second.lost here);
  lines = first.lines ++ second.lines;
  moved = moved_on old mid new first.lines second.lines first.moved second.moved;
  touched = so first.lines second.lines first.touched second.touched;
}

-- The lines of bytes

pub no_lines : (from : ℕ) → byte_lines from 0 ≡ []
unfolding byte_lines
no_lines from = refl

pub lines_more : (from i : ℕ) → byte_lines from (i + 1) ≡ byte_lines from i ++ line_of (from + i) ∷ []
unfolding byte_lines
lines_more from i = map-range_with_len_more (λ (k : ℕ). line_of (from + k)) 0 i i (omega arith)

pub lines_front : (from i n : ℕ) → i ≤ n → IsPrefix (byte_lines from i) (byte_lines from n)
unfolding byte_lines
lines_front from i n inside =
    let all = byte_lines from n in
    let front = take-map-range_with_len (λ (k : ℕ). line_of (from + k)) 0 n i inside in
    (drop i all, sym (take-append-drop i all) ∙ ap (λ (xs : List ℕ). xs ++ drop i all) front)

pub lines_both : (from a n : ℕ) → byte_lines from a ++ byte_lines (from + a) n ≡ byte_lines from (a + n)
lines_both from a zero =
    ap (λ (xs : List ℕ). byte_lines from a ++ xs) (no_lines (from + a)) ∙ append-nil (byte_lines from a)
    ∙ ap (byte_lines from) (sym (add-zero a))
lines_both from a (suc n) =
    let there : from + a + n ≡ from + (a + n) = omega arith in
    let all : a + n + 1 ≡ a + suc n = omega arith in
    ap (λ (k : ℕ). byte_lines from a ++ byte_lines (from + a) k) (sym (add-one n))
    ∙ ap (λ (xs : List ℕ). byte_lines from a ++ xs) (lines_more (from + a) n)
    ∙ sym (append_assoc (byte_lines from a) (byte_lines (from + a) n) (line_of (from + a + n) ∷ []))
    ∙ ap (λ (xs : List ℕ). xs ++ line_of (from + a + n) ∷ []) (lines_both from a n)
    ∙ ap (λ (k : ℕ). byte_lines from (a + n) ++ line_of k ∷ []) there
    ∙ sym (lines_more from (a + n)) ∙ ap (byte_lines from) all

-- one byte more
pub one_more_line : (lines : List ℕ) (from i : ℕ) → lines ≡ byte_lines from i → lines ++ line_of (from + i) ∷ [] ≡ byte_lines from (i + 1)
one_more_line lines from i is = ap (λ (xs : List ℕ). xs ++ line_of (from + i) ∷ []) is ∙ sym (lines_more from i)

-- one byte more, and then a stop
pub last_line : (lines : List ℕ) (from i n : ℕ) → i + 1 ≤ n → lines ≡ byte_lines from i → IsPrefix (lines ++ line_of (from + i) ∷ []) (byte_lines from n)
last_line lines from i n inside is = rw (one_more_line lines from i is) (lines_front from (i + 1) n inside)

-- the bytes of a piece behind those before it
pub piece_lines : (first second : List ℕ) (from at n : ℕ) → from ≤ at → first ≡ byte_lines from (at - from) → second ≡ byte_lines at n → first ++ second ≡ byte_lines from (at + n - from)
piece_lines first second from at n begun is more =
    let here : at ≡ from + (at - from) = omega arith in
    let all : (at - from) + n ≡ at + n - from = omega arith in
    ap (λ (xs : List ℕ). xs ++ second) is ∙ ap (λ (xs : List ℕ). byte_lines from (at - from) ++ xs) more
    ∙ ap (λ (k : ℕ). byte_lines from (at - from) ++ byte_lines k n) here
    ∙ lines_both from (at - from) n ∙ ap (byte_lines from) all

-- and of a front part of a piece
pub piece_front : (first second : List ℕ) (from at n count : ℕ) → from ≤ at → at + n ≤ from + count → first ≡ byte_lines from (at - from) → IsPrefix second (byte_lines at n) → IsPrefix (first ++ second) (byte_lines from count)
piece_front first second from at n count begun inside is front =
    let whole : byte_lines from (at - from) ++ byte_lines at n ≡ byte_lines from (at + n - from) =
    piece_lines (byte_lines from (at - from)) (byte_lines at n) from at n begun refl refl in
    let part : IsPrefix (first ++ second) (byte_lines from (at + n - from)) =
    rw (is, sym whole) (prefix_behind (byte_lines from (at - from)) second (byte_lines at n) front) in
    prefix_prefix (first ++ second) (byte_lines from (at + n - from)) (byte_lines from count) part (lines_front from (at + n - from) count (omega arith))

-- The lines of an instruction

-- a fetch that stops, or a word that is no instruction
pub fetched_front : (lines : List ℕ) (state : State) → IsPrefix lines (line_of state.core.pc ∷ []) → IsPrefix lines (touched_lines state)
unfolding touched_lines
fetched_front lines state p = prefix_more lines (line_of state.core.pc ∷ []) _ p

-- a word that is one
pub touched_found : {A E : Type 0} → (result : Result A E) (first second : List ℕ) (state : State) (word : ℕ) (inst : Inst) → word ≡ fetched_word state → instruction_of word ≡ Some inst →
    first ≡ line_of state.core.pc ∷ [] → AreTouched result (data_lines inst.op inst state) second → AreTouched result (touched_lines state) (first ++ second)
unfolding touched_lines
touched_found {A} {E} result first second state word inst is found fetch more =
    let found' : instruction_of (fetched_word state) ≡ Some inst = ap instruction_of (sym is) ∙ found in
    rw found' (touched_behind result first (data_lines inst.op inst state) (line_of state.core.pc ∷ []) second fetch more)
