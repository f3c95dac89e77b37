-- Bytes that are printed piece by piece.
use Rattle.std.proofs.Common.{◌≡◌, ◌+◌, ◌-◌, ◌<◌, ◌≤◌, ℕ, List, [], ◌++◌, length, take, drop, refl, sym, ◌∙◌, ap, subst, arith, append_assoc, Option, None, Some, Ok}
use Rattle.std.proofs.Math.Seq.{take-add}
use Rattle.std.proofs.lemmas.List.{append-nil, drop-drop, length-append, length-drop, length-take-le, take-append-drop}
use Rattle.sec_base.specs.Sink.{Gains, IsSilent, SinkState}
use Rattle.sec_base.specs.declared.stop.MemStop.{MemStop}
use Rattle.sec_base.proofs.Writes.{gains_both, written_after-nil}
use Rattle.rv32_core.specs.Outcome.{IsCutShort}
use Rattle.rv32_core.specs.Print.{StopsAs}
use Rattle.rv32_core.specs.Printing.{Digests, HoldsTaken, Prints}
use Rattle.rv32_core.specs.State.{memory_bytes}
use Rattle.rv32_core.specs.declared.taken.Taken.{Taken}

pub bytes_length : (memory : List ℕ) (from n : ℕ) → from + n ≤ length memory → length (memory_bytes memory from n) ≡ n
bytes_length memory from n inside =
    let behind = length-drop from memory in length-take-le n (drop from memory) (omega (arith, behind, inside))

pub bytes_parts : (memory : List ℕ) (from a n : ℕ) → memory_bytes memory from (a + n) ≡ memory_bytes memory from a ++ memory_bytes memory (from + a) n
bytes_parts memory from a n =
    take-add a n (drop from memory) ∙ ap (λ (x : List ℕ). take a (drop from memory) ++ take n x) (drop-drop a from memory)

-- two ranges that join
pub bytes_both : (memory : List ℕ) (from at n : ℕ) → from ≤ at → memory_bytes memory from (at - from) ++ memory_bytes memory at n ≡ memory_bytes memory from (at + n - from)
bytes_both memory from at n h =
    let here : from + (at - from) ≡ at = omega arith in
    let all : (at - from) + n ≡ at + n - from = omega arith in
    ap (λ (x : ℕ). memory_bytes memory from (at - from) ++ memory_bytes memory x n) (sym here)
    ∙ sym (bytes_parts memory from (at - from) n) ∙ ap (λ (x : ℕ). memory_bytes memory from x) all

-- a piece that is cut short, after all before it, is the whole that is cut short
pub cut_both : (memory printed piece : List ℕ) (from at n count : ℕ) → from ≤ at → at + n ≤ from + count → printed ≡ memory_bytes memory from (at - from) → IsCutShort piece (memory_bytes memory at n) → IsCutShort (printed ++ piece) (memory_bytes memory from count)
cut_both memory printed piece from at n count h inside is cut =
    let rest = from + count - (at + n) in
    let tail = memory_bytes memory (at + n) rest in
    let all : (at - from) + (n + rest) ≡ count = omega arith in
    let here : from + (at - from) ≡ at = omega arith in
    let whole : memory_bytes memory from count ≡ printed ++ (memory_bytes memory at n ++ tail) =
    ap (λ (x : ℕ). memory_bytes memory from x) (sym all) ∙ bytes_parts memory from (at - from) (n + rest)
    ∙ ap (λ (x : ℕ). memory_bytes memory from (at - from) ++ memory_bytes memory x (n + rest)) here
    ∙ ap (λ (x : List ℕ). memory_bytes memory from (at - from) ++ x) (bytes_parts memory at n rest)
    ∙ ap (λ (x : List ℕ). x ++ (memory_bytes memory at n ++ tail)) (sym is) in
    let front = cut.0 in (
      (
        front.0 ++ tail,
        whole ∙ ap (λ (x : List ℕ). printed ++ (x ++ tail)) front.1
            ∙ ap (λ (x : List ℕ). printed ++ x) (append_assoc piece front.0 tail) ∙ sym (append_assoc printed piece (front.0 ++ tail)),
      ),
      (let count_is = ap (λ (x : List ℕ). length x) whole in
          omega (
            arith,
            cut.1,
            count_is,
            length-append printed piece,
            length-append printed (memory_bytes memory at n ++ tail),
            length-append (memory_bytes memory at n) tail,
          )),
    )

-- what went well left the memory going
pub none_from_ok : (stopped : Option MemStop) (x : Unit {0}) → StopsAs stopped (Ok x) → stopped ≡ None
none_from_ok None x h = refl
none_from_ok (Some stop) x h = cc

-- What the sink takes, and what is digested and counted

pub digests_nothing : (taken : Taken) → Digests taken [] taken
digests_nothing taken held holds = subst (λ (bytes : List ℕ). HoldsTaken taken bytes) (sym (append-nil held)) holds

pub digests_nothing_as : (taken taken' : Taken) → taken' ≡ taken → Digests taken [] taken'
digests_nothing_as taken taken' same = subst (λ (d : Taken). Digests taken [] d) (sym same) (digests_nothing taken)

pub digests_both : (first more : List ℕ) (taken taken' taken'' : Taken) → Digests taken first taken' → Digests taken' more taken'' → Digests taken (first ++ more) taken''
digests_both first more taken taken' taken'' before after held holds =
    subst (λ (bytes : List ℕ). HoldsTaken taken'' bytes) (append_assoc held first more) (after (held ++ first) (before held holds))

pub prints_nothing : (out : SinkState) (taken : Taken) → Prints out taken [] out taken
prints_nothing out taken = (sym (written_after-nil out.written), digests_nothing taken)

pub prints_nothing_as : (out : SinkState) (taken taken' : Taken) → taken' ≡ taken → Prints out taken [] out taken'
prints_nothing_as out taken taken' same = subst (λ (d : Taken). Prints out taken [] out d) (sym same) (prints_nothing out taken)

-- bytes, and then more
pub prints_both : (first more : List ℕ) (old mid new : SinkState) (taken taken' taken'' : Taken) → Prints old taken first mid taken' → Prints mid taken' more new taken'' → Prints old taken (first ++ more) new taken''
prints_both first more old mid new taken taken' taken'' before after = (
  gains_both first more old mid new before.0 after.0,
  λ held holds.
      subst (λ (bytes : List ℕ). HoldsTaken taken'' bytes) (append_assoc held first more)
      (after.1 (held ++ first) (before.1 held holds)),
)

-- up to the rest, a piece was printed
pub record IsPrintedUpTo (old new : SinkState) (taken taken' : Taken) (whole rest : List ℕ) : Type 0 where
  pub front : List ℕ
  pub parts : whole ≡ front ++ rest
  pub prints : Prints old taken front new taken'
  pub faults : old.faults ≤ new.faults

pub piece_begins : (old : SinkState) (taken : Taken) (whole : List ℕ) → IsPrintedUpTo old old taken taken whole whole
piece_begins old taken whole = record { front = []; parts = refl; prints = prints_nothing old taken; faults = omega arith }

pub piece_goes_on : (old mid new : SinkState) (taken taken' taken'' : Taken) (whole rest : List ℕ) (n : ℕ) → IsPrintedUpTo old mid taken taken' whole rest → Gains mid (take n rest) new → Digests taken' (take n rest) taken'' → mid.faults ≤ new.faults → IsPrintedUpTo old new taken taken'' whole (drop n rest)
piece_goes_on old mid new taken taken' taken'' whole rest n before gains digests faults =
    let was = before.faults in
    record {
      front = before.front ++ take n rest;
      parts = before.parts ∙ ap (λ (xs : List ℕ). before.front ++ xs) (sym (take-append-drop n rest)) ∙ sym (append_assoc before.front (take n rest) (drop n rest));
      prints = prints_both before.front (take n rest) old mid new taken taken' taken'' before.prints (gains, digests);
      faults = omega arith;
    }

-- the sink stopped, where something was left
pub piece_stopped : (old mid new : SinkState) (taken taken' : Taken) (whole rest : List ℕ) → IsPrintedUpTo old mid taken taken' whole rest → IsSilent mid new → 0 < length rest → (printed : List ℕ) × Prints old taken printed new taken' × IsCutShort printed whole
piece_stopped old mid new taken taken' whole rest before silent left = (
  before.front,
  (silent ∙ before.prints.0, before.prints.1),
  (
    (rest, before.parts),
    (let count_is = ap (λ (x : List ℕ). length x) before.parts in
        omega (arith, left, count_is, length-append before.front rest)),
  ),
)

-- nothing is left
pub piece_done : (old new : SinkState) (taken taken' : Taken) (whole rest : List ℕ) → IsPrintedUpTo old new taken taken' whole rest → rest ≡ [] → (printed : List ℕ) × Prints old taken printed new taken' × (printed ≡ whole)
piece_done old new taken taken' whole rest before none =
    (before.front, before.prints, sym (before.parts ∙ ap (λ (xs : List ℕ). before.front ++ xs) none ∙ append-nil before.front))
