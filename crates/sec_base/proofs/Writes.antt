-- A piece that is written in parts.
use Rattle.std.proofs.Common.{◌≡◌, ◌≤◌, ℕ, List, [], ◌++◌, take, drop, refl, sym, ap, ◌∙◌, Option, Some, None, arith, append_assoc}
use Rattle.std.proofs.lemmas.List.{append-nil, take-append-drop}
use Rattle.sec_base.specs.Count.{Rose}
use Rattle.sec_base.specs.Prefix.{IsPrefix}
use Rattle.sec_base.specs.Sink.{SinkState, written_after, Gains, IsSilent}

pub written_after-append : (a b : List ℕ) (o : Option (List ℕ)) → written_after (a ++ b) o ≡ written_after b (written_after a o)
written_after-append a b None = refl
written_after-append a b (Some w) = ap (λ (x : List ℕ). Some x) (sym (append_assoc w a b))

pub written_after-nil : (o : Option (List ℕ)) → written_after [] o ≡ o
written_after-nil None = refl
written_after-nil (Some w) = ap (λ (x : List ℕ). Some x) (append-nil w)

-- a sink that gained bytes, and then more
pub gains_both : (first more : List ℕ) (old mid new : SinkState) → Gains old first mid → Gains mid more new → Gains old (first ++ more) new
gains_both first more old mid new gains later = later ∙ ap (written_after more) gains ∙ sym (written_after-append first more old.written)

-- up to the rest, the piece was written
pub record IsPart (old new : SinkState) (whole rest : List ℕ) : Type 0 where
  pub front : List ℕ
  pub parts : whole ≡ front ++ rest
  pub gains : Gains old front new
  pub faults : old.faults ≤ new.faults

pub rose_after : (a b c : ℕ) → a ≤ b → Rose b c → Rose a c
rose_after a b c h r = omega arith

pub part_begins : (old : SinkState) (whole : List ℕ) → IsPart old old whole whole
part_begins old whole = record { front = []; parts = refl; gains = sym (written_after-nil old.written); faults = omega arith }

pub part_goes_on : (old mid new : SinkState) (whole rest : List ℕ) (n : ℕ) → IsPart old mid whole rest → Gains mid (take n rest) new → mid.faults ≤ new.faults → IsPart old new whole (drop n rest)
part_goes_on old mid new whole rest n p gains faults = record {
  front = p.front ++ take n rest;
  parts = p.parts ∙ ap (λ (x : List ℕ). p.front ++ x) (sym (take-append-drop n rest)) ∙ sym (append_assoc p.front (take n rest) (drop n rest));
  gains = gains_both p.front (take n rest) old mid new p.gains gains;
  faults = omega arith;
}

pub part_stopped : (old mid new : SinkState) (whole rest : List ℕ) → IsPart old mid whole rest → IsSilent mid new → (front : List ℕ) × IsPrefix front whole × Gains old front new
part_stopped old mid new whole rest p silent = (p.front, (rest, p.parts), silent ∙ p.gains)

pub part_done : (old new : SinkState) (whole rest : List ℕ) → rest ≡ [] → IsPart old new whole rest → Gains old whole new
part_done old new whole rest e p =
    p.gains ∙ ap (λ (x : List ℕ). written_after x old.written) (sym (p.parts ∙ ap (λ (x : List ℕ). p.front ++ x) e ∙ append-nil p.front))
