-- A text that is written a line at a time.
use Rattle.std.proofs.Common.{◌≡◌, ◌≤◌, ℕ, List, ◌++◌, sym, ap, subst, ◌∙◌, Err, arith, append_assoc}
use Rattle.sec_base.specs.Count.{Rose}
use Rattle.sec_base.specs.Sink.{SinkState, written_after, Gains}
use Rattle.sec_base.specs.declared.sink.SinkStop.{SinkStop}
use Rattle.sec_base.specs.declared.sink.SinkStop.TheVariants.{Failed, NoMemory}
use Rattle.sec_base.proofs.Writes.{IsPart, written_after-append}
use Rattle.sec_base.specs.Sink.{GainsFront, IsWritten}

-- the next line was written
line_written : (old mid new : SinkState) (whole line rest : List ℕ) → IsPart old mid whole (line ++ rest) → Gains mid line new → mid.faults ≤ new.faults → IsPart old new whole rest
line_written old mid new whole line rest part gains grows = record {
  front = part.front ++ line;
  parts = part.parts ∙ sym (append_assoc part.front line rest);
  gains = gains ∙ ap (written_after line) part.gains ∙ sym (written_after-append part.front line old.written);
  faults = omega arith;
}

-- a front part of the next line is one of the whole
front_of_whole : (old mid new : SinkState) (whole line rest : List ℕ) → IsPart old mid whole (line ++ rest) → GainsFront mid line new → GainsFront old whole new
front_of_whole old mid new whole line rest part written =
    (part.front ++ written.0, ((written.1).0 ++ rest, parts), gains)
  where
    parts : whole ≡ (part.front ++ written.0) ++ ((written.1).0 ++ rest)
    parts = part.parts ∙ rw (written.1).1 (simp append_assoc)

    gains : Gains old (part.front ++ written.0) new
    gains = written.2 ∙ ap (written_after written.0) part.gains ∙ sym (written_after-append part.front written.0 old.written)

-- it stopped in the next line
line_stopped : (old mid new : SinkState) (whole line rest : List ℕ) (stop : SinkStop) → IsPart old mid whole (line ++ rest) → IsWritten line mid new (Err stop) → IsWritten whole old new (Err stop)
line_stopped old mid new whole line rest Failed part written =
    (front_of_whole old mid new whole line rest part written.0, let risen : Rose mid.faults new.faults = written.1 in let grown : old.faults ≤ mid.faults = part.faults in omega arith)
line_stopped old mid new whole line rest NoMemory part written = front_of_whole old mid new whole line rest part written

-- the first line of the text that was left to write was written
pub first_written : (old mid new : SinkState) (whole text line rest : List ℕ) → text ≡ line ++ rest → IsPart old mid whole text → Gains mid line new → mid.faults ≤ new.faults → IsPart old new whole rest
first_written old mid new whole text line rest same part gains grows = line_written old mid new whole line rest (subst (λ (x : List ℕ). IsPart old mid whole x) same part) gains grows

-- it stopped in that line
pub first_stopped : (old mid new : SinkState) (whole text line rest : List ℕ) (stop : SinkStop) → text ≡ line ++ rest → IsPart old mid whole text → IsWritten line mid new (Err stop) → IsWritten whole old new (Err stop)
first_stopped old mid new whole text line rest stop same part written = line_stopped old mid new whole line rest stop (subst (λ (x : List ℕ). IsPart old mid whole x) same part) written
