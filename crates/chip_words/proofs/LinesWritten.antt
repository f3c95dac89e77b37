-- A text of lines, of which one may not have been written.
use Rattle.std.proofs.Common.{◌≡◌, ◌<◌, ◌≤◌, ◌+◌, ℕ, List, [], ◌++◌, length, drop, get_or, map, refl, sym, ap, ◌∙◌, subst, Result, Ok, Err, arith, append_assoc}
use Rattle.std.specs.List.{concat}
use Rattle.std.proofs.lemmas.List.{drop_more, drop_all}
use Rattle.std.proofs.lemmas.List.Folds.{concat-append}
use Rattle.sec_base.specs.Count.{Rose}
use Rattle.sec_base.specs.Sink.{SinkState, Gains, GainsFront, IsWritten}
use Rattle.sec_base.specs.declared.sink.SinkStop.{SinkStop}
use Rattle.sec_base.specs.declared.sink.SinkStop.TheVariants.{Failed, NoMemory}
use Rattle.sec_base.proofs.Writes.{gains_both, written_after-nil}

-- a front part of the first line is one of the text
front_longer : (first others : List ℕ) (old new : SinkState) → GainsFront old first new → GainsFront old (first ++ others) new
front_longer first others old new front =
    (front.0, ((front.1).0 ++ others, ap (λ (x : List ℕ). x ++ others) (front.1).1 ∙ append_assoc front.0 (front.1).0 others), front.2)

-- a front part of the others, behind the first line, is one of the text
front_later : (first others : List ℕ) (old mid new : SinkState) → Gains old first mid → GainsFront mid others new → GainsFront old (first ++ others) new
front_later first others old mid new gains front =
    (first ++ front.0, ((front.1).0, parts), gains_both first front.0 old mid new gains front.2)
  where
    parts : first ++ others ≡ (first ++ front.0) ++ (front.1).0
    parts = ap (λ (x : List ℕ). first ++ x) (front.1).1 ∙ sym (append_assoc first front.0 (front.1).0)

-- it stopped in the first line
pub told_first : (piece first others : List ℕ) (old new : SinkState) (stop : SinkStop) → piece ≡ first → IsWritten piece old new (Err stop) → IsWritten (first ++ others) old new (Err stop)
told_first piece first others old new Failed same told =
    rw (← same) (front_longer piece others old new told.0, told.1)
told_first piece first others old new NoMemory same told = rw (← same) (front_longer piece others old new told)

-- the first line was told, and then the others as far as the answer says
pub told_then : (piece first others : List ℕ) (old mid new : SinkState) (telling : Result (Unit {0}) SinkStop) → piece ≡ first → Gains old piece mid → old.faults ≤ mid.faults → IsWritten others mid new telling → IsWritten (first ++ others) old new telling
told_then piece first others old mid new (Ok _) same gains grows told =
    rw (← same) (gains_both piece others old mid new gains told)
told_then piece first others old mid new (Err Failed) same gains grows told =
    rw (← same) (front_later piece others old mid new gains told.0, let risen : Rose mid.faults new.faults = told.1 in omega arith)
told_then piece first others old mid new (Err NoMemory) same gains grows told =
    rw (← same) (front_later piece others old mid new gains told)

-- the last line was told as far as the answer says
pub told_last : (piece last : List ℕ) (old new : SinkState) (telling : Result (Unit {0}) SinkStop) → piece ≡ last → IsWritten piece old new telling → IsWritten last old new telling
told_last piece last old new telling same told = subst (λ (text : List ℕ). IsWritten text old new telling) same told

-- nothing was told: out of memory
pub told_nothing : (text : List ℕ) (sink : SinkState) → IsWritten text sink sink (Err NoMemory)
told_nothing text sink = ([], (text, refl), sym (written_after-nil sink.written))

-- there was nothing to tell
pub nothing_to_tell : (sink : SinkState) → Gains sink [] sink
nothing_to_tell sink = sym (written_after-nil sink.written)

-- ---- lists of lines

-- it stopped in the first lines
pub stopped_in : (pieces first others : List (List ℕ)) (old new : SinkState) (stop : SinkStop) → pieces ≡ first → IsWritten (concat pieces) old new (Err stop) → IsWritten (concat (first ++ others)) old new (Err stop)
stopped_in pieces first others old new stop same told =
    subst (λ (text : List ℕ). IsWritten text old new (Err stop)) (sym (concat-append first others))
    (told_first (concat pieces) (concat first) (concat others) old new stop (ap concat same) told)

-- the first lines were told, and then the others as far as the answer says
pub told_both : (pieces first others : List (List ℕ)) (old mid new : SinkState) (telling : Result (Unit {0}) SinkStop) → pieces ≡ first → Gains old (concat pieces) mid → old.faults ≤ mid.faults → IsWritten (concat others) mid new telling → IsWritten (concat (first ++ others)) old new telling
told_both pieces first others old mid new telling same gains grows told =
    rw (concat-append first others) (told_then (concat pieces) (concat first) (concat others) old mid new telling (ap concat same) gains grows told)

-- the text of the lines from a number on is the next one's, and then that of the others
pub line_next : {S : Type 0} (bytes_of : S → List ℕ) (items lines : List S) (i : ℕ) (line : S) (piece : List ℕ) → items ≡ lines → i < length items → line ≡ get_or items i line → piece ≡ bytes_of line →
    concat (map bytes_of (drop i lines)) ≡ piece ++ concat (map bytes_of (drop (i + 1) lines))
line_next {S} bytes_of items lines i line piece all below item same =
    ap (λ (l : List S). concat (map bytes_of (drop i l))) (sym all)
    ∙ ap (λ (l : List S). concat (map bytes_of l)) (drop_more items i line below)
    ∙ ap (λ (s : S). bytes_of s ++ concat (map bytes_of (drop (i + 1) items))) (sym item)
    ∙ ap (λ (p : List ℕ). p ++ concat (map bytes_of (drop (i + 1) items))) (sym same)
    ∙ ap (λ (l : List S). piece ++ concat (map bytes_of (drop (i + 1) l))) all

pub no_line_left : {S : Type 0} (bytes_of : S → List ℕ) (items lines : List S) (i : ℕ) → items ≡ lines → length items ≤ i → concat (map bytes_of (drop i lines)) ≡ []
no_line_left {S} bytes_of items lines i all past =
    ap (λ (l : List S). concat (map bytes_of (drop i l))) (sym all)
    ∙ ap (λ (l : List S). concat (map bytes_of l)) (drop_all i items past)

-- ---- a text that is written a line at a time

-- as far as what is left of the text is written, the whole is
abbrev pub GoesOn : SinkState → SinkState → List ℕ → List ℕ → Type 0
GoesOn old mid whole left = (new : SinkState) (answer : Result (Unit {0}) SinkStop) → IsWritten left mid new answer → IsWritten whole old new answer

-- it stopped in the next line
pub next_stopped : (old mid new : SinkState) (whole left line rest : List ℕ) (stop : SinkStop) → left ≡ line ++ rest → GoesOn old mid whole left → IsWritten line mid new (Err stop) → IsWritten whole old new (Err stop)
next_stopped old mid new whole left line rest stop same goes_on told =
    goes_on new (Err stop) (subst (λ (text : List ℕ). IsWritten text mid new (Err stop)) (sym same) (told_first line line rest mid new stop refl told))

-- the next line was written
pub next_written : (old mid next : SinkState) (whole left line rest : List ℕ) → left ≡ line ++ rest → GoesOn old mid whole left → Gains mid line next → mid.faults ≤ next.faults → GoesOn old next whole rest
next_written old mid next whole left line rest same goes_on gains grows new answer told =
    goes_on new answer (subst (λ (text : List ℕ). IsWritten text mid new answer) (sym same) (told_then line line rest mid next new answer refl gains grows told))

-- no line was left
pub all_written : (old new : SinkState) (whole left : List ℕ) → left ≡ [] → GoesOn old new whole left → Gains old whole new
all_written old new whole left none goes_on =
    goes_on new (Ok tt) (subst (λ (text : List ℕ). Gains new text new) (sym none) (nothing_to_tell new))
