-- What the messages of a write say: that of the written line its new bytes, and that of another line what the line's last
-- message before it says.
use Rattle.std.proofs.Common.{◌≡◌, ◌≢◌, ◌⊎◌, inl, inr, ℕ, zero, suc, ◌+◌, ◌-◌, ◌≤◌, List, [], ◌∷◌, ◌++◌, length, map, take, Option, Some, None, Contains, refl, ap, sym, ◌∙◌, subst, append_assoc, arith}
use Rattle.std.specs.List.{slice_get}
use Rattle.std.proofs.lemmas.Bool.{cases_eq}
use Rattle.std.proofs.lemmas.List.{append-nil}
use Rattle.std.proofs.lemmas.Option.{same_Some}
use Rattle.sec_base.specs.declared.counter.Counter.{Counter}
use Rattle.sec_base.specs.declared.message.Message.{Message}
use Rattle.sec_base.specs.declared.message.Message.TheVariants.{Line, Node}
use Rattle.sec_base.specs.declared.stop.MemStop.{MemStop}
use Rattle.sec_base.specs.LastMessage.{data_pairs, data_part, last_data}
use Rattle.sec_base.proofs.LastMessages.{last_of_other}
use Rattle.cache_set.proofs.Sets.{same_or_not}
use Rattle.pad_stream.specs.Pad.{cipher_of}
use Rattle.pad_stream.specs.Pads.{AreRising, IsBefore}
use Rattle.pad_stream.proofs.RisingCounters.{not_before}
use Rattle.checked_bus.proofs.LineMessages.{last_data-other, last_data-same}
use Rattle.counter_cache.specs.Counters.{CountersView}
use Rattle.page_reencrypt.specs.Contents.{bytes_of, line_bytes, lines_encrypted}
use Rattle.page_reencrypt.specs.Outside.{IsWrite, MemoryTerms, OutsideView}
use Rattle.page_reencrypt.proofs.Entries.{encrypted_line, taken}
use Rattle.page_reencrypt.proofs.RisingPairs.{Contains-skip}
use Rattle.page_reencrypt.proofs.Sealing.{listed_one}

-- Places behind a front part of a list

get_back : {A : Type 0} (front more : List A) (at k : ℕ) → at ≡ length front + k → slice_get (front ++ more) at ≡ slice_get more k
get_back [] more at k e = ap (slice_get more) (omega (arith, e))
get_back (x ∷ front) more zero k e = absurd (omega (arith, e))
get_back (x ∷ front) more (suc at) k e = get_back front more at k (omega (arith, e))

take_back : {A : Type 0} (front more : List A) (at k : ℕ) → at ≡ length front + k → take at (front ++ more) ≡ front ++ take k more
take_back [] more at k e = ap (λ (n : ℕ). take n more) (omega (arith, e))
take_back (x ∷ front) more zero k e = absurd (omega (arith, e))
take_back {A} (x ∷ front) more (suc at) k e = ap (λ (items : List A). x ∷ items) (take_back front more at k (omega (arith, e)))

-- Lines and counters, each line once

abbrev Once : List (ℕ × Counter) → Type 0
Once [] = Unit {0}
Once (pair ∷ pairs) = ((k : ℕ) (later : Counter) → slice_get pairs k ≢ Some (pair.0, later)) × Once pairs

rising_back : (front pairs : List (ℕ × Counter)) → AreRising (front ++ pairs) → AreRising pairs
rising_back [] pairs rising = rising
rising_back (entry ∷ front) pairs rising = rising_back front pairs (record {
  rise = λ first second line counter later order here there.
      rising.rise (suc first) (suc second) line counter later (omega (arith, order)) here there;
})

-- a pair of lines that have one counter
mapped_at : (counter : Counter) (lines : List ℕ) (k line : ℕ) (later : Counter) → slice_get {X = ℕ × Counter} (map (λ at. (at, counter)) lines) k ≡ Some (line, later) →
    Contains lines line × (later ≡ counter)
mapped_at counter [] k line later there = absurd (cc)
mapped_at counter (x ∷ lines) zero line later there =
    let first : ℕ × Counter = (x, counter) in
    let second : ℕ × Counter = (line, later) in
    let same : first ≡ second = same_Some first second there in
    ((zero, omega arith, ap (λ (p : ℕ × Counter). p.0) same), sym (ap (λ (p : ℕ × Counter). p.1) same))
mapped_at counter (x ∷ lines) (suc k) line later there =
    let more = mapped_at counter lines k line later there in
    (Contains-skip x lines line more.0, more.1)

once_by : (counter : Counter) (lines : List ℕ) → AreRising (map (λ at. (at, counter)) lines) → Once (map (λ at. (at, counter)) lines)
once_by counter [] rising = tt
once_by counter (line ∷ lines) rising = (
  λ k later there.
      not_before counter (subst (IsBefore counter) (mapped_at counter lines k line later there).1 (rising.rise 0 (suc k) line counter later (omega arith) refl there)),
  once_by counter lines (rising_back ((line, counter) ∷ []) (map (λ at. (at, counter)) lines) rising),
)

-- Messages of lines

-- a message's line and counter are among those of all
pair_at : (more : List Message) (k line : ℕ) (counter : Counter) (cipher : List ℕ) → slice_get more k ≡ Some (Line line counter cipher) →
    (j : ℕ) × (slice_get (data_pairs more) j ≡ Some (line, counter))
unfolding data_pairs
pair_at [] k line counter cipher there = absurd (cc)
pair_at (Node level index block ∷ more) zero line counter cipher there = absurd (cc)
pair_at (Node level index block ∷ more) (suc k) line counter cipher there = pair_at more k line counter cipher there
pair_at (Line other later bytes ∷ more) zero line counter cipher there =
    let lines : other ≡ line = cc in
    let counters : later ≡ counter = cc in
    (zero, ap (λ (l : ℕ). Some (l, later)) lines ∙ ap (λ (c : Counter). Some (line, c)) counters)
pair_at (Line other later bytes ∷ more) (suc k) line counter cipher there =
    let found = pair_at more k line counter cipher there in
    (suc found.0, found.1)

-- messages of other lines are not the line's last
last_data-apart : (made more : List Message) (line : ℕ) → ((k : ℕ) (counter : Counter) → slice_get (data_pairs more) k ≢ Some (line, counter)) →
    last_data line (made ++ more) ≡ last_data line made
unfolding data_pairs
last_data-apart made [] line none = ap (last_data line) (append-nil made)
last_data-apart made (Node level index block ∷ more) line none =
    ap (last_data line) (sym (append_assoc made (Node level index block ∷ []) more))
    ∙ last_data-apart (made ++ Node level index block ∷ []) more line none
    ∙ last_of_other (data_part line) made (Node level index block) refl
last_data-apart made (Line other counter cipher ∷ more) line none =
    ap (last_data line) (sym (append_assoc made (Line other counter cipher ∷ []) more))
    ∙ last_data-apart (made ++ Line other counter cipher ∷ []) more line (λ k later is. none (suc k) later is)
    ∙ last_data-other made other line counter cipher (λ (same : line ≡ other). none zero counter (ap (λ (l : ℕ). Some (l, counter)) (sym same)))

-- where each line has one message, it is the line's last, and none before it is
alone : (made more : List Message) (k line : ℕ) (counter : Counter) (cipher : List ℕ) → Once (data_pairs more) → slice_get more k ≡ Some (Line line counter cipher) →
    (last_data line (made ++ more) ≡ Some (counter, cipher)) × (last_data line (made ++ take k more) ≡ last_data line made)
unfolding data_pairs
alone made [] k line counter cipher once there = absurd (cc)
alone made (Node level index block ∷ more) zero line counter cipher once there = absurd (cc)
alone made (Node level index block ∷ more) (suc k) line counter cipher once there =
    let front : List Message = made ++ Node level index block ∷ [] in
    let rest = alone front more k line counter cipher once there in (
      ap (last_data line) (sym (append_assoc made (Node level index block ∷ []) more)) ∙ rest.0,
      ap (last_data line) (sym (append_assoc made (Node level index block ∷ []) (take k more))) ∙ rest.1
          ∙ last_of_other (data_part line) made (Node level index block) refl,
    )
alone made (Line other later bytes ∷ more) zero line counter cipher once there =
    let same : Line other later bytes ≡ Line line counter cipher = same_Some (Line other later bytes) (Line line counter cipher) there in
    let lines : other ≡ line = cc in (
      ap (last_data line) (sym (append_assoc made (Line other later bytes ∷ []) more))
          ∙ last_data-apart (made ++ Line other later bytes ∷ []) more line
          (subst (λ (l : ℕ). (k : ℕ) (counter : Counter) → slice_get (data_pairs more) k ≢ Some (l, counter)) lines once.0)
          ∙ ap (λ (m : Message). last_data line (made ++ m ∷ [])) same
          ∙ last_data-same made line counter cipher,
      ap (last_data line) (append-nil made),
    )
alone made (Line other later bytes ∷ more) (suc k) line counter cipher once there =
    let rest = alone (made ++ Line other later bytes ∷ []) more k line counter cipher once.1 there in
    let pair = pair_at more k line counter cipher there in (
      ap (last_data line) (sym (append_assoc made (Line other later bytes ∷ []) more)) ∙ rest.0,
      ap (last_data line) (sym (append_assoc made (Line other later bytes ∷ []) (take k more))) ∙ rest.1
          ∙ last_data-other made other line later bytes (λ (same : line ≡ other). once.0 pair.0 counter (pair.1 ∙ ap (λ (l : ℕ). Some (l, counter)) same)),
    )

-- where no line's message was made, none is there
pub no_line_at : (made more made' : List Message) (at line : ℕ) (counter : Counter) (cipher : List ℕ) → made' ≡ made ++ more → data_pairs more ≡ [] →
    length made ≤ at → slice_get made' at ≢ Some (Line line counter cipher)
no_line_at made more made' at line counter cipher is none low there =
    let pair = pair_at more (at - length made) line counter cipher
    (sym (get_back made more at (at - length made) (omega (arith, low))) ∙ ap (λ (xs : List Message). slice_get xs at) (sym is) ∙ there) in
    let nothing : slice_get {X = ℕ × Counter} [] pair.0 ≡ Some (line, counter) = ap (λ (xs : List (ℕ × Counter)). slice_get xs pair.0) (sym none) ∙ pair.1 in
    absurd (cc)

-- Each message of a line that a write made says the new bytes of the written line, or what its line's last message before it
-- says.
pub written_says : {B T : Type 0} (terms : MemoryTerms B) (limit line : ℕ) (bytes : List ℕ) (old : OutsideView B T) (counters : CountersView) (new : OutsideView B T)
    (counters' : CountersView) (stop : Option MemStop) → IsWrite terms limit line bytes old counters new counters' stop → new.engine.evidence ≡ None →
    (at other : ℕ) (counter : Counter) (cipher : List ℕ) → length old.engine.made ≤ at → slice_get new.engine.made at ≡ Some (Line other counter cipher) →
    ((other ≡ line) × (cipher_of old.pads.key other counter cipher ≡ bytes))
    ⊎ ((counter.line ≡ 0) × (cipher_of old.pads.key other counter cipher ≡ line_bytes old.pads.key (take at new.engine.made) other))
written_says terms limit line bytes old counters new counters' stop w quiet at other counter cipher low there =
    let key : List ℕ = old.pads.key in
    let more : List Message = w.step.more in
    let k : ℕ = at - length old.engine.made in
    let behind : at ≡ length old.engine.made + k = omega (arith, low) in
    let lines : List ℕ = take w.count (lines_encrypted w.counter line) in
    let here : slice_get more k ≡ Some (Line other counter cipher) =
    sym (get_back old.engine.made more at k behind) ∙ ap (λ (xs : List Message). slice_get xs at) (sym w.step.made) ∙ there in
    let once : Once (data_pairs more) =
    subst Once (sym w.pairs) (once_by w.counter lines (rising_back old.pads.used (map (λ at. (at, w.counter)) lines) (subst AreRising w.entries (w.risen quiet)))) in
    let said = alone old.engine.made more k other counter cipher once here in
    let now : line_bytes key new.engine.made other ≡ cipher_of key other counter cipher =
    ap (bytes_of key other) (ap (last_data other) w.step.made ∙ said.0) in
    let pair = pair_at more k other counter cipher here in
    let entry = mapped_at w.counter lines pair.0 other counter (ap (λ (xs : List (ℕ × Counter)). slice_get xs pair.0) (sym w.pairs) ∙ pair.1) in
    let listed : Contains lines other = entry.0 in
    elim (same_or_not other line) [
      | inl same ↦
          inl (same, sym now ∙ ap (line_bytes key new.engine.made) same ∙ w.own_bytes (subst (Contains lines) same listed))
      | inr apart ↦
          inr (
            elim (cases_eq w.counter.line 0) [
              | inl anew ↦ ap (λ (c : Counter). c.line) entry.1 ∙ anew
              | inr alone_there ↦
                  let one : Contains (line ∷ []) other =
                  subst (λ (xs : List ℕ). Contains xs other) (encrypted_line w.counter line alone_there) (taken w.count (lines_encrypted w.counter line) other listed) in
                  absurd (apart (sym (listed_one line other one)))
            ],
            sym now ∙ w.others quiet other apart
                ∙ sym (ap (bytes_of key other) (ap (λ (xs : List Message). last_data other (take at xs)) w.step.made
                ∙ ap (last_data other) (take_back old.engine.made more at k behind) ∙ said.1)),
          )
    ]
