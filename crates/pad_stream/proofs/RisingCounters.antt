-- Counters that rise, and one more of them.
use Rattle.std.proofs.Common.{◌≡◌, ◌⊎◌, inl, inr, ℕ, ◌<◌, List, [], ◌∷◌, ◌++◌, length, Some, Contains, ap, sym, ◌∙◌, subst, arith, length-append, get_or}
use Rattle.std.specs.List.{slice_get}
use Rattle.std.proofs.lemmas.Option.{slice_get_within, slice_get-get_or}
use Rattle.std.proofs.lemmas.Bool.{cases_lt, cases_eq}
use Rattle.sec_base.specs.declared.counter.Counter.{Counter}
use Rattle.sec_base.proofs.Lists.{get_last, get_listed, get_front}
use Rattle.pad_stream.specs.Pads.{NoRepeat, IsBefore, AreRising}

-- an item of a list that is one longer: the last, or one of those before
pub get_more : {A : Type 0} (items : List A) (item found : A) (at : ℕ) → slice_get (items ++ item ∷ []) at ≡ Some found →
    ((at < length items) × (slice_get items at ≡ Some found)) ⊎ ((at ≡ length items) × (item ≡ found))
get_more items item found at is =
    let within : at < length (items ++ item ∷ []) = slice_get_within (items ++ item ∷ []) at found is in
    elim (cases_lt at (length items)) [
      | inl below ↦
          let there : slice_get items at ≡ Some (get_or items at item) = slice_get-get_or items at item below in
          inl (below, there ∙ sym (get_front items (item ∷ []) at (get_or items at item) there) ∙ is)
      | inr last ↦
          let here : at ≡ length items = omega (arith, length-append items (item ∷ [])) in
          let same : Some item ≡ Some found = sym (get_last items item) ∙ ap (slice_get (items ++ item ∷ [])) (sym here) ∙ is in
          inr (here, cc)
    ]

same_entry : (first second : ℕ × Counter) → first ≡ second → (first.0 ≡ second.0) × (first.1 ≡ second.1)
same_entry first second same = (ap (λ (p : ℕ × Counter). p.0) same, ap (λ (p : ℕ × Counter). p.1) same)

-- an entry more, behind all of its line
pub rising_more : (used : List (ℕ × Counter)) (line : ℕ) (counter : Counter) → AreRising used →
    ((before : Counter) → Contains used (line, before) → IsBefore before counter) → AreRising (used ++ (line, counter) ∷ [])
rising_more used line counter rising behind = record {
  rise = λ first second other was later order here there.
      elim (get_more used (line, counter) (other, later) second there) [
        | inl early ↦
            elim (get_more used (line, counter) (other, was) first here) [
              | inl before ↦ rising.rise first second other was later order before.1 early.1
              | inr last ↦ absurd (omega (arith, last.0, early.0))
            ]
        | inr late ↦
            let entry = same_entry (line, counter) (other, later) late.1 in
            elim (get_more used (line, counter) (other, was) first here) [
              | inl before ↦
                  let listed : Contains used (line, was) = subst (λ (l : ℕ). Contains used (l, was)) (sym entry.0) (get_listed used first (other, was) before.1) in
                  subst (λ (c : Counter). IsBefore was c) entry.1 (behind was listed)
              | inr last ↦ absurd (omega (arith, last.0, late.0))
            ]
      ];
}

pub rising_nothing : AreRising []
rising_nothing = record { rise = λ first second line counter later order here there. absurd (cc) }

-- no counter comes before itself
pub not_before : (counter : Counter) → IsBefore counter counter → ⊥
not_before counter (inl page) = omega arith
not_before counter (inr line) = omega (arith, line.1)

-- counters that rise don't repeat
pub rising_once : (used : List (ℕ × Counter)) → AreRising used → NoRepeat used
rising_once used rising = record {
  once = λ first second entry here there.
      elim (cases_lt first second) [
        | inl before ↦ absurd (not_before entry.1 (rising.rise first second entry.0 entry.1 entry.1 before here there))
        | inr after ↦
            elim (cases_eq first second) [
              | inl same ↦ same
              | inr differs ↦
                  let behind : second < first = omega arith in
                  absurd (not_before entry.1 (rising.rise second first entry.0 entry.1 entry.1 behind there here))
            ]
      ];
}
