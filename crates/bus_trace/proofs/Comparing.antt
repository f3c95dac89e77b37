-- What a sink that compares tells of what was written to it.
use Rattle.std.proofs.Common.{◌≡◌, ◌≤◌, ◌<◌, ◌↔◌, ℕ, ◌+◌, Bool, true, false, nat_eq, List, [], ◌∷◌, ◌++◌, length, take, drop, slice_index, Option, Some, None, refl, sym, ap, ◌∙◌, arith, append_assoc, inl, inr}
use Rattle.std.specs.Prelude.{IsTrue, is_none, is_some, not}
use Rattle.std.proofs.lemmas.Bool.Decides.{Decides-eqb}
use Rattle.std.proofs.lemmas.List.{append-nil, drop-take, drop_at, length-append, length-take-le, take-append-drop, take-take, take_all, take_at, take_more}
use Rattle.sec_base.specs.Prefix.{IsPrefix}
use Rattle.rv32_core.proofs.TouchedLines.{prefix_prefix}
use Rattle.bus_trace.specs.declared.comparison.Printed.{Printed}
use Rattle.bus_trace.specs.Comparison.{Agrees, IsPrinted, wrong_byte}
use Rattle.bus_trace.proofs.Prefixes.{prefix_either}

-- the test for a wrong byte
pub front_is : (wrong : Option ℕ) (front : Bool) → is_some wrong ≡ not front → front ≡ is_none wrong
front_is None true e = refl
front_is None false e = absurd (cc)
front_is (Some byte) true e = absurd (cc)
front_is (Some byte) false e = refl

cut_more : (expected : List ℕ) (agreed same : ℕ) → take (agreed + same) expected ≡ take agreed expected ++ take same (drop agreed expected)
cut_more expected agreed same =
    sym (take-append-drop agreed (take (agreed + same) expected))
    ∙ ap (λ (xs : List ℕ). xs ++ drop agreed (take (agreed + same) expected)) (take-take agreed (agreed + same) expected (omega arith))
    ∙ ap (λ (xs : List ℕ). take agreed expected ++ xs) (drop-take agreed same expected)

-- a piece that is the next bytes, and one whose last byte isn't
pub all_taken : (expected piece : List ℕ) (agreed same : ℕ) (wrong : Option ℕ) → wrong ≡ None → take same piece ≡ take same (drop agreed expected) →
    take (agreed + same) expected ++ wrong_byte wrong ≡ (take agreed expected ++ wrong_byte wrong) ++ take same piece
all_taken expected piece agreed same wrong none is =
    ap (λ (w : Option ℕ). take (agreed + same) expected ++ wrong_byte w) none
    ∙ append-nil (take (agreed + same) expected)
    ∙ cut_more expected agreed same
    ∙ ap (λ (xs : List ℕ). take agreed expected ++ xs) (sym is)
    ∙ ap (λ (xs : List ℕ). xs ++ take same piece) (sym (append-nil (take agreed expected)))
    ∙ ap (λ (w : Option ℕ). (take agreed expected ++ wrong_byte w) ++ take same piece) (sym none)

pub wrong_taken : (expected piece : List ℕ) (agreed same : ℕ) (wrong : Option ℕ) → wrong ≡ None → take same piece ≡ take same (drop agreed expected) → same < length piece →
    take (agreed + same) expected ++ slice_index piece same ∷ [] ≡ (take agreed expected ++ wrong_byte wrong) ++ take (same + 1) piece
wrong_taken expected piece agreed same wrong none is below =
    ap (λ (xs : List ℕ). xs ++ slice_index piece same ∷ []) (sym (append-nil (take (agreed + same) expected)) ∙ ap (λ (w : Option ℕ). take (agreed + same) expected ++ wrong_byte w) (sym none) ∙ all_taken expected piece agreed same wrong none is)
    ∙ append_assoc (take agreed expected ++ wrong_byte wrong) (take same piece) (slice_index piece same ∷ [])
    ∙ ap (λ (xs : List ℕ). (take agreed expected ++ wrong_byte wrong) ++ xs) (sym (take_more piece same 0 below))

cut_is_front : (expected : List ℕ) (agreed : ℕ) → IsPrefix (take agreed expected ++ []) expected
cut_is_front expected agreed =
    (drop agreed expected, sym (take-append-drop agreed expected) ∙ ap (λ (xs : List ℕ). xs ++ drop agreed expected) (sym (append-nil (take agreed expected))))

whole_cut : (expected : List ℕ) (agreed : ℕ) (wrong : Option ℕ) → agreed ≡ length expected → IsPrefix expected (take agreed expected ++ wrong_byte wrong)
whole_cut expected agreed wrong all =
    (wrong_byte wrong, ap (λ (xs : List ℕ). xs ++ wrong_byte wrong) (take_all agreed expected (omega (arith, all))))

cut_whole : (expected : List ℕ) (agreed : ℕ) (wrong : Option ℕ) → Agrees expected agreed wrong → IsPrefix expected (take agreed expected ++ wrong_byte wrong) → agreed ≡ length expected
cut_whole expected agreed None agrees p =
    let long : length (take agreed expected) ≡ agreed = length-take-le agreed expected agrees.within in
    let e : length (take agreed expected ++ []) ≡ length expected + length p.0 = ap length p.1 ∙ length-append expected p.0 in
    let f : length (take agreed expected ++ []) ≡ length (take agreed expected) = ap length (append-nil (take agreed expected)) in
    let within = agrees.within in
    omega (arith, long, e, f, within)
cut_whole expected agreed (Some byte) agrees p =
    let long : length (take agreed expected) ≡ agreed = length-take-le agreed expected agrees.within in
    let e : length (take agreed expected ++ byte ∷ []) ≡ length expected + length p.0 = ap length p.1 ∙ length-append expected p.0 in
    let f : length (take agreed expected ++ byte ∷ []) ≡ length (take agreed expected) + 1 = length-append (take agreed expected) (byte ∷ []) in
    let within = agrees.within in
    all_or_less p.0 refl within long e f
  where
    all_or_less : (rest : List ℕ) → rest ≡ p.0 → agreed ≤ length expected → length (take agreed expected) ≡ agreed →
        length (take agreed expected ++ byte ∷ []) ≡ length expected + length p.0 →
        length (take agreed expected ++ byte ∷ []) ≡ length (take agreed expected) + 1 → agreed ≡ length expected
    all_or_less [] none within long e f =
        let same : take agreed expected ++ byte ∷ [] ≡ expected = p.1 ∙ ap (λ (xs : List ℕ). expected ++ xs) (sym none) ∙ append-nil expected in
        absurd (agrees.apart byte refl ([], sym same ∙ sym (append-nil (take agreed expected ++ byte ∷ []))))
    all_or_less (x ∷ rest) more within long e f =
        let some : length p.0 ≡ length (x ∷ rest) = sym (ap length more) in omega (arith, within, long, e, f, some)

none_tells : (expected : List ℕ) (agreed : ℕ) (wrong : Option ℕ) (front : Bool) → Agrees expected agreed wrong → front ≡ is_none wrong →
    IsTrue front ↔ IsPrefix (take agreed expected ++ wrong_byte wrong) expected
none_tells expected agreed None front agrees is = (λ holds. cut_is_front expected agreed, λ p. is)
none_tells expected agreed (Some byte) front agrees is =
    (λ holds. let no : false ≡ true = sym is ∙ holds in absurd (cc), λ p. absurd (agrees.apart byte refl p))

pub compares : (expected : List ℕ) (agreed : ℕ) (wrong : Option ℕ) (front : Bool) → Agrees expected agreed wrong → front ≡ is_none wrong →
    IsPrinted expected (take agreed expected ++ wrong_byte wrong) (record { front = front; whole = nat_eq agreed (length expected) })
compares expected agreed wrong front agrees is = record {
  front = none_tells expected agreed wrong front agrees is;
  whole = (
    λ holds. whole_cut expected agreed wrong ((Decides-eqb agreed (length expected)).0 holds),
    λ p. (Decides-eqb agreed (length expected)).1 (cut_whole expected agreed wrong agrees p),
  );
}

-- where what was taken is no front part of what is expected, and more was printed, that compares as what was taken
pub compares_on : (expected taken printed : List ℕ) (tests : Printed) → ¬ IsPrefix taken expected → IsPrefix taken printed → IsPrinted expected taken tests → IsPrinted expected printed tests
compares_on expected taken printed tests apart on is = record {
  front = (λ holds. absurd (apart (is.front.0 holds)), λ p. absurd (apart (prefix_on p)));
  whole = (λ holds. on_prefix (is.whole.0 holds), λ p. is.whole.1 (back p));
}
  where
    prefix_on : IsPrefix printed expected → IsPrefix taken expected
    prefix_on p = prefix_prefix taken printed expected on p

    on_prefix : IsPrefix expected taken → IsPrefix expected printed
    on_prefix p = prefix_prefix expected taken printed p on

    back : IsPrefix expected printed → IsPrefix expected taken
    back p = elim (prefix_either expected taken printed p on) [ inl q ↦ q | inr q ↦ absurd (apart q) ]

-- a sink that counted a failure was given a wrong byte
pub failed_apart : (wrong : Option ℕ) (faults : ℕ) (front : Bool) → (wrong ≡ None → faults ≡ 0) → front ≡ is_none wrong → 0 < faults → ¬ IsTrue front
failed_apart None faults front quiet is some holds = let none : faults ≡ 0 = quiet refl in absurd (omega (arith, none, some))
failed_apart (Some byte) faults front quiet is some holds = let no : false ≡ true = sym is ∙ holds in absurd (cc)

-- what the sink tells, where it took more
pub told_more : (expected old more new : List ℕ) → new ≡ old ++ more → Some (length expected ∷ (expected ++ new)) ≡ Some ((length expected ∷ (expected ++ old)) ++ more)
told_more expected old more new is =
    ap (λ (xs : List ℕ). Some (length expected ∷ (expected ++ xs))) is
    ∙ ap (λ (xs : List ℕ). Some (length expected ∷ xs)) (sym (append_assoc expected old more))

-- it expects what it expected, and took what was printed
pub told_same : (expected expected' taken printed : List ℕ) → Some (length expected' ∷ (expected' ++ taken)) ≡ Some ((length expected ∷ (expected ++ [])) ++ printed) →
    (expected' ≡ expected) × (printed ≡ taken)
told_same expected expected' taken printed told =
    let long : length expected' ≡ length expected = cc (told) in
    let lists : expected' ++ taken ≡ (expected ++ []) ++ printed = cc (told) in
    let is : expected' ++ taken ≡ expected ++ printed = lists ∙ ap (λ (xs : List ℕ). xs ++ printed) (append-nil expected) in (
      sym (take_at expected' taken (length expected) long) ∙ ap (take (length expected)) is ∙ take_at expected printed (length expected) refl,
      sym (drop_at expected printed (length expected) refl) ∙ ap (drop (length expected)) (sym is) ∙ drop_at expected' taken (length expected) long,
    )
