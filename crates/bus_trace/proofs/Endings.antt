-- How a run can end that retired so many instructions, by the number of the ending.
use Rattle.std.proofs.Common.{◌≡◌, ◌<◌, ◌↔◌, ◌⊎◌, ℕ, ◌+◌, Bool, true, false, Option, Some, None, refl, sym, ap, subst, ◌∙◌, arith, inl, inr}
use Rattle.std.specs.Prelude.{IsTrue, is_some}
use Rattle.sec_base.specs.declared.ending.Cause.{Cause}
use Rattle.sec_base.specs.declared.ending.Ending.{Ending}
use Rattle.sec_base.specs.declared.ending.Ending.TheVariants.{Halted, Trapped, OutOfSteps, Tampered, Spent, WriteFault, NoMemory}
use Rattle.sec_base.specs.declared.place.Place.{Place}
use Rattle.sec_base.specs.declared.place.Place.TheVariants.{Line}
use Rattle.attest_report.specs.ToldEnding.{ending_and_code}
use Rattle.rv32_core.specs.Follows.{EndsAs, IsWhole}
use Rattle.rv32_core.specs.Machine.{Machine, plain}
use Rattle.bus_trace.specs.declared.trace.Trace.{Trace}
use Rattle.bus_trace.specs.FirstFalse.{first_false}
use Rattle.bus_trace.specs.Judge.{CanEnd}
use Rattle.bus_trace.proofs.Stands.{exit_or_none, next_traps, trapped_next}

-- which ending a number and a code tell

abbrev number_of : Option (ℕ × ℕ) → ℕ
number_of None = 0
number_of (Some told) = told.0

abbrev code_of : Option (ℕ × ℕ) → ℕ
code_of None = 0
code_of (Some told) = told.1

told_halted : (e : Ending) (code : ℕ) → ending_and_code e ≡ Some (0, code) → e ≡ Halted code
told_halted (Halted c) code is = ap Halted (ap code_of is)
told_halted (Trapped cause pc) code is = let no : 1 ≡ 0 = ap number_of is in absurd (omega (arith, no))
told_halted OutOfSteps code is = let no : 4 ≡ 0 = ap number_of is in absurd (omega (arith, no))
told_halted (Tampered place) code is = let no : 5 ≡ 0 = ap number_of is in absurd (omega (arith, no))
told_halted (Spent page) code is = let no : 6 ≡ 0 = ap number_of is in absurd (omega (arith, no))
told_halted WriteFault code is = absurd (cc (is))
told_halted NoMemory code is = absurd (cc (is))

told_trapped : (e : Ending) (code : ℕ) → ending_and_code e ≡ Some (1, code) → (cause : Cause) × (pc : ℕ) × (e ≡ Trapped cause pc)
told_trapped (Halted c) code is = let no : 0 ≡ 1 = ap number_of is in absurd (omega (arith, no))
told_trapped (Trapped cause pc) code is = (cause, pc, refl)
told_trapped OutOfSteps code is = let no : 4 ≡ 1 = ap number_of is in absurd (omega (arith, no))
told_trapped (Tampered place) code is = let no : 5 ≡ 1 = ap number_of is in absurd (omega (arith, no))
told_trapped (Spent page) code is = let no : 6 ≡ 1 = ap number_of is in absurd (omega (arith, no))
told_trapped WriteFault code is = absurd (cc (is))
told_trapped NoMemory code is = absurd (cc (is))

told_steps : (e : Ending) (code : ℕ) → ending_and_code e ≡ Some (4, code) → (e ≡ OutOfSteps) × (code ≡ 0)
told_steps (Halted c) code is = let no : 0 ≡ 4 = ap number_of is in absurd (omega (arith, no))
told_steps (Trapped cause pc) code is = let no : 1 ≡ 4 = ap number_of is in absurd (omega (arith, no))
told_steps OutOfSteps code is = (refl, sym (ap code_of is))
told_steps (Tampered place) code is = let no : 5 ≡ 4 = ap number_of is in absurd (omega (arith, no))
told_steps (Spent page) code is = let no : 6 ≡ 4 = ap number_of is in absurd (omega (arith, no))
told_steps WriteFault code is = absurd (cc (is))
told_steps NoMemory code is = absurd (cc (is))

told_tampered : (e : Ending) (code : ℕ) → ending_and_code e ≡ Some (5, code) → ((place : Place) × (e ≡ Tampered place)) × (code ≡ 0)
told_tampered (Halted c) code is = let no : 0 ≡ 5 = ap number_of is in absurd (omega (arith, no))
told_tampered (Trapped cause pc) code is = let no : 1 ≡ 5 = ap number_of is in absurd (omega (arith, no))
told_tampered OutOfSteps code is = let no : 4 ≡ 5 = ap number_of is in absurd (omega (arith, no))
told_tampered (Tampered place) code is = ((place, refl), sym (ap code_of is))
told_tampered (Spent page) code is = let no : 6 ≡ 5 = ap number_of is in absurd (omega (arith, no))
told_tampered WriteFault code is = absurd (cc (is))
told_tampered NoMemory code is = absurd (cc (is))

told_spent : (e : Ending) (code : ℕ) → ending_and_code e ≡ Some (6, code) → ((page : ℕ) × (e ≡ Spent page)) × (code ≡ 0)
told_spent (Halted c) code is = let no : 0 ≡ 6 = ap number_of is in absurd (omega (arith, no))
told_spent (Trapped cause pc) code is = let no : 1 ≡ 6 = ap number_of is in absurd (omega (arith, no))
told_spent OutOfSteps code is = let no : 4 ≡ 6 = ap number_of is in absurd (omega (arith, no))
told_spent (Tampered place) code is = let no : 5 ≡ 6 = ap number_of is in absurd (omega (arith, no))
told_spent (Spent page) code is = ((page, refl), sym (ap code_of is))
told_spent WriteFault code is = absurd (cc (is))
told_spent NoMemory code is = absurd (cc (is))

module _ (start : Machine) (budget : ℕ) (trace : Trace) where
  -- what an ending of this kind says
  abbrev pub Ends : Ending → Type 0
  Ends e = EndsAs e (plain start trace.retired) trace.retired budget (plain start trace.retired).output

  as_told : (number : ℕ) → trace.ending ≡ number → (e : Ending) → ending_and_code e ≡ Some (trace.ending, trace.code) → ending_and_code e ≡ Some (number, trace.code)
  as_told number is e told = told ∙ ap (λ (k : ℕ). Some (k, trace.code)) is

  told_as : (number : ℕ) → trace.ending ≡ number → (e : Ending) → ending_and_code e ≡ Some (number, trace.code) → ending_and_code e ≡ Some (trace.ending, trace.code)
  told_as number is e told = told ∙ ap (λ (k : ℕ). Some (k, trace.code)) (sym is)

  module _ (ending : Ending) (whole : IsWhole start trace.retired trace.retired ending) where
    here : ((code : ℕ) × ((plain start trace.retired).exit ≡ Some code) × (ending ≡ Halted code)) ⊎ (((plain start trace.retired).exit ≡ None) × (ending ≡ OutOfSteps))
    here = let count = whole.retired_is in exit_or_none (plain start trace.retired) trace.retired ending (omega (arith, count)) whole.ending_is

    exits : (code : ℕ) → ending ≡ Halted code → (plain start trace.retired).exit ≡ Some code
    exits code is = elim here [
      | inl found ↦ let e = found.1 in let h = found.2 in cc (e, h, is)
      | inr found ↦ let h = found.1 in absurd (cc (h, is))
    ]

    halts : (code : ℕ) → (plain start trace.retired).exit ≡ Some code → ending ≡ Halted code
    halts code is = elim here [
      | inl found ↦ let e = found.1 in let h = found.2 in cc (e, h, is)
      | inr found ↦ let e = found.0 in absurd (cc (e, is))
    ]

    goes : ending ≡ OutOfSteps → (plain start trace.retired).exit ≡ None
    goes is = elim here [
      | inl found ↦ let h = found.2 in absurd (cc (h, is))
      | inr found ↦ found.0
    ]

    steps : (plain start trace.retired).exit ≡ None → ending ≡ OutOfSteps
    steps is = elim here [
      | inl found ↦ let e = found.1 in absurd (cc (e, is))
      | inr found ↦ found.1
    ]

    pub can_halt : trace.ending ≡ 0 → (can : Bool) → (IsTrue can ↔ (ending_and_code ending ≡ Some (0, trace.code))) → IsTrue can ↔ CanEnd start budget trace
    can_halt is can tells = (
      λ holds.
          let told = tells.0 holds in
          let halted = told_halted ending trace.code told in
          record {
            ending = ending;
            told = told_as 0 is ending told;
            ends = subst Ends (sym halted) (exits trace.code halted, refl);
            caught = λ five. let no : 0 ≡ 5 = sym is ∙ five in absurd (omega (arith, no));
          },
      λ ends.
          let halted = told_halted ends.ending trace.code (as_told 0 is ends.ending ends.told) in
          let exit : Ends (Halted trace.code) = subst Ends halted ends.ends in
          tells.1 (ap ending_and_code (halts trace.code exit.0)),
    )

    pub can_use_up : trace.ending ≡ 4 → trace.retired ≡ budget → (can : Bool) → (IsTrue can ↔ (ending_and_code ending ≡ Some (4, trace.code))) → IsTrue can ↔ CanEnd start budget trace
    can_use_up is used can tells = (
      λ holds.
          let told = told_steps ending trace.code (tells.0 holds) in
          record {
            ending = OutOfSteps;
            told = told_as 4 is OutOfSteps (ap (λ (k : ℕ). Some (4, k)) (sym told.1));
            ends = (used, goes told.0, refl);
            caught = λ five. let no : 4 ≡ 5 = sym is ∙ five in absurd (omega (arith, no));
          },
      λ ends.
          let told = told_steps ends.ending trace.code (as_told 4 is ends.ending ends.told) in
          let exit : Ends OutOfSteps = subst Ends told.0 ends.ends in
          tells.1 (ap ending_and_code (steps exit.1) ∙ ap (λ (k : ℕ). Some (4, k)) (sym told.1)),
    )

    pub can_be_tampered : trace.ending ≡ 5 → (has_false : Bool) → has_false ≡ is_some (first_false trace.entries) → IsTrue has_false → (can : Bool) → (IsTrue can ↔ (ending_and_code ending ≡ Some (4, trace.code))) → IsTrue can ↔ CanEnd start budget trace
    can_be_tampered is has_false has holds_one can tells = (
      λ holds.
          let told = told_steps ending trace.code (tells.0 holds) in
          record {
            ending = Tampered (Line 0);
            told = told_as 5 is (Tampered (Line 0)) (ap (λ (k : ℕ). Some (5, k)) (sym told.1));
            ends = goes told.0;
            caught = λ five none. let no : true ≡ false = sym holds_one ∙ has ∙ ap (λ (o : Option ℕ). is_some o) none in absurd (cc);
          },
      λ ends.
          let found = told_tampered ends.ending trace.code (as_told 5 is ends.ending ends.told) in
          let exit : Ends (Tampered found.0.0) = subst Ends found.0.1 ends.ends in
          tells.1 (ap ending_and_code (steps exit) ∙ ap (λ (k : ℕ). Some (4, k)) (sym found.1)),
    )

    pub can_be_spent : trace.ending ≡ 6 → (can : Bool) → (IsTrue can ↔ (ending_and_code ending ≡ Some (4, trace.code))) → IsTrue can ↔ CanEnd start budget trace
    can_be_spent is can tells = (
      λ holds.
          let told = told_steps ending trace.code (tells.0 holds) in
          record {
            ending = Spent 0;
            told = told_as 6 is (Spent 0) (ap (λ (k : ℕ). Some (6, k)) (sym told.1));
            ends = goes told.0;
            caught = λ five. let no : 6 ≡ 5 = sym is ∙ five in absurd (omega (arith, no));
          },
      λ ends.
          let found = told_spent ends.ending trace.code (as_told 6 is ends.ending ends.told) in
          let exit : Ends (Spent found.0.0) = subst Ends found.0.1 ends.ends in
          tells.1 (ap ending_and_code (steps exit) ∙ ap (λ (k : ℕ). Some (4, k)) (sym found.1)),
    )

  pub can_trap : trace.retired ≡ (plain start trace.retired).retired → (ending : Ending) (retired : ℕ) → IsWhole start (trace.retired + 1) retired ending → trace.ending ≡ 1 → trace.retired < budget → (can : Bool) →
      (IsTrue can ↔ (ending_and_code ending ≡ Some (1, trace.code))) → IsTrue can ↔ CanEnd start budget trace
  can_trap count ending retired whole is below can tells = (
    λ holds.
        let told = tells.0 holds in
        let trapped = told_trapped ending trace.code told in
        record {
          ending = ending;
          told = told_as 1 is ending told;
          ends = subst Ends (sym trapped.2) (below, next_traps start trace.retired retired ending trapped.0 trapped.1 (sym count) whole trapped.2, refl);
          caught = λ five. let no : 1 ≡ 5 = sym is ∙ five in absurd (omega (arith, no));
        },
    λ ends.
        let told = as_told 1 is ends.ending ends.told in
        let trapped = told_trapped ends.ending trace.code told in
        let traps : Ends (Trapped trapped.0 trapped.1) = subst Ends trapped.2 ends.ends in
        tells.1 (ap ending_and_code (trapped_next start trace.retired retired ending trapped.0 trapped.1 (sym count) whole traps.1 ∙ sym trapped.2) ∙ told),
  )
