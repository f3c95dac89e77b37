-- Answers and options, of calls of any crate.
use Rattle.std.proofs.Common.{◌≡◌, ◌⊎◌, Bool, true, false, Option, Some, None, Result, Ok, Err, OnOk, OnErr, IfOk, IfErr, inl, inr, refl}
use Rattle.std.specs.Result.{result_err}

-- an answer that has a stop is an error
pub stop_is : {A E : Type 0} (result : Result A E) (stop : E) → result_err result ≡ Some stop → result ≡ Err stop
stop_is (Ok value) stop is = absurd (cc)
stop_is (Err other) stop is = cc

-- what always holds, holds of an answer
pub on_ok : {A E P : Type 0} (result : Result A E) → P → OnOk result P
on_ok (Ok value) fact = fact
on_ok (Err stop) fact = tt

pub on_err : {A E P : Type 0} (result : Result A E) → P → OnErr result P
on_err (Ok value) fact = tt
on_err (Err stop) fact = fact

-- what holds without a stop
pub on_success : {A E P : Type 0} (result : Result A E) → (result_err result ≡ None → P) → OnOk result P
on_success (Ok value) holds = holds refl
on_success (Err stop) holds = tt

-- what follows
pub if_ok : {A E : Type 0} (P Q : A → Type 0) (result : Result A E) → ((value : A) → P value → Q value) → IfOk result P → IfOk result Q
if_ok P Q (Ok value) follows fact = follows value fact
if_ok P Q (Err stop) follows fact = tt

-- what holds of an answer holds of each case of it
pub case_ok : {A E : Type 0} (P : Result A E → Type 0) (result : Result A E) → P result → IfOk result (λ value. P (Ok value))
case_ok P (Ok value) fact = fact
case_ok P (Err stop) fact = tt

pub case_err : {A E : Type 0} (P : Result A E → Type 0) (result : Result A E) → P result → IfErr result (λ stop. P (Err stop))
case_err P (Ok value) fact = tt
case_err P (Err stop) fact = fact

-- where something was, there is something
pub was_none : {A : Type 0} (old new : Option A) → ((x : A) → old ≡ Some x → new ≡ Some x) → new ≡ None → old ≡ None
was_none None new stays none = refl
was_none (Some x) new stays none = let still = stays x refl in absurd (cc)

-- there is something, or nothing
pub some_or_none : {A : Type 0} (option : Option A) → (option ≡ None) ⊎ ((x : A) × (option ≡ Some x))
some_or_none None = inl refl
some_or_none (Some x) = inr (x, refl)

-- a test that would tell what is not so fails
pub test_fails : {P : Type 0} (test : Bool) → (test ≡ true → P) → (P → ⊥) → test ≡ false
test_fails true tells not_so = absurd (not_so (tells refl))
test_fails false tells not_so = refl
