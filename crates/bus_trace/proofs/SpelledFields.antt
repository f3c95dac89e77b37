-- A field that was read is the field that was written, and what was written is read again.
use Rattle.std.proofs.Common.{◌≡◌, ℕ, suc, ◌+◌, ◌^◌, ◌<◌, ◌≤◌, Bool, true, false, cond, ltb, List, [], ◌∷◌, ◌++◌, length, get_or, take, drop, Result, Ok, Err, refl, sym, ap, subst, ◌∙◌, append_assoc, arith, inl, inr}
use Rattle.std.specs.Prelude.{IsTrue}
use Rattle.std.specs.Int.{w32, w64, from_le_bytes, to_le_bytes}
use Rattle.std.specs.Str.{bytes_eq}
use Rattle.std.proofs.lemmas.Bool.{cases_lt, ltb-false, le-ltb}
use Rattle.std.proofs.lemmas.List.{take_at, drop_at, take-append-drop, length-append, length-take, get_or-drop, get_or-take, get_or_past}
use Rattle.std.proofs.lemmas.Nat.{le_bytes_4, le_bytes_8, from_le_bytes-to_le_bytes_4, from_le_bytes-to_le_bytes_8}
use Rattle.std.proofs.lemmas.Slice.Eq.{bytes_eq-Decides}
use Rattle.bus_trace.specs.declared.fault.TraceFault.{TraceFault}
use Rattle.bus_trace.specs.declared.fault.TraceFault.TheVariants.{Short, Magic, Kind}
use Rattle.bus_trace.specs.Format.{is_ending, magic, outcome_bytes, output_bytes, u32_bytes, u64_bytes}
use Rattle.bus_trace.specs.Reading.{◌>>=◌, behind_magic, first_byte, first_bytes, ending_at, ok_where, outcome_at, output_at, u32_at, u64_at}

abbrev pub IsBytes : List ℕ → Type 0
IsBytes bytes = (i : ℕ) → get_or bytes i 0 < 256

IsBytes-drop : (n : ℕ) (bytes : List ℕ) → IsBytes bytes → IsBytes (drop n bytes)
IsBytes-drop n bytes are i = rw get_or-drop (are (n + i))

IsBytes-take : (n : ℕ) (bytes : List ℕ) → IsBytes bytes → IsBytes (take n bytes)
IsBytes-take n bytes are i =
    elim (cases_lt i n) [
      | inl less ↦ rw (get_or-take n bytes i 0 less) (are i)
      | inr past ↦ rw (get_or_past (take n bytes) i 0 (omega (arith, length-take n bytes))) (omega arith)
    ]

-- the value of a step that did not fail
pub bind_ok : {A B : Type 0} (read : Result A TraceFault) (next : A → Result B TraceFault) (y : B) → (read >>= next) ≡ Ok y →
    (x : A) × (read ≡ Ok x) × (next x ≡ Ok y)
bind_ok (Ok x) next y e = (x, refl, e)
bind_ok (Err fault) next y e = absurd cc

-- a test that held
pub where_ok : {A : Type 0} (holds : Bool) (fault : TraceFault) (x y : A) → ok_where holds fault x ≡ Ok y → (holds ≡ true) × (x ≡ y)
where_ok true fault x y e = (refl, cc)
where_ok false fault x y e = absurd cc

-- a test that did not
guard_ok : {A : Type 0} (fails : Bool) (fault : TraceFault) (x y : A) → cond fails (Err fault) (Ok x) ≡ Ok y → (fails ≡ false) × (x ≡ y)
guard_ok true fault x y e = absurd cc
guard_ok false fault x y e = (refl, cc)

abbrev done : {A : Type 0} → A → Result A TraceFault
done x = Ok x

pub ok_is : {A : Type 0} (x y : A) → done x ≡ done y → x ≡ y
ok_is x y e = cc

-- what a reader took from the front
pub record Takes (bytes text rest : List ℕ) : Type 0 where
  pub parts : bytes ≡ text ++ rest
  pub rest_are : IsBytes rest

pub Takes-then : (a x b y c : List ℕ) → Takes a x b → Takes b y c → Takes a (x ++ y) c
Takes-then a x b y c p q =
    record { parts = p.parts ∙ ap (λ (t : List ℕ). x ++ t) q.parts ∙ sym (append_assoc x y c); rest_are = q.rest_are }

-- bytes

-- so many bytes were there
pub record TakesBytes (count : ℕ) (bytes field rest : List ℕ) : Type 0 where
  pub takes : Takes bytes field rest
  pub long : length field ≡ count
  pub are : IsBytes field

pub bytes_take : (count : ℕ) (bytes field rest : List ℕ) → IsBytes bytes → first_bytes count bytes ≡ Ok (field, rest) → TakesBytes count bytes field rest
unfolding first_bytes
bytes_take count bytes field rest are e =
    let g = guard_ok (ltb (length bytes) count) Short (take count bytes, drop count bytes) (field, rest) e in
    let long : count ≤ length bytes = ltb-false _ _ g.0 in
    let whole : TakesBytes count bytes (take count bytes) (drop count bytes) = record {
      takes = record { parts = sym (take-append-drop count bytes); rest_are = IsBytes-drop count bytes are };
      long = omega (arith, length-take count bytes);
      are = IsBytes-take count bytes are;
    } in
    subst (λ (p : List ℕ × List ℕ). TakesBytes count bytes p.0 p.1) g.1 whole

pub bytes_again : (count : ℕ) (field rest : List ℕ) → length field ≡ count → first_bytes count (field ++ rest) ≡ Ok (field, rest)
unfolding first_bytes
bytes_again count field rest long =
    let enough : ltb (length (field ++ rest)) count ≡ false = le-ltb _ _ (omega (arith, length-append field rest)) in
    rw (enough, take_at field rest count long, drop_at field rest count long) refl

IsBytes-rest : (byte : ℕ) (bytes : List ℕ) → IsBytes (byte ∷ bytes) → IsBytes bytes
IsBytes-rest byte bytes are i = are (suc i)

pub byte_takes : (bytes : List ℕ) (byte : ℕ) (rest : List ℕ) → IsBytes bytes → first_byte bytes ≡ Ok (byte, rest) → Takes bytes (byte ∷ []) rest
byte_takes [] byte rest are e = absurd cc
byte_takes (first ∷ bytes) byte rest are e =
    subst (λ (p : ℕ × List ℕ). Takes (first ∷ bytes) (p.0 ∷ []) p.1) (ok_is (first, bytes) (byte, rest) e)
    (record { parts = refl; rest_are = IsBytes-rest first bytes are })

-- numbers

pub u32_takes : (bytes : List ℕ) (n : ℕ) (rest : List ℕ) → IsBytes bytes → u32_at bytes ≡ Ok (n, rest) → Takes bytes (u32_bytes n) rest × (n < 2 ^ 32)
unfolding u32_at u32_bytes
u32_takes bytes n rest are e =
    let a = bind_ok (first_bytes 4 bytes) (λ field. Ok (from_le_bytes w32 field.0, field.1)) (n, rest) e in
    let field = a.0.0 in
    let taken = bytes_take 4 bytes a.0.0 a.0.1 are a.1 in
    let written : to_le_bytes w32 (from_le_bytes w32 field) ≡ field = le_bytes_4 field _ taken.long taken.are refl in
    let below : from_le_bytes w32 field < 2 ^ 32 = omega (arith, taken.are 0, taken.are 1, taken.are 2, taken.are 3) in
    subst (λ (p : ℕ × List ℕ). Takes bytes (to_le_bytes w32 p.0) p.1 × (p.0 < 2 ^ 32)) (ok_is (from_le_bytes w32 field, a.0.1) (n, rest) a.2)
    (subst (λ (text : List ℕ). Takes bytes text a.0.1) (sym written) taken.takes, below)

pub u32_again : (n : ℕ) (rest : List ℕ) → n < 2 ^ 32 → u32_at (u32_bytes n ++ rest) ≡ Ok (n, rest)
unfolding u32_at u32_bytes
u32_again n rest fits = rw (bytes_again 4 (to_le_bytes w32 n) rest refl, from_le_bytes-to_le_bytes_4 n fits) refl

pub u64_takes : (bytes : List ℕ) (n : ℕ) (rest : List ℕ) → IsBytes bytes → u64_at bytes ≡ Ok (n, rest) → Takes bytes (u64_bytes n) rest × (n < 2 ^ 64)
unfolding u64_at u64_bytes
u64_takes bytes n rest are e =
    let a = bind_ok (first_bytes 8 bytes) (λ field. Ok (from_le_bytes w64 field.0, field.1)) (n, rest) e in
    let field = a.0.0 in
    let taken = bytes_take 8 bytes a.0.0 a.0.1 are a.1 in
    let written : to_le_bytes w64 (from_le_bytes w64 field) ≡ field = le_bytes_8 field _ taken.long taken.are refl in
    let below : from_le_bytes w64 field < 2 ^ 64 = omega (arith, taken.are 0, taken.are 1, taken.are 2, taken.are 3, taken.are 4, taken.are 5, taken.are 6, taken.are 7) in
    subst (λ (p : ℕ × List ℕ). Takes bytes (to_le_bytes w64 p.0) p.1 × (p.0 < 2 ^ 64)) (ok_is (from_le_bytes w64 field, a.0.1) (n, rest) a.2)
    (subst (λ (text : List ℕ). Takes bytes text a.0.1) (sym written) taken.takes, below)

pub u64_again : (n : ℕ) (rest : List ℕ) → n < 2 ^ 64 → u64_at (u64_bytes n ++ rest) ≡ Ok (n, rest)
unfolding u64_at u64_bytes
u64_again n rest fits = rw (bytes_again 8 (to_le_bytes w64 n) rest refl, from_le_bytes-to_le_bytes_8 n fits) refl

-- what a trace begins with

pub magic_takes : (bytes rest : List ℕ) → IsBytes bytes → behind_magic bytes ≡ Ok rest → Takes bytes magic rest
unfolding behind_magic
magic_takes bytes rest are e =
    let a = bind_ok (first_bytes 5 bytes) (λ field. ok_where (bytes_eq field.0 magic) Magic field.1) rest e in
    let g = where_ok (bytes_eq a.0.0 magic) Magic a.0.1 rest a.2 in
    let same : a.0.0 ≡ magic = (bytes_eq-Decides a.0.0 magic).0 g.0 in
    subst (λ (after : List ℕ). Takes bytes magic after) g.1
    (subst (λ (text : List ℕ). Takes bytes text a.0.1) same (bytes_take 5 bytes a.0.0 a.0.1 are a.1).takes)

pub magic_again : (rest : List ℕ) → behind_magic (magic ++ rest) ≡ Ok rest
unfolding behind_magic
magic_again rest = rw (bytes_again 5 magic rest refl) refl

-- the output

pub output_takes : (bytes output rest : List ℕ) → IsBytes bytes → output_at bytes ≡ Ok (output, rest) →
    Takes bytes (output_bytes output) rest × (length output < 2 ^ 64)
unfolding output_at output_bytes
output_takes bytes output rest are e =
    let a = bind_ok (u64_at bytes) (λ len. first_bytes len.0 len.1) (output, rest) e in
    let first = u64_takes bytes a.0.0 a.0.1 are a.1 in
    let second = bytes_take a.0.0 a.0.1 output rest first.0.rest_are a.2 in
    let both = Takes-then bytes (u64_bytes a.0.0) a.0.1 output rest first.0 second.takes in
    (subst (λ (len : ℕ). Takes bytes (u64_bytes len ++ output) rest) (sym second.long) both, omega (arith, first.1, second.long))

pub output_again : (output rest : List ℕ) → length output < 2 ^ 64 → output_at (output_bytes output ++ rest) ≡ Ok (output, rest)
unfolding output_at output_bytes
output_again output rest fits =
    let regrouped : (u64_bytes (length output) ++ output) ++ rest ≡ u64_bytes (length output) ++ (output ++ rest) =
    append_assoc (u64_bytes (length output)) output rest in
    ap output_at regrouped ∙ rw (u64_again (length output) (output ++ rest) fits, bytes_again (length output) output rest refl) refl

-- how the run ended

pub ending_takes : (bytes : List ℕ) (ending : ℕ) (rest : List ℕ) → IsBytes bytes → ending_at bytes ≡ Ok (ending, rest) →
    Takes bytes (ending ∷ []) rest × IsTrue (is_ending ending)
unfolding ending_at
ending_takes bytes ending rest are e =
    let a = bind_ok (first_byte bytes) (λ found. ok_where (is_ending found.0) Kind found) (ending, rest) e in
    let g = where_ok (is_ending a.0.0) Kind a.0 (ending, rest) a.2 in
    subst (λ (p : ℕ × List ℕ). Takes bytes (p.0 ∷ []) p.1 × IsTrue (is_ending p.0)) g.1 (byte_takes bytes a.0.0 a.0.1 are a.1, g.0)

pub outcome_takes : (bytes : List ℕ) (outcome : ℕ × ℕ × ℕ) (rest : List ℕ) → IsBytes bytes → outcome_at bytes ≡ Ok (outcome, rest) →
    Takes bytes (outcome_bytes outcome.0 outcome.1 outcome.2) rest × IsTrue (is_ending outcome.0)
unfolding outcome_at outcome_bytes
outcome_takes bytes outcome rest are e =
    let a = bind_ok (ending_at bytes) (λ ending. u32_at ending.1 >>= λ code. u64_at code.1 >>= λ retired.
    Ok ((ending.0, code.0, retired.0), retired.1)) (outcome, rest) e in
    let b = bind_ok (u32_at a.0.1) (λ code. u64_at code.1 >>= λ retired.
    Ok ((a.0.0, code.0, retired.0), retired.1)) (outcome, rest) a.2 in
    let c = bind_ok (u64_at b.0.1) (λ retired. Ok ((a.0.0, b.0.0, retired.0), retired.1)) (outcome, rest) b.2 in
    let ending = ending_takes bytes a.0.0 a.0.1 are a.1 in
    let code = u32_takes a.0.1 b.0.0 b.0.1 ending.0.rest_are b.1 in
    let retired = u64_takes b.0.1 c.0.0 c.0.1 code.0.rest_are c.1 in
    let behind = Takes-then a.0.1 (u32_bytes b.0.0) b.0.1 (u64_bytes c.0.0) c.0.1 code.0 retired.0 in
    let whole = Takes-then bytes (a.0.0 ∷ []) a.0.1 (u32_bytes b.0.0 ++ u64_bytes c.0.0) c.0.1 ending.0 behind in
    let made : (ℕ × ℕ × ℕ) × List ℕ = ((a.0.0, b.0.0, c.0.0), c.0.1) in
    subst (λ (p : (ℕ × ℕ × ℕ) × List ℕ). Takes bytes (p.0.0 ∷ u32_bytes p.0.1 ++ u64_bytes p.0.2) p.1 × IsTrue (is_ending p.0.0))
    {x = made} (ok_is made (outcome, rest) c.2) (whole, ending.1)

pub ending_again : (ending : ℕ) (rest : List ℕ) → IsTrue (is_ending ending) → ending_at (ending ∷ rest) ≡ Ok (ending, rest)
unfolding ending_at
ending_again ending rest is = rw is refl

pub outcome_again : (ending code retired : ℕ) (rest : List ℕ) → IsTrue (is_ending ending) → code < 2 ^ 32 → retired < 2 ^ 64 →
    outcome_at (outcome_bytes ending code retired ++ rest) ≡ Ok ((ending, code, retired), rest)
unfolding outcome_at outcome_bytes
outcome_again ending code retired rest is code_fits retired_fits =
    let regrouped : (u32_bytes code ++ u64_bytes retired) ++ rest ≡ u32_bytes code ++ (u64_bytes retired ++ rest) =
    append_assoc (u32_bytes code) (u64_bytes retired) rest in
    ap (λ (behind : List ℕ). outcome_at (ending ∷ behind)) regrouped
    ∙ rw (ending_again ending (u32_bytes code ++ (u64_bytes retired ++ rest)) is, u32_again code (u64_bytes retired ++ rest) code_fits, u64_again retired rest retired_fits) refl
