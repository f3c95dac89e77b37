-- Which files are good, and what is found in them.
use Rattle.std.proofs.Common.{◌≡◌, ℕ, ◌+◌, ◌^◌, ◌<◌, Bool, true, false, not, nat_eq, List, [], ◌∷◌, ◌++◌, length, take, drop, slice_index, Option, Some, None, Result, Ok, Err, refl, sym, ap, ◌∙◌, subst, arith, eq-eqb}
use Rattle.std.specs.Prelude.{◌↔◌, IsOk, if◌then◌else◌}
use Rattle.std.specs.Str.{bytes_eq}
use Rattle.std.proofs.lemmas.Bool.{eqb-true}
use Rattle.std.proofs.lemmas.List.{drop_at, take_at}
use Rattle.std.proofs.lemmas.Nat.{from_le_bytes-to_le_bytes_8}
use Rattle.std.specs.Int.{w64, to_le_bytes}
use Rattle.sec_base.proofs.MessageBytes.{put_behind}
use Rattle.std.proofs.lemmas.Slice.Eq.{bytes_eq-Decides}
use Rattle.hmac_tag.specs.Hmac.{hmac_of}
use Rattle.sealed_state.specs.declared.chip_state.ChipState.{ChipState}
use Rattle.sealed_state.specs.declared.state_fault.StateFault.{StateFault}
use Rattle.sealed_state.specs.declared.state_fault.StateFault.TheVariants.{Length, Kind, Tag, Number}
use Rattle.sealed_state.specs.ChipState.{state_bytes, state_of_bytes, u64_at}
use Rattle.sealed_state.specs.StateFile.{IsGood, cipher_of_blocks, first_state_fault, is_tagged, state_file, state_file_body, state_in, state_or_fault, state_unless}
use Rattle.sealed_state.proofs.Parts.{two_put}
use Rattle.sealed_state.proofs.Ciphers.{cipher_of_blocks-twice, length-cipher_of_blocks}

-- a test that a fault hangs on
test_passed : (b : Bool) (fault : StateFault) (rest : Option StateFault) →
    (if not b then Some fault else rest) ≡ None → (b ≡ true) × (rest ≡ None)
test_passed true fault rest none = (refl, none)
test_passed false fault rest none = absurd (cc none)

-- a file is good exactly where it has no fault
pub IsGood-from_none : (state_key : List ℕ) (number : ℕ) (file : List ℕ) →
    first_state_fault state_key number file ≡ None → IsGood state_key number file
unfolding first_state_fault is_tagged
IsGood-from_none state_key number file none =
    let length_told = test_passed _ Length _ none in
    let kind_told = test_passed _ Kind _ length_told.1 in
    let tag_told = test_passed _ Tag _ kind_told.1 in
    let number_told = test_passed _ Number _ tag_told.1 in
    record {
      length_is = eqb-true (length file) 233 length_told.0;
      kind_is = eqb-true (slice_index file 0) 0x53 kind_told.0;
      tag_is = (bytes_eq-Decides _ _).0 tag_told.0;
      number_is = eqb-true (u64_at file 1) number number_told.0;
    }

first_state_fault-good : (state_key : List ℕ) (number : ℕ) (file : List ℕ) →
    IsGood state_key number file → first_state_fault state_key number file ≡ None
unfolding first_state_fault is_tagged
first_state_fault-good state_key number file good =
    let tag_told : bytes_eq (drop 201 file) (hmac_of state_key (take 201 file)) ≡ true = (bytes_eq-Decides _ _).1 good.tag_is in
    let number_told : nat_eq (u64_at file 1) number ≡ true = eq-eqb (u64_at file 1) number good.number_is in
    rw (good.length_is, good.kind_is, tag_told, number_told) refl

IsGood-unless : (state_key : List ℕ) (number : ℕ) (file : List ℕ) (fault : Option StateFault) (state : ChipState) →
    fault ≡ first_state_fault state_key number file → IsOk (state_unless fault state) ↔ IsGood state_key number file
IsGood-unless state_key number file None state is = (
  (λ ok. IsGood-from_none state_key number file (sym is)),
  (λ good. refl),
)
IsGood-unless state_key number file (Some fault) state is = (
  (λ ok. absurd (cc ok)),
  (λ good. absurd (cc (is ∙ first_state_fault-good state_key number file good))),
)

-- and where its state is found
pub IsGood-told : (enc_key state_key : List ℕ) (number : ℕ) (file : List ℕ) (result : Result ChipState StateFault) →
    result ≡ state_or_fault enc_key state_key number file → IsOk result ↔ IsGood state_key number file
unfolding state_or_fault
IsGood-told enc_key state_key number file result is =
    subst (λ (r : Result ChipState StateFault). IsOk r ↔ IsGood state_key number file) (sym is)
    (IsGood-unless state_key number file (first_state_fault state_key number file) (state_in enc_key number file) refl)

-- a body was put together
pub body_put : (number : ℕ) (count cipher first second body : List ℕ) → count ≡ to_le_bytes w64 number →
    length cipher ≡ 192 → length body ≡ 201 →
    take 1 first ≡ 0x53 ∷ [] → take (1 + length count) second ≡ take 1 first ++ count →
    take (9 + length cipher) body ≡ take 9 second ++ cipher → body ≡ state_file_body number cipher
unfolding state_file_body
body_put number count cipher first second body is_count long whole a b c =
    let eight : length count ≡ 8 = ap length is_count in
    let to_count : take 9 second ≡ 0x53 ∷ count = put_behind 1 9 count first second _ b (omega arith) a in
    two_put 9 201 (0x53 ∷ count) cipher second body to_count c (omega (arith, long)) whole
    ∙ ap (λ (xs : List ℕ). 0x53 ∷ xs ++ cipher) is_count

-- a body and its HMAC make a file
pub file_put : (enc_key state_key : List ℕ) (number : ℕ) (bytes cipher : List ℕ) (state : ChipState) (body tag first file : List ℕ) →
    bytes ≡ state_bytes state → cipher ≡ cipher_of_blocks enc_key number bytes → body ≡ state_file_body number cipher →
    tag ≡ hmac_of state_key body → length body ≡ 201 → length tag ≡ 32 → length file ≡ 233 →
    take (0 + length body) first ≡ body → take (201 + length tag) file ≡ take 201 first ++ tag →
    file ≡ state_file enc_key state_key number state
unfolding state_file
file_put enc_key state_key number bytes cipher state body tag first file bytes_are cipher_is body_is tag_is long tag_long whole a b =
    let starts : 201 ≡ 0 + length body = omega (arith, long) in
    let front : take 201 first ≡ body = ap (λ (n : ℕ). take n first) starts ∙ a in
    let is : body ≡ state_file_body number (cipher_of_blocks enc_key number (state_bytes state)) =
    body_is ∙ ap (state_file_body number) (cipher_is ∙ ap (cipher_of_blocks enc_key number) bytes_are) in
    two_put 201 233 body tag first file front b (omega (arith, tag_long)) whole
    ∙ ap (λ (xs : List ℕ). body ++ xs) tag_is
    ∙ ap (λ (xs : List ℕ). xs ++ hmac_of state_key xs) is

-- the file of a cipher
abbrev sealed_of : List ℕ → ℕ → List ℕ → List ℕ
sealed_of state_key number cipher = state_file_body number cipher ++ hmac_of state_key (state_file_body number cipher)

-- is good
sealed_good : (state_key : List ℕ) (number : ℕ) (cipher : List ℕ) → number < 2 ^ 64 → length cipher ≡ 192 →
    length (sealed_of state_key number cipher) ≡ 233 → IsGood state_key number (sealed_of state_key number cipher)
unfolding state_file_body
sealed_good state_key number cipher fits long whole =
    let body : List ℕ = state_file_body number cipher in
    let body_long : length body ≡ 201 = omega (arith, long) in
    let front : take 201 (body ++ hmac_of state_key body) ≡ body = take_at body _ 201 body_long in
    record {
      length_is = whole;
      kind_is = refl;
      tag_is = drop_at body _ 201 body_long ∙ ap (hmac_of state_key) (sym front);
      number_is = from_le_bytes-to_le_bytes_8 number fits;
    }

-- and has it
sealed_cipher : (state_key : List ℕ) (number : ℕ) (cipher : List ℕ) → length cipher ≡ 192 →
    take 192 (drop 9 (sealed_of state_key number cipher)) ≡ cipher
unfolding state_file_body
sealed_cipher state_key number cipher long = take_at cipher _ 192 long

-- a sealed state is found as it was
pub sealed_found : (enc_key state_key : List ℕ) (number : ℕ) (bytes file : List ℕ) (state : ChipState) → number < 2 ^ 64 →
    length bytes ≡ 192 → length file ≡ 233 → bytes ≡ state_bytes state → state_of_bytes bytes ≡ state →
    file ≡ state_file enc_key state_key number state → state_or_fault enc_key state_key number file ≡ Ok state
unfolding state_or_fault state_file state_in
sealed_found enc_key state_key number bytes file state fits long whole bytes_are reread is_file =
    let cipher : List ℕ = cipher_of_blocks enc_key number bytes in
    let cipher_long = length-cipher_of_blocks enc_key number bytes in
    let is : file ≡ sealed_of state_key number cipher =
    is_file ∙ ap (λ (xs : List ℕ). sealed_of state_key number (cipher_of_blocks enc_key number xs)) (sym bytes_are) in
    let none : first_state_fault state_key number file ≡ None =
    ap (first_state_fault state_key number) is
    ∙ first_state_fault-good state_key number _ (sealed_good state_key number cipher fits cipher_long (ap length (sym is) ∙ whole)) in
    let found : take 192 (drop 9 file) ≡ cipher =
    ap (λ (xs : List ℕ). take 192 (drop 9 xs)) is ∙ sealed_cipher state_key number cipher cipher_long in
    let read : state_of_bytes (cipher_of_blocks enc_key number (take 192 (drop 9 file))) ≡ state =
    ap (λ (xs : List ℕ). state_of_bytes (cipher_of_blocks enc_key number xs)) found
    ∙ ap state_of_bytes (cipher_of_blocks-twice enc_key number bytes long) ∙ reread in
    rw (none, read) refl

-- a file with a fault, and one without
pub fault_told : (enc_key state_key : List ℕ) (number : ℕ) (file : List ℕ) (fault : StateFault) →
    Some fault ≡ first_state_fault state_key number file → Err fault ≡ state_or_fault enc_key state_key number file
unfolding state_or_fault
fault_told enc_key state_key number file fault is = rw (← is) refl

pub state_told : (enc_key state_key : List ℕ) (number : ℕ) (file cipher bytes : List ℕ) (state : ChipState) →
    None ≡ first_state_fault state_key number file → cipher ≡ take 192 (drop 9 file) →
    bytes ≡ cipher_of_blocks enc_key number cipher → state ≡ state_of_bytes bytes →
    Ok state ≡ state_or_fault enc_key state_key number file
unfolding state_or_fault state_in
state_told enc_key state_key number file cipher bytes state none cipher_is bytes_are state_is =
    rw (← none, ← cipher_is, ← bytes_are, ← state_is) refl
