-- Bytes that are stored over a memory one after another.
use Rattle.std.proofs.Common.{◌≡◌, ◌≤◌, ◌<◌, ℕ, suc, ◌+◌, ◌%◌, ◌^◌, List, [], ◌∷◌, ◌++◌, length, take, drop, get_or, set, sym, ap, ◌∙◌, arith, add-zero, length-append}
use Rattle.std.proofs.lemmas.List.{append-nil, take-append-drop, take_all, take_more, length-take}
use Rattle.std.proofs.lemmas.List.Edits.{sets-eq}
use Rattle.std.proofs.Math.Seq.{sets, length-sets}
use Rattle.sec_base.specs.declared.width.Width.{Width}
use Rattle.sec_base.specs.declared.width.Width.TheVariants.{One}
use Rattle.sec_base.specs.Width.{number_bytes, with_number}
use Rattle.sec_base.proofs.NumberBytes.{length-number_bytes}
use Rattle.rv32_core.specs.State.{with_bytes}

with-sets : (memory : List ℕ) (address : ℕ) (bytes : List ℕ) → address + length bytes ≤ length memory → with_bytes memory address bytes ≡ sets memory address bytes
unfolding with_bytes
with-sets memory address bytes inside = sym (sets-eq bytes memory address inside)

sets-append : (memory : List ℕ) (address : ℕ) (front back : List ℕ) → sets (sets memory address front) (address + length front) back ≡ sets memory address (front ++ back)
sets-append memory address [] back = ap (λ (n : ℕ). sets memory n back) (add-zero address)
sets-append memory address (x ∷ front) back =
    let next : address + suc (length front) ≡ suc address + length front = omega arith in
    ap (λ (n : ℕ). sets (sets (set memory address x) (suc address) front) n back) next ∙ sets-append (set memory address x) (suc address) front back

pub nothing_stored : (memory : List ℕ) (address : ℕ) → with_bytes memory address [] ≡ memory
unfolding with_bytes
nothing_stored memory address =
    ap (λ (xs : List ℕ). xs ++ drop (address + 0) memory) (append-nil (take address memory))
    ∙ ap (λ (n : ℕ). take address memory ++ drop n memory) (add-zero address)
    ∙ take-append-drop address memory

-- bytes behind others
pub both_stored : (memory : List ℕ) (address behind : ℕ) (front back : List ℕ) → behind ≡ address + length front → behind + length back ≤ length memory → with_bytes (with_bytes memory address front) behind back ≡ with_bytes memory address (front ++ back)
both_stored memory address behind front back at inside =
    ap (λ (xs : List ℕ). with_bytes xs behind back) (with-sets memory address front (omega arith))
    ∙ with-sets (sets memory address front) behind back (omega (arith, length-sets memory address front))
    ∙ ap (λ (n : ℕ). sets (sets memory address front) n back) at ∙ sets-append memory address front back
    ∙ sym (with-sets memory address (front ++ back) (omega (arith, length-append front back)))

-- a number is stored as its bytes
pub number_stored : (memory : List ℕ) (address : ℕ) (width : Width) (n : ℕ) → with_number memory address width n ≡ with_bytes memory address (number_bytes width n)
unfolding with_bytes
number_stored memory address width n =
    ap (λ (size : ℕ). take address memory ++ number_bytes width n ++ drop (address + size) memory) (sym (length-number_bytes width n))

-- one byte more
pub one_more_stored : (memory now new bytes : List ℕ) (address i byte : ℕ) → i < length bytes → address + length bytes ≤ length memory → now ≡ with_bytes memory address (take i bytes) → byte ≡ get_or bytes i 0 → byte < 2 ^ 8 → new ≡ with_number now (address + i) One byte → new ≡ with_bytes memory address (take (i + 1) bytes)
one_more_stored memory now new bytes address i byte below inside before is small stored =
    let front = take i bytes in
    let long : length front ≡ i = omega (arith, length-take i bytes) in
    let whole : byte % 2 ^ 8 ≡ get_or bytes i 0 = omega arith in
    stored ∙ number_stored now (address + i) One byte
    ∙ ap (λ (xs : List ℕ). with_bytes xs (address + i) (byte % 2 ^ 8 ∷ [])) before
    ∙ both_stored memory address (address + i) front (byte % 2 ^ 8 ∷ []) (omega arith) (omega arith)
    ∙ ap (λ (b : ℕ). with_bytes memory address (front ++ b ∷ [])) whole
    ∙ ap (with_bytes memory address) (sym (take_more bytes i 0 below))

-- all bytes are stored
pub all_stored : (memory now bytes : List ℕ) (address i : ℕ) → length bytes ≤ i → now ≡ with_bytes memory address (take i bytes) → now ≡ with_bytes memory address bytes
all_stored memory now bytes address i past e = e ∙ ap (with_bytes memory address) (take_all i bytes past)
