-- The fields of a report are put, taken and told apart.
use Rattle.std.proofs.Common.{◌≡◌, ℕ, ◌+◌, ◌<◌, List, [], ◌∷◌, ◌++◌, length, slice_index, take, drop, refl, sym, ap, ◌∙◌, arith, length-append, inl, inr, w32, w64}
use Rattle.std.proofs.Math.Seq.{take-add}
use Rattle.std.proofs.lemmas.Bool.{cases_lt}
use Rattle.std.proofs.lemmas.List.{drop_at, drop_more, get_or-drop, get_or-take, get_or_past, length-take, take_all, take_at}
use Rattle.std.specs.Int.{from_le_bytes, to_le_bytes}
use Rattle.std.proofs.lemmas.Nat.{le_bytes_4, le_bytes_8}
use Rattle.sec_base.proofs.MessageBytes.{put_behind, number_32, number_64}
use Rattle.hmac_tag.specs.Hmac.{hmac_of, hmac_under}
use Rattle.sha2.proofs.Facts256.{length-sha256}
use Rattle.attest_report.specs.declared.report.Report.{Report}
use Rattle.attest_report.specs.Report.{IsReport, field_bytes}

pub length-hmac_of : (key text : List ℕ) → length (hmac_of key text) ≡ 32
unfolding hmac_of hmac_under
length-hmac_of key text = length-sha256 _

-- the fields have 125 bytes
pub length-field_bytes : (report : Report) → IsReport report → length (field_bytes report) ≡ 125
unfolding field_bytes
length-field_bytes report is =
    simp (length-append) (omega (arith, is.measurement, is.input_digest, is.output_digest, is.nonce))

-- seven pieces make the fields
pub fields_put : (report : Report) (count number first second third fourth fifth sixth bytes : List ℕ) →
    length report.measurement ≡ 32 → length report.input_digest ≡ 32 → length report.output_digest ≡ 32 → length report.nonce ≡ 16 →
    length bytes ≡ 125 → count ≡ to_le_bytes w64 report.retired → number ≡ to_le_bytes w32 report.code →
    take (0 + length report.measurement) first ≡ report.measurement →
    take (32 + length report.input_digest) second ≡ take 32 first ++ report.input_digest →
    take (64 + length report.output_digest) third ≡ take 64 second ++ report.output_digest →
    take (96 + length count) fourth ≡ take 96 third ++ count →
    take 105 fifth ≡ take 104 fourth ++ report.ending ∷ [] →
    take (105 + length number) sixth ≡ take 105 fifth ++ number →
    take (109 + length report.nonce) bytes ≡ take 109 sixth ++ report.nonce →
    bytes ≡ field_bytes report
unfolding field_bytes
fields_put report count number first second third fourth fifth sixth bytes m i o n whole is_count is_number a b c d e f g =
    let eight : length count ≡ 8 = ap length is_count in
    let four : length number ≡ 4 = ap length is_number in
    let ends : 32 ≡ 0 + length report.measurement = omega arith in
    let to_first : take 32 first ≡ report.measurement = ap (λ (k : ℕ). take k first) ends ∙ a in
    let to_second : take 64 second ≡ report.measurement ++ report.input_digest =
    put_behind 32 64 report.input_digest first second _ b (omega arith) to_first in
    let to_third : take 96 third ≡ report.measurement ++ report.input_digest ++ report.output_digest =
    put_behind 64 96 report.output_digest second third _ c (omega arith) to_second in
    let to_fourth : take 104 fourth ≡ report.measurement ++ report.input_digest ++ report.output_digest ++ count =
    put_behind 96 104 count third fourth _ d (omega arith) to_third in
    let to_fifth : take 105 fifth ≡ report.measurement ++ report.input_digest ++ report.output_digest ++ count ++ report.ending ∷ [] =
    put_behind 104 105 (report.ending ∷ []) fourth fifth _ e refl to_fourth in
    let to_sixth : take 109 sixth ≡ report.measurement ++ report.input_digest ++ report.output_digest ++ count ++ report.ending ∷ [] ++ number =
    put_behind 105 109 number fifth sixth _ f (omega arith) to_fifth in
    let to_end : take 125 bytes ≡ report.measurement ++ report.input_digest ++ report.output_digest ++ count ++ report.ending ∷ [] ++ number ++ report.nonce =
    put_behind 109 125 report.nonce sixth bytes _ g (omega arith) to_sixth in
    sym (take_all 125 bytes (omega arith)) ∙ to_end
    ∙ ap (λ (xs : List ℕ). report.measurement ++ report.input_digest ++ report.output_digest ++ xs ++ report.ending ∷ [] ++ number ++ report.nonce) is_count
    ∙ ap (λ (xs : List ℕ). report.measurement ++ report.input_digest ++ report.output_digest ++ to_le_bytes w64 report.retired ++ report.ending ∷ [] ++ xs ++ report.nonce) is_number

-- two pieces make bytes
pub two_put : (at until : ℕ) (head rest first bytes : List ℕ) →
    length head ≡ at → at + length rest ≡ until → length bytes ≡ until →
    take (0 + length head) first ≡ head → take (at + length rest) bytes ≡ take at first ++ rest → bytes ≡ head ++ rest
two_put at until head rest first bytes long ends whole a b =
    let starts : at ≡ 0 + length head = omega arith in
    let to_first : take at first ≡ head = ap (λ (n : ℕ). take n first) starts ∙ a in
    sym (take_all until bytes (omega arith)) ∙ put_behind at until rest first bytes _ b (sym ends) to_first

-- a field behind a front part
field_behind : (at n until : ℕ) (bytes front piece : List ℕ) →
    until ≡ at + n → front ≡ take at bytes → piece ≡ take n (drop at bytes) → front ++ piece ≡ take until bytes
field_behind at n until bytes front piece ends was is = rw (ends, was, is) (sym (take-add at n bytes))

-- a byte as a field
byte_field : (bytes : List ℕ) (at : ℕ) → at < length bytes → slice_index bytes at ∷ [] ≡ take 1 (drop at bytes)
byte_field bytes at inside = rw (drop_more bytes at 0 inside) refl

-- the fields that were taken are put back
pub written_back : (bytes count number : List ℕ) (report : Report) → length bytes ≡ 125 →
    report.measurement ≡ take 32 bytes → report.input_digest ≡ take 32 (drop 32 bytes) →
    report.output_digest ≡ take 32 (drop 64 bytes) → count ≡ take 8 (drop 96 bytes) → to_le_bytes w64 report.retired ≡ count →
    report.ending ≡ slice_index bytes 104 → number ≡ take 4 (drop 105 bytes) → to_le_bytes w32 report.code ≡ number →
    report.nonce ≡ take 16 (drop 109 bytes) →
    field_bytes report ≡ bytes
unfolding field_bytes
written_back bytes count number report long m i o is_count r e is_number c n =
    let second = field_behind 32 32 64 bytes _ report.input_digest refl m i in
    let third = field_behind 64 32 96 bytes _ report.output_digest refl second o in
    let fourth = field_behind 96 8 104 bytes _ (to_le_bytes w64 report.retired) refl third (r ∙ is_count) in
    let ending : report.ending ∷ [] ≡ take 1 (drop 104 bytes) = ap (λ (x : ℕ). x ∷ []) e ∙ byte_field bytes 104 (omega arith) in
    let fifth = field_behind 104 1 105 bytes _ (report.ending ∷ []) refl fourth ending in
    let sixth = field_behind 105 4 109 bytes _ (to_le_bytes w32 report.code) refl fifth (c ∙ is_number) in
    field_behind 109 16 125 bytes _ report.nonce refl sixth n ∙ take_all 125 bytes (omega arith)

-- a field has bytes
field_fits : (bytes : List ℕ) (at n i : ℕ) → ((k : ℕ) → slice_index bytes k < 256) → slice_index (take n (drop at bytes)) i < 256
field_fits bytes at n i fit =
    elim (cases_lt i n) [
      | inl inside ↦ rw (get_or-take n (drop at bytes) i 0 inside, get_or-drop at bytes i 0) (fit (at + i))
      | inr past ↦
          let none : slice_index (take n (drop at bytes)) i ≡ 0 = get_or_past (take n (drop at bytes)) i 0 (omega (arith, length-take n (drop at bytes))) in
          rw none (omega arith)
    ]

-- the number of a field is put back
pub number_back_4 : (bytes field : List ℕ) (at number : ℕ) → ((k : ℕ) → slice_index bytes k < 256) → length field ≡ 4 →
    field ≡ take 4 (drop at bytes) → number ≡ from_le_bytes w32 field → to_le_bytes w32 number ≡ field
number_back_4 bytes field at number fit long is read =
    le_bytes_4 field number long (λ i. rw is (field_fits bytes at 4 i fit)) read

pub number_back_8 : (bytes field : List ℕ) (at number : ℕ) → ((k : ℕ) → slice_index bytes k < 256) → length field ≡ 8 →
    field ≡ take 8 (drop at bytes) → number ≡ from_le_bytes w64 field → to_le_bytes w64 number ≡ field
number_back_8 bytes field at number fit long is read =
    le_bytes_8 field number long (λ i. rw is (field_fits bytes at 8 i fit)) read

-- lists that end with pieces of one length
peel : (n : ℕ) (xs ys piece other : List ℕ) → length piece ≡ n → length other ≡ n → xs ++ piece ≡ ys ++ other → (xs ≡ ys) × (piece ≡ other)
peel n xs ys piece other long other_long same =
    let lengths : length xs + length piece ≡ length ys + length other =
    sym (length-append xs piece) ∙ ap length same ∙ length-append ys other in
    let fronts : length ys ≡ length xs = omega (arith, lengths) in
    let fronts_same : xs ≡ ys =
    sym (take_at xs piece (length xs) refl) ∙ ap (take (length xs)) same ∙ take_at ys other (length xs) fronts in
    let ends_same : piece ≡ other =
    sym (drop_at xs piece (length xs) refl) ∙ ap (drop (length xs)) same ∙ drop_at ys other (length xs) fronts in
    (fronts_same, ends_same)

-- reports with the same fields
same_fields : (first second : Report) →
    first.measurement ≡ second.measurement → first.input_digest ≡ second.input_digest → first.output_digest ≡ second.output_digest →
    first.retired ≡ second.retired → first.ending ≡ second.ending → first.code ≡ second.code → first.nonce ≡ second.nonce → first ≡ second
same_fields first second m i o r e c n =
    ap (λ (x : List ℕ). record first { measurement = x }) m
    ∙ ap (λ (x : List ℕ). record first { measurement = second.measurement; input_digest = x }) i
    ∙ ap (λ (x : List ℕ). record second { output_digest = x; retired = first.retired; ending = first.ending; code = first.code; nonce = first.nonce }) o
    ∙ ap (λ (x : ℕ). record second { retired = x; ending = first.ending; code = first.code; nonce = first.nonce }) r
    ∙ ap (λ (x : ℕ). record second { ending = x; code = first.code; nonce = first.nonce }) e
    ∙ ap (λ (x : ℕ). record second { code = x; nonce = first.nonce }) c
    ∙ ap (λ (x : List ℕ). record second { nonce = x }) n

-- the fields tell the report
pub fields_apart : (first second : Report) → IsReport first → IsReport second → field_bytes first ≡ field_bytes second → first ≡ second
unfolding field_bytes
fields_apart first second is other same =
    let nonce = peel 16 _ _ first.nonce second.nonce is.nonce other.nonce same in
    let code = peel 4 _ _ (to_le_bytes w32 first.code) (to_le_bytes w32 second.code) refl refl nonce.0 in
    let ending = peel 1 _ _ (first.ending ∷ []) (second.ending ∷ []) refl refl code.0 in
    let retired = peel 8 _ _ (to_le_bytes w64 first.retired) (to_le_bytes w64 second.retired) refl refl ending.0 in
    let output = peel 32 _ _ first.output_digest second.output_digest is.output_digest other.output_digest retired.0 in
    let input = peel 32 first.measurement second.measurement first.input_digest second.input_digest is.input_digest other.input_digest output.0 in
    same_fields first second input.0 input.1 output.1
    (number_64 first.retired second.retired is.retired other.retired retired.1)
    (ap (λ (xs : List ℕ). slice_index xs 0) ending.1)
    (number_32 first.code second.code is.code other.code code.1)
    nonce.1
