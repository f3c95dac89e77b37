-- The two versions of a report: their bytes are put together, taken apart and told apart.
use Rattle.std.proofs.Common.{◌≡◌, ℕ, ◌+◌, ◌-◌, ◌<◌, ◌≤◌, Bool, true, false, List, [], ◌∷◌, ◌++◌, length, slice_index, take, drop, Option, Some, None, refl, sym, ap, ◌∙◌, ◌⊎◌, inl, inr, arith, length-append}
use Rattle.std.specs.Prelude.{◌↔◌}
use Rattle.std.proofs.Math.Seq.{take-add}
use Rattle.std.proofs.lemmas.List.{drop_at, length-drop, take_all, take_at, take-append-drop}
use Rattle.std.proofs.lemmas.Slice.Eq.{bytes_eq-Decides}
use Rattle.sec_base.proofs.SamePlaces.{false_from}
use Rattle.hmac_tag.specs.Hmac.{hmac_of}
use Rattle.sec_base.specs.declared.geometry.Layout.{Layout}
use Rattle.sec_base.specs.declared.geometry.Layout.TheVariants.{One, Two}
use Rattle.attest_report.specs.declared.report.Report.{Report}
use Rattle.attest_report.specs.ToldLayout.{layout_number}
use Rattle.attest_report.specs.Refusal.{has_version, is_signed}
use Rattle.attest_report.specs.Report.{IsReport, bytes_by_version, field_bytes, head_bytes, report_bytes, report2_bytes, signed_bytes, signed2_bytes}
use Rattle.attest_report.proofs.Fields.{fields_apart, length-field_bytes, length-hmac_of, two_put}
use Rattle.attest_report.proofs.Texts.{IsReportLen}

-- the fields behind 01
pub signed_put : (report : Report) (fields first bytes : List ℕ) → fields ≡ field_bytes report → length fields ≡ 125 → length bytes ≡ 126 →
    take 1 first ≡ 0x01 ∷ [] → take (1 + length fields) bytes ≡ take 1 first ++ fields → bytes ≡ signed_bytes report
unfolding signed_bytes
signed_put report fields first bytes are long whole a b =
    two_put 1 126 (0x01 ∷ []) fields first bytes refl (omega arith) whole a b ∙ ap (λ (xs : List ℕ). 0x01 ∷ xs) are

-- the fields behind 02 and the number of a layout
pub signed2_put : (report : Report) (layout : Layout) (number : ℕ) (fields first bytes : List ℕ) → number ≡ layout_number layout →
    fields ≡ field_bytes report → length fields ≡ 125 → length bytes ≡ 127 →
    take 2 first ≡ 0x02 ∷ number ∷ [] → take (2 + length fields) bytes ≡ take 2 first ++ fields → bytes ≡ signed2_bytes report layout
unfolding signed2_bytes
signed2_put report layout number fields first bytes is_number are long whole a b =
    two_put 2 127 (0x02 ∷ number ∷ []) fields first bytes refl (omega arith) whole a b
    ∙ ap (λ (xs : List ℕ). 0x02 ∷ number ∷ xs) are ∙ ap (λ (n : ℕ). 0x02 ∷ n ∷ field_bytes report) is_number

-- a tag behind what is signed
tag_put : (at until : ℕ) (key is_signed signed tag first bytes : List ℕ) → signed ≡ is_signed → tag ≡ hmac_of key signed →
    length signed ≡ at → at + length tag ≡ until → length bytes ≡ until →
    take (0 + length signed) first ≡ signed → take (at + length tag) bytes ≡ take at first ++ tag →
    bytes ≡ is_signed ++ hmac_of key is_signed
tag_put at until key is_signed signed tag first bytes are is_tag long ends whole a b =
    two_put at until signed tag first bytes long ends whole a b
    ∙ ap (λ (xs : List ℕ). signed ++ xs) is_tag ∙ ap (λ (xs : List ℕ). xs ++ hmac_of key xs) are

pub report_put : (report : Report) (key signed tag first bytes : List ℕ) → signed ≡ signed_bytes report → tag ≡ hmac_of key signed →
    length signed ≡ 126 → length tag ≡ 32 → length bytes ≡ 158 →
    take (0 + length signed) first ≡ signed → take (126 + length tag) bytes ≡ take 126 first ++ tag → bytes ≡ report_bytes report key
unfolding report_bytes
report_put report key signed tag first bytes are is_tag long tag_long whole a b =
    tag_put 126 158 key (signed_bytes report) signed tag first bytes are is_tag long (omega arith) whole a b

pub report2_put : (report : Report) (layout : Layout) (key signed tag first bytes : List ℕ) →
    signed ≡ signed2_bytes report layout → tag ≡ hmac_of key signed →
    length signed ≡ 127 → length tag ≡ 32 → length bytes ≡ 159 →
    take (0 + length signed) first ≡ signed → take (127 + length tag) bytes ≡ take 127 first ++ tag → bytes ≡ report2_bytes report layout key
unfolding report2_bytes
report2_put report layout key signed tag first bytes are is_tag long tag_long whole a b =
    tag_put 127 159 key (signed2_bytes report layout) signed tag first bytes are is_tag long (omega arith) whole a b

-- what a version signs: its head and the fields
abbrev pub signed_of : Report → Option Layout → List ℕ
signed_of report layout = head_bytes layout ++ field_bytes report

-- the parts of either version
version_parts : (report : Report) (layout : Option Layout) (key : List ℕ) →
    bytes_by_version report layout key ≡ signed_of report layout ++ hmac_of key (signed_of report layout)
unfolding report_bytes report2_bytes signed_bytes signed2_bytes
version_parts report None key = refl
version_parts report (Some layout) key = refl

-- the head of a version
head_fits : (layout : Option Layout) → (length (head_bytes layout) ≡ 1) ⊎ (length (head_bytes layout) ≡ 2)
head_fits None = inl refl
head_fits (Some layout) = inr refl

length-signed_of : (report : Report) (layout : Option Layout) → IsReport report → length (signed_of report layout) ≡ length (head_bytes layout) + 125
length-signed_of report layout is =
    length-append (head_bytes layout) (field_bytes report) ∙ ap (λ (n : ℕ). length (head_bytes layout) + n) (length-field_bytes report is)

length-version : (report : Report) (layout : Option Layout) (key : List ℕ) → IsReport report →
    length (bytes_by_version report layout key) ≡ length (head_bytes layout) + 157
length-version report layout key is =
    let whole : length (bytes_by_version report layout key) ≡ length (signed_of report layout) + length (hmac_of key (signed_of report layout)) =
    ap length (version_parts report layout key) ∙ length-append (signed_of report layout) (hmac_of key (signed_of report layout)) in
    omega (arith, whole, length-signed_of report layout is, length-hmac_of key (signed_of report layout))

-- a report of either version has its length
pub version_long : (report : Report) (layout : Option Layout) (key : List ℕ) → IsReport report → IsReportLen (length (bytes_by_version report layout key))
version_long report layout key is =
    elim (head_fits layout) [
      | inl one ↦ inl (omega (arith, one, length-version report layout key is))
      | inr two ↦ inr (omega (arith, two, length-version report layout key is))
    ]

-- and begins as it does
pub version_begins : (report : Report) (layout : Option Layout) (key : List ℕ) → IsReport report → has_version (bytes_by_version report layout key) ≡ true
unfolding has_version report_bytes report2_bytes signed_bytes signed2_bytes
version_begins report None key is = let long = length-version report None key is in rw long refl
version_begins report (Some One) key is = let long = length-version report (Some One) key is in rw long refl
version_begins report (Some Two) key is = let long = length-version report (Some Two) key is in rw long refl

-- and ends with its tag
pub version_signed : (report : Report) (layout : Option Layout) (key : List ℕ) → IsReport report → is_signed (bytes_by_version report layout key) key ≡ true
unfolding is_signed
version_signed report layout key is =
    let long : length (signed_of report layout) ≡ length (bytes_by_version report layout key) - 32 =
    omega (arith, length-version report layout key is, length-signed_of report layout is) in
    let front : take (length (bytes_by_version report layout key) - 32) (bytes_by_version report layout key) ≡ signed_of report layout =
    ap (take (length (bytes_by_version report layout key) - 32)) (version_parts report layout key) ∙ take_at (signed_of report layout) _ _ long in
    let back : drop (length (bytes_by_version report layout key) - 32) (bytes_by_version report layout key) ≡ hmac_of key (signed_of report layout) =
    ap (drop (length (bytes_by_version report layout key) - 32)) (version_parts report layout key) ∙ drop_at (signed_of report layout) _ _ long in
    (bytes_eq-Decides _ _).1 (back ∙ ap (hmac_of key) (sym front))

-- bytes that begin and end so are of that version
pub version_made : (bytes key fields : List ℕ) (report : Report) (layout : Option Layout) → IsReportLen (length bytes) →
    bytes ≡ head_bytes layout ++ drop (length bytes - 157) bytes → fields ≡ take 125 (drop (length bytes - 32 - 125) bytes) →
    field_bytes report ≡ fields → is_signed bytes key ≡ true → bytes ≡ bytes_by_version report layout key
unfolding is_signed
version_made bytes key fields report layout counted named taken written signed =
    let long : 157 < length bytes = elim counted [ inl first ↦ omega arith | inr second ↦ omega arith ] in
    let rest : length (drop (length bytes - 157) bytes) ≡ 157 = length-drop (length bytes - 157) bytes ∙ omega arith in
    let whole : length bytes ≡ length (head_bytes layout) + length (drop (length bytes - 157) bytes) =
    ap length named ∙ length-append (head_bytes layout) (drop (length bytes - 157) bytes) in
    let head_long : length (head_bytes layout) ≡ length bytes - 157 = omega (arith, rest, whole) in
    let head : take (length bytes - 157) bytes ≡ head_bytes layout =
    ap (take (length bytes - 157)) named ∙ take_at (head_bytes layout) _ _ head_long in
    let at : length bytes - 32 - 125 ≡ length bytes - 157 = omega arith in
    let fields_are : take 125 (drop (length bytes - 157) bytes) ≡ field_bytes report =
    ap (λ (n : ℕ). take 125 (drop n bytes)) (sym at) ∙ sym taken ∙ sym written in
    let until : length bytes - 32 ≡ length bytes - 157 + 125 = omega arith in
    let front : take (length bytes - 32) bytes ≡ signed_of report layout =
    ap (λ (n : ℕ). take n bytes) until ∙ take-add (length bytes - 157) 125 bytes
    ∙ ap (λ (xs : List ℕ). xs ++ take 125 (drop (length bytes - 157) bytes)) head
    ∙ ap (λ (xs : List ℕ). head_bytes layout ++ xs) fields_are in
    let back : drop (length bytes - 32) bytes ≡ hmac_of key (take (length bytes - 32) bytes) = (bytes_eq-Decides _ _).0 signed in
    sym (take-append-drop (length bytes - 32) bytes)
    ∙ ap (λ (xs : List ℕ). take (length bytes - 32) bytes ++ xs) back
    ∙ ap (λ (xs : List ℕ). xs ++ hmac_of key xs) front
    ∙ sym (version_parts report layout key)

-- the numbers of layouts tell them
layout_apart : (first second : Layout) → layout_number first ≡ layout_number second → first ≡ second
layout_apart One One same = refl
layout_apart One Two same = cc same
layout_apart Two One same = cc same
layout_apart Two Two same = refl

-- and so do heads
head_apart : (first second : Option Layout) → head_bytes first ≡ head_bytes second → first ≡ second
head_apart None None same = refl
head_apart None (Some layout) same = cc same
head_apart (Some layout) None same = cc same
head_apart (Some first) (Some second) same =
    ap Some (layout_apart first second (ap (λ (xs : List ℕ). slice_index xs 1) same))

-- the bytes tell the report, and the layout that they name
pub versions_apart : (first second : Report) (layout other : Option Layout) (key : List ℕ) → IsReport first → IsReport second →
    bytes_by_version first layout key ≡ bytes_by_version second other key → (first ≡ second) × (layout ≡ other)
versions_apart first second layout other key is second_is same =
    let lengths : length (bytes_by_version first layout key) ≡ length (bytes_by_version second other key) = ap length same in
    let heads : length (head_bytes other) ≡ length (head_bytes layout) =
    omega (arith, lengths, length-version first layout key is, length-version second other key second_is) in
    let parts : signed_of first layout ++ hmac_of key (signed_of first layout) ≡ signed_of second other ++ hmac_of key (signed_of second other) =
    sym (version_parts first layout key) ∙ same ∙ version_parts second other key in
    let signed_long : length (signed_of second other) ≡ length (signed_of first layout) =
    omega (arith, heads, length-signed_of first layout is, length-signed_of second other second_is) in
    let signed : signed_of first layout ≡ signed_of second other =
    sym (take_at (signed_of first layout) _ (length (signed_of first layout)) refl)
    ∙ ap (take (length (signed_of first layout))) parts ∙ take_at (signed_of second other) _ (length (signed_of first layout)) signed_long in
    let head : head_bytes layout ≡ head_bytes other =
    sym (take_at (head_bytes layout) (field_bytes first) (length (head_bytes layout)) refl)
    ∙ ap (take (length (head_bytes layout))) signed ∙ take_at (head_bytes other) (field_bytes second) (length (head_bytes layout)) heads in
    let fields : field_bytes first ≡ field_bytes second =
    sym (drop_at (head_bytes layout) (field_bytes first) (length (head_bytes layout)) refl)
    ∙ ap (drop (length (head_bytes layout))) signed ∙ drop_at (head_bytes other) (field_bytes second) (length (head_bytes layout)) heads in
    (fields_apart first second is second_is fields, head_apart layout other head)

-- a comparison of tags tells whether bytes are signed
pub signed_told : (bytes key tag field : List ℕ) (same : Bool) → 32 ≤ length bytes →
    tag ≡ hmac_of key (take (length bytes - 32) bytes) → field ≡ take 32 (drop (length bytes - 32) bytes) →
    (same ≡ true) ↔ (tag ≡ field) → same ≡ is_signed bytes key
unfolding is_signed
signed_told bytes key tag field true long is_tag is_field tells =
    let rest : length (drop (length bytes - 32) bytes) ≡ 32 = length-drop (length bytes - 32) bytes ∙ omega arith in
    let whole : field ≡ drop (length bytes - 32) bytes = is_field ∙ take_all 32 (drop (length bytes - 32) bytes) (omega arith) in
    sym ((bytes_eq-Decides _ _).1 (sym whole ∙ sym (tells.0 refl) ∙ is_tag))
signed_told bytes key tag field false long is_tag is_field tells =
    let rest : length (drop (length bytes - 32) bytes) ≡ 32 = length-drop (length bytes - 32) bytes ∙ omega arith in
    let whole : field ≡ drop (length bytes - 32) bytes = is_field ∙ take_all 32 (drop (length bytes - 32) bytes) (omega arith) in
    let apart : drop (length bytes - 32) bytes ≡ hmac_of key (take (length bytes - 32) bytes) → ⊥ =
    λ e. cc (tells.1 (is_tag ∙ sym e ∙ sym whole)) in
    sym (false_from _ (bytes_eq-Decides _ _) apart)
