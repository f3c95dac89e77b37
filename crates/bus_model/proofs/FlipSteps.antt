-- Bytes, one of which is xored, and what becomes of a line's tag.
use Rattle.std.proofs.Common.{◌≡◌, ℕ, ◌+◌, ◌-◌, ◌<◌, ◌≤◌, Bool, true, false, cond, nat_eq, List, ◌++◌, length, drop, slice_index, inl, inr, arith, refl, ◌∙◌, ap, sym}
use Rattle.std.proofs.lemmas.List.{get_or_append_left, get_or-append-add, set-append_left, set-append_right, length-set, drop-set-lt}
use Rattle.std.proofs.Math.Seq.{drop-append_seam}
use Rattle.std.proofs.lemmas.Bool.{and_parts, cases_lt}
use Rattle.sec_base.specs.Geometry.{GeometryView, slot_len, slot_len_of}
use Rattle.sec_base.specs.Place.{place_eq, stored_size}
use Rattle.sec_base.specs.Tag.{IsTag}
use Rattle.sec_base.specs.Evidence.{sealed_bytes}
use Rattle.sec_base.specs.declared.geometry.Layout.{Layout}
use Rattle.sec_base.specs.declared.place.Place.{Place}
use Rattle.sec_base.specs.declared.place.Place.TheVariants.{Line, Node}
use Rattle.sec_base.specs.declared.sealed.Sealed.{Sealed}
use Rattle.bus_model.specs.declared.flip_bus.Flip.{Flip}
use Rattle.bus_model.specs.FlipBus.{is_due, with_flip}

-- a byte of the front part
pub with_flip-front : (front back : List ℕ) (offset mask : ℕ) → offset < length front →
    with_flip offset mask (front ++ back) ≡ with_flip offset mask front ++ back
unfolding with_flip
with_flip-front front back offset mask inside =
    rw (get_or_append_left front back 0 offset inside) (set-append_left front back offset _ inside)

-- a byte of the back part
pub with_flip-back : (front back : List ℕ) (offset mask : ℕ) → length front ≤ offset →
    with_flip offset mask (front ++ back) ≡ front ++ with_flip (offset - length front) mask back
unfolding with_flip
with_flip-back front back offset mask behind =
    let at : offset ≡ length front + (offset - length front) = omega arith in
    let byte : slice_index (front ++ back) offset ≡ slice_index back (offset - length front) =
    ap (λ (n : ℕ). slice_index (front ++ back) n) at ∙ get_or-append-add front back (offset - length front) 0 in
    rw byte (set-append_right front back (length front) offset _ refl behind)

-- what stands behind parts of one length
behind : (front front' back back' : List ℕ) → length front ≡ length front' → front ++ back ≡ front' ++ back' → back ≡ back'
behind front front' back back' long same =
    sym (drop-append_seam front back) ∙ ap (drop (length front)) same ∙ ap (λ (n : ℕ). drop n (front' ++ back')) long ∙ drop-append_seam front' back'

-- a tag stays one where a byte of its slot changes
slot_byte : (layout : Layout) (offset mask : ℕ) (tag : List ℕ) → offset < slot_len_of layout → IsTag layout tag → IsTag layout (with_flip offset mask tag)
unfolding with_flip
slot_byte layout offset mask tag inside fits =
    record {
      long = length-set tag offset _ ∙ fits.long;
      rest = drop-set-lt (slot_len_of layout) tag offset _ inside ∙ fits.rest;
    }

flipped_tag : (layout : Layout) (offset mask : ℕ) (sealed answer : Sealed) → length sealed.cipher ≡ 64 → length answer.cipher ≡ 64 →
    sealed_bytes answer ≡ with_flip offset mask (sealed_bytes sealed) → offset < 64 + slot_len_of layout → IsTag layout sealed.tag → IsTag layout answer.tag
unfolding with_flip
flipped_tag layout offset mask sealed answer long long' flipped inside fits =
    elim (cases_lt offset 64) [
      | inl before ↦
          rw (behind answer.cipher (with_flip offset mask sealed.cipher) answer.tag sealed.tag
          (long' ∙ sym long ∙ sym (length-set sealed.cipher offset _)) (flipped ∙ with_flip-front sealed.cipher sealed.tag offset mask (omega (arith, long)))) fits
      | inr after ↦
          rw (behind answer.cipher sealed.cipher answer.tag (with_flip (offset - length sealed.cipher) mask sealed.tag)
          (long' ∙ sym long) (flipped ∙ with_flip-back sealed.cipher sealed.tag offset mask (omega (arith, long))))
          (slot_byte layout (offset - length sealed.cipher) mask sealed.tag (omega (arith, long)) fits)
    ]

line_offset : (geometry : GeometryView) (line offset : ℕ) (place : Place) → place_eq (Line line) place ≡ true → offset < stored_size geometry place →
    offset < 64 + slot_len geometry
line_offset geometry line offset (Line other) same inside = inside
line_offset geometry line offset (Node level index) same inside = absurd (cc)

-- the tag that is answered for a line, where the read is due to be changed or isn't
pub answered_tag : (geometry : GeometryView) (flip : Flip) (line reads : ℕ) (due : Bool) (sealed answer : Sealed) →
    length sealed.cipher ≡ 64 → length answer.cipher ≡ 64 → due ≡ is_due flip (Line line) reads →
    sealed_bytes answer ≡ cond due (with_flip flip.offset flip.mask (sealed_bytes sealed)) (sealed_bytes sealed) →
    flip.offset < stored_size geometry flip.place → IsTag geometry.layout sealed.tag → IsTag geometry.layout answer.tag
answered_tag geometry flip line reads true sealed answer long long' is answered inside fits =
    let same : place_eq (Line line) flip.place ≡ true = (and_parts (place_eq (Line line) flip.place) (nat_eq (reads + 1) flip.read) (sym is)).0 in
    flipped_tag geometry.layout flip.offset flip.mask sealed answer long long' answered (line_offset geometry line flip.offset flip.place same inside) fits
answered_tag geometry flip line reads false sealed answer long long' is answered inside fits =
    rw (behind answer.cipher sealed.cipher answer.tag sealed.tag (long' ∙ sym long) answered) fits
