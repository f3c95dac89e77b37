-- The tags in the slots of a block, after another tag was put in one.
use Rattle.std.proofs.Common.{◌≡◌, ◌≢◌, ℕ, ◌+◌, ◌-◌, ◌*◌, ◌<◌, ◌≤◌, inl, inr, List, ◌++◌, length, take, drop, replicate, ap, sym, ◌∙◌, arith, length-append, length-drop, append_assoc}
use Rattle.std.proofs.lemmas.List.{take-append-le, take-append-drop, length-take-le, take_at, drop_at, drop-append-le}
use Rattle.std.proofs.lemmas.Slice.{drop-append-drop}
use Rattle.std.proofs.lemmas.Bool.{cases_order}
use Rattle.sec_base.specs.Geometry.{GeometryView, arity, slot_len}
use Rattle.sec_base.specs.Tag.{IsTag}
use Rattle.sec_base.specs.declared.sealed.TheConstants.{TAG_LEN}
use Rattle.sec_base.proofs.Slots.{slot_before, slot_ends, slot_short}
use Rattle.bonsai_tree.specs.Node.{tag_in_slot, with_tag}

module _ (geometry : GeometryView) (slot : ℕ) (tag block : List ℕ) (inside : slot < arity geometry) (fits : IsTag geometry.layout tag) (long : length block ≡ 64) where
  -- where the slot begins, and where it ends
  abbrev start : ℕ
  start = slot_len geometry * slot

  abbrev end : ℕ
  end = start + slot_len geometry

  -- what is kept of the tag
  abbrev kept : List ℕ
  kept = take (slot_len geometry) tag

  -- a tag by the bytes of its slot
  abbrev filled : List ℕ → List ℕ
  filled bytes = bytes ++ replicate (TAG_LEN - slot_len geometry) 0

  ends : end ≤ 64
  ends = slot_ends geometry.layout slot inside

  front_long : length (take start block) ≡ start
  front_long = length-take-le start block (omega (arith, ends, long))

  kept_long : length kept ≡ slot_len geometry
  kept_long = length-take-le (slot_len geometry) tag (omega (arith, fits.long, slot_short geometry.layout))

  -- the slot itself has the new tag
  pub slot_same : tag_in_slot geometry slot (with_tag geometry slot tag block) ≡ tag
  slot_same =
      ap (λ (xs : List ℕ). filled (take (slot_len geometry) (drop start xs))) (append_assoc (take start block) kept (drop end block))
      ∙ ap (λ (xs : List ℕ). filled (take (slot_len geometry) xs)) (drop_at (take start block) (kept ++ drop end block) start front_long)
      ∙ ap filled (take_at kept (drop end block) (slot_len geometry) kept_long)
      ∙ ap (λ (xs : List ℕ). kept ++ xs) (sym fits.rest)
      ∙ take-append-drop (slot_len geometry) tag

  -- the block is as long as before
  pub with_tag_long : length (with_tag geometry slot tag block) ≡ 64
  with_tag_long =
      omega (
        arith,
        length-append (take start block ++ kept) (drop end block),
        length-append (take start block) kept,
        front_long,
        kept_long,
        length-drop end block,
        ends,
        long,
      )

  -- a slot that stands wholly in a front part
  in_front : (front back : List ℕ) (other : ℕ) → slot_len geometry * other + slot_len geometry ≤ length front →
      tag_in_slot geometry other (front ++ back) ≡ tag_in_slot geometry other front
  in_front front back other within =
      ap (λ (xs : List ℕ). filled (take (slot_len geometry) xs)) (drop-append-le (slot_len geometry * other) front back (omega (arith, within)))
      ∙ ap filled
      (take-append-le (slot_len geometry) (drop (slot_len geometry * other) front) back (omega (arith, within, length-drop (slot_len geometry * other) front)))

  before : (other : ℕ) → other < slot → tag_in_slot geometry other (with_tag geometry slot tag block) ≡ tag_in_slot geometry other block
  before other less =
      let within : slot_len geometry * other + slot_len geometry ≤ length (take start block) =
      omega (arith, slot_before geometry.layout other slot less, front_long) in
      ap (tag_in_slot geometry other) (append_assoc (take start block) kept (drop end block))
      ∙ in_front (take start block) (kept ++ drop end block) other within
      ∙ sym (in_front (take start block) (drop start block) other within)
      ∙ ap (tag_in_slot geometry other) (take-append-drop start block)

  behind : (other : ℕ) → slot < other → tag_in_slot geometry other (with_tag geometry slot tag block) ≡ tag_in_slot geometry other block
  behind other more =
      ap (λ (xs : List ℕ). filled (take (slot_len geometry) xs))
      (drop-append-drop end block (take start block ++ kept) (slot_len geometry * other) (slot_before geometry.layout slot other more)
      (omega (arith, length-append (take start block) kept, front_long, kept_long)))

  -- each other slot has the tag that it had
  pub slot_other : (other : ℕ) → other ≢ slot → tag_in_slot geometry other (with_tag geometry slot tag block) ≡ tag_in_slot geometry other block
  slot_other other differs =
      elim (cases_order other slot) [
        | inl same ↦ absurd (differs same)
        | inr apart ↦ elim apart [
          | inl less ↦ before other less
          | inr more ↦ behind other more
        ]
      ]
