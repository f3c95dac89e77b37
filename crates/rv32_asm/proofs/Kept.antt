-- An instruction is well formed with those of its fields that its format has, and its word is as with all of them.
use Rattle.std.proofs.Common.{◌≡◌, ℕ, ◌+◌, ◌-◌, ◌*◌, ◌%◌, ◌^◌, ◌<◌, ◌≤◌, ℤ, pos, negsuc, neg_ℤ, ◌≤ℤ◌, int_le, List, Bool, true, false, Option, Some, None, refl, ap, ◌∙◌, ◌&&◌, inl, inr, arith, if◌then◌else◌}
use Rattle.std.proofs.lemmas.Bool.{and_parts, eqb-true, leb-true}
use Rattle.std.proofs.lemmas.Int.{ints}
use Rattle.std.specs.Int.{cast_unsigned, w32}
use Rattle.std.specs.Prelude.{unsigned_abs}
use Rattle.rv32_decode.specs.Encoding.{FitsFormat, IsInst, field_bits, word_of}
use Rattle.rv32_decode.specs.Table.{row_of}
use Rattle.rv32_decode.specs.Words.{field, signed_number}
use Rattle.rv32_decode.specs.declared.Inst.{Inst}
use Rattle.rv32_decode.specs.declared.table.Format.{Format}
use Rattle.rv32_decode.specs.declared.table.Format.TheVariants.{R, I, S, B, U, J, Shift, Fieldless}
use Rattle.rv32_asm.specs.Encoding.{distance, encoded_at, fits_at, fits_format, immediate_of, is_even}
use Rattle.rv32_asm.specs.Fields.{immediate_in, own_fields}
use Rattle.rv32_asm.specs.Labels.{Label}
use Rattle.rv32_asm_syntax.specs.Numbers.{is_between}
use Rattle.rv32_asm_syntax.specs.Statements.{Instruction}
use Rattle.rv32_asm.specs.Values.{immediate_value}
use Rattle.rv32_decode.proofs.Signed.{complement_range, complement_word}

-- ---- the word

op_kept : (f : Format) (i : Inst) → (own_fields f i).op ≡ i.op
op_kept R i = refl
op_kept I i = refl
op_kept S i = refl
op_kept B i = refl
op_kept U i = refl
op_kept J i = refl
op_kept Shift i = refl
op_kept Fieldless i = refl

placed_kept : (f : Format) (i : Inst) → field_bits f (own_fields f i) ≡ field_bits f i
unfolding field_bits
placed_kept R i = refl
placed_kept I i = refl
placed_kept S i = refl
placed_kept B i = refl
placed_kept U i = refl
placed_kept J i = refl
placed_kept Shift i = refl
placed_kept Fieldless i = refl

pub word_kept : (i : Inst) → word_of (own_fields (row_of i.op).format i) ≡ word_of i
unfolding word_of
word_kept i =
    let format = (row_of i.op).format in
    rw (op_kept format i) (ap (λ n. (row_of i.op).pattern + n) (placed_kept format i))

-- ---- the immediate

from_le : (a b : ℤ) → int_le a b ≡ true → a ≤ℤ b
from_le (pos a) (pos b) e = let h = leb-true a b e in omega (arith, ints)
from_le (pos a) (negsuc b) e = cc
from_le (negsuc a) (pos b) e = omega (arith, ints)
from_le (negsuc a) (negsuc b) e = let h = leb-true b a e in omega (arith, ints)

pub from_between : (low high z : ℤ) → is_between low high z ≡ true → (low ≤ℤ z) × (z ≤ℤ high)
from_between low high z e =
    let parts = and_parts (int_le low z) (int_le z high) e in
    (from_le low z parts.0, from_le z high parts.1)

even_bits : (z : ℤ) → is_even z ≡ true → negsuc 2147483647 ≤ℤ z → z ≤ℤ pos 2147483647 → field (cast_unsigned w32 z) 0 1 ≡ 0
even_bits (pos a) e low high = let f = eqb-true (a % 2) 0 e in omega arith
even_bits (negsuc a) e low high =
    let below : a ≤ 2147483647 = omega (arith, ints) in
    let f = eqb-true (2 - 1 - a % 2) 0 e in
    omega arith

upper_range : (n : ℕ) → n ≤ 1048575 → (negsuc 2147483647 ≤ℤ signed_number 32 (n * 2 ^ 12)) × (signed_number 32 (n * 2 ^ 12) ≤ℤ pos 2147483647)
upper_range n small = complement_range 2147483647 4294967295 refl (n * 2 ^ 12) (omega arith)

upper_bits : (n : ℕ) → n ≤ 1048575 → field (cast_unsigned w32 (signed_number 32 (n * 2 ^ 12))) 0 12 ≡ 0
upper_bits n small =
    elim (complement_word 2147483647 4294967295 refl (n * 2 ^ 12) (omega arith) (omega arith)) [
      | inl w ↦ omega (arith, w.1)
      | inr w ↦ omega (arith, w.1)
    ]

upper_fits : (value : ℤ) → pos 0 ≤ℤ value → value ≤ℤ pos 1048575 → let imm = signed_number 32 (unsigned_abs value * 2 ^ 12) in
    (negsuc 2147483647 ≤ℤ imm) × (imm ≤ℤ pos 2147483647) × (field (cast_unsigned w32 imm) 0 12 ≡ 0)
upper_fits (pos n) low high =
    let small : n ≤ 1048575 = omega (arith, ints) in
    let range = upper_range n small in
    (range.0, range.1, upper_bits n small)
upper_fits (negsuc n) low high = absurd (omega (arith, ints))

far_fits : (z low high : ℤ) → negsuc 2147483647 ≤ℤ low → high ≤ℤ pos 2147483647 → (is_even z && is_between low high z) ≡ true →
    (low ≤ℤ z) × (z ≤ℤ high) × (field (cast_unsigned w32 z) 0 1 ≡ 0)
far_fits z low high least most e =
    let parts = and_parts (is_even z) (is_between low high z) e in
    let range = from_between low high z parts.1 in
    (range.0, range.1, even_bits z parts.0 (omega (arith, ints)) (omega (arith, ints)))

pub in_reach : (even : Bool) (low a high b far z : ℤ) (result : Option ℤ) → even ≡ true → a ≡ low → b ≡ high → z ≡ far →
    result ≡ (if is_between a b z then Some z else None) → result ≡ (if even && is_between low high far then Some far else None)
in_reach even low a high b far z result e f g h found = let there = rw (f, g, h) at found in rw e there

-- ---- the instruction

-- the fields of the format, and an immediate in its range, are those of the format
fits_kept : (f : Format) (i : Inst) (address : ℕ) (value : ℤ) → fits_format f address value ≡ true →
    i.imm ≡ immediate_of f address value → FitsFormat f (own_fields f i)
unfolding FitsFormat
fits_kept R i address value fits e = e
fits_kept I i address value fits e = let range = from_between _ _ value fits in rw e (refl, range.0, range.1)
fits_kept S i address value fits e = let range = from_between _ _ value fits in rw e (refl, range.0, range.1)
fits_kept B i address value fits e =
    let far = far_fits (distance address value) (neg_ℤ (pos 4096)) (pos 4094) (omega (arith, ints)) (omega (arith, ints)) fits in
    rw e (refl, far.0, far.1, far.2)
fits_kept U i address value fits e =
    let range = from_between _ _ value fits in
    let upper = upper_fits value range.0 range.1 in
    rw e (refl, refl, upper.0, upper.1, upper.2)
fits_kept J i address value fits e =
    let far = far_fits (distance address value) (neg_ℤ (pos 1048576)) (pos 1048574) (omega (arith, ints)) (omega (arith, ints)) fits in
    rw e (refl, refl, far.0, far.1, far.2)
fits_kept Shift i address value fits e = let range = from_between _ _ value fits in rw e (refl, range.0, range.1)
fits_kept Fieldless i address value fits e = (refl, refl, refl, e)

-- ---- whether there is an immediate

none_taken : (b : Bool) (x : ℤ) → (if b then Some x else None) ≡ None → b ≡ false
none_taken true x e = cc
none_taken false x e = refl

some_taken : (b : Bool) (x imm : ℤ) → (if b then Some x else None) ≡ Some imm → (b ≡ true) × (imm ≡ x)
some_taken true x imm e = (refl, cc)
some_taken false x imm e = cc

rd_kept : (f : Format) (i : Inst) → i.rd < 32 → (own_fields f i).rd < 32
rd_kept R i small = small
rd_kept I i small = small
rd_kept S i small = omega arith
rd_kept B i small = omega arith
rd_kept U i small = small
rd_kept J i small = small
rd_kept Shift i small = small
rd_kept Fieldless i small = omega arith

rs1_kept : (f : Format) (i : Inst) → i.rs1 < 32 → (own_fields f i).rs1 < 32
rs1_kept R i small = small
rs1_kept I i small = small
rs1_kept S i small = small
rs1_kept B i small = small
rs1_kept U i small = omega arith
rs1_kept J i small = omega arith
rs1_kept Shift i small = small
rs1_kept Fieldless i small = omega arith

rs2_kept : (f : Format) (i : Inst) → i.rs2 < 32 → (own_fields f i).rs2 < 32
rs2_kept R i small = small
rs2_kept I i small = omega arith
rs2_kept S i small = small
rs2_kept B i small = small
rs2_kept U i small = omega arith
rs2_kept J i small = omega arith
rs2_kept Shift i small = omega arith
rs2_kept Fieldless i small = omega arith

module _ (labels : List Label) (address : ℕ) (i : Instruction) (value : ℤ) (valued : value ≡ immediate_value labels i.immediate) where
  pub no_word : immediate_in (row_of i.op).format address value ≡ None →
      None ≡ (if fits_at labels address i then Some (word_of (encoded_at labels address i)) else None)
  unfolding fits_at
  no_word none =
      let f = rw valued at none in
      rw (none_taken (fits_format (row_of i.op).format address (immediate_value labels i.immediate)) _ f) refl

  -- the instruction with an immediate
  abbrev pub given : ℤ → Inst
  given imm = record { op = i.op; rd = i.rd; rs1 = i.rs1; rs2 = i.rs2; imm = imm }

  module _ (imm : ℤ) (taken : immediate_in (row_of i.op).format address value ≡ Some imm) (inst : Inst)
      (inst_is : inst ≡ own_fields (row_of i.op).format (given imm)) where
    pub has_word : (word : ℕ) → word ≡ word_of inst →
        Some word ≡ (if fits_at labels address i then Some (word_of (encoded_at labels address i)) else None)
    unfolding fits_at encoded_at
    has_word word e =
        let f = rw valued at taken in
        let t = some_taken (fits_format (row_of i.op).format address (immediate_value labels i.immediate)) _ imm f in
        rw (t.0) (ap Some (e ∙ (ap word_of inst_is ∙ (word_kept (given imm) ∙ ap (λ n. word_of (given n)) t.1))))

    pub is_formed : i.rd < 32 → i.rs1 < 32 → i.rs2 < 32 → IsInst inst
    is_formed a b c =
        let format = (row_of i.op).format in
        let t = some_taken (fits_format format address value) _ imm taken in
        rw inst_is (record {
          rd = rd_kept format (given imm) a;
          rs1 = rs1_kept format (given imm) b;
          rs2 = rs2_kept format (given imm) c;
          format = rw (op_kept format (given imm)) (fits_kept format (given imm) address value t.0 t.1);
        })
