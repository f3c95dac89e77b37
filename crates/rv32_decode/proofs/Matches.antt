-- What holds of the rows of the table, by computing it, and what follows for a word.
use Rattle.std.proofs.Common.{◌≡◌, ◌≢◌, ℕ, ◌<◌, ◌≤◌, ◌==◌, ◌%◌, ◌^◌, ◌∙◌, Bool, true, false, not, All, Some, bit_and, filter, find, is_some, length, refl, sym, ap}
use Rattle.std.proofs.lemmas.Bool.{eq-eqb, eqb-false, eqb-true, ne_eqb, not-true}
use Rattle.std.proofs.lemmas.List.Elements.{All-from_recursion, recursion_from_All}
use Rattle.std.proofs.lemmas.Nat.{and_assoc, and_comm}
use Rattle.std.specs.List.{list_all}
use Rattle.rv32_decode.proofs.Masks.{is_pattern, is_regular, mask_is, mask_of, tests_fields}
use Rattle.rv32_decode.proofs.Finds.{each_pair, find_all, find_none, find_passes, find_same, none_found, one_found, one_passes}
use Rattle.rv32_decode.specs.Decoding.{is_word_of, matching_row}
use Rattle.rv32_decode.specs.Search.{are_fixed, row_at}
use Rattle.rv32_decode.specs.Table.{Row, ops, row_of, rows}
use Rattle.rv32_decode.specs.Words.{field}
use Rattle.rv32_decode.specs.declared.Op.{Op}
use Rattle.rv32_decode.specs.declared.Op.TheVariants.{Lui, Auipc, Jal, Jalr, Beq, Bne, Blt, Bge, Bltu, Bgeu, Lb, Lh, Lw, Lbu, Lhu, Sb, Sh, Sw, Addi, Slti, Sltiu, Xori, Ori, Andi, Slli, Srli, Srai, Add, Sub, Sll, Slt, Sltu, Xor, Srl, Sra, Or, And, Mul, Mulh, Mulhsu, Mulhu, Div, Divu, Rem, Remu, Fence, FenceI, Ecall, Ebreak}

-- a number for each name, that tells it from the others
unfoldable number_of : Op → ℕ
number_of Lui = 0
number_of Auipc = 1
number_of Jal = 2
number_of Jalr = 3
number_of Beq = 4
number_of Bne = 5
number_of Blt = 6
number_of Bge = 7
number_of Bltu = 8
number_of Bgeu = 9
number_of Lb = 10
number_of Lh = 11
number_of Lw = 12
number_of Lbu = 13
number_of Lhu = 14
number_of Sb = 15
number_of Sh = 16
number_of Sw = 17
number_of Addi = 18
number_of Slti = 19
number_of Sltiu = 20
number_of Xori = 21
number_of Ori = 22
number_of Andi = 23
number_of Slli = 24
number_of Srli = 25
number_of Srai = 26
number_of Add = 27
number_of Sub = 28
number_of Sll = 29
number_of Slt = 30
number_of Sltu = 31
number_of Xor = 32
number_of Srl = 33
number_of Sra = 34
number_of Or = 35
number_of And = 36
number_of Mul = 37
number_of Mulh = 38
number_of Mulhsu = 39
number_of Mulhu = 40
number_of Div = 41
number_of Divu = 42
number_of Rem = 43
number_of Remu = 44
number_of Fence = 45
number_of FenceI = 46
number_of Ecall = 47
number_of Ebreak = 48

abbrev fits : Row → Bool
fits r = is_regular r.mask r.format r.pattern

-- no word is of both rows
abbrev are_apart : Row → Row → Bool
are_apart r s = not (bit_and r.pattern s.mask == bit_and s.pattern r.mask)

abbrev other_name : Row → Row → Bool
other_name r s = not (number_of r.op == number_of s.op)

rows_fit : list_all fits rows ≡ true
unfolding rows ops row_of is_regular mask_of
rows_fit = refl

rows_apart : each_pair are_apart rows ≡ true
unfolding rows ops row_of
rows_apart = refl

rows_named : each_pair other_name rows ≡ true
unfolding rows ops row_of number_of
rows_named = refl

-- each name has a row
row_found : (op : Op) → find (λ r. number_of r.op == number_of op) rows ≡ Some (row_of op)
unfolding rows ops row_of number_of
row_found Lui = refl
row_found Auipc = refl
row_found Jal = refl
row_found Jalr = refl
row_found Beq = refl
row_found Bne = refl
row_found Blt = refl
row_found Bge = refl
row_found Bltu = refl
row_found Bgeu = refl
row_found Lb = refl
row_found Lh = refl
row_found Lw = refl
row_found Lbu = refl
row_found Lhu = refl
row_found Sb = refl
row_found Sh = refl
row_found Sw = refl
row_found Addi = refl
row_found Slti = refl
row_found Sltiu = refl
row_found Xori = refl
row_found Ori = refl
row_found Andi = refl
row_found Slli = refl
row_found Srli = refl
row_found Srai = refl
row_found Add = refl
row_found Sub = refl
row_found Sll = refl
row_found Slt = refl
row_found Sltu = refl
row_found Xor = refl
row_found Srl = refl
row_found Sra = refl
row_found Or = refl
row_found And = refl
row_found Mul = refl
row_found Mulh = refl
row_found Mulhsu = refl
row_found Mulhu = refl
row_found Div = refl
row_found Divu = refl
row_found Rem = refl
row_found Remu = refl
row_found Fence = refl
row_found FenceI = refl
row_found Ecall = refl
row_found Ebreak = refl

pub name_of_row : (op : Op) → (row_of op).op ≡ op
unfolding row_of
name_of_row Lui = refl
name_of_row Auipc = refl
name_of_row Jal = refl
name_of_row Jalr = refl
name_of_row Beq = refl
name_of_row Bne = refl
name_of_row Blt = refl
name_of_row Bge = refl
name_of_row Bltu = refl
name_of_row Bgeu = refl
name_of_row Lb = refl
name_of_row Lh = refl
name_of_row Lw = refl
name_of_row Lbu = refl
name_of_row Lhu = refl
name_of_row Sb = refl
name_of_row Sh = refl
name_of_row Sw = refl
name_of_row Addi = refl
name_of_row Slti = refl
name_of_row Sltiu = refl
name_of_row Xori = refl
name_of_row Ori = refl
name_of_row Andi = refl
name_of_row Slli = refl
name_of_row Srli = refl
name_of_row Srai = refl
name_of_row Add = refl
name_of_row Sub = refl
name_of_row Sll = refl
name_of_row Slt = refl
name_of_row Sltu = refl
name_of_row Xor = refl
name_of_row Srl = refl
name_of_row Sra = refl
name_of_row Or = refl
name_of_row And = refl
name_of_row Mul = refl
name_of_row Mulh = refl
name_of_row Mulhsu = refl
name_of_row Mulhu = refl
name_of_row Div = refl
name_of_row Divu = refl
name_of_row Rem = refl
name_of_row Remu = refl
name_of_row Fence = refl
name_of_row FenceI = refl
name_of_row Ecall = refl
name_of_row Ebreak = refl

both_words : (w m n p q : ℕ) → bit_and w m ≡ p → bit_and w n ≡ q → bit_and p n ≡ bit_and q m
both_words w m n p q e f =
    let first = ap (λ x. bit_and x n) (sym e) ∙ and_assoc n w m in
    let second = ap (λ x. bit_and x m) (sym f) ∙ and_assoc m w n in
    first ∙ ap (bit_and w) (and_comm m n) ∙ sym second

never_both : (w : ℕ) (r s : Row) → are_apart r s ≡ true → is_word_of w r ≡ true → is_word_of w s ≡ true → ⊥
never_both w r s apart e f =
    let same = both_words w r.mask s.mask r.pattern s.pattern (eqb-true _ _ e) (eqb-true _ _ f) in
    eqb-false _ _ (not-true _ apart) same

never_named : (op : Op) (r s : Row) → other_name r s ≡ true → (number_of r.op == number_of op) ≡ true → (number_of s.op == number_of op) ≡ true → ⊥
never_named op r s other e f =
    eqb-false _ _ (not-true _ other) (eqb-true _ _ e ∙ sym (eqb-true _ _ f))

-- a search by masks is a search by fields
pub row_by_fields : (w : ℕ) → w < 2 ^ 32 → matching_row w ≡ row_at (w % 2 ^ 7) (field w 12 3) (field w 25 7) w
unfolding matching_row row_at
row_by_fields w below =
    find_same fits (is_word_of w) (λ r. are_fixed (w % 2 ^ 7) (field w 12 3) (field w 25 7) w r.format r.pattern)
    (λ r fit. ap (λ m. bit_and w m == r.pattern) (mask_is r.mask r.format r.pattern fit)
    ∙ tests_fields r.format w r.pattern below (is_pattern r.mask r.format r.pattern fit))
    rows rows_fit

-- what a search finds is the row of its name
pub row_of_found : (p : Row → Bool) (r : Row) → find p rows ≡ Some r → row_of r.op ≡ r
row_of_found p r e =
    let found : find (λ s. number_of s.op == number_of r.op) rows ≡ Some r
    = one_found other_name (λ s. number_of s.op == number_of r.op) (never_named r.op) p rows r rows_named e (eq-eqb _ _ refl) in
    let here : find (λ s. number_of s.op == number_of r.op) rows ≡ Some (row_of r.op) = row_found r.op in
    cc

-- no other row comes between a word and the row whose pattern it has
pub row_of_word : (w : ℕ) (op : Op) → is_word_of w (row_of op) ≡ true → matching_row w ≡ Some (row_of op)
unfolding matching_row
row_of_word w op passes =
    one_found are_apart (is_word_of w) (never_both w) (λ r. number_of r.op == number_of op) rows (row_of op) rows_apart (row_found op) passes

pub row_fits : (op : Op) → is_regular (row_of op).mask (row_of op).format (row_of op).pattern ≡ true
row_fits op = find_all fits (λ r. number_of r.op == number_of op) rows (row_of op) rows_fit (row_found op)

pub found_fits : (w : ℕ) (r : Row) → matching_row w ≡ Some r → is_regular r.mask r.format r.pattern ≡ true
unfolding matching_row
found_fits w r e = find_all fits (is_word_of w) rows r rows_fit e

pub found_matches : (w : ℕ) (r : Row) → matching_row w ≡ Some r → is_word_of w r ≡ true
unfolding matching_row
found_matches w r e = find_passes (is_word_of w) rows r e

pub row_of_match : (w : ℕ) (r : Row) → matching_row w ≡ Some r → row_of r.op ≡ r
unfolding matching_row
row_of_match w r e = row_of_found (is_word_of w) r e

pub one_row : (w : ℕ) → length (filter (is_word_of w) rows) ≤ 1
one_row w = one_passes are_apart (is_word_of w) (never_both w) rows rows_apart

pub no_row : (w : ℕ) → is_some (matching_row w) ≡ false → All (λ r. bit_and w r.mask ≢ r.pattern) rows
unfolding matching_row
no_row w none =
    let P : Row → Type 0 = λ r. bit_and w r.mask ≢ r.pattern in
    All-from_recursion P rows (none_found (is_word_of w) P (λ r. eqb-false (bit_and w r.mask) r.pattern) rows none)

pub row_missing : (w : ℕ) → All (λ r. bit_and w r.mask ≢ r.pattern) rows → is_some (matching_row w) ≡ false
unfolding matching_row
row_missing w all =
    let P : Row → Type 0 = λ r. bit_and w r.mask ≢ r.pattern in
    find_none (is_word_of w) P (λ r. ne_eqb (bit_and w r.mask) r.pattern) rows (recursion_from_All P rows all)
