-- The bytes of a state are put together and read back.
use Rattle.std.proofs.Common.{◌≡◌, ℕ, zero, suc, ◌+◌, ◌*◌, ◌^◌, ◌<◌, List, [], ◌∷◌, ◌++◌, length, take, drop, get_or, set, map, replicate, refl, sym, ap, ◌∙◌, subst, arith, length-append, append_assoc, w32, w64}
use Rattle.std.specs.Int.{to_le_bytes, from_le_bytes}
use Rattle.std.specs.List.{flat_map, range_with_len}
use Rattle.std.proofs.lemmas.Grind.{flat_map-append}
use Rattle.std.proofs.lemmas.List.{append-nil, ext_get_or, take-append-drop, take_all, take_more}
use Rattle.std.proofs.lemmas.List.Edits.{fill_by_more}
use Rattle.std.proofs.lemmas.List.FromFn.{get_or-map-range_with_len, length-map-range_with_len}
use Rattle.std.proofs.lemmas.Nat.{from_le_bytes-to_le_bytes_4, from_le_bytes-to_le_bytes_8}
use Rattle.sec_base.proofs.MessageBytes.{put_behind}
use Rattle.sealed_state.specs.declared.chip_state.ChipState.{ChipState}
use Rattle.sealed_state.specs.ChipState.{state_field_bytes, registers_in, spare_bytes, state_of_bytes, u32_at}
use Rattle.sealed_state.proofs.Parts.{part_at, two_put}

-- the bytes of words
abbrev pub word_bytes : List ℕ → List ℕ
word_bytes = flat_map (to_le_bytes w32)

pub length-word_bytes : (words : List ℕ) → length (word_bytes words) ≡ 4 * length words
length-word_bytes [] = refl
length-word_bytes (word ∷ words) =
    omega (arith, length-append (to_le_bytes w32 word) (word_bytes words), length-word_bytes words)

-- a word more was put
pub word_put : (words old new piece : List ℕ) (place word : ℕ) → place < length words → word ≡ get_or words place 0 →
    piece ≡ to_le_bytes w32 word → take (4 * place) old ≡ word_bytes (take place words) →
    take (4 * place + length piece) new ≡ take (4 * place) old ++ piece →
    take (4 * (place + 1)) new ≡ word_bytes (take (place + 1) words)
word_put words old new piece place word inside is piece_is was put =
    let four : length piece ≡ 4 = ap length piece_is in
    let ends : 4 * (place + 1) ≡ 4 * place + length piece = omega (arith, four) in
    let last : piece ≡ word_bytes (get_or words place 0 ∷ []) =
    piece_is ∙ ap (to_le_bytes w32) is ∙ sym (append-nil (to_le_bytes w32 (get_or words place 0))) in
    put_behind (4 * place) (4 * (place + 1)) piece old new (word_bytes (take place words)) put ends was
    ∙ ap (λ (xs : List ℕ). word_bytes (take place words) ++ xs) last
    ∙ sym (flat_map-append (to_le_bytes w32) (take place words) (get_or words place 0 ∷ []))
    ∙ ap word_bytes (sym (take_more words place 0 inside))

-- all words were put
pub words_put : (words bytes : List ℕ) → length words ≡ 31 → length bytes ≡ 124 → take (4 * 31) bytes ≡ word_bytes (take 31 words) →
    bytes ≡ word_bytes words
words_put words bytes long whole put =
    sym (take_all 124 bytes (omega arith)) ∙ put ∙ ap word_bytes (take_all 31 words (omega arith))

-- the bytes of a word among others
word_at : (words rest : List ℕ) (place : ℕ) → place < length words →
    take 4 (drop (4 * place) (word_bytes words ++ rest)) ≡ to_le_bytes w32 (get_or words place 0)
word_at [] rest place inside = absurd (omega arith)
word_at (word ∷ words) rest zero inside = refl
word_at (word ∷ words) rest (suc place) inside =
    let ends : 4 * suc place ≡ suc (suc (suc (suc (4 * place)))) = omega arith in
    rw ends (word_at words rest place (omega arith))

-- a register behind the program counter is read back
register_back : (regs rest : List ℕ) (pc place : ℕ) → place < length regs → get_or regs place 0 < 2 ^ 32 →
    u32_at (to_le_bytes w32 pc ++ (word_bytes regs ++ rest)) (4 * suc place) ≡ get_or regs place 0
register_back regs rest pc place inside fit =
    ap (from_le_bytes w32) (word_at (pc ∷ regs) rest (suc place) (omega arith))
    ∙ from_le_bytes-to_le_bytes_4 (get_or regs place 0) fit

-- and so are all registers
registers_back : (regs rest bytes : List ℕ) (pc : ℕ) → bytes ≡ to_le_bytes w32 pc ++ (word_bytes regs ++ rest) →
    length regs ≡ 31 → ((k : ℕ) → get_or regs k 0 < 2 ^ 32) → registers_in bytes ≡ regs
unfolding registers_in
registers_back regs rest bytes pc same long fit =
    ext_get_or 0 (map (λ register. u32_at bytes (4 * register)) (range_with_len 1 31)) regs
    (length-map-range_with_len (λ register. u32_at bytes (4 * register)) 1 31 ∙ sym long)
    (λ place inside.
    let below : place < 31 = omega (arith, length-map-range_with_len (λ register. u32_at bytes (4 * register)) 1 31) in
    get_or-map-range_with_len (λ register. u32_at bytes (4 * register)) 1 31 place (suc place) 0 below (omega arith)
    ∙ ap (λ (xs : List ℕ). u32_at xs (4 * suc place)) same
    ∙ register_back regs rest pc place (omega arith) (fit place))

-- a register more was read
pub word_more : (bytes regs : List ℕ) (place at word : ℕ) → place < length regs → at ≡ 4 * suc place → word ≡ u32_at bytes at →
    ((k : ℕ) → k < place → get_or regs k 0 ≡ u32_at bytes (4 * suc k)) →
    (k : ℕ) → k < place + 1 → get_or (set regs place word) k 0 ≡ u32_at bytes (4 * suc k)
word_more bytes regs place at word inside at_is is before =
    let same : word ≡ u32_at bytes (4 * suc place) = is ∙ ap (u32_at bytes) at_is in
    subst (λ (w : ℕ). (k : ℕ) → k < place + 1 → get_or (set regs place w) k 0 ≡ u32_at bytes (4 * suc k)) (sym same)
    (fill_by_more (λ k. u32_at bytes (4 * suc k)) regs place 0 inside before)

-- all registers were read
pub words_read : (bytes regs : List ℕ) → length regs ≡ 31 →
    ((k : ℕ) → k < 31 → get_or regs k 0 ≡ u32_at bytes (4 * suc k)) → regs ≡ registers_in bytes
unfolding registers_in
words_read bytes regs long each =
    ext_get_or 0 regs (map (λ register. u32_at bytes (4 * register)) (range_with_len 1 31))
    (long ∙ sym (length-map-range_with_len (λ register. u32_at bytes (4 * register)) 1 31))
    (λ place inside. each place (omega (arith, long))
    ∙ sym (get_or-map-range_with_len (λ register. u32_at bytes (4 * register)) 1 31 place (suc place) 0 (omega (arith, long)) (omega arith)))

-- what was left of zeros behind the fields
pub spare_left : (fields new state_fields : List ℕ) → length fields ≡ 152 → length new ≡ 192 →
    take (0 + length fields) new ≡ fields → drop (0 + length fields) new ≡ drop (0 + length fields) (replicate 192 0) →
    fields ≡ state_fields → new ≡ state_fields ++ spare_bytes
spare_left fields new state_fields long whole front rest is =
    let ends : 0 + length fields ≡ 152 = omega (arith, long) in
    let back : drop (0 + length fields) new ≡ spare_bytes =
    rest ∙ ap (λ (n : ℕ). drop n (replicate 192 0)) ends in
    sym (take-append-drop (0 + length fields) new)
    ∙ ap (λ (xs : List ℕ). xs ++ drop (0 + length fields) new) (front ∙ is)
    ∙ ap (λ (xs : List ℕ). state_fields ++ xs) back

-- six pieces, one behind the other
pieces : (a b c d e f rest bytes : List ℕ) →
    length a ≡ 4 → length b ≡ 124 → length c ≡ 8 → length d ≡ 4 → length e ≡ 4 → length f ≡ 8 →
    bytes ≡ a ++ b ++ c ++ d ++ e ++ f ++ rest →
    (bytes ≡ a ++ (b ++ (c ++ (d ++ (e ++ (f ++ rest))))))
    × (take 4 (drop 0 bytes) ≡ a) × (take 8 (drop 128 bytes) ≡ c) × (take 4 (drop 136 bytes) ≡ d)
    × (take 4 (drop 140 bytes) ≡ e) × (take 8 (drop 144 bytes) ≡ f)
pieces a b c d e f rest bytes a_long b_long c_long d_long e_long f_long same =
    let ab = length-append a b in
    let abc = length-append (a ++ b) c in
    let abcd = length-append (a ++ b ++ c) d in
    let abcde = length-append (a ++ b ++ c ++ d) e in
    let at_f : bytes ≡ (a ++ b ++ c ++ d ++ e) ++ (f ++ rest) = same ∙ append_assoc (a ++ b ++ c ++ d ++ e) f rest in
    let at_e : bytes ≡ (a ++ b ++ c ++ d) ++ (e ++ (f ++ rest)) = at_f ∙ append_assoc (a ++ b ++ c ++ d) e (f ++ rest) in
    let at_d : bytes ≡ (a ++ b ++ c) ++ (d ++ (e ++ (f ++ rest))) = at_e ∙ append_assoc (a ++ b ++ c) d (e ++ (f ++ rest)) in
    let at_c : bytes ≡ (a ++ b) ++ (c ++ (d ++ (e ++ (f ++ rest)))) = at_d ∙ append_assoc (a ++ b) c (d ++ (e ++ (f ++ rest))) in
    let at_b : bytes ≡ a ++ (b ++ (c ++ (d ++ (e ++ (f ++ rest))))) = at_c ∙ append_assoc a b (c ++ (d ++ (e ++ (f ++ rest)))) in (
      at_b,
      part_at [] a (b ++ (c ++ (d ++ (e ++ (f ++ rest))))) bytes 0 4 at_b refl (sym a_long),
      part_at (a ++ b) c (d ++ (e ++ (f ++ rest))) bytes 128 8 at_c (omega (arith, ab, a_long, b_long)) (sym c_long),
      part_at (a ++ b ++ c) d (e ++ (f ++ rest)) bytes 136 4 at_d (omega (arith, ab, abc, a_long, b_long, c_long)) (sym d_long),
      part_at (a ++ b ++ c ++ d) e (f ++ rest) bytes 140 4 at_e (omega (arith, ab, abc, abcd, a_long, b_long, c_long, d_long)) (sym e_long),
      part_at (a ++ b ++ c ++ d ++ e) f rest bytes 144 8 at_f
          (omega (arith, ab, abc, abcd, abcde, a_long, b_long, c_long, d_long, e_long)) (sym f_long),
    )

-- states with the same fields
same_state : (first second : ChipState) → first.pc ≡ second.pc → first.regs ≡ second.regs → first.position ≡ second.position →
    first.first_break ≡ second.first_break → first.brk ≡ second.brk → first.retired ≡ second.retired → first ≡ second
same_state first second pc regs position first_break brk retired =
    ap (λ (x : ℕ). record first { pc = x }) pc
    ∙ ap (λ (x : List ℕ). record first { pc = second.pc; regs = x }) regs
    ∙ ap (λ (x : ℕ). record first { pc = second.pc; regs = second.regs; position = x }) position
    ∙ ap (λ (x : ℕ). record second { first_break = x; brk = first.brk; retired = first.retired }) first_break
    ∙ ap (λ (x : ℕ). record second { brk = x; retired = first.retired }) brk
    ∙ ap (λ (x : ℕ). record second { retired = x }) retired

-- a state's fields are read back, whatever stands behind them
pub state_back : (state : ChipState) (rest : List ℕ) → length state.regs ≡ 31 → ((k : ℕ) → get_or state.regs k 0 < 2 ^ 32) →
    state.pc < 2 ^ 32 → state.position < 2 ^ 64 → state.first_break < 2 ^ 32 → state.brk < 2 ^ 32 → state.retired < 2 ^ 64 →
    state_of_bytes (state_field_bytes state ++ rest) ≡ state
unfolding state_of_bytes state_field_bytes
state_back state rest long fit pc position first_break brk retired =
    let parts = pieces (to_le_bytes w32 state.pc) (word_bytes state.regs) (to_le_bytes w64 state.position)
    (to_le_bytes w32 state.first_break) (to_le_bytes w32 state.brk) (to_le_bytes w64 state.retired) rest (state_field_bytes state ++ rest)
    refl (length-word_bytes state.regs ∙ omega arith) refl refl refl refl refl in
    same_state (state_of_bytes (state_field_bytes state ++ rest)) state
    (ap (from_le_bytes w32) parts.1 ∙ from_le_bytes-to_le_bytes_4 state.pc pc)
    (registers_back state.regs _ (state_field_bytes state ++ rest) state.pc parts.0 long fit)
    (ap (from_le_bytes w64) parts.2 ∙ from_le_bytes-to_le_bytes_8 state.position position)
    (ap (from_le_bytes w32) parts.3 ∙ from_le_bytes-to_le_bytes_4 state.first_break first_break)
    (ap (from_le_bytes w32) parts.4 ∙ from_le_bytes-to_le_bytes_4 state.brk brk)
    (ap (from_le_bytes w64) parts.5 ∙ from_le_bytes-to_le_bytes_8 state.retired retired)

six_are : {a b c d e f u v w x y z : List ℕ} → a ≡ u → b ≡ v → c ≡ w → d ≡ x → e ≡ y → f ≡ z →
    a ++ b ++ c ++ d ++ e ++ f ≡ u ++ v ++ w ++ x ++ y ++ z
six_are a b c d e f = cc

-- six pieces make the fields
pub fields_put : (state : ChipState) (pc regs position first_break brk retired first second third fourth fifth bytes : List ℕ) →
    pc ≡ to_le_bytes w32 state.pc → regs ≡ word_bytes state.regs → length regs ≡ 124 →
    position ≡ to_le_bytes w64 state.position → first_break ≡ to_le_bytes w32 state.first_break →
    brk ≡ to_le_bytes w32 state.brk → retired ≡ to_le_bytes w64 state.retired → length bytes ≡ 152 →
    take (0 + length pc) first ≡ pc →
    take (4 + length regs) second ≡ take 4 first ++ regs →
    take (128 + length position) third ≡ take 128 second ++ position →
    take (136 + length first_break) fourth ≡ take 136 third ++ first_break →
    take (140 + length brk) fifth ≡ take 140 fourth ++ brk →
    take (144 + length retired) bytes ≡ take 144 fifth ++ retired →
    bytes ≡ state_field_bytes state
unfolding state_field_bytes
fields_put state pc regs position first_break brk retired first second third fourth fifth bytes is_pc is_regs long is_position is_first_break is_brk is_retired whole a b c d e f =
    let pc_long : length pc ≡ 4 = ap length is_pc in
    let position_long : length position ≡ 8 = ap length is_position in
    let first_break_long : length first_break ≡ 4 = ap length is_first_break in
    let brk_long : length brk ≡ 4 = ap length is_brk in
    let retired_long : length retired ≡ 8 = ap length is_retired in
    let to_first : take 4 first ≡ pc = put_behind 0 4 pc [] first [] a (omega arith) refl in
    let to_second : take 128 second ≡ pc ++ regs = put_behind 4 128 regs first second _ b (omega arith) to_first in
    let to_third : take 136 third ≡ pc ++ regs ++ position = put_behind 128 136 position second third _ c (omega arith) to_second in
    let to_fourth : take 140 fourth ≡ pc ++ regs ++ position ++ first_break = put_behind 136 140 first_break third fourth _ d (omega arith) to_third in
    let to_fifth : take 144 fifth ≡ pc ++ regs ++ position ++ first_break ++ brk = put_behind 140 144 brk fourth fifth _ e (omega arith) to_fourth in
    let made : bytes ≡ pc ++ regs ++ position ++ first_break ++ brk ++ retired =
    two_put 144 152 (pc ++ regs ++ position ++ first_break ++ brk) retired fifth bytes to_fifth f (omega arith) whole in
    made ∙ six_are is_pc is_regs is_position is_first_break is_brk is_retired
