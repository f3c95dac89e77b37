-- Pieces of 16 bytes, and tags by xor.
use Rattle.std.proofs.Common.{◌≡◌, ℕ, suc, ◌+◌, ◌/◌, min, ◌<◌, ◌≤◌, List, [], ◌∷◌, ◌++◌, length, take, drop, replicate, slice_index, inl, inr, refl, ap, sym, ◌∙◌, append_assoc, fold, arith}
use Rattle.std.proofs.Math.ListN.{get_or-append}
use Rattle.std.proofs.Math.Seq.{get_or-append_right}
use Rattle.std.proofs.lemmas.Bool.{cases_lt}
use Rattle.std.proofs.lemmas.List.{append-nil, length-append, take-append-le, take_at, drop_at, get_or-take, get_or-replicate}
use Rattle.std.proofs.lemmas.List.FromFn.{fill_by_all}
use Rattle.std.specs.Int.Bits.{bit_xor, xor_comm, xor_zero_l}
use Rattle.hmac_tag.specs.Tags.{padded_piece, first_pieces, pieces_of, xor_of_pieces, xor_tag_of}

-- a list of 16 bytes, xored one by one
xor_of_pieces-all : (first second xored : List ℕ) → length xored ≡ 16 →
    ((k : ℕ) → k < 16 → slice_index xored k ≡ bit_xor (slice_index first k) (slice_index second k)) →
    xored ≡ xor_of_pieces first second
unfolding xor_of_pieces
xor_of_pieces-all first second xored long each =
    fill_by_all (λ place. bit_xor (slice_index first place) (slice_index second place)) xored 16 0 long each

-- the bytes of a piece, and the zeros behind them
padded_piece-inside : (piece : List ℕ) (k : ℕ) → k < length piece → k < 16 →
    slice_index (padded_piece piece) k ≡ slice_index piece k
padded_piece-inside piece k inside below =
    get_or-take 16 (piece ++ replicate 16 0) k 0 below ∙ get_or-append piece (replicate 16 0) 0 k inside

padded_piece-behind : (piece : List ℕ) (k : ℕ) → length piece ≤ k → k < 16 → slice_index (padded_piece piece) k ≡ 0
padded_piece-behind piece k behind below =
    get_or-take 16 (piece ++ replicate 16 0) k 0 below
    ∙ get_or-append_right piece (replicate 16 0) k 0 behind
    ∙ get_or-replicate 16 _ 0 0 (omega arith)

xor_zero_r : (a : ℕ) → bit_xor a 0 ≡ a
xor_zero_r a = xor_comm a 0 ∙ xor_zero_l a

-- a tag into which the bytes of a piece were xored one by one
pub xor_piece-all : (tag piece xored : List ℕ) → length xored ≡ 16 →
    ((k : ℕ) → k < length piece → slice_index xored k ≡ bit_xor (slice_index tag k) (slice_index piece k)) →
    ((k : ℕ) → length piece ≤ k → slice_index xored k ≡ slice_index tag k) →
    xored ≡ xor_of_pieces tag (padded_piece piece)
xor_piece-all tag piece xored long inside behind = xor_of_pieces-all tag (padded_piece piece) xored long
    (λ k below. elim (cases_lt k (length piece)) [
      | inl short ↦ inside k short ∙ ap (bit_xor (slice_index tag k)) (sym (padded_piece-inside piece k short below))
      | inr past ↦ behind k past ∙ sym (xor_zero_r (slice_index tag k))
          ∙ ap (bit_xor (slice_index tag k)) (sym (padded_piece-behind piece k past below))
    ])

-- the pieces of a list that begins with a piece
pieces_of-last : (piece rest : List ℕ) → rest ≡ piece → length piece ≤ 16 → 0 < length piece →
    pieces_of rest ≡ padded_piece piece ∷ pieces_of []
unfolding first_pieces
pieces_of-last piece rest same short some =
    let one : (length rest + 15) / 16 ≡ 1 = omega (arith, ap length same) in
    rw (one, same)

pieces_of-more : (piece rest later : List ℕ) → rest ≡ piece ++ later → length piece ≡ 16 →
    pieces_of rest ≡ padded_piece piece ∷ pieces_of later
unfolding first_pieces
pieces_of-more piece rest later same whole =
    let count : (length rest + 15) / 16 ≡ suc ((length later + 15) / 16) =
    omega (arith, ap length same, length-append piece later) in
    let left : drop 16 rest ≡ later = ap (drop 16) same ∙ drop_at piece later 16 whole in
    let front : padded_piece rest ≡ padded_piece piece =
    ap padded_piece same ∙ ap (take 16) (append_assoc piece later (replicate 16 0))
    ∙ take_at piece (later ++ replicate 16 0) 16 whole ∙ sym (take_at piece (replicate 16 0) 16 whole) in
    rw (count, left, front)

pub pieces_of-next : (piece rest later : List ℕ) → rest ≡ piece ++ later → length piece ≡ min 16 (length rest) →
    0 < length rest → pieces_of rest ≡ padded_piece piece ∷ pieces_of later
pieces_of-next piece rest [] same long some =
    let equal : rest ≡ piece = same ∙ append-nil piece in
    pieces_of-last piece rest equal (omega arith) (omega (arith, ap length equal))
pieces_of-next piece rest (byte ∷ later) same long some =
    pieces_of-more piece rest (byte ∷ later) same (omega (arith, ap length same, length-append piece (byte ∷ later)))

-- the first bytes of the key, with all that is to come
pub fold-start : (key tag rest message : List ℕ) → length key ≡ 32 → tag ≡ take 16 key → rest ≡ message →
    fold xor_of_pieces tag (pieces_of rest) ≡ xor_tag_of key message
unfolding xor_tag_of
fold-start key tag rest message long first same =
    let begun : tag ≡ padded_piece key = first ∙ sym (take-append-le 16 key (replicate 16 0) (omega arith)) in
    rw (begun, same)

-- a tag into which the next piece was xored, with what is left
pub fold-next : (tag next piece rest later : List ℕ) → next ≡ xor_of_pieces tag (padded_piece piece) →
    rest ≡ piece ++ later → length piece ≡ min 16 (length rest) → 0 < length rest →
    fold xor_of_pieces next (pieces_of later) ≡ fold xor_of_pieces tag (pieces_of rest)
fold-next tag next piece rest later is_next same long some =
    ap (λ begun. fold xor_of_pieces begun (pieces_of later)) is_next
    ∙ ap (fold xor_of_pieces tag) (sym (pieces_of-next piece rest later same long some))

-- nothing is left
pub fold-end : (tag rest : List ℕ) → length rest ≡ 0 → tag ≡ fold xor_of_pieces tag (pieces_of rest)
unfolding first_pieces
fold-end tag [] none = refl
fold-end tag (byte ∷ rest) none = absurd (omega arith)
