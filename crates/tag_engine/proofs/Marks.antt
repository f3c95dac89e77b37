-- Tags have a bit that zeros don't have, and zeros behind what a slot keeps.
use Rattle.std.proofs.Common.{◌≡◌, ◌≢◌, ◌<◌, ℕ, List, [], ◌∷◌, ◌++◌, length, length-append, append_assoc, take, drop, get_or, replicate, ap, sym, ◌∙◌, arith}
use Rattle.std.specs.Int.Bits.{bit_or}
use Rattle.std.proofs.Math.ListN.{set}
use Rattle.std.proofs.Math.Seq.{drop-append_seam, get_or-append_seam}
use Rattle.std.proofs.lemmas.List.{get_or-replicate, length-set, length-replicate, length-take, take_more_set, take_all, drop_all}
use Rattle.std.proofs.lemmas.Nat.{le_or_r}
use Rattle.sec_base.specs.declared.geometry.Layout.{Layout}
use Rattle.sec_base.specs.declared.geometry.Layout.TheVariants.{One, Two}
use Rattle.sec_base.specs.declared.message.Message.{Message}
use Rattle.sec_base.specs.declared.message.Message.TheVariants.{Line, Node}
use Rattle.sec_base.specs.Geometry.{GeometryView}
use Rattle.sec_base.specs.Tag.{IsTag}
use Rattle.tag_engine.specs.Tag.{engine_tag, marked}

-- a byte that is changed in place
pub is_marked : (bytes : List ℕ) → length bytes ≡ 16 → set bytes 15 (bit_or (get_or bytes 15 0) 1) ≡ marked One bytes
is_marked bytes long =
    let changed : List ℕ = set bytes 15 (bit_or (get_or bytes 15 0) 1) in
    let all : take 16 changed ≡ changed = take_all 16 changed (omega (arith, long, length-set bytes 15 (bit_or (get_or bytes 15 0) 1))) in
    sym all ∙ take_more_set bytes 15 (bit_or (get_or bytes 15 0) 1) (omega (arith, long))

-- a byte that is changed in place, and zeros behind it
pub is_cut : (bytes cut : List ℕ) → length bytes ≡ 16 → length cut ≡ 16 →
    take 16 cut ≡ take 8 (set bytes 7 (bit_or (get_or bytes 7 0) 1)) ++ replicate 8 0 → cut ≡ marked Two bytes
is_cut bytes cut long cut_long put =
    sym (take_all 16 cut (omega (arith, cut_long))) ∙ put
    ∙ ap (λ (xs : List ℕ). xs ++ replicate 8 0) (take_more_set bytes 7 (bit_or (get_or bytes 7 0) 1) (omega (arith, long)))
    ∙ append_assoc (take 7 bytes) (bit_or (get_or bytes 7 0) 1 ∷ []) (replicate 8 0)

-- the byte of a list behind so many others, where what follows is known
zero_behind : (front after : List ℕ) (last n : ℕ) → front ++ last ∷ after ≡ replicate n 0 → length front < n → last ≡ 0
zero_behind front after last n zeros inside =
    sym (get_or-append_seam front last after 0) ∙ ap (λ (xs : List ℕ). get_or xs (length front) 0) zeros
    ∙ get_or-replicate n (length front) 0 0 inside

-- no bytes become zeros
pub marked_some : (layout : Layout) (bytes : List ℕ) → marked layout bytes ≢ replicate 16 0
marked_some One bytes zeros =
    let front : List ℕ = take 15 bytes in
    let last : ℕ = bit_or (get_or bytes 15 0) 1 in
    let few : length front < 16 = omega (arith, ap length zeros, length-append front (last ∷ []), length-replicate {A = ℕ} 16 0) in
    omega (arith, zero_behind front [] last 16 zeros few, le_or_r (get_or bytes 15 0) 1)
marked_some Two bytes zeros =
    let front : List ℕ = take 7 bytes in
    let last : ℕ = bit_or (get_or bytes 7 0) 1 in
    let few : length front < 16 = omega (arith, ap length zeros, length-append front (last ∷ replicate 8 0), length-replicate {A = ℕ} 16 0) in
    omega (arith, zero_behind front (replicate 8 0) last 16 zeros few, le_or_r (get_or bytes 7 0) 1)

pub marked_long : (layout : Layout) (bytes : List ℕ) → length bytes ≡ 16 → length (marked layout bytes) ≡ 16
marked_long One bytes long =
    omega (arith, long, length-append (take 15 bytes) (bit_or (get_or bytes 15 0) 1 ∷ []), length-take {A = ℕ} 15 bytes)
marked_long Two bytes long =
    omega (arith, long, length-append (take 7 bytes) (bit_or (get_or bytes 7 0) 1 ∷ replicate 8 0), length-take {A = ℕ} 7 bytes)

-- they fit the layout
pub marked_fits : (layout : Layout) (bytes : List ℕ) → length bytes ≡ 16 → IsTag layout (marked layout bytes)
marked_fits One bytes long = record { long = marked_long One bytes long; rest = drop_all 16 (marked One bytes) (omega (arith, marked_long One bytes long)) }
marked_fits Two bytes long = record {
  long = marked_long Two bytes long;
  rest =
      let front : List ℕ = take 7 bytes ++ bit_or (get_or bytes 7 0) 1 ∷ [] in
      let eight : length front ≡ 8 =
      omega (arith, long, length-append (take 7 bytes) (bit_or (get_or bytes 7 0) 1 ∷ []), length-take {A = ℕ} 7 bytes) in
      ap (λ (xs : List ℕ). drop 8 xs) (sym (append_assoc (take 7 bytes) (bit_or (get_or bytes 7 0) 1 ∷ []) (replicate 8 0)))
      ∙ ap (λ (n : ℕ). drop n (front ++ replicate 8 0)) (sym eight) ∙ drop-append_seam front (replicate 8 0);
}

-- no tag of a message is zeros
pub engine_tag_some : (data_tag_of node_tag_of : List ℕ → List ℕ) (geometry : GeometryView) (message : Message) → engine_tag data_tag_of node_tag_of geometry message ≢ replicate 16 0
unfolding engine_tag
engine_tag_some data_tag_of node_tag_of geometry (Line line counter cipher) = marked_some _ _
engine_tag_some data_tag_of node_tag_of geometry (Node level index block) = marked_some _ _

-- each tag of a message fits the layout
pub engine_tag_fits : (data_tag_of node_tag_of : List ℕ → List ℕ) → ((message : List ℕ) → length (data_tag_of message) ≡ 16) →
    ((message : List ℕ) → length (node_tag_of message) ≡ 16) → (geometry : GeometryView) (message : Message) →
    IsTag geometry.layout (engine_tag data_tag_of node_tag_of geometry message)
unfolding engine_tag
engine_tag_fits data_tag_of node_tag_of data_long node_long geometry (Line line counter cipher) = marked_fits _ _ (data_long _)
engine_tag_fits data_tag_of node_tag_of data_long node_long geometry (Node level index block) = marked_fits _ _ (node_long _)
