-- The zeros that the place of a data line ends in.
use Rattle.bus_adversary.proofs.KeptPlaces.{all_kept-length, kept_set}
use Rattle.bus_adversary.specs.PlaceBytes.{with_bytes, with_mask}
use Rattle.bus_adversary.specs.StoredPlaces.{EndInZeros, EndsInZeros, all_kept, empty_line}
use Rattle.bus_adversary.specs.declared.stored_places.LineBytes.{LineBytes}
use Rattle.bus_model.specs.HonestBus.{Keeps}
use Rattle.sec_base.proofs.Slots.{slot_short}
use Rattle.sec_base.specs.Geometry.{GeometryView, line_count, slot_len}
use Rattle.sec_base.specs.Tag.{IsTag}
use Rattle.std.proofs.Common.{Bool, List, [], ap, false, nat_eq, true, arith, drop, inl, inr, length, length-drop, refl, replicate, slice_index_or, slice_set, suc, sym, zero, ℕ, ◌+◌, ◌++◌, ◌<◌, ◌∙◌, ◌∷◌, ◌≡◌, ◌≤◌}
use Rattle.std.proofs.Math.ListN.{get_or-eq_default}
use Rattle.std.proofs.Math.Seq.{drop-append-add}
use Rattle.std.proofs.lemmas.Bool.{cases_lt}
use Rattle.std.proofs.lemmas.Bool.Decides.{Decides-eqb}
use Rattle.std.proofs.lemmas.List.{drop-drop, drop-replicate, get_or-replicate, get_or-set_other, get_or-set_same, length-replicate}
use Rattle.std.specs.Bool.{Decides}

-- bytes that are put leave those behind them
pub behind_bytes : (offset n : ℕ) (new bytes : List ℕ) → offset + length new ≤ n → offset + length new ≤ length bytes →
    drop n (with_bytes offset new bytes) ≡ drop n bytes
behind_bytes zero n [] bytes before inside = refl
behind_bytes zero zero (byte ∷ new) bytes before inside = absurd (omega arith)
behind_bytes zero (suc n) (byte ∷ new) [] before inside = absurd (omega arith)
behind_bytes zero (suc n) (byte ∷ new) (first ∷ bytes) before inside = behind_bytes zero n new bytes (omega arith) (omega arith)
behind_bytes (suc offset) zero new bytes before inside = absurd (omega arith)
behind_bytes (suc offset) (suc n) new [] before inside = absurd (omega arith)
behind_bytes (suc offset) (suc n) new (first ∷ bytes) before inside = behind_bytes offset n new bytes (omega arith) (omega arith)

-- no byte of a mask
no_mask : (bytes : List ℕ) → with_mask 0 [] bytes ≡ bytes
no_mask [] = refl
no_mask (first ∷ bytes) = ap (λ (l : List ℕ). first ∷ l) (no_mask bytes)

-- and so does a mask
pub behind_mask : (offset n : ℕ) (mask bytes : List ℕ) → offset + length mask ≤ n → offset + length mask ≤ length bytes →
    drop n (with_mask offset mask bytes) ≡ drop n bytes
behind_mask zero n [] bytes before inside = ap (drop n) (no_mask bytes)
behind_mask zero zero (bits ∷ mask) bytes before inside = absurd (omega arith)
behind_mask zero (suc n) (bits ∷ mask) [] before inside = absurd (omega arith)
behind_mask zero (suc n) (bits ∷ mask) (first ∷ bytes) before inside = behind_mask zero n mask bytes (omega arith) (omega arith)
behind_mask (suc offset) zero mask bytes before inside = absurd (omega arith)
behind_mask (suc offset) (suc n) mask [] before inside = absurd (omega arith)
behind_mask (suc offset) (suc n) mask (first ∷ bytes) before inside = behind_mask offset n mask bytes (omega arith) (omega arith)

-- zeros end in zeros
pub zeros_end : (geometry : GeometryView) → EndsInZeros geometry (replicate 80 0)
zeros_end geometry =
    drop-replicate {X = ℕ} (64 + slot_len geometry) 80 0 ∙ ap (λ (n : ℕ). replicate n 0) (omega (arith, slot_short geometry.layout))

-- the tag behind 64 bytes
pub tag_behind : (geometry : GeometryView) (bytes tag : List ℕ) → length bytes ≡ 80 → tag ≡ drop 64 bytes → EndsInZeros geometry bytes → IsTag geometry.layout tag
tag_behind geometry bytes tag whole is ends =
    record {
      long = ap length is ∙ length-drop 64 bytes ∙ omega (arith, whole);
      rest = ap (drop (slot_len geometry)) is ∙ drop-drop (slot_len geometry) 64 bytes ∙ ends;
    }

-- and of a line and its tag
pub written_ends : (geometry : GeometryView) (cipher tag : List ℕ) → length cipher ≡ 64 → IsTag geometry.layout tag → EndsInZeros geometry (cipher ++ tag)
written_ends geometry cipher tag long fits =
    ap (λ (n : ℕ). drop (n + slot_len geometry) (cipher ++ tag)) (sym long) ∙ drop-append-add cipher tag (slot_len geometry) ∙ fits.rest

-- bytes that end in zeros were put at one line's place
pub put_ends : (geometry : GeometryView) (lines : List LineBytes) (line other : ℕ) (bytes : List ℕ) → line < length lines → EndInZeros geometry lines → EndsInZeros geometry bytes →
    EndsInZeros geometry (slice_index_or (slice_set lines line (record { bytes = bytes })) other empty_line).bytes
put_ends geometry lines line other bytes inside ends end =
    by_test (nat_eq other line) (Decides-eqb other line)
  where
    by_test : (b : Bool) → Decides b (other ≡ line) → EndsInZeros geometry (slice_index_or (slice_set lines line (record { bytes = bytes })) other empty_line).bytes
    by_test true tells =
        rw (tells.0 refl, get_or-set_same lines line (record { bytes = bytes }) empty_line inside) end
    by_test false tells =
        rw (get_or-set_other lines line other (record { bytes = bytes }) empty_line (λ (same : other ≡ line). let e : false ≡ true = tells.1 same in cc)) (ends.fits other)

-- and are kept there
pub kept_ends : (geometry : GeometryView) (line : ℕ) (bytes : List ℕ) (old new : List (ℕ × LineBytes)) → line < line_count geometry →
    Keeps empty_line line (record { bytes = bytes }) old new → EndInZeros geometry (all_kept (line_count geometry) empty_line old) → EndsInZeros geometry bytes →
    EndInZeros geometry (all_kept (line_count geometry) empty_line new)
kept_ends geometry line bytes old new inside keeps ends end =
    rw (kept_set (line_count geometry) line empty_line (record { bytes = bytes }) old new inside keeps) (record {
      fits = λ other. put_ends geometry (all_kept (line_count geometry) empty_line old) line other bytes
          (omega (arith, inside, all_kept-length (line_count geometry) empty_line old)) ends end;
    })

-- each item of a list of one item is that
pub one_item : {A : Type 0} (count at : ℕ) (item : A) → slice_index_or (replicate count item) at item ≡ item
one_item count at item =
    elim (cases_lt at count) [
      | inl inside ↦ get_or-replicate count at item item inside
      | inr outside ↦ get_or-eq_default (replicate count item) item (omega (arith, length-replicate count item))
    ]

-- each place of a new list ends in zeros
pub new_ends : (geometry : GeometryView) (lines : List LineBytes) (count : ℕ) → lines ≡ replicate count empty_line → EndInZeros geometry lines
new_ends geometry lines count new = rw new (record { fits = λ line. rw (one_item count line empty_line) (zeros_end geometry) })
