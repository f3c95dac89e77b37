-- Bytes that are loaded one by one.
use Rattle.std.proofs.Common.{◌≡◌, ◌≢◌, ◌+◌, ◌<◌, ◌≤◌, ℕ, List, length, get_or, take, drop, sym, ◌∙◌, ap, arith, below_more, get_or-set_other, get_or-set_same}
use Rattle.std.proofs.Math.ListN.{set}
use Rattle.std.proofs.Math.Seq.{take-append_seam}
use Rattle.std.proofs.lemmas.List.Prefix.{at_from_reads}
use Rattle.sec_base.specs.declared.width.Width.TheVariants.{One}
use Rattle.sec_base.specs.Width.{number_at}
use Rattle.sec_base.proofs.NumberBytes.{number_at_one}

-- the memory is as it was, and the first bytes of the piece are its
pub record IsLoading (before now : List ℕ) (from count : ℕ) (piece : List ℕ) : Type 0 where
  pub same : now ≡ before
  pub loaded : (k : ℕ) → k < count → get_or piece k 0 ≡ get_or before (from + k) 0

-- one byte more is loaded
pub loading_more : (before now now' : List ℕ) (from i byte : ℕ) (piece : List ℕ) → IsLoading before now from i piece → now' ≡ now → byte ≡ number_at now (from + i) One → i < length piece → IsLoading before now' from (i + 1) (set piece i byte)
loading_more before now now' from i byte piece h same is inside = record {
  same = same ∙ h.same;
  loaded = below_more _ i
      (λ k less. let apart : k ≢ i = omega arith in rw get_or-set_other (h.loaded k less))
      (rw (get_or-set_same) (is ∙ number_at_one now (from + i) ∙ ap (λ (m : List ℕ). get_or m (from + i) 0) h.same));
}

-- all bytes are loaded
pub loading_all : (before now : List ℕ) (from : ℕ) (piece : List ℕ) → from + length piece ≤ length before → IsLoading before now from (length piece) piece → piece ≡ take (length piece) (drop from before)
loading_all before now from piece inside h =
    sym (rw (at_from_reads 0 before piece from inside (λ i less. sym (h.loaded i less))) (take-append_seam piece (drop (from + length piece) before)))
