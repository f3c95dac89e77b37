-- Line counters that are all 0.
use Rattle.std.proofs.Common.{◌≡◌, ◌∙◌, ℕ, ◌^◌, ◌<◌, List, replicate, slice_index, ap, refl, arith}
use Rattle.std.proofs.lemmas.List.{get_or-replicate}
use Rattle.std.proofs.lemmas.List.Elements.{All-replicate}
use Rattle.split_counter.specs.CounterBlock.{IsCounterBlock}

pub zeros_are_a_block : (page : ℕ) → page < 2 ^ 64 → IsCounterBlock (record { page = page; lines = replicate 64 0 })
zeros_are_a_block page fits = record {
  page_fits = fits;
  whole = refl;
  lines_fit = All-replicate (λ (counter : ℕ). counter < 128) 64 0 (omega arith);
}

pub line_of_zeros : (lines : List ℕ) (place : ℕ) → lines ≡ replicate 64 0 → place < 64 → slice_index lines place ≡ 0
line_of_zeros lines place zeros inside =
    ap (λ (lines : List ℕ). slice_index lines place) zeros ∙ get_or-replicate 64 place 0 0 inside
