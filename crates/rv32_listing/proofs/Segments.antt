-- The first segment of a program.
use Rattle.std.proofs.Common.{◌≡◌, ◌<◌, ◌≤◌, ℕ, ◌+◌, List, [], ◌++◌, length, drop, get_or, sym, ap, ◌∙◌}
use Rattle.std.proofs.lemmas.List.{drop_more, drop_all}
use Rattle.sec_base.specs.declared.segment.Segment.{Segment}
use Rattle.rv32_listing.specs.Lines.{bytes_lines}
use Rattle.rv32_listing.specs.Listing.{listing_of}

pub segment_first : (items segments : List Segment) (i : ℕ) (segment : Segment) (bytes : List ℕ) → items ≡ segments → i < length items → segment ≡ get_or items i segment → bytes ≡ segment.bytes →
    listing_of (drop i segments) ≡ bytes_lines segment.addr bytes ++ listing_of (drop (i + 1) segments)
unfolding listing_of
segment_first items segments i segment bytes all below item same =
    ap (λ (list : List Segment). listing_of (drop i list)) (sym all)
    ∙ ap listing_of (drop_more items i segment below)
    ∙ ap (λ (s : Segment). bytes_lines s.addr s.bytes ++ listing_of (drop (i + 1) items)) (sym item)
    ∙ ap (λ (b : List ℕ). bytes_lines segment.addr b ++ listing_of (drop (i + 1) items)) (sym same)
    ∙ ap (λ (list : List Segment). bytes_lines segment.addr bytes ++ listing_of (drop (i + 1) list)) all

pub none_after : (items segments : List Segment) (i : ℕ) → items ≡ segments → length items ≤ i → listing_of (drop i segments) ≡ []
unfolding listing_of
none_after items segments i all past =
    ap (λ (list : List Segment). listing_of (drop i list)) (sym all) ∙ ap listing_of (drop_all i items past)
