-- The copies of counter blocks, where one comes or goes.
use Rattle.std.proofs.Common.{◌≡◌, ◌≢◌, ◌⊎◌, inl, inr, ℕ, ◌<◌, ◌≤◌, List, [], ◌∷◌, ◌++◌, length, Option, Some, None, IsSome, Bool, true, refl, ap, sym, ◌∙◌, subst, arith}
use Rattle.std.specs.List.{Contains}
use Rattle.std.specs.Option.{option_map}
use Rattle.std.proofs.lemmas.Bool.{cases_eq}
use Rattle.std.proofs.lemmas.Option.{none-some, same_Some}
use Rattle.sec_base.specs.Geometry.{GeometryView, page_count}
use Rattle.sec_base.specs.declared.message.Message.{Message}
use Rattle.cache_set.specs.declared.way.Way.{Way}
use Rattle.cache_set.specs.Cache.{IsCache, IsLatest, places, set_at, way_at}
use Rattle.cache_set.proofs.Listed.{found_at, listed_at}
use Rattle.cache_set.proofs.Ways.{latest_found}
use Rattle.cache_set.proofs.Sets.{few_in}
use Rattle.bonsai_tree.specs.Node.{CachedNode, level_blocks}
use Rattle.bonsai_tree.specs.NodeCache.{copy_of}
use Rattle.bonsai_tree.proofs.Views.{some_copy}
use Rattle.counter_cache.specs.Counters.{AreBlocks, CountersView, LeavingIsMade, OnlyLeavingIsMade, block_sets, cached_block, cached_pages, leaving_page, most_blocks}

module _ (geometry : GeometryView) (blocks blocks' : List (List Way)) (are : AreBlocks geometry blocks) (cache : IsCache block_sets blocks') where
  pub blocks_same : ((page : ℕ) → way_at blocks' page ≡ way_at blocks page) → AreBlocks geometry blocks'
  blocks_same same = record {
    cache = cache;
    pages = λ page way found. are.pages page way (sym (same page) ∙ found);
    whole = λ page way found. are.whole page way (sym (same page) ∙ found);
  }

  pub blocks_put : (page : ℕ) (block : List ℕ) (changed : Bool) → page < page_count geometry → length block ≡ 64 →
      way_at blocks' page ≡ Some (record { place = page; changed = changed; copy = block }) →
      ((other : ℕ) → other ≢ page → way_at blocks' other ≡ way_at blocks other) → AreBlocks geometry blocks'
  blocks_put page block changed inside long here same = record {
    cache = cache;
    pages = λ other way found. elim (cases_eq other page) [
      | inr apart ↦ are.pages other way (sym (same other apart) ∙ found)
      | inl e ↦ subst (λ (p : ℕ). p < page_count geometry) (sym e) inside
    ];
    whole = λ other way found. elim (cases_eq other page) [
      | inr apart ↦ are.whole other way (sym (same other apart) ∙ found)
      | inl e ↦
          let is : Some way ≡ Some (record { place = page; changed = changed; copy = block }) = sym found ∙ ap (λ (p : ℕ). way_at blocks' p) e ∙ here in
          let copy : way.copy ≡ block = cc in
          ap (λ (b : List ℕ). length b) copy ∙ long
    ];
  }

pub blocks_left : (geometry : GeometryView) (blocks blocks' : List (List Way)) (page : ℕ) → AreBlocks geometry blocks → IsCache block_sets blocks' → way_at blocks' page ≡ None →
    ((other : ℕ) → other ≢ page → way_at blocks' other ≡ way_at blocks other) → AreBlocks geometry blocks'
blocks_left geometry blocks blocks' page are cache gone same =
    let kept : (other : ℕ) (way : Way) → way_at blocks' other ≡ Some way → way_at blocks other ≡ Some way = λ other way found.
    elim (cases_eq other page) [
      | inr apart ↦ sym (same other apart) ∙ found
      | inl e ↦ absurd (none-some way (sym gone ∙ ap (way_at blocks') (sym e) ∙ found))
    ] in
    record { cache = cache; pages = λ other way found. are.pages other way (kept other way found); whole = λ other way found. are.whole other way (kept other way found) }

-- The pages that have a copy

copied_some : (found : Option Way) → option_map copy_of found ≢ None → IsSome found
copied_some None held = absurd (held refl)
copied_some (Some way) held = refl

pub cached_held : (counters : CountersView) (page : ℕ) → IsCache block_sets counters.blocks → Contains (cached_pages counters) page →
    cached_block counters page ≢ None
cached_held counters page is cached = some_copy (way_at counters.blocks page) (found_at block_sets counters.blocks page is cached)

pub held_cached : (counters : CountersView) (page : ℕ) → cached_block counters page ≢ None → Contains (cached_pages counters) page
held_cached counters page held = listed_at counters.blocks page (copied_some (way_at counters.blocks page) held)

pub latest_cached : (counters : CountersView) (page : ℕ) → IsLatest counters.blocks page → Contains (cached_pages counters) page
latest_cached counters page latest = listed_at counters.blocks page (latest_found page (set_at counters.blocks page) latest)

pub few_blocks : (geometry : GeometryView) (blocks : List (List Way)) → AreBlocks geometry blocks → length (places blocks) ≤ most_blocks
few_blocks geometry blocks are = omega (arith, few_in block_sets 0 blocks are.cache.sets_are, are.cache.counted)

some_inside : (geometry : GeometryView) (page : ℕ) (found : Option Way) → ((way : Way) → found ≡ Some way → page < page_count geometry) → IsSome found → page < page_count geometry
some_inside geometry page None inside found = absurd (cc)
some_inside geometry page (Some way) inside found = inside way refl

-- they are of the memory
pub pages_inside : (geometry : GeometryView) (geometry' : GeometryView) (blocks : List (List Way)) → geometry ≡ geometry' → AreBlocks geometry blocks → (page : ℕ) → Contains (places blocks) page →
    page < page_count geometry'
pages_inside geometry geometry' blocks same are page listed =
    subst (λ (l : GeometryView). page < page_count l) same
    (some_inside geometry page (way_at blocks page) (are.pages page) (found_at block_sets blocks page are.cache listed))

-- Which blocks were made

-- the block of the way that goes out
pub victim_is : (counters : CountersView) (page : ℕ) (way : Way) (made made' : List Message) → leaving_page counters page ≡ Some way.place →
    way_at counters.blocks way.place ≡ Some way → way.changed ≡ true → level_blocks 0 made' ≡ level_blocks 0 made ++ (way.place, way.copy) ∷ [] →
    LeavingIsMade counters page made made'
victim_is counters page way made made' leaves held changed one =
    let copy : Bool → Option CachedNode = λ mark. Some (record { block = way.copy; changed = mark }) in
    record { other = way.place; block = way.copy; leaves = leaves; changed = ap (option_map copy_of) held ∙ ap (λ (mark : Bool). copy mark) changed; one = one }

-- a changed copy that is gone is its
pub victim_gone : (counters : CountersView) (blocks' : List (List Way)) (page : ℕ) (way : Way) (made made' : List Message) → leaving_page counters page ≡ Some way.place →
    way_at counters.blocks way.place ≡ Some way → ((other : ℕ) → other ≢ way.place → way_at blocks' other ≡ way_at counters.blocks other) →
    (way.changed ≡ true → level_blocks 0 made' ≡ level_blocks 0 made ++ (way.place, way.copy) ∷ []) →
    (other : ℕ) (copy : CachedNode) → cached_block counters other ≡ Some copy → copy.changed ≡ true → option_map copy_of (way_at blocks' other) ≡ None →
    LeavingIsMade counters page made made'
victim_gone counters blocks' page way made made' leaves held same one other copy found changed gone = elim (cases_eq other way.place) [
  | inr apart ↦ absurd (none-some copy (sym gone ∙ ap (option_map copy_of) (same other apart) ∙ found))
  | inl here ↦
      let is : copy_of way ≡ copy = same_Some (copy_of way) copy (sym (ap (λ (p : ℕ). cached_block counters p) here ∙ ap (option_map copy_of) held) ∙ found) in
      let marked : way.changed ≡ true = ap (λ (c : CachedNode). c.changed) is ∙ changed in
      victim_is counters page way made made' leaves held marked (one marked)
]

-- the block of the way that goes out is made, or none
pub victim_made : (counters : CountersView) (page : ℕ) (way : Way) (made made' : List Message) → leaving_page counters page ≡ Some way.place →
    way_at counters.blocks way.place ≡ Some way →
    (level_blocks 0 made' ≡ level_blocks 0 made) ⊎ ((way.changed ≡ true) × (level_blocks 0 made' ≡ level_blocks 0 made ++ (way.place, way.copy) ∷ [])) →
    OnlyLeavingIsMade counters page made made'
victim_made counters page way made made' leaves held (inl same) = inl same
victim_made counters page way made made' leaves held (inr one) = inr (victim_is counters page way made made' leaves held one.0 one.1)

-- and then none
pub leaving_on : (counters : CountersView) (page : ℕ) (made made' made'' : List Message) → level_blocks 0 made'' ≡ level_blocks 0 made' →
    LeavingIsMade counters page made made' → LeavingIsMade counters page made made''
leaving_on counters page made made' made'' same one =
    record { other = one.other; block = one.block; leaves = one.leaves; changed = one.changed; one = same ∙ one.one }

pub none_made_on : (counters : CountersView) (page : ℕ) (made made' made'' : List Message) → level_blocks 0 made'' ≡ level_blocks 0 made' →
    OnlyLeavingIsMade counters page made made' → OnlyLeavingIsMade counters page made made''
none_made_on counters page made made' made'' same (inl none) = inl (same ∙ none)
none_made_on counters page made made' made'' same (inr one) = inr (leaving_on counters page made made' made'' same one)
