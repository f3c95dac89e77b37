-- The copy of a page's block, once it was had.
use Rattle.std.proofs.Common.{◌≡◌, ◌≢◌, ℕ, List, Option, Some, None, IsSome, refl, ap, sym, ◌∙◌, subst}
use Rattle.std.specs.Option.{option_map}
use Rattle.sec_base.specs.declared.evidence.Evidence.{Evidence}
use Rattle.sec_base.specs.declared.evidence.Evidence.TheVariants.{Collision}
use Rattle.sec_base.specs.declared.message.Message.{Message}
use Rattle.cache_set.specs.declared.way.Way.{Way}
use Rattle.cache_set.specs.Bringing.{brought}
use Rattle.cache_set.specs.CacheSet.{touched}
use Rattle.cache_set.specs.Cache.{IsCache, IsLatest, place_of, set_at, victim_for, way_at, with_set}
use Rattle.cache_set.proofs.Bringing.{brought_goes, brought_held, brought_same}
use Rattle.bonsai_tree.specs.NodeCache.{copy_of}
use Rattle.bonsai_tree.specs.Tree.{TreeView}
use Rattle.counter_cache.specs.Counters.{CountersView, IsCopyOrTagged, block_sets, cached_block, leaving_page}
use Rattle.counter_cache.specs.HadCounters.{BlockHad}

own_bytes : (found : Option Way) → IsSome found → (bytes : List ℕ) × (option_map (λ (way : Way). way.copy) found ≡ Some bytes)
own_bytes None there = absurd (cc)
own_bytes (Some way) there = (way.copy, refl)

own_copy : (tag_of : Message → List ℕ) (tree : TreeView) (made : List Message) (page : ℕ) (found : Option Way) (bytes : List ℕ) →
    option_map (λ (way : Way). way.copy) found ≡ Some bytes → IsCopyOrTagged (option_map copy_of found) tag_of tree made page bytes
own_copy tag_of tree made page None bytes is = absurd (cc)
own_copy tag_of tree made page (Some way) bytes is = let same : bytes ≡ way.copy = cc in same

-- it had one, and was used
pub block_held : (tag_of : Message → List ℕ) (counters counters' : CountersView) (made : List Message) (page : ℕ) (evidence : Option Evidence) →
    IsSome (way_at counters.blocks page) → counters'.blocks ≡ with_set counters.blocks page (touched page (set_at counters.blocks page)) →
    way_at counters'.blocks page ≡ way_at counters.blocks page → IsLatest counters'.blocks page → BlockHad tag_of counters counters' made page evidence evidence
block_held tag_of counters counters' made page evidence there after same latest =
    let own = own_bytes (way_at counters.blocks page) there in
    record {
      bytes = own.0;
      copied = ap (option_map (λ (way : Way). way.copy)) same ∙ own.1;
      latest = latest;
      had = record {
        copy_or_tagged = own_copy tag_of counters'.tree made page (way_at counters.blocks page) own.0 own.1;
        accepted = λ quiet made_at bytes tag is. let none : None ≡ Some (Collision 0 page made_at bytes tag) = sym quiet ∙ is in absurd (cc);
      };
      brought_is = after ∙ brought_held counters.blocks page own.0 there;
    }

left_way : (found : Option Way) (place : ℕ) → option_map place_of found ≡ Some place → (way : Way) × (found ≡ Some way) × (way.place ≡ place)
left_way None place is = absurd (cc)
left_way (Some way) place is = (way, refl, (let same : way.place ≡ place = cc in same))

module _ (tag_of : Message → List ℕ) (counters counters' : CountersView) (made' : List Message) (page : ℕ) (before after : Option Evidence)
    (cache : IsCache block_sets counters.blocks) (had : BlockHad tag_of counters counters' made' page before after) where
  -- the copy that goes out for it is gone
  pub had_goes : (other : ℕ) → leaving_page counters page ≡ Some other → cached_block counters' other ≡ None
  had_goes other leaves =
      let way = left_way (victim_for counters.blocks page) other leaves in
      ap (λ (sets : List (List Way)). option_map copy_of (way_at sets other)) had.brought_is
      ∙ subst (λ (p : ℕ). option_map copy_of (way_at (brought counters.blocks page had.bytes) p) ≡ None) way.2
      (ap (option_map copy_of) (brought_goes block_sets counters.blocks cache page had.bytes way.0 way.1))

  -- and each other stays
  pub had_stays : (other : ℕ) → other ≢ page → leaving_page counters page ≢ Some other → cached_block counters' other ≡ cached_block counters other
  had_stays other apart stays =
      ap (λ (sets : List (List Way)). option_map copy_of (way_at sets other)) had.brought_is
      ∙ ap (option_map copy_of) (brought_same block_sets counters.blocks cache page had.bytes other apart stays)
