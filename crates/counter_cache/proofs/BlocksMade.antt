-- The counter blocks that a call makes, and those that have copies after it.
use Rattle.std.proofs.Common.{◌≡◌, ◌≢◌, ◌⊎◌, inl, inr, ℕ, zero, suc, true, List, [], ◌∷◌, ◌++◌, Option, Some, None, Contains, refl, ap, sym, ◌∙◌, subst, arith, append_assoc}
use Rattle.std.proofs.lemmas.Bool.{cases_eq}
use Rattle.std.proofs.lemmas.List.{append-nil, append_cancel_left}
use Rattle.sec_base.specs.Count.{RoseBy}
use Rattle.sec_base.specs.LastMessage.{last_node, node_part}
use Rattle.sec_base.specs.declared.message.Message.{Message}
use Rattle.sec_base.specs.declared.message.Message.TheVariants.{Line, Node}
use Rattle.sec_base.specs.declared.place.Place.{Place}
use Rattle.sec_base.specs.declared.place.Place.TheVariants.{Node as node_place}
use Rattle.sec_base.proofs.LastMessages.{last_of_other}
use Rattle.bus_model.specs.BusHistory.{BusHistory}
use Rattle.tag_engine.proofs.LastPlaces.{node_part-other}
use Rattle.bonsai_tree.specs.Node.{CachedNode, level_blocks}
use Rattle.bonsai_tree.specs.Tree.{NodeCame}
use Rattle.bonsai_tree.proofs.LevelBlocks.{block_listed, blocks-append}
use Rattle.counter_cache.specs.Counters.{BlocksCameUnlessHeld, CameFrom, CountersView, OnlyLeavingIsMade, cached_block, leaving_page}

none_listed : (x : ℕ × List ℕ) → ¬ Contains [] x
none_listed x listed = omega (arith, listed.1)

first_listed : (x y : ℕ × List ℕ) → Contains (y ∷ []) x → y ≡ x
first_listed x y (zero, within, there) = there
first_listed x y (suc k, within, there) = absurd (omega (arith, within))

one_listed : (blocks : List (ℕ × List ℕ)) (x y : ℕ × List ℕ) → blocks ≡ y ∷ [] → Contains blocks x → y ≡ x
one_listed blocks x y is listed = first_listed x y (subst (λ (b : List (ℕ × List ℕ)). Contains b x) is listed)

-- The only block that was made since is that of the page that leaves.
pub leaving_listed : (counters : CountersView) (page : ℕ) (made made' more : List Message) (other : ℕ) (bytes : List ℕ) → OnlyLeavingIsMade counters page made made' →
    made' ≡ made ++ more → Contains more (Node 0 other bytes) →
    (leaving_page counters page ≡ Some other) × (cached_block counters other ≡ Some (record { block = bytes; changed = true }))
leaving_listed counters page made made' more other bytes only adds listed =
    let here : Contains (level_blocks 0 more) (other, bytes) = block_listed 0 other bytes more listed in
    let grew : level_blocks 0 made' ≡ level_blocks 0 made ++ level_blocks 0 more = ap (λ (m : List Message). level_blocks 0 m) adds ∙ blocks-append 0 made more in
    elim only [
      | inl same ↦
          let none : level_blocks 0 more ≡ [] =
          append_cancel_left (level_blocks 0 made) (level_blocks 0 more) [] (sym grew ∙ same ∙ sym (append-nil (level_blocks 0 made))) in
          absurd (none_listed (other, bytes) (subst (λ (b : List (ℕ × List ℕ)). Contains b (other, bytes)) none here))
      | inr one ↦
          let only_one : level_blocks 0 more ≡ (one.other, one.block) ∷ [] =
          append_cancel_left (level_blocks 0 made) (level_blocks 0 more) ((one.other, one.block) ∷ []) (sym grew ∙ one.one) in
          let is : (one.other, one.block) ≡ (other, bytes) = one_listed (level_blocks 0 more) (other, bytes) (one.other, one.block) only_one here in
          subst (λ (b : ℕ × List ℕ). (leaving_page counters page ≡ Some b.0) × (cached_block counters b.0 ≡ Some (record { block = b.1; changed = true }))) is (one.leaves, one.changed)
    ]

-- The last message of a page

not_of_page : (page : ℕ) (item : Message) → ((block : List ℕ) → item ≢ Node 0 page block) → node_part 0 page item ≡ None
not_of_page page (Line line counter cipher) differs = refl
not_of_page page (Node level index block) differs = node_part-other 0 page level index block (λ (at : level ≡ 0) (here : index ≡ page). differs block (cc))

-- messages of other places
unlisted_last : (page : ℕ) (made more : List Message) → ((block : List ℕ) → ¬ Contains more (Node 0 page block)) →
    last_node 0 page (made ++ more) ≡ last_node 0 page made
unlisted_last page made [] none = ap (λ (m : List Message). last_node 0 page m) (append-nil made)
unlisted_last page made (item ∷ more) none =
    ap (λ (m : List Message). last_node 0 page m) (sym (append_assoc made (item ∷ []) more))
    ∙ unlisted_last page (made ++ item ∷ []) more (λ block listed. none block (suc listed.0, omega (arith, listed.1), listed.2))
    ∙ last_of_other (node_part 0 page) made item (not_of_page page item (λ block is. none block (zero, omega arith, is)))

leaves_or_not : (leaving : Option ℕ) (page : ℕ) → (leaving ≡ Some page) ⊎ (leaving ≢ Some page)
leaves_or_not None page = inr (λ (is : None ≡ Some page). cc)
leaves_or_not (Some other) page = elim (cases_eq other page) [
  | inl same ↦ inl (ap Some same)
  | inr apart ↦ inr (λ (is : Some other ≡ Some page). apart (cc))
]

-- What has a copy after a call that had a page's block on the chip

module _ (counters counters' : CountersView) (page : ℕ) (made made' more : List Message) (old new : BusHistory) (only : OnlyLeavingIsMade counters page made made')
    (adds : made' ≡ made ++ more) where
  stays_last : (other : ℕ) → leaving_page counters page ≢ Some other → last_node 0 other made' ≡ last_node 0 other made
  stays_last other stays =
      ap (λ (m : List Message). last_node 0 other m) adds
      ∙ unlisted_last other made more (λ block listed. stays (leaving_listed counters page made made' more other block only adds listed).0)

  own_last : cached_block counters page ≡ None → last_node 0 page made' ≡ last_node 0 page made
  own_last none =
      ap (λ (m : List Message). last_node 0 page m) adds
      ∙ unlisted_last page made more (λ block listed.
      let both : None ≡ Some (record { block = block; changed = true }) = sym none ∙ (leaving_listed counters page made made' more page block only adds listed).1 in
      absurd (cc))

  own_came : cached_block counters page ≡ None → CameFrom made old new page → NodeCame made' 0 page old new
  own_came none (inl unmade) = inl (own_last none ∙ unmade)
  own_came none (inr rose) = inr rose

  pub blocks_came : cached_block counters page ≡ None → ((other : ℕ) → leaving_page counters page ≡ Some other → cached_block counters' other ≡ None) →
      ((other : ℕ) → other ≢ page → leaving_page counters page ≢ Some other → cached_block counters' other ≡ cached_block counters other) →
      (cached_block counters' page ≢ None → (cached_block counters page ≢ None) ⊎ CameFrom made old new page) →
      BlocksCameUnlessHeld counters old made counters' new made'
  blocks_came none goes stays copied = λ other held. elim (cases_eq other page) [
    | inl here ↦
        let page_held : cached_block counters' page ≢ None = subst (λ (p : ℕ). cached_block counters' p ≢ None) here held in
        elim (copied page_held) [
          | inl was ↦ absurd (was none)
          | inr came ↦ inr (subst (λ (p : ℕ). NodeCame made' 0 p old new) (sym here) (own_came none came))
        ]
    | inr apart ↦ elim (leaves_or_not (leaving_page counters page) other) [
      | inl leaves ↦ absurd (held (goes other leaves))
      | inr stay ↦ inl (subst (λ (o : Option CachedNode). o ≢ None) (stays other apart stay) held, stays_last other stay)
    ]
  ]

-- what has a copy came by two calls, unless it was held over both
pub blocks_held_on : (counters mid counters' : CountersView) (made made' made'' : List Message) (first second third : BusHistory) →
    ((place : Place) → RoseBy 0 (first.reads place) (second.reads place)) → ((place : Place) → RoseBy 0 (second.reads place) (third.reads place)) →
    BlocksCameUnlessHeld counters first made mid second made' → BlocksCameUnlessHeld mid second made' counters' third made'' →
    BlocksCameUnlessHeld counters first made counters' third made''
blocks_held_on counters mid counters' made made' made'' first second third before after came more = λ page held.
    elim (more page held) [
      | inr late ↦ elim late [
        | inl none ↦ inr (inl none)
        | inr rose ↦ inr (inr (omega (arith, rose, before (node_place 0 page))))
      ]
      | inl was ↦ elim (came page was.0) [
        | inl first_held ↦ inl (first_held.0, was.1 ∙ first_held.1)
        | inr early ↦ elim early [
          | inl none ↦ inr (inl (was.1 ∙ none))
          | inr rose ↦ inr (inr (omega (arith, rose, after (node_place 0 page))))
        ]
      ]
    ]

-- no block was made since, and more was read
pub blocks_held_after : (counters counters' : CountersView) (made made' made'' : List Message) (first second third : BusHistory) →
    ((place : Place) → RoseBy 0 (second.reads place) (third.reads place)) → ((page : ℕ) → last_node 0 page made'' ≡ last_node 0 page made') →
    BlocksCameUnlessHeld counters first made counters' second made' → BlocksCameUnlessHeld counters first made counters' third made''
blocks_held_after counters counters' made made' made'' first second third after last came = λ page held.
    elim (came page held) [
      | inl was ↦ inl (was.0, last page ∙ was.1)
      | inr early ↦ elim early [
        | inl none ↦ inr (inl (last page ∙ none))
        | inr rose ↦ inr (inr (omega (arith, rose, after (node_place 0 page))))
      ]
    ]
