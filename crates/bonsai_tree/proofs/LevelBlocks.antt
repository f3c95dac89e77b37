-- The nodes of a level among messages.
use Rattle.std.proofs.Common.{◌≡◌, ◌≢◌, ℕ, zero, suc, Bool, true, false, cond, nat_eq, List, [], ◌∷◌, ◌++◌, Some, None, Contains, refl, ap, sym, ◌∙◌, subst, arith}
use Rattle.std.specs.List.{cons_option}
use Rattle.std.proofs.lemmas.Bool.Decides.{Decides-eqb}
use Rattle.std.proofs.lemmas.List.{append-nil}
use Rattle.std.proofs.lemmas.List.Elements.{filter_map-append}
use Rattle.sec_base.specs.declared.message.Message.{Message}
use Rattle.sec_base.specs.declared.message.Message.TheVariants.{Line, Node}
use Rattle.bonsai_tree.specs.Node.{level_blocks, level_part}

pub blocks-append : (level : ℕ) (made more : List Message) → level_blocks level (made ++ more) ≡ level_blocks level made ++ level_blocks level more
unfolding level_blocks
blocks-append level made more = filter_map-append (level_part level) made more

none_of : (b : Bool) (part : ℕ × List ℕ) → (b ≡ true → ⊥) → cons_option (cond b (Some part) None) [] ≡ []
none_of true part no_way = absurd (no_way refl)
none_of false part no_way = refl

one_of : (b : Bool) (part : ℕ × List ℕ) → b ≡ true → cons_option (cond b (Some part) None) [] ≡ part ∷ []
one_of true part same = refl
one_of false part same = absurd (cc)

-- one message more, of a node of another level
pub blocks_other : (other level index : ℕ) (block : List ℕ) (made : List Message) → level ≢ other →
    level_blocks other (made ++ Node level index block ∷ []) ≡ level_blocks other made
unfolding level_blocks
blocks_other other level index block made apart =
    blocks-append other made (Node level index block ∷ [])
    ∙ ap (λ (more : List (ℕ × List ℕ)). level_blocks other made ++ more) (none_of (nat_eq level other) (index, block) (λ (same : nat_eq level other ≡ true). apart ((Decides-eqb level other).0 same)))
    ∙ append-nil (level_blocks other made)

-- and of one of the level
pub blocks_own : (level index : ℕ) (block : List ℕ) (made : List Message) →
    level_blocks level (made ++ Node level index block ∷ []) ≡ level_blocks level made ++ (index, block) ∷ []
unfolding level_blocks
blocks_own level index block made =
    blocks-append level made (Node level index block ∷ [])
    ∙ ap (λ (more : List (ℕ × List ℕ)). level_blocks level made ++ more) (one_of (nat_eq level level) (index, block) ((Decides-eqb level level).1 refl))

-- after messages of none of its nodes
pub blocks_after : (level index : ℕ) (block : List ℕ) (made made' made'' : List Message) → level_blocks level made' ≡ level_blocks level made →
    made'' ≡ made' ++ Node level index block ∷ [] → level_blocks level made'' ≡ level_blocks level made ++ (index, block) ∷ []
blocks_after level index block made made' made'' same is =
    ap (λ (m : List Message). level_blocks level m) is ∙ blocks_own level index block made'
    ∙ ap (λ (blocks : List (ℕ × List ℕ)). blocks ++ (index, block) ∷ []) same

listed_first : (b : Bool) (part : ℕ × List ℕ) (rest : List (ℕ × List ℕ)) → b ≡ true → Contains (cons_option (cond b (Some part) None) rest) part
listed_first true part rest same = (zero, omega arith, refl)
listed_first false part rest same = absurd (cc)

listed_later : (b : Bool) (part : ℕ × List ℕ) (rest : List (ℕ × List ℕ)) (x : ℕ × List ℕ) → Contains rest x → Contains (cons_option (cond b (Some part) None) rest) x
listed_later true part rest x (k, within, there) = (suc k, omega (arith, within), there)
listed_later false part rest x listed = listed

own_listed : (level index : ℕ) (block : List ℕ) (more : List Message) → Contains (level_blocks level (Node level index block ∷ more)) (index, block)
unfolding level_blocks
own_listed level index block more = listed_first (nat_eq level level) (index, block) (level_blocks level more) ((Decides-eqb level level).1 refl)

-- a node that a message is of is among those of its level
pub block_listed : (level index : ℕ) (block : List ℕ) (more : List Message) → Contains more (Node level index block) →
    Contains (level_blocks level more) (index, block)
unfolding level_blocks
block_listed level index block [] listed = absurd (omega (arith, listed.1))
block_listed level index block (Line line counter cipher ∷ more) (zero, within, there) = absurd (cc)
block_listed level index block (Line line counter cipher ∷ more) (suc k, within, there) = block_listed level index block more (k, omega (arith, within), there)
block_listed level index block (Node at_level at bytes ∷ more) (zero, within, there) =
    let is : Node at_level at bytes ≡ Node level index block = there in
    subst (λ (m : Message). Contains (level_blocks level (m ∷ more)) (index, block)) (sym is) (own_listed level index block more)
block_listed level index block (Node at_level at bytes ∷ more) (suc k, within, there) =
    listed_later (nat_eq at_level level) (at, bytes) (level_blocks level more) (index, block)
    (block_listed level index block more (k, omega (arith, within), there))
