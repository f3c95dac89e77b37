-- Where the last messages of lines and of nodes stand.
use Rattle.std.proofs.Common.{◌≡◌, ◌≢◌, ℕ, ◌<◌, Bool, true, false, cond, nat_eq, ◌&&◌, List, [], ◌∷◌, ◌++◌, length, Option, Some, None, IfSome, refl, ap, sym}
use Rattle.std.specs.Option.{option_map}
use Rattle.std.proofs.lemmas.Option.{slice_get_within}
use Rattle.std.proofs.lemmas.Bool.Decides.{Decides-eqb, Decides-and}
use Rattle.sec_base.specs.declared.counter.Counter.{Counter}
use Rattle.sec_base.specs.declared.message.Message.{Message}
use Rattle.sec_base.specs.declared.message.Message.TheVariants.{Line, Node}
use Rattle.sec_base.specs.LastMessage.{data_part, node_part, last_at}
use Rattle.sec_base.proofs.LastMessages.{last_at_same, last_at_other, linked, HasPart}
use Rattle.sec_base.proofs.Results.{test_fails}
use Rattle.tag_engine.specs.Invariant.{last_place}

-- nothing was made
pub last_place-nothing : {B : Type 0} (part : Message → Option B) → last_place part [] ≡ None
unfolding last_at
last_place-nothing part = refl

-- a message more that has no part
last_place-without : {B : Type 0} (part : Message → Option B) (made : List Message) (message : Message) →
    part message ≡ None → last_place part (made ++ message ∷ []) ≡ last_place part made
last_place-without {B} part made message has =
    ap (λ (o : Option (ℕ × B)). option_map (λ found. found.0) o) (last_at_other part made message has)

-- a message of the line
pub last_place-same : (line : ℕ) (counter : Counter) (cipher : List ℕ) (made : List Message) →
    last_place (data_part line) (made ++ Line line counter cipher ∷ []) ≡ Some (length made)
last_place-same line counter cipher made =
    let same : nat_eq line line ≡ true = (Decides-eqb line line).1 refl in
    let has : data_part line (Line line counter cipher) ≡ Some (counter, cipher) =
    ap (λ (b : Bool). cond b (Some (counter, cipher)) None) same in
    ap (λ (o : Option (ℕ × (Counter × List ℕ))). option_map (λ found. found.0) o)
    (last_at_same (data_part line) made (Line line counter cipher) (counter, cipher) has)

-- a message of another line
pub last_place-other : (line other : ℕ) (counter : Counter) (cipher : List ℕ) (made : List Message) → line ≢ other →
    last_place (data_part line) (made ++ Line other counter cipher ∷ []) ≡ last_place (data_part line) made
last_place-other line other counter cipher made differs =
    let not_same : nat_eq other line ≡ false =
    test_fails (nat_eq other line) (Decides-eqb other line).0 (λ (e : other ≡ line). differs (sym e)) in
    let has : data_part line (Line other counter cipher) ≡ None =
    ap (λ (b : Bool). cond b (Some (counter, cipher)) None) not_same in
    last_place-without (data_part line) made (Line other counter cipher) has

-- a message of a line is none of a node
pub last_place-node : (level index line : ℕ) (counter : Counter) (cipher : List ℕ) (made : List Message) →
    last_place (node_part level index) (made ++ Line line counter cipher ∷ []) ≡ last_place (node_part level index) made
last_place-node level index line counter cipher made =
    last_place-without (node_part level index) made (Line line counter cipher) refl

-- a message of the node
pub node_part-same : (level index : ℕ) (block : List ℕ) → node_part level index (Node level index block) ≡ Some block
node_part-same level index block =
    let same : nat_eq level level && nat_eq index index ≡ true =
    (Decides-and (nat_eq level level) (nat_eq index index) (Decides-eqb level level) (Decides-eqb index index)).1 (refl, refl) in
    ap (λ (b : Bool). cond b (Some block) None) same

pub last_place-same_node : (level index : ℕ) (block : List ℕ) (made : List Message) →
    last_place (node_part level index) (made ++ Node level index block ∷ []) ≡ Some (length made)
last_place-same_node level index block made =
    ap (λ (o : Option (ℕ × List ℕ)). option_map (λ found. found.0) o)
    (last_at_same (node_part level index) made (Node level index block) block (node_part-same level index block))

-- a message of another node
pub node_part-other : (level index at_level at : ℕ) (block : List ℕ) → (at_level ≡ level → at ≡ index → ⊥) →
    node_part level index (Node at_level at block) ≡ None
node_part-other level index at_level at block differs =
    let not_same : nat_eq at_level level && nat_eq at index ≡ false =
    test_fails (nat_eq at_level level && nat_eq at index)
    (Decides-and (nat_eq at_level level) (nat_eq at index) (Decides-eqb at_level level) (Decides-eqb at index)).0
    (λ (both : (at_level ≡ level) × (at ≡ index)). differs both.0 both.1) in
    ap (λ (b : Bool). cond b (Some block) None) not_same

pub last_place-other_node : (level index at_level at : ℕ) (block : List ℕ) (made : List Message) → (at_level ≡ level → at ≡ index → ⊥) →
    last_place (node_part level index) (made ++ Node at_level at block ∷ []) ≡ last_place (node_part level index) made
last_place-other_node level index at_level at block made differs =
    last_place-without (node_part level index) made (Node at_level at block) (node_part-other level index at_level at block differs)

-- a message of a node is none of a line
pub last_place-line : (line level index : ℕ) (block : List ℕ) (made : List Message) →
    last_place (data_part line) (made ++ Node level index block ∷ []) ≡ last_place (data_part line) made
last_place-line line level index block made = last_place-without (data_part line) made (Node level index block) refl

within : {B : Type 0} (part : Message → Option B) (made : List Message) (o : Option (ℕ × B)) → last_at part made ≡ o →
    IfSome (option_map (λ found. found.0) o) (λ at. at < length made)
within part made None is = tt
within part made (Some found) is =
    let there : HasPart part made found.0 found.1 = linked part made found.0 found.1 is in
    slice_get_within made found.0 there.item there.there

-- it is one of those made
pub last_place-within : {B : Type 0} (part : Message → Option B) (made : List Message) → IfSome (last_place part made) (λ at. at < length made)
last_place-within part made = within part made (last_at part made) refl
