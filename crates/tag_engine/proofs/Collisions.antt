-- What checks of nodes show.
use Rattle.std.proofs.Common.{◌≡◌, ◌≢◌, ℕ, ◌<◌, Bool, true, false, cond, nat_eq, not, ◌&&◌, List, length, Option, Some, None, IfSome, slice_index_or, refl, ap, ◌∙◌, sym, subst}
use Rattle.std.specs.Option.{option_map}
use Rattle.std.specs.List.{slice_get}
use Rattle.std.specs.Str.{bytes_eq}
use Rattle.std.proofs.lemmas.Option.{get_or_from_slice_get, slice_get_within}
use Rattle.std.proofs.lemmas.Slice.Eq.{bytes_eq-Decides}
use Rattle.std.proofs.lemmas.Bool.Decides.{Decides-eqb, Decides-and}
use Rattle.sec_base.specs.declared.counter.Counter.{Counter}
use Rattle.sec_base.specs.declared.message.Message.{Message}
use Rattle.sec_base.specs.declared.message.Message.TheVariants.{Line, Node}
use Rattle.sec_base.specs.declared.evidence.Evidence.{Evidence}
use Rattle.sec_base.specs.declared.evidence.Evidence.TheVariants.{Collision}
use Rattle.sec_base.specs.Evidence.{IsEvidence}
use Rattle.sec_base.specs.LastMessage.{last_at, last_node, node_part}
use Rattle.sec_base.proofs.LastMessages.{linked, HasPart}
use Rattle.sec_base.proofs.SamePlaces.{false_from}
use Rattle.tag_engine.specs.Invariant.{last_place}
use Rattle.tag_engine.specs.TagEngine.{collision_of, collision_with}

-- The message of a part

abbrev part_if : Bool → List ℕ → Option (List ℕ)
part_if same block = cond same (Some block) None

node_message : (level index at_level at : ℕ) (block block' : List ℕ) (same : Bool) → nat_eq at_level level && nat_eq at index ≡ same →
    part_if same block' ≡ Some block → Node at_level at block' ≡ Node level index block
node_message level index at_level at block block' false is e = absurd (cc)
node_message level index at_level at block block' true is e =
    let both : (at_level ≡ level) × (at ≡ index) =
    (Decides-and (nat_eq at_level level) (nat_eq at index) (Decides-eqb at_level level) (Decides-eqb at index)).0 is in
    cc (both.0, both.1)

pub part_message : (level index : ℕ) (block : List ℕ) (message : Message) → node_part level index message ≡ Some block →
    message ≡ Node level index block
part_message level index block (Line line counter cipher) e = absurd (cc)
part_message level index block (Node at_level at block') e =
    node_message level index at_level at block block' (nat_eq at_level level && nat_eq at index) refl e

-- the block of the last message stands at its place
pub made_there : (made : List Message) (level index at : ℕ) (block : List ℕ) →
    last_at (node_part level index) made ≡ Some (at, block) → slice_get made at ≡ Some (Node level index block)
made_there made level index at block is =
    let there : HasPart (node_part level index) made at block = linked (node_part level index) made at block is in
    there.there ∙ ap Some (part_message level index block there.item there.part_is)

-- a node's last block, by where its message stands
pub record LastBlock (made : List Message) (level index at : ℕ) : Type 0 where
  pub block : List ℕ
  pub last : last_at (node_part level index) made ≡ Some (at, block)
  pub there : slice_get made at ≡ Some (Node level index block)

block_found : (made : List Message) (level index at : ℕ) (found : Option (ℕ × List ℕ)) → last_at (node_part level index) made ≡ found →
    option_map (λ found. found.0) found ≡ Some at → LastBlock made level index at
block_found made level index at None is e = absurd (cc)
block_found made level index at (Some found) is e =
    let here : found.0 ≡ at = cc in
    let last : last_at (node_part level index) made ≡ Some (at, found.1) = is ∙ ap (λ (n : ℕ). Some (n, found.1)) here in
    record { block = found.1; last = last; there = made_there made level index at found.1 last }

pub last_block : (made : List Message) (level index at : ℕ) → Some at ≡ last_place (node_part level index) made → LastBlock made level index at
last_block made level index at is = block_found made level index at (last_at (node_part level index) made) refl (sym is)

-- it is one of those made
pub last_inside : (made : List Message) (level index at : ℕ) → Some at ≡ last_place (node_part level index) made → at < length made
last_inside made level index at is =
    let found = last_block made level index at is in
    slice_get_within made at (Node level index found.block) found.there

-- the message that was read there is of the node, and has that block
pub last_read : (made : List Message) (level index at at_level place : ℕ) (block : List ℕ) (message : Message) →
    Some at ≡ last_place (node_part level index) made → message ≡ slice_index_or made at message →
    message ≡ Node at_level place block → Some (at, block) ≡ last_at (node_part level index) made
last_read made level index at at_level place block message is read message_is =
    let found = last_block made level index at is in
    let whole : message ≡ Node level index found.block = read ∙ get_or_from_slice_get made at (Node level index found.block) message found.there in
    let both : Node at_level place block ≡ Node level index found.block = sym message_is ∙ whole in
    let same : block ≡ found.block = cc in
    ap (λ (b : List ℕ). Some (at, b)) same ∙ sym found.last

pub no_line_read : (made : List Message) (level index at line : ℕ) (counter : Counter) (cipher : List ℕ) (message : Message) →
    Some at ≡ last_place (node_part level index) made → message ≡ slice_index_or made at message → message ≡ Line line counter cipher → ⊥
no_line_read made level index at line counter cipher message is read message_is =
    let found = last_block made level index at is in
    let whole : message ≡ Node level index found.block = read ∙ get_or_from_slice_get made at (Node level index found.block) message found.there in
    let both : Line line counter cipher ≡ Node level index found.block = sym message_is ∙ whole in
    absurd (cc)

-- What a check shows

-- a node of which nothing was made
pub none_made : (tag_of : Message → List ℕ) (made : List Message) (level index : ℕ) (block tag : List ℕ) →
    None ≡ last_at (node_part level index) made → None ≡ collision_of tag_of made level index block tag true
unfolding collision_of
none_made tag_of made level index block tag is =
    ap (λ (last : Option (ℕ × List ℕ)). collision_with tag_of level index block tag last) is

-- a node that has a last block
with_last : (tag_of : Message → List ℕ) (made : List Message) (level index at : ℕ) (last block tag : List ℕ) →
    Some (at, last) ≡ last_at (node_part level index) made →
    collision_with tag_of level index block tag (Some (at, last)) ≡ collision_of tag_of made level index block tag true
unfolding collision_of
with_last tag_of made level index at last block tag is =
    ap (λ (o : Option (ℕ × List ℕ)). collision_with tag_of level index block tag o) is

abbrev shown : ℕ → ℕ → ℕ → List ℕ → List ℕ → Bool → Bool → Option Evidence
shown level index at block tag same tagged = cond (not same && tagged) (Some (Collision level index at block tag)) None

-- that block shows nothing
pub same_block : (tag_of : Message → List ℕ) (made : List Message) (level index at : ℕ) (last block tag : List ℕ) →
    Some (at, last) ≡ last_at (node_part level index) made → last ≡ block → None ≡ collision_of tag_of made level index block tag true
same_block tag_of made level index at last block tag is same =
    let equal : bytes_eq last block ≡ true = (bytes_eq-Decides last block).1 same in
    sym (ap (λ (b : Bool). shown level index at block tag b (bytes_eq (tag_of (Node level index last)) tag)) equal)
    ∙ with_last tag_of made level index at last block tag is

none_shown : (level index at : ℕ) (block tag : List ℕ) (same : Bool) → shown level index at block tag same false ≡ None
none_shown level index at block tag true = refl
none_shown level index at block tag false = refl

-- nor does one whose tag is another
pub other_tag : (tag_of : Message → List ℕ) (made : List Message) (level index at : ℕ) (last block tag : List ℕ) →
    Some (at, last) ≡ last_at (node_part level index) made → tag_of (Node level index last) ≢ tag →
    None ≡ collision_of tag_of made level index block tag true
other_tag tag_of made level index at last block tag is differs =
    let unlike : bytes_eq (tag_of (Node level index last)) tag ≡ false =
    false_from (bytes_eq (tag_of (Node level index last)) tag) (bytes_eq-Decides (tag_of (Node level index last)) tag) differs in
    sym (ap (λ (b : Bool). shown level index at block tag (bytes_eq last block) b) unlike
    ∙ none_shown level index at block tag (bytes_eq last block))
    ∙ with_last tag_of made level index at last block tag is

-- another block with the tag of the last one is a collision
pub a_collision : (tag_of : Message → List ℕ) (made : List Message) (level index at : ℕ) (last block tag : List ℕ) →
    Some (at, last) ≡ last_at (node_part level index) made → last ≢ block → tag_of (Node level index last) ≡ tag →
    Some (Collision level index at block tag) ≡ collision_of tag_of made level index block tag true
a_collision tag_of made level index at last block tag is differs tagged =
    let unlike : bytes_eq last block ≡ false = false_from (bytes_eq last block) (bytes_eq-Decides last block) differs in
    let like : bytes_eq (tag_of (Node level index last)) tag ≡ true = (bytes_eq-Decides (tag_of (Node level index last)) tag).1 tagged in
    sym (ap (λ (b : Bool). shown level index at block tag b (bytes_eq (tag_of (Node level index last)) tag)) unlike
    ∙ ap (λ (b : Bool). shown level index at block tag false b) like)
    ∙ with_last tag_of made level index at last block tag is

-- a check that failed shows nothing
pub collision_of-failed : (tag_of : Message → List ℕ) (made : List Message) (level index : ℕ) (block tag : List ℕ) →
    collision_of tag_of made level index block tag false ≡ None
unfolding collision_of
collision_of-failed tag_of made level index block tag = refl

-- What evidence says

known_case : (level index at : ℕ) (last block tag : List ℕ) (same : Bool) → bytes_eq last block ≡ same →
    shown level index at block tag same true ≡ None → block ≡ last
known_case level index at last block tag true is none = sym ((bytes_eq-Decides last block).0 is)
known_case level index at last block tag false is none = absurd (cc)

known_last : (tag_of : Message → List ℕ) (made : List Message) (level index : ℕ) (block tag last : List ℕ) (found : Option (ℕ × List ℕ)) →
    last_at (node_part level index) made ≡ found → collision_of tag_of made level index block tag true ≡ None →
    option_map (λ found. found.1) found ≡ Some last → tag ≡ tag_of (Node level index last) → block ≡ last
known_last tag_of made level index block tag last None is none e tagged = absurd (cc)
known_last tag_of made level index block tag last (Some found) is none e tagged =
    let here : found.1 ≡ last = cc in
    let there : Some (found.0, last) ≡ last_at (node_part level index) made = sym (is ∙ ap (λ (b : List ℕ). Some (found.0, b)) here) in
    let like : bytes_eq (tag_of (Node level index last)) tag ≡ true = (bytes_eq-Decides (tag_of (Node level index last)) tag).1 (sym tagged) in
    known_case level index found.0 last block tag (bytes_eq last block) refl
    (sym (ap (λ (b : Bool). shown level index found.0 block tag (bytes_eq last block) b) like)
    ∙ with_last tag_of made level index found.0 last block tag there ∙ none)

-- what passes against the last block's tag without evidence is that block
pub known : (tag_of : Message → List ℕ) (made : List Message) (level index : ℕ) (block tag last : List ℕ) →
    None ≡ collision_of tag_of made level index block tag true → last_node level index made ≡ Some last →
    tag ≡ tag_of (Node level index last) → block ≡ last
known tag_of made level index block tag last none is tagged =
    known_last tag_of made level index block tag last (last_at (node_part level index) made) refl (sym none) is tagged

-- a last block that is another one, and has the tag
pub record Collides (tag_of : Message → List ℕ) (made : List Message) (level index : ℕ) (block tag : List ℕ) (evidence : Evidence) : Type 0 where
  pub at : ℕ
  pub last : List ℕ
  pub made_last : last_at (node_part level index) made ≡ Some (at, last)
  pub differs : last ≢ block
  pub tagged : tag_of (Node level index last) ≡ tag
  pub is : evidence ≡ Collision level index at block tag

collides_case : (tag_of : Message → List ℕ) (made : List Message) (level index at : ℕ) (last block tag : List ℕ) (evidence : Evidence) (same tagged : Bool) →
    last_at (node_part level index) made ≡ Some (at, last) → bytes_eq last block ≡ same → bytes_eq (tag_of (Node level index last)) tag ≡ tagged →
    shown level index at block tag same tagged ≡ Some evidence → Collides tag_of made level index block tag evidence
collides_case tag_of made level index at last block tag evidence true tagged is same like e = absurd (cc)
collides_case tag_of made level index at last block tag evidence false false is same like e = absurd (cc)
collides_case tag_of made level index at last block tag evidence false true is same like e = record {
  at = at;
  last = last;
  made_last = is;
  differs = λ h. let equal : bytes_eq last block ≡ true = (bytes_eq-Decides last block).1 h in absurd (cc);
  tagged = (bytes_eq-Decides (tag_of (Node level index last)) tag).0 like;
  is = cc;
}

collides_found : (tag_of : Message → List ℕ) (made : List Message) (level index : ℕ) (block tag : List ℕ) (evidence : Evidence) (found : Option (ℕ × List ℕ)) →
    last_at (node_part level index) made ≡ found → collision_of tag_of made level index block tag true ≡ Some evidence →
    Collides tag_of made level index block tag evidence
collides_found tag_of made level index block tag evidence None is e =
    let none = none_made tag_of made level index block tag (sym is) in absurd (cc)
collides_found tag_of made level index block tag evidence (Some found) is e =
    collides_case tag_of made level index found.0 found.1 block tag evidence (bytes_eq found.1 block)
    (bytes_eq (tag_of (Node level index found.1)) tag) is refl refl
    (with_last tag_of made level index found.0 found.1 block tag (sym is) ∙ e)

-- what a check that passed shows
pub collides : (tag_of : Message → List ℕ) (made : List Message) (level index : ℕ) (block tag : List ℕ) (evidence : Evidence) →
    collision_of tag_of made level index block tag true ≡ Some evidence → Collides tag_of made level index block tag evidence
collides tag_of made level index block tag evidence e =
    collides_found tag_of made level index block tag evidence (last_at (node_part level index) made) refl e

is_evidence : (tag_of : Message → List ℕ) (made : List Message) (level index : ℕ) (block tag : List ℕ) (evidence : Evidence) →
    tag ≡ tag_of (Node level index block) → Collides tag_of made level index block tag evidence → IsEvidence tag_of made evidence
is_evidence tag_of made level index block tag evidence tagged found =
    subst (λ (e : Evidence). IsEvidence tag_of made e) (sym found.is) (record {
      true_block = found.last;
      made_there = made_there made level index found.at found.last found.made_last;
      differs = found.differs;
      true_tagged = found.tagged;
      tagged = sym tagged;
    })

genuine_case : (tag_of : Message → List ℕ) (made : List Message) (level index : ℕ) (block tag : List ℕ) (evidence : Option Evidence) →
    tag ≡ tag_of (Node level index block) → collision_of tag_of made level index block tag true ≡ evidence →
    IfSome evidence (IsEvidence tag_of made)
genuine_case tag_of made level index block tag None tagged e = tt
genuine_case tag_of made level index block tag (Some evidence) tagged e =
    is_evidence tag_of made level index block tag evidence tagged (collides tag_of made level index block tag evidence e)

-- is evidence
pub genuine : (tag_of : Message → List ℕ) (made : List Message) (level index : ℕ) (block tag : List ℕ) → tag ≡ tag_of (Node level index block) →
    IfSome (collision_of tag_of made level index block tag true) (IsEvidence tag_of made)
genuine tag_of made level index block tag tagged =
    genuine_case tag_of made level index block tag (collision_of tag_of made level index block tag true) tagged refl
