-- The last item of a list that has a part.
use Rattle.std.proofs.Common.{◌≡◌, ℕ, ◌+◌, Bool, true, false, cond, nat_eq, zero, suc, List, [], ◌∷◌, ◌++◌, length, fold, Option, Some, None, refl, ap, sym, ◌∙◌, arith, length-append, append_assoc, append-nil, subst}
use Rattle.std.specs.Option.{option_map, option_or}
use Rattle.std.specs.List.{slice_get, filter_map}
use Rattle.std.proofs.lemmas.List.Sums.{fold-append}
use Rattle.sec_base.proofs.Lists.{get_front, get_last}
use Rattle.sec_base.specs.declared.counter.Counter.{Counter}
use Rattle.sec_base.specs.declared.message.Message.{Message}
use Rattle.sec_base.specs.declared.message.Message.TheVariants.{Line, Node}
use Rattle.sec_base.specs.LastMessage.{after_item, last_at, last_of, last_data, last_pair, pair_of, data_part, counter_part, data_pairs, IsFresh}

-- the items are counted
count_after : {A B : Type 0} (part : A → Option B) (items : List A) (seen : ℕ × Option (ℕ × B)) →
    (fold (after_item part) seen items).0 ≡ seen.0 + length items
count_after part [] seen = omega arith
count_after part (item ∷ items) seen = omega (arith, count_after part items (after_item part seen item))

-- one more item
pub last_at_more : {A B : Type 0} (part : A → Option B) (items : List A) (item : A) →
    last_at part (items ++ item ∷ []) ≡ option_or (option_map (λ found. (length items, found)) (part item)) (last_at part items)
unfolding last_at
last_at_more {A} {B} part items item =
    let start : ℕ × Option (ℕ × B) = (0, None) in
    let e : fold (after_item part) start (items ++ item ∷ []) ≡ after_item part (fold (after_item part) start items) item =
    fold-append (after_item part) start items (item ∷ []) in
    let n : (fold (after_item part) start items).0 ≡ length items = omega (arith, count_after part items start) in
    ap (λ (seen : ℕ × Option (ℕ × B)). seen.1) e
    ∙ ap (λ (at : ℕ). option_or (option_map (λ (found : B). (at, found)) (part item)) (fold (after_item part) start items).1) n

-- one more item, which has a part
pub last_at_same : {A B : Type 0} (part : A → Option B) (items : List A) (item : A) (found : B) →
    part item ≡ Some found → last_at part (items ++ item ∷ []) ≡ Some (length items, found)
last_at_same {A} {B} part items item found has =
    last_at_more part items item
    ∙ ap (λ (p : Option B). option_or (option_map (λ (x : B). (length items, x)) p) (last_at part items)) has

-- one more item, which has none
pub last_at_other : {A B : Type 0} (part : A → Option B) (items : List A) (item : A) →
    part item ≡ None → last_at part (items ++ item ∷ []) ≡ last_at part items
last_at_other {A} {B} part items item has =
    last_at_more part items item
    ∙ ap (λ (p : Option B). option_or (option_map (λ (x : B). (length items, x)) p) (last_at part items)) has

-- the same of the part alone
pub last_of_same : {A B : Type 0} (part : A → Option B) (items : List A) (item : A) (found : B) →
    part item ≡ Some found → last_of part (items ++ item ∷ []) ≡ Some found
last_of_same {A} {B} part items item found has =
    ap (λ (p : Option (ℕ × B)). option_map (λ (x : ℕ × B). x.1) p) (last_at_same part items item found has)

pub last_of_other : {A B : Type 0} (part : A → Option B) (items : List A) (item : A) →
    part item ≡ None → last_of part (items ++ item ∷ []) ≡ last_of part items
last_of_other {A} {B} part items item has =
    ap (λ (p : Option (ℕ × B)). option_map (λ (x : ℕ × B). x.1) p) (last_at_other part items item has)

-- the item at a place has this part
pub record HasPart {A B : Type 0} (part : A → Option B) (items : List A) (at : ℕ) (found : B) : Type 0 where
  pub item : A
  pub there : slice_get items at ≡ Some item
  pub part_is : part item ≡ Some found

part_after : {A B : Type 0} (part : A → Option B) (front : List A) (seen : ℕ × Option (ℕ × B)) (item : A) (p : Option B) →
    part item ≡ p → seen.0 ≡ length front → ((at : ℕ) (found : B) → seen.1 ≡ Some (at, found) → HasPart part front at found) →
    (at : ℕ) (found : B) → option_or (option_map (λ (x : B). (seen.0, x)) p) seen.1 ≡ Some (at, found) → HasPart part (front ++ item ∷ []) at found
part_after part front seen item None is count known at found e =
    let had : HasPart part front at found = known at found e in
    record { item = had.item; there = get_front front (item ∷ []) at had.item had.there; part_is = had.part_is }
part_after {A} {B} part front seen item (Some x) is count known at found e =
    let pair : (at, found) ≡ (seen.0, x) = cc in
    let at_is : at ≡ length front = ap (λ (p : ℕ × B). p.0) pair ∙ count in
    let found_is : x ≡ found = sym (ap (λ (p : ℕ × B). p.1) pair) in
    record { item = item; there = ap (λ (n : ℕ). slice_get (front ++ item ∷ []) n) at_is ∙ get_last front item; part_is = is ∙ ap Some found_is }

linked_on : {A B : Type 0} (part : A → Option B) (items front : List A) (seen : ℕ × Option (ℕ × B)) →
    seen.0 ≡ length front → ((at : ℕ) (found : B) → seen.1 ≡ Some (at, found) → HasPart part front at found) →
    (at : ℕ) (found : B) → (fold (after_item part) seen items).1 ≡ Some (at, found) → HasPart part (front ++ items) at found
linked_on part [] front seen count known at found e = rw append-nil (known at found e)
linked_on part (item ∷ items) front seen count known at found e =
    rw append_assoc at (linked_on part items (front ++ item ∷ []) (after_item part seen item)
    (omega (arith, length-append front (item ∷ [])))
    (part_after part front seen item (part item) refl count known) at found e)

-- the item of the last part stands at its place
pub linked : {A B : Type 0} (part : A → Option B) (items : List A) (at : ℕ) (found : B) →
    last_at part items ≡ Some (at, found) → HasPart part items at found
unfolding last_at
linked {A} {B} part items at found e =
    let none : Option (ℕ × B) = None in
    let nothing : (at : ℕ) (found : B) → none ≡ Some (at, found) → HasPart part [] at found = λ at found e. absurd (cc) in
    linked_on part items [] (0, none) refl nothing at found e

none_before : {A B : Type 0} (part : A → Option B) (seen : ℕ × Option (ℕ × B)) (item : A) (p : Option B) →
    option_or (option_map (λ (x : B). (seen.0, x)) p) seen.1 ≡ None → seen.1 ≡ None
none_before part seen item None e = e
none_before part seen item (Some x) e = absurd (cc)

none_here : {A B : Type 0} (part : A → Option B) (seen : ℕ × Option (ℕ × B)) (item : A) (p : Option B) →
    option_or (option_map (λ (x : B). (seen.0, x)) p) seen.1 ≡ None → p ≡ None
none_here part seen item None e = refl
none_here part seen item (Some x) e = absurd (cc)

none_mapped : {A B : Type 0} (f : A → B) (p : Option A) → option_map f p ≡ None → p ≡ None
none_mapped f None e = refl
none_mapped f (Some x) e = absurd (cc)

mapped_twice : {A B C : Type 0} (f : A → B) (g : B → C) (p : Option A) → option_map (λ x. g (f x)) p ≡ option_map g (option_map f p)
mapped_twice f g None = refl
mapped_twice f g (Some x) = refl

pair_after : (b : Bool) (counter : Counter) (cipher : List ℕ) (entries : ℕ × Option (ℕ × Counter)) (messages : ℕ × Option (ℕ × (Counter × List ℕ))) →
    option_map (λ found. found.1) entries.1 ≡ option_map (λ found. found.1.0) messages.1 →
    option_map (λ found. found.1) (option_or (option_map (λ (x : Counter). (entries.0, x)) (cond b (Some counter) None)) entries.1)
    ≡ option_map (λ found. found.1.0) (option_or (option_map (λ (x : Counter × List ℕ). (messages.0, x)) (cond b (Some (counter, cipher)) None)) messages.1)
pair_after true counter cipher entries messages same = refl
pair_after false counter cipher entries messages same = same

-- what has a part keeps one
kept_none : {A B : Type 0} (part : A → Option B) (items : List A) (seen : ℕ × Option (ℕ × B)) →
    (fold (after_item part) seen items).1 ≡ None → seen.1 ≡ None
kept_none part [] seen e = e
kept_none part (item ∷ items) seen e =
    none_before part seen item (part item) (kept_none part items (after_item part seen item) e)

none_parts : {A B : Type 0} (part : A → Option B) (items : List A) (seen : ℕ × Option (ℕ × B)) →
    (fold (after_item part) seen items).1 ≡ None → (at : ℕ) (item : A) → slice_get items at ≡ Some item → part item ≡ None
none_parts part [] seen e at item there = absurd (cc)
none_parts part (x ∷ items) seen e zero item there =
    let same : x ≡ item = cc in
    rw (← same) (none_here part seen x (part x) (kept_none part items (after_item part seen x) e))
none_parts part (x ∷ items) seen e (suc at) item there = none_parts part items (after_item part seen x) e at item there

-- where no item was the last with a part, none has one
pub no_part : {A B : Type 0} (part : A → Option B) (items : List A) → last_of part items ≡ None →
    (at : ℕ) (item : A) → slice_get items at ≡ Some item → part item ≡ None
unfolding last_at
no_part {A} {B} part items e at item there =
    let start : ℕ × Option (ℕ × B) = (0, None) in
    none_parts part items start (none_mapped (λ (found : ℕ × B). found.1) (last_at part items) e) at item there

-- the counter of a line's last message is that of the line's last entry among the messages' lines and counters
pairs_on : (line : ℕ) (made : List Message) (entries : ℕ × Option (ℕ × Counter)) (messages : ℕ × Option (ℕ × (Counter × List ℕ))) →
    option_map (λ found. found.1) entries.1 ≡ option_map (λ found. found.1.0) messages.1 →
    option_map (λ found. found.1) (fold (after_item (counter_part line)) entries (filter_map pair_of made)).1
    ≡ option_map (λ found. found.1.0) (fold (after_item (data_part line)) messages made).1
pairs_on line [] entries messages same = same
pairs_on line (Node level index block ∷ made) entries messages same = pairs_on line made entries _ same
pairs_on line (Line other counter cipher ∷ made) entries messages same = pairs_on line made _ _ (pair_after (nat_eq other line) counter cipher entries messages same)

pub last_pair-data_pairs : (line : ℕ) (made : List Message) →
    last_pair line (data_pairs made) ≡ option_map (λ found. found.0) (last_data line made)
unfolding last_at data_pairs
last_pair-data_pairs line made =
    pairs_on line made (0, None) (0, None) refl ∙ mapped_twice (λ (found : ℕ × (Counter × List ℕ)). found.1) (λ (found : Counter × List ℕ). found.0) (last_at (data_part line) made)

pub none_front : {A B : Type 0} (part : A → Option B) (front more : List A) → last_of part (front ++ more) ≡ None → last_of part front ≡ None
unfolding last_at
none_front {A} {B} part front more e =
    let start : ℕ × Option (ℕ × B) = (0, None) in
    let none : (fold (after_item part) start (front ++ more)).1 ≡ None =
    none_mapped (λ (found : ℕ × B). found.1) (last_at part (front ++ more)) e in
    let whole : fold (after_item part) start (front ++ more) ≡ fold (after_item part) (fold (after_item part) start front) more =
    fold-append (after_item part) start front more in
    let front_none : (fold (after_item part) start front).1 ≡ None =
    kept_none part more (fold (after_item part) start front) (sym (ap (λ (seen : ℕ × Option (ℕ × B)). seen.1) whole) ∙ none) in
    ap (λ (found : Option (ℕ × B)). option_map (λ (x : ℕ × B). x.1) found) front_none

pairs-append : (front more : List Message) → data_pairs (front ++ more) ≡ data_pairs front ++ data_pairs more
unfolding data_pairs
pairs-append [] more = refl
pairs-append (Node level index block ∷ front) more = pairs-append front more
pairs-append (Line line counter cipher ∷ front) more = ap (λ (pairs : List (ℕ × Counter)). (line, counter) ∷ pairs) (pairs-append front more)

-- a line of which no message speaks was fresh before
pub fresh_front : (line : ℕ) (front more : List Message) → IsFresh line (data_pairs (front ++ more)) → IsFresh line (data_pairs front)
fresh_front line front more fresh =
    none_front (counter_part line) (data_pairs front) (data_pairs more)
    (subst (λ (pairs : List (ℕ × Counter)). IsFresh line pairs) (pairs-append front more) fresh)
