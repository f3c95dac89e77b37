-- The messages of lines, and one more of them.
use Rattle.std.proofs.Common.{◌≡◌, ◌≢◌, ℕ, Bool, true, false, cond, nat_eq, List, [], ◌∷◌, ◌++◌, Option, Some, None, Contains, refl, ap, sym, ◌∙◌, subst}
use Rattle.std.specs.Option.{option_map}
use Rattle.std.proofs.lemmas.Bool.Decides.{Decides-eqb}
use Rattle.std.proofs.lemmas.Option.{same_Some}
use Rattle.sec_base.specs.declared.counter.Counter.{Counter}
use Rattle.sec_base.specs.declared.message.Message.{Message}
use Rattle.sec_base.specs.declared.message.Message.TheVariants.{Line, Node}
use Rattle.sec_base.specs.LastMessage.{data_part, last_at, last_data, last_pair, data_pairs}
use Rattle.sec_base.proofs.LastMessages.{last_of_same, last_of_other, linked, HasPart, last_pair-data_pairs}
use Rattle.sec_base.proofs.SamePlaces.{false_from}
use Rattle.sec_base.proofs.Lists.{get_listed}

-- a message more of the line itself
pub last_data-same : (made : List Message) (line : ℕ) (counter : Counter) (cipher : List ℕ) →
    last_data line (made ++ Line line counter cipher ∷ []) ≡ Some (counter, cipher)
last_data-same made line counter cipher =
    let same : nat_eq line line ≡ true = (Decides-eqb line line).1 refl in
    let has : data_part line (Line line counter cipher) ≡ Some (counter, cipher) =
    ap (λ (b : Bool). cond b (Some (counter, cipher)) None) same in
    last_of_same (data_part line) made (Line line counter cipher) (counter, cipher) has

-- and of another one
pub last_data-other : (made : List Message) (line other : ℕ) (counter : Counter) (cipher : List ℕ) → other ≢ line →
    last_data other (made ++ Line line counter cipher ∷ []) ≡ last_data other made
last_data-other made line other counter cipher differs =
    let not_same : nat_eq line other ≡ false =
    false_from (nat_eq line other) (Decides-eqb line other) (λ (e : line ≡ other). differs (sym e)) in
    let has : data_part other (Line line counter cipher) ≡ None =
    ap (λ (b : Bool). cond b (Some (counter, cipher)) None) not_same in
    last_of_other (data_part other) made (Line line counter cipher) has

abbrev part_if : Bool → Counter × List ℕ → Option (Counter × List ℕ)
part_if same part = cond same (Some part) None

line_message : (line other : ℕ) (counter counter' : Counter) (cipher cipher' : List ℕ) (same : Bool) → nat_eq other line ≡ same →
    part_if same (counter', cipher') ≡ Some (counter, cipher) → Line other counter' cipher' ≡ Line line counter cipher
line_message line other counter counter' cipher cipher' false is e = absurd (cc)
line_message line other counter counter' cipher cipher' true is e =
    let part : Counter × List ℕ = (counter, cipher) in
    let part' : Counter × List ℕ = (counter', cipher') in
    let parts : part' ≡ part = same_Some part' part e in
    let lines : other ≡ line = (Decides-eqb other line).0 is in
    ap (λ (n : ℕ). Line n counter' cipher') lines ∙ ap (λ (p : Counter × List ℕ). Line line p.0 p.1) parts

part_message : (line : ℕ) (counter : Counter) (cipher : List ℕ) (message : Message) → data_part line message ≡ Some (counter, cipher) →
    message ≡ Line line counter cipher
part_message line counter cipher (Line other counter' cipher') e =
    line_message line other counter counter' cipher cipher' (nat_eq other line) refl e
part_message line counter cipher (Node level index block) e = absurd (cc)

last_among : (made : List Message) (line : ℕ) (counter : Counter) (cipher : List ℕ) (last : Option (ℕ × (Counter × List ℕ))) →
    last_at (data_part line) made ≡ last → option_map (λ found. found.1) last ≡ Some (counter, cipher) → Contains made (Line line counter cipher)
last_among made line counter cipher None is e = absurd (cc)
last_among made line counter cipher (Some found) is e =
    let there : HasPart (data_part line) made found.0 found.1 = linked (data_part line) made found.0 found.1 is in
    let is_part : Counter × List ℕ = (counter, cipher) in
    let part : found.1 ≡ is_part = same_Some found.1 is_part e in
    let message : there.item ≡ Line line counter cipher =
    part_message line counter cipher there.item (there.part_is ∙ ap (λ (p : Counter × List ℕ). Some p) part) in
    subst (λ (m : Message). Contains made m) message (get_listed made found.0 there.item there.there)

-- the last message of a line is one of those made
pub last_made : (made : List Message) (line : ℕ) (counter : Counter) (cipher : List ℕ) →
    last_data line made ≡ Some (counter, cipher) → Contains made (Line line counter cipher)
last_made made line counter cipher e =
    last_among made line counter cipher (last_at (data_part line) made) refl e

-- a line's last counter
pub last_pair-some : (made : List Message) (line : ℕ) (counter : Counter) (cipher : List ℕ) →
    last_data line made ≡ Some (counter, cipher) → last_pair line (data_pairs made) ≡ Some counter
last_pair-some made line counter cipher e =
    last_pair-data_pairs line made ∙ ap (λ (o : Option (Counter × List ℕ)). option_map (λ found. found.0) o) e
