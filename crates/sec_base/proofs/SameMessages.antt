-- The test of whether a message is among others.
use Rattle.std.proofs.Common.{◌≡◌, ℕ, true, false, nat_eq, ◌&&◌, List, refl, ap, ◌∙◌, sym}
use Rattle.std.specs.Bool.{Decides}
use Rattle.std.specs.Prelude.{Contains}
use Rattle.std.specs.Str.{bytes_eq}
use Rattle.std.specs.List.{list_any}
use Rattle.std.proofs.lemmas.List.Elements.{Decides-contains}
use Rattle.std.proofs.lemmas.Bool.Decides.{Decides-eqb, Decides-and, Decides-by_or, Decides-like}
use Rattle.std.proofs.lemmas.Slice.Eq.{bytes_eq-Decides}
use Rattle.sec_base.specs.declared.counter.Counter.{Counter}
use Rattle.sec_base.specs.declared.message.Message.{Message}
use Rattle.sec_base.specs.declared.message.Message.TheVariants.{Line, Node}
use Rattle.sec_base.specs.Message.{counter_eq, message_eq, has_message}

pub counter_eq-Decides : (first second : Counter) → Decides (counter_eq first second) (first ≡ second)
counter_eq-Decides first second =
    Decides-like (counter_eq first second)
    (λ (same : (first.page ≡ second.page) × (first.line ≡ second.line)).
    ap (λ (p : ℕ). record first { page = p }) same.0 ∙ ap (λ (l : ℕ). record second { line = l }) same.1)
    (λ (same : first ≡ second). (ap (λ (c : Counter). c.page) same, ap (λ (c : Counter). c.line) same))
    (Decides-and (nat_eq first.page second.page) (nat_eq first.line second.line) (Decides-eqb _ _) (Decides-eqb _ _))

-- the test tells messages apart
pub message_eq-Decides : (first second : Message) → Decides (message_eq first second) (first ≡ second)
message_eq-Decides (Line line counter cipher) (Line other counter' cipher') =
    Decides-like (message_eq (Line line counter cipher) (Line other counter' cipher'))
    (λ (same : ((line ≡ other) × (counter ≡ counter')) × (cipher ≡ cipher')). cc (same.0.0, same.0.1, same.1))
    (λ (same : Line line counter cipher ≡ Line other counter' cipher'). ((cc, cc), cc))
    (Decides-and ((nat_eq line other) && counter_eq counter counter') (bytes_eq cipher cipher')
    (Decides-and (nat_eq line other) (counter_eq counter counter') (Decides-eqb line other) (counter_eq-Decides counter counter'))
    (bytes_eq-Decides cipher cipher'))
message_eq-Decides (Node level index block) (Node other index' block') =
    Decides-like (message_eq (Node level index block) (Node other index' block'))
    (λ (same : ((level ≡ other) × (index ≡ index')) × (block ≡ block')). cc (same.0.0, same.0.1, same.1))
    (λ (same : Node level index block ≡ Node other index' block'). ((cc, cc), cc))
    (Decides-and ((nat_eq level other) && nat_eq index index') (bytes_eq block block')
    (Decides-and (nat_eq level other) (nat_eq index index') (Decides-eqb level other) (Decides-eqb index index'))
    (bytes_eq-Decides block block'))
message_eq-Decides (Line line counter cipher) (Node level index block) = (λ (e : false ≡ true). absurd (cc), λ e. absurd (cc))
message_eq-Decides (Node level index block) (Line line counter cipher) = (λ (e : false ≡ true). absurd (cc), λ e. absurd (cc))

-- the test finds what the list contains
pub has_message-Decides : (made : List Message) (message : Message) → Decides (has_message made message) (Contains made message)
unfolding has_message
has_message-Decides made message =
    let each : (other : Message) → Decides (message_eq message other) (other ≡ message) =
    λ other. Decides-like (message_eq message other) (λ (e : message ≡ other). sym e) (λ (e : other ≡ message). sym e)
    (message_eq-Decides message other) in
    Decides-contains made message (has_message made message)
    (Decides-by_or (message_eq message) (λ (other : Message). other ≡ message) (list_any (message_eq message)) each refl (λ x xs. refl) made)
