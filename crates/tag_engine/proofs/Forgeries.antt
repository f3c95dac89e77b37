-- What checks of sealed lines show.
use Rattle.std.proofs.Common.{◌≡◌, ℕ, Bool, true, false, cond, not, true≢false, List, ◌++◌, length, take, Option, Some, None, IfSome, Contains, refl, ap, ◌∙◌, sym, arith, length-append}
use Rattle.std.proofs.lemmas.List.{take_all, take-append-le}
use Rattle.sec_base.specs.declared.counter.Counter.{Counter}
use Rattle.sec_base.specs.declared.sealed.Sealed.{Sealed}
use Rattle.sec_base.specs.declared.message.Message.{Message}
use Rattle.sec_base.specs.declared.message.Message.TheVariants.{Line, Node}
use Rattle.sec_base.specs.declared.evidence.Evidence.{Evidence}
use Rattle.sec_base.specs.declared.evidence.Evidence.TheVariants.{Forgery, Collision}
use Rattle.sec_base.specs.Message.{has_message}
use Rattle.sec_base.specs.Evidence.{IsEvidence}
use Rattle.sec_base.proofs.SameMessages.{has_message-Decides}
use Rattle.sec_base.proofs.Lists.{get_front}
use Rattle.sec_base.proofs.Results.{test_fails}
use Rattle.tag_engine.specs.TagEngine.{forgery_of}

shown : ℕ → Counter → Sealed → ℕ → Bool → Option Evidence
shown line counter sealed count known = cond (not known) (Some (Forgery line counter sealed count)) None

-- a message that was made shows nothing
pub no_forgery : (made : List Message) (line : ℕ) (counter : Counter) (sealed : Sealed) →
    Contains made (Line line counter sealed.cipher) → None ≡ forgery_of made line counter sealed true
unfolding forgery_of shown
no_forgery made line counter sealed known =
    sym (ap (shown line counter sealed (length made)) ((has_message-Decides made (Line line counter sealed.cipher)).1 known))

-- a message that was never made is a forgery
pub a_forgery : (made : List Message) (line : ℕ) (counter : Counter) (sealed : Sealed) (count : ℕ) →
    (Contains made (Line line counter sealed.cipher) → ⊥) → count ≡ length made →
    Some (Forgery line counter sealed count) ≡ forgery_of made line counter sealed true
unfolding forgery_of shown
a_forgery made line counter sealed count unknown is =
    ap (λ (n : ℕ). Some (Forgery line counter sealed n)) is
    ∙ sym (ap (shown line counter sealed (length made))
    (test_fails (has_message made (Line line counter sealed.cipher)) (has_message-Decides made (Line line counter sealed.cipher)).0 unknown))

-- a check that failed shows nothing
pub forgery_of-failed : (made : List Message) (line : ℕ) (counter : Counter) (sealed : Sealed) →
    forgery_of made line counter sealed false ≡ None
unfolding forgery_of
forgery_of-failed made line counter sealed = refl

known_case : (made : List Message) (line : ℕ) (counter : Counter) (sealed : Sealed) (known : Bool) →
    has_message made (Line line counter sealed.cipher) ≡ known → shown line counter sealed (length made) known ≡ None →
    Contains made (Line line counter sealed.cipher)
unfolding shown
known_case made line counter sealed true is none = (has_message-Decides made (Line line counter sealed.cipher)).0 is
known_case made line counter sealed false is none = absurd (cc)

-- what passes without evidence was made
pub known : (made : List Message) (line : ℕ) (counter : Counter) (sealed : Sealed) →
    forgery_of made line counter sealed true ≡ None → Contains made (Line line counter sealed.cipher)
unfolding forgery_of shown
known made line counter sealed none =
    known_case made line counter sealed (has_message made (Line line counter sealed.cipher)) refl none

genuine_case : (tag_of : Message → List ℕ) (made : List Message) (line : ℕ) (counter : Counter) (sealed : Sealed) (known : Bool) →
    sealed.tag ≡ tag_of (Line line counter sealed.cipher) → has_message made (Line line counter sealed.cipher) ≡ known →
    IfSome (shown line counter sealed (length made) known) (IsEvidence tag_of made)
unfolding shown
genuine_case tag_of made line counter sealed true tagged is = tt
genuine_case tag_of made line counter sealed false tagged is =
    let whole : take (length made) made ≡ made = take_all (length made) made (omega arith) in
    record {
      few = omega arith;
      tagged = tagged;
      never_made = λ (h : Contains (take (length made) made) (Line line counter sealed.cipher)).
          true≢false (sym ((has_message-Decides made (Line line counter sealed.cipher)).1 (rw whole at h)) ∙ is);
    }

-- what a check that passed shows is evidence
pub genuine : (tag_of : Message → List ℕ) (made : List Message) (line : ℕ) (counter : Counter) (sealed : Sealed) →
    sealed.tag ≡ tag_of (Line line counter sealed.cipher) →
    IfSome (forgery_of made line counter sealed true) (IsEvidence tag_of made)
unfolding forgery_of shown
genuine tag_of made line counter sealed tagged =
    genuine_case tag_of made line counter sealed (has_message made (Line line counter sealed.cipher)) tagged refl

-- evidence stays evidence when more is made
still_evidence : (tag_of : Message → List ℕ) (made more : List Message) (evidence : Evidence) →
    IsEvidence tag_of made evidence → IsEvidence tag_of (made ++ more) evidence
still_evidence tag_of made more (Forgery line counter sealed made_count) was =
    let front : take made_count (made ++ more) ≡ take made_count made = take-append-le made_count made more was.few in
    record {
      few = omega (arith, was.few, length-append made more);
      tagged = was.tagged;
      never_made = λ (h : Contains (take made_count (made ++ more)) (Line line counter sealed.cipher)). was.never_made (rw front at h);
    }
still_evidence tag_of made more (Collision level index made_at accepted tag) was = record {
  true_block = was.true_block;
  made_there = get_front made more made_at (Node level index was.true_block) was.made_there;
  differs = was.differs;
  true_tagged = was.true_tagged;
  tagged = was.tagged;
}

pub still_genuine : (tag_of : Message → List ℕ) (made more : List Message) (evidence : Option Evidence) →
    IfSome evidence (IsEvidence tag_of made) → IfSome evidence (IsEvidence tag_of (made ++ more))
still_genuine tag_of made more None was = tt
still_genuine tag_of made more (Some evidence) was = still_evidence tag_of made more evidence was
