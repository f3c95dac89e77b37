-- What is kept of the writes among entries, where one more is kept.
use Rattle.std.proofs.Common.{◌≡◌, ◌<◌, ℕ, ◌+◌, Bool, true, false, cond, nat_eq, ◌&&◌, List, get_or, length, drop, Some, Option, refl, sym, ap, ◌∙◌}
use Rattle.sec_base.specs.declared.place.Place.{Place}
use Rattle.bus_model.specs.HonestBus.{empty_node}
use Rattle.bus_trace.specs.declared.entry.Entry.{Entry}
use Rattle.bus_trace.specs.Entry.{access_of, accesses_of}
use Rattle.bus_trace.specs.FirstFalse.{after_access, first_false_behind, is_true}
use Rattle.std.specs.Option.{unwrap_or}
use Rattle.std.proofs.lemmas.Bool.Decides.{Decides-eqb, Decides-like, same_from_decides}
use Rattle.std.proofs.lemmas.List.{at_drop_more}

of_chosen : {A B : Type 0} (f : A → B) (here : Bool) (x y : A) → f (cond here x y) ≡ cond here (f x) (f y)
of_chosen f true x y = refl
of_chosen f false x y = refl

same_test : (a b : ℕ) → nat_eq a b ≡ nat_eq b a
same_test a b =
    same_from_decides (nat_eq a b) (nat_eq b a) (Decides-eqb a b)
    (Decides-like (nat_eq b a) (λ (e : b ≡ a). sym e) (λ (e : a ≡ b). sym e) (Decides-eqb b a))

-- the value under a node's key
pub node_chosen : (level index other at : ℕ) (block old : List ℕ) (found : Option (List ℕ)) → unwrap_or found empty_node ≡ old →
    unwrap_or (cond (nat_eq level other && nat_eq index at) (Some block) found) empty_node ≡ cond (nat_eq other level && nat_eq at index) block old
node_chosen level index other at block old found is =
    rw (same_test other level, same_test at index)
    (of_chosen (λ (o : Option (List ℕ)). unwrap_or o empty_node) (nat_eq level other && nat_eq index at) (Some block) found
    ∙ ap (cond (nat_eq level other && nat_eq index at) block) is)

chosen : {A : Type 0} (b : Bool) (x y : A) → b ≡ true → cond b x y ≡ x
chosen b x y holds = rw holds refl

-- a true entry goes before the first false one
pub true_before : (count : ℕ) (written written' : Place → List ℕ) (entries : List Entry) (i : ℕ) (d : Entry) → i < length entries →
    is_true written (access_of (get_or entries i d)) ≡ true → written' ≡ after_access (access_of (get_or entries i d)) written →
    first_false_behind count written (accesses_of (drop i entries)) ≡ first_false_behind (count + 1) written' (accesses_of (drop (i + 1) entries))
true_before count written written' entries i d below holds is =
    at_drop_more (λ (xs : List Entry). first_false_behind count written (accesses_of xs)) entries i d below
    ∙ chosen (is_true written (access_of (get_or entries i d))) _ _ holds
    ∙ ap (λ (w : Place → List ℕ). first_false_behind (count + 1) w (accesses_of (drop (i + 1) entries))) (sym is)
