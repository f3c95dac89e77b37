-- The lines of a script, one after another.
use Rattle.adversary_script.specs.declared.script.ScriptLine.{ScriptLine}
use Rattle.bus_adversary.specs.ChangedPlaces.{ChangesOnly, may_change, script_may_change}
use Rattle.bus_adversary.specs.Adversary.{AdversaryView, after_due, after_line}
use Rattle.bus_adversary.specs.StoredPlaces.{StoredPlacesView}
use Rattle.bus_adversary.specs.declared.next_access.NextAccess.{NextAccess}
use Rattle.sec_base.specs.Geometry.{GeometryView}
use Rattle.sec_base.specs.Place.{IsPlace}
use Rattle.std.proofs.Common.{Bool, List, ap, false, length, refl, slice_index_or, subst, sym, take, true, ℕ, ◌+◌, ◌<◌, ◌∙◌, ◌≡◌}
use Rattle.std.proofs.lemmas.List.Folds.{list_any_at}
use Rattle.std.proofs.lemmas.List.Sums.{fold_more}
use Rattle.std.specs.List.{list_any}

-- one more line was come to
pub due_more : (next : NextAccess) (script : List ScriptLine) (i : ℕ) (line : ScriptLine) (first old new : AdversaryView) →
    i < length script → line ≡ slice_index_or script i line → old ≡ after_due next (take i script) first →
    new ≡ after_line next old line → new ≡ after_due next (take (i + 1) script) first
due_more next script i line first old new inside is before step =
    step ∙ ap (λ (o : AdversaryView). after_line next o line) before
    ∙ ap (λ (x : ScriptLine). after_line next (after_due next (take i script) first) x) is
    ∙ sym (fold_more (after_line next) first script i line inside)

-- a test that no line passes fails at each
pub none_at : (test : ScriptLine → Bool) (script : List ScriptLine) (i : ℕ) (line : ScriptLine) → i < length script →
    line ≡ slice_index_or script i line → list_any test script ≡ false → test line ≡ false
none_at test script i line inside is none =
    by_test (test line) (λ (yes : test line ≡ true). sym (list_any_at test script i line inside (ap test (sym is) ∙ yes)) ∙ none)
  where
    by_test : (b : Bool) → (b ≡ true → true ≡ false) → b ≡ false
    by_test true wrong = absurd (let e : true ≡ false = wrong refl in cc)
    by_test false wrong = refl

-- and leaves the places that no line may change
pub changes_more : (script : List ScriptLine) (i : ℕ) (line : ScriptLine) (first old new : StoredPlacesView) → i < length script →
    line ≡ slice_index_or script i line → old.geometry ≡ first.geometry → ChangesOnly first old (script_may_change script) →
    ChangesOnly old new (may_change line.action) → ChangesOnly first new (script_may_change script)
changes_more script i line first old new inside is geometry before step =
    λ other there unchanged.
    step other (subst (λ (g : GeometryView). IsPlace g other) (sym geometry) there)
    (none_at (λ (l : ScriptLine). may_change l.action other) script i line inside is unchanged)
    ∙ before other there unchanged
