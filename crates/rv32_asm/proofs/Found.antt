-- A map by names is as the list of its entries.
use Rattle.std.proofs.Common.{◌≡◌, ℕ, Bool, true, false, List, [], ◌∷◌, Option, Some, option_map, refl, ap, sym, ◌∙◌, cond}
use Rattle.std.specs.Borrow.{Bor}
use Rattle.std.specs.Cmp.Lexicographic.{slice_cmp}
use Rattle.std.specs.Map.{lookup}
use Rattle.std.specs.Ordering.{nat_cmp}
use Rattle.std.specs.BTreeMap.{BTreeMap, is_at, UpdatesBy}
use Rattle.std.specs.Str.{bytes_eq}
use Rattle.std.proofs.lemmas.Bool.Decides.{same_from_decides}
use Rattle.std.proofs.lemmas.Map.Text.{btree_map_updates_str, is_eq-slice_cmp}
use Rattle.std.proofs.lemmas.Slice.Eq.{bytes_eq-Decides}
use Rattle.rv32_asm.specs.Labels.{Label, site_of}
use Rattle.rv32_asm.specs.SeenLabels.{AreAlike, seen_label, seen_labels, seen_site}

pub same_either_way : (a b : List ℕ) → bytes_eq a b ≡ bytes_eq b a
same_either_way a b =
    let one = bytes_eq-Decides a b in
    let other = bytes_eq-Decides b a in
    same_from_decides _ (bytes_eq b a) one (λ e. sym (other.0 e), λ e. other.1 (sym e))

chosen : (c : Bool) (entry : Bor (List ℕ) × (ℕ × ℕ)) (rest : Option (ℕ × ℕ)) (found : Option Label) →
    option_map seen_site rest ≡ option_map (λ l. l.site) found →
    option_map seen_site (cond c (Some entry.1) rest) ≡ option_map (λ l. l.site) (cond c (Some (seen_label entry)) found)
chosen true entry rest found e = refl
chosen false entry rest found e = e

-- what a look-up finds
pub looked_up : (name : List ℕ) (entries : List (Bor (List ℕ) × (ℕ × ℕ))) →
    option_map seen_site (lookup (is_at (λ key. slice_cmp nat_cmp name key.now)) entries) ≡ site_of (seen_labels entries) name
looked_up name [] = refl
looked_up name (entry ∷ entries) =
    let rest = looked_up name entries in
    let test = is_eq-slice_cmp name entry.0.now ∙ same_either_way name entry.0.now in
    rw test (chosen (bytes_eq entry.0.now name) entry _ _ rest)

-- a map with one more entry is alike the list with one more label
pub inserted : (old new : BTreeMap (Bor (List ℕ)) (ℕ × ℕ)) (name : List ℕ) (pair : ℕ × ℕ) →
    UpdatesBy (λ x y. slice_cmp nat_cmp x.now y.now) (λ key. slice_cmp nat_cmp name key.now) old new (Some pair) →
    AreAlike (record { name = name; site = seen_site pair } ∷ seen_labels old.entries) (seen_labels new.entries)
inserted old new name pair updates = record {
  each = λ q.
      sym (chosen (bytes_eq name q) (record { ref_ptr = (0, 0); now = name }, pair) _ _ (looked_up q old.entries))
      ∙ (sym (ap (option_map seen_site) (btree_map_updates_str name old new (Some pair) updates q)) ∙ looked_up q new.entries);
}
