-- What `get_one::<bool>` reads of a flag.
use Rattle.std.proofs.Common.{◌≡◌, Bool, [], Option, Some, None, true, false, refl, sym, codes, unwrap_or}
use Rattle.std.specs.Str.{bytes_eq}
use Rattle.std.specs.Str.Parse.{ParsesBool}
use Rattle.std.proofs.lemmas.Slice.Eq.{bytes_eq-Decides}
use Rattle.clap.specs.Matches.{ReadsOne}
use Rattle.clap.specs.Walk.{Text}

-- the flag is set just where its text is `true`
pub flag_read : (E : Type 0) (text : Option Text) (flag : Option Bool) → (text ≡ None → flag ≡ None)
    → ((t : Text) → text ≡ Some t → ReadsOne {T = Bool} {E = E} ParsesBool t flag) → unwrap_or flag false ≡ bytes_eq (unwrap_or text []) (codes "true")
flag_read E None flag none read = rw (none refl) refl
flag_read E (Some t) (Some true) none read = sym ((bytes_eq-Decides t (codes "true")).1 (read t refl))
flag_read E (Some t) (Some false) none read = rw (read t refl) refl
flag_read E (Some t) None none read = go (bytes_eq t (codes "true")) refl
  where
    go : (b : Bool) → bytes_eq t (codes "true") ≡ b → false ≡ bytes_eq t (codes "true")
    go true is = absurd ((read t refl).1.0 ((bytes_eq-Decides t (codes "true")).0 is))
    go false is = sym is
