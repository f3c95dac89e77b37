-- Labels and where they stand.
use Rattle.std.specs.Prelude.{ℕ, List, Bool, Option, find, is_some, option_map}
use Rattle.std.specs.Str.{bytes_eq}

-- where a label stands: its address, and the number of its line
pub record Site : Type 0 where
  pub address : ℕ
  pub line : ℕ

-- a label: its name and where it stands
pub record Label : Type 0 where
  pub name : List ℕ
  pub site : Site

-- where the label of this name stands
abbrev pub site_of : List Label → List ℕ → Option Site
site_of labels name = option_map (λ label. label.site) (find (λ label. bytes_eq label.name name) labels)

-- there is a label of this name
abbrev pub is_there : List Label → List ℕ → Bool
is_there labels name = is_some (site_of labels name)
