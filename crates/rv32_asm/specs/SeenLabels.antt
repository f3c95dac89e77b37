-- The labels of a map by names, for contracts inside the crate alone.
use Rattle.std.specs.Prelude.{◌≡◌, ℕ, List, map}
use Rattle.std.specs.Borrow.{Bor}
use Rattle.rv32_asm.specs.Labels.{Label, Site, site_of}

-- an address and the number of a line
abbrev pub seen_site : ℕ × ℕ → Site
seen_site pair = record { address = pair.0; line = pair.1 }

-- a name and where its label stands
abbrev pub seen_label : Bor (List ℕ) × (ℕ × ℕ) → Label
seen_label entry = record { name = entry.0.now; site = seen_site entry.1 }

-- the labels that the entries of a map stand for
abbrev pub seen_labels : List (Bor (List ℕ) × (ℕ × ℕ)) → List Label
seen_labels entries = map seen_label entries

-- the same names stand at the same places, in whatever order
pub record AreAlike (old new : List Label) : Type 0 where
  pub each : (name : List ℕ) → site_of old name ≡ site_of new name
