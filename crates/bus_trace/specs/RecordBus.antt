-- A bus that keeps what it is asked and what it answers.
use Rattle.std.proofs.Common.{◌≡◌, List, [], ◌++◌, ap, sym, ◌∙◌, append_assoc}
use Rattle.std.proofs.lemmas.List.{append-nil}
use Rattle.bus_model.specs.Access.{Access, CameBy}
use Rattle.bus_model.specs.BusHistory.{BusHistory}
use Rattle.bus_trace.specs.declared.entry.Entry.{Entry}
use Rattle.bus_trace.specs.Entry.{accesses_of}

-- the bus that is asked, and what was kept
pub record RecordBusView (B : Type 0) : Type 0 where
  pub bus : B
  pub entries : List Entry

-- The bus below moved by these accesses, and just these were kept behind those before.
pub record Records {B : Type 0} (moved : B → List Access → B → Type 0) (old : RecordBusView B) (accesses : List Access) (new : RecordBusView B) : Type 0 where
  pub below : moved old.bus accesses new.bus
  pub kept : accesses_of new.entries ≡ accesses_of old.entries ++ accesses

-- What holds of the bus below, of what leads from one to another, holds of one that keeps it.

pub unrecorded : {B : Type 0} (moved : B → List Access → B → Type 0) → ((bus : B) → moved bus [] bus) → (recorded : RecordBusView B) →
    Records moved recorded [] recorded
unrecorded moved unmoved recorded = record {
  below = unmoved recorded.bus;
  kept = sym (append-nil (accesses_of recorded.entries));
}

pub records_on : {B : Type 0} (moved : B → List Access → B → Type 0)
    → ((first second third : B) (before after : List Access) → moved first before second → moved second after third → moved first (before ++ after) third)
    → (first second third : RecordBusView B) (before after : List Access) → Records moved first before second → Records moved second after third →
    Records moved first (before ++ after) third
records_on moved moved_on first second third before after one more = record {
  below = moved_on first.bus second.bus third.bus before after one.below more.below;
  kept = more.kept ∙ ap (λ (accesses : List Access). accesses ++ after) one.kept ∙ append_assoc (accesses_of first.entries) before after;
}

pub told_below : {B : Type 0} (moved : B → List Access → B → Type 0) (history : B → BusHistory)
    → ((old new : B) (accesses : List Access) → moved old accesses new → CameBy (history old) accesses (history new))
    → (old new : RecordBusView B) (accesses : List Access) → Records moved old accesses new → CameBy (history old.bus) accesses (history new.bus)
told_below moved history told old new accesses records = told old.bus new.bus accesses records.below
