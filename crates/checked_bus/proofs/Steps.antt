-- What holds of no call, and of two calls one after the other.
use Rattle.std.proofs.Common.{◌≡◌, ℕ, List, [], ◌∷◌, ◌++◌, refl, ap, sym, ◌∙◌, subst, arith, append_assoc}
use Rattle.std.proofs.lemmas.List.{append-nil}
use Rattle.sec_base.specs.LastMessage.{data_pairs, last_data, last_node}
use Rattle.sec_base.specs.declared.counter.Counter.{Counter}
use Rattle.sec_base.specs.declared.message.Message.{Message}
use Rattle.sec_base.specs.declared.message.Message.TheVariants.{Line, Node}
use Rattle.sec_base.specs.declared.place.Place.{Place}
use Rattle.sec_base.specs.declared.place.Place.TheVariants.{Line as line_place, Node as node_place}
use Rattle.bus_model.specs.BusHistory.{BusHistory}
use Rattle.tag_engine.specs.TagEngine.{TagEngineView}
use Rattle.checked_bus.specs.Steps.{Moves, SameLines}

pub moves_not : {T : Type 0} (history : BusHistory) (engine : TagEngineView T) → Moves history engine history engine
moves_not history engine = record {
  bus_geometry = refl;
  geometry = refl;
  tagger = refl;
  more = [];
  made = sym (append-nil engine.made);
  evidence = λ evidence is. is;
  reads = λ place. omega arith;
  accesses = omega arith;
  lies = omega arith;
}

pub moves_on : {T : Type 0} (first second third : BusHistory) (engine engine' engine'' : TagEngineView T) →
    Moves first engine second engine' → Moves second engine' third engine'' → Moves first engine third engine''
moves_on first second third engine engine' engine'' moves more = record {
  bus_geometry = more.bus_geometry ∙ moves.bus_geometry;
  geometry = more.geometry ∙ moves.geometry;
  tagger = more.tagger ∙ moves.tagger;
  more = moves.more ++ more.more;
  made = more.made ∙ ap (λ (made : List Message). made ++ more.more) moves.made ∙ append_assoc engine.made moves.more more.more;
  evidence = λ evidence is. more.evidence evidence (moves.evidence evidence is);
  reads = λ place. omega (arith, moves.reads place, more.reads place);
  accesses = omega (arith, moves.accesses, more.accesses);
  lies = omega (arith, moves.lies, more.lies);
}

-- the last message of a place is the same
abbrev pub SameLast : Place → List Message → List Message → Type 0
SameLast (line_place line) made made' = last_data line made' ≡ last_data line made
SameLast (node_place level index) made made' = last_node level index made' ≡ last_node level index made

-- No call touched the place: it holds what it held, was not read, and its last message is the same.
pub record SamePlace (place : Place) (old : BusHistory) (made : List Message) (new : BusHistory) (made' : List Message) : Type 0 where
  pub written : new.written place ≡ old.written place
  pub reads : new.reads place ≡ old.reads place
  pub last : SameLast place made made'

same_last_not : (place : Place) (made : List Message) → SameLast place made made
same_last_not (line_place line) made = refl
same_last_not (node_place level index) made = refl

pub same_place_not : (place : Place) (history : BusHistory) (made : List Message) → SamePlace place history made history made
same_place_not place history made = record { written = refl; reads = refl; last = same_last_not place made }

-- where the messages are the same
pub same_last : (place : Place) (made made' : List Message) → made' ≡ made → SameLast place made made'
same_last place made made' same = subst (λ (xs : List Message). SameLast place made xs) (sym same) (same_last_not place made)

-- the lines and counters of messages that follow one another
pub data_pairs-append : (front more : List Message) → data_pairs (front ++ more) ≡ data_pairs front ++ data_pairs more
unfolding data_pairs
data_pairs-append [] more = refl
data_pairs-append (Node level index block ∷ front) more = data_pairs-append front more
data_pairs-append (Line line counter cipher ∷ front) more = ap (λ (pairs : List (ℕ × Counter)). (line, counter) ∷ pairs) (data_pairs-append front more)

pub same_lines_not : (history : BusHistory) (made : List Message) → SameLines history made history made
unfolding data_pairs
same_lines_not history made = record {
  written = λ line. refl;
  reads = λ line. refl;
  more = [];
  made_more = sym (append-nil made);
  no_lines = refl;
}

pub same_lines_on : (first second third : BusHistory) (made made' made'' : List Message) →
    SameLines first made second made' → SameLines second made' third made'' → SameLines first made third made''
same_lines_on first second third made made' made'' same more = record {
  written = λ line. more.written line ∙ same.written line;
  reads = λ line. more.reads line ∙ same.reads line;
  more = same.more ++ more.more;
  made_more = more.made_more ∙ ap (λ (xs : List Message). xs ++ more.more) same.made_more ∙ append_assoc made same.more more.more;
  no_lines = data_pairs-append same.more more.more ∙ ap (λ (pairs : List (ℕ × Counter)). pairs ++ data_pairs more.more) same.no_lines ∙ more.no_lines;
}

-- the lines and counters that were tagged are the same
pub same_pairs : (old new : BusHistory) (made made' : List Message) → SameLines old made new made' → data_pairs made' ≡ data_pairs made
same_pairs old new made made' same =
    ap data_pairs same.made_more ∙ data_pairs-append made same.more
    ∙ ap (λ (pairs : List (ℕ × Counter)). data_pairs made ++ pairs) same.no_lines ∙ append-nil (data_pairs made)
