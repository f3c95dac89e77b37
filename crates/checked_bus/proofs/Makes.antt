-- What holds of no call, and of two calls one after the other, told by their accesses.
use Rattle.std.proofs.Common.{◌≡◌, ◌≢◌, ◌⊎◌, inl, inr, ℕ, ◌+◌, ◌≤◌, List, [], ◌∷◌, ◌++◌, length, map, Option, Some, None, refl, ap, sym, ◌∙◌, subst, arith, append_assoc, length-append}
use Rattle.std.proofs.lemmas.List.{append-nil, length-map, map-append}
use Rattle.sec_base.specs.Count.{Rose, RoseBy}
use Rattle.sec_base.specs.Geometry.{GeometryView}
use Rattle.sec_base.specs.Evidence.{evidence_bytes, evidence_place}
use Rattle.sec_base.specs.declared.counter.Counter.{Counter}
use Rattle.sec_base.specs.declared.evidence.Evidence.{Evidence}
use Rattle.sec_base.specs.declared.message.Message.{Message}
use Rattle.sec_base.specs.declared.place.Place.{Place}
use Rattle.sec_base.specs.declared.stop.MemStop.{MemStop}
use Rattle.sec_base.specs.declared.stop.MemStop.TheVariants.{Tampered}
use Rattle.sec_base.specs.Place.{IsPlace}
use Rattle.bus_model.specs.Access.{Access, Read, Write, AreOf, CameBy, EndsWithRead, after_all, writes_in, came_on}
use Rattle.bus_model.specs.BusHistory.{BusHistory}
use Rattle.bus_model.proofs.Accesses.{all_accesses, all_lies, all_reads_of, writes_joined}
use Rattle.tag_engine.specs.TagEngine.{TagEngineView, tags_of}
use Rattle.checked_bus.specs.Makes.{access_of, HasAccesses, HasCount, IsShownIn, IsChecked, Makes, MakesAccesses}
use Rattle.checked_bus.specs.Steps.{Moves, unwritten_in}
use Rattle.checked_bus.proofs.Evidences.{by_evidence}

-- the tags are those of the tagger and the geometry
pub same_tags : {T : Type 0} (data_tag_of node_tag_of : T → List ℕ → List ℕ) (engine engine' : TagEngineView T) →
    engine'.geometry ≡ engine.geometry → engine'.tagger ≡ engine.tagger → tags_of data_tag_of node_tag_of engine' ≡ tags_of data_tag_of node_tag_of engine
same_tags {T} data_tag_of node_tag_of engine engine' geometry tagger =
    ap (λ (t : T). tags_of data_tag_of node_tag_of (record engine' { tagger = t })) tagger
    ∙ ap (λ (g : GeometryView). tags_of data_tag_of node_tag_of (record engine { geometry = g })) geometry

-- no access was made
pub has_not : {T : Type 0} (tag_of : Message → List ℕ) (engine : TagEngineView T) (stop : Option MemStop) →
    ((place : Place) → stop ≢ Some (Tampered place)) → HasAccesses tag_of engine engine [] stop
has_not tag_of engine stop untampered = record {
  written = [];
  unwritten = [];
  made = sym (append-nil engine.made);
  writes = refl;
  few = omega arith;
  inside = tt;
  shown = λ evidence quiet is. absurd (cc);
  tampered = λ place is. absurd (untampered place is);
}

pub makes_not : {T : Type 0} (tag_of : Message → List ℕ) (expected : List (ℕ × Counter) → Type 0)
    (history : BusHistory) (engine : TagEngineView T) → Makes tag_of expected history engine history engine [] None
makes_not tag_of expected history engine = record {
  came = refl;
  bus_geometry = refl;
  has = has_not tag_of engine None (λ place is. cc);
  geometry = refl;
  tagger = refl;
  room = omega arith;
  checked = record {
    honest = λ used expects was. was;
    found = λ used expects quiet. inl (quiet, λ place is. cc);
    first = λ evidence is. is;
  };
}

none_of : {A : Type 0} (xs : List A) → length xs ≤ 0 → xs ≡ []
none_of [] few = refl
none_of (x ∷ xs) few = absurd (omega arith)

quiet_before : (before after : Option Evidence) → ((evidence : Evidence) → before ≡ Some evidence → after ≡ Some evidence) → after ≡ None → before ≡ None
quiet_before before after first quiet =
    by_evidence before (λ none. none) (λ evidence is. let some : after ≡ Some evidence = first evidence is in absurd (cc))

shown_before : (made : ℕ) (before after : List Access) (evidence : Evidence) → IsShownIn made before evidence → IsShownIn made (before ++ after) evidence
shown_before made before after evidence shown = record {
  before = shown.before;
  after = shown.after ++ after;
  is = ap (λ (xs : List Access). xs ++ after) shown.is
      ∙ append_assoc shown.before (Read (evidence_place evidence) (evidence_bytes evidence) ∷ shown.after) after;
  count = shown.count;
}

shown_after : (made made' : ℕ) (before after : List Access) (evidence : Evidence) → made' ≡ made + length (writes_in before) →
    IsShownIn made' after evidence → IsShownIn made (before ++ after) evidence
shown_after made made' before after evidence counted shown =
    let joined : length (writes_in (before ++ shown.before)) ≡ length (writes_in before) + length (writes_in shown.before) =
    ap length (writes_joined before shown.before) ∙ length-append (writes_in before) (writes_in shown.before) in
    let count : made' + length (writes_in shown.before) ≡ made + length (writes_in (before ++ shown.before)) = omega (arith, counted, joined) in
    record {
      before = before ++ shown.before;
      after = shown.after;
      is = ap (λ (xs : List Access). before ++ xs) shown.is
          ∙ sym (append_assoc before shown.before (Read (evidence_place evidence) (evidence_bytes evidence) ∷ shown.after));
      count = subst (λ (n : ℕ). HasCount n evidence) count shown.count;
    }

ends_on : (place : Place) (before after : List Access) → EndsWithRead place after → EndsWithRead place (before ++ after)
ends_on place before after ends = record {
  before = before ++ ends.before;
  bytes = ends.bytes;
  is = ap (λ (xs : List Access). before ++ xs) ends.is ∙ sym (append_assoc before ends.before (Read place ends.bytes ∷ []));
}

inside_joined : (Where : Place → Type 0) (before after : List Access) → AreOf Where before → AreOf Where after → AreOf Where (before ++ after)
inside_joined Where [] after inside more = more
inside_joined Where (Read place bytes ∷ rest) after inside more = (inside.0, inside_joined Where rest after inside.1 more)
inside_joined Where (Write place bytes ∷ rest) after inside more = (inside.0, inside_joined Where rest after inside.1 more)

-- no access is held back by a call that goes on
none_held : {T : Type 0} (tag_of : Message → List ℕ) (engine engine' : TagEngineView T) (accesses : List Access) (has : HasAccesses tag_of engine engine' accesses None) →
    has.written ++ has.unwritten ≡ has.written
none_held tag_of engine engine' accesses has =
    ap (λ (xs : List Message). has.written ++ xs) (none_of has.unwritten has.few) ∙ append-nil has.written

-- the messages of two calls, and those of them that were written
joined_messages : {T : Type 0} (tag_of : Message → List ℕ) (engine engine' engine'' : TagEngineView T) (before after : List Access) (stop : Option MemStop)
    (has : HasAccesses tag_of engine engine' before None) (more : HasAccesses tag_of engine' engine'' after stop) →
    (has.written ++ more.written) ++ more.unwritten ≡ (has.written ++ has.unwritten) ++ (more.written ++ more.unwritten)
joined_messages tag_of engine engine' engine'' before after stop has more =
    append_assoc has.written more.written more.unwritten
    ∙ ap (λ (xs : List Message). xs ++ (more.written ++ more.unwritten)) (sym (none_held tag_of engine engine' before has))

-- One call after another has the accesses of both.
pub has_on : {T : Type 0} (tag_of : Message → List ℕ) (engine engine' engine'' : TagEngineView T) (before after : List Access) (stop : Option MemStop) →
    engine'.geometry ≡ engine.geometry → ((evidence : Evidence) → engine'.evidence ≡ Some evidence → engine''.evidence ≡ Some evidence) →
    HasAccesses tag_of engine engine' before None → HasAccesses tag_of engine' engine'' after stop →
    HasAccesses tag_of engine engine'' (before ++ after) stop
has_on tag_of engine engine' engine'' before after stop geometry first has more =
    let all : List Message = has.written ++ has.unwritten in
    let rest : List Message = more.written ++ more.unwritten in
    let counted : length engine'.made ≡ length engine.made + length (writes_in before) =
    omega (arith, ap length has.made, length-append engine.made all, ap length (none_held tag_of engine engine' before has), ap length has.writes, length-map has.written (access_of tag_of)) in
    record {
      written = has.written ++ more.written;
      unwritten = more.unwritten;
      made = more.made ∙ ap (λ (xs : List Message). xs ++ rest) has.made ∙ append_assoc engine.made all rest
          ∙ ap (λ (xs : List Message). engine.made ++ xs) (sym (joined_messages tag_of engine engine' engine'' before after stop has more));
      writes = writes_joined before after ∙ ap (λ (xs : List Access). xs ++ writes_in after) has.writes
          ∙ ap (λ (xs : List Access). map (access_of tag_of) has.written ++ xs) more.writes
          ∙ sym (map-append (access_of tag_of) has.written more.written);
      few = more.few;
      inside = inside_joined (IsPlace engine.geometry) before after has.inside
          (subst (λ (geometry : GeometryView). AreOf (IsPlace geometry) after) geometry more.inside);
      shown = λ evidence quiet is.
          by_evidence engine'.evidence
          (λ none. shown_after (length engine.made) (length engine'.made) before after evidence counted (more.shown evidence none is))
          (λ sooner some.
          let stays : engine''.evidence ≡ Some sooner = first sooner some in
          let same : sooner ≡ evidence = cc in
          shown_before (length engine.made) before after evidence (has.shown evidence quiet (some ∙ ap Some same)));
      tampered = λ place is. ends_on place before after (more.tampered place is);
    }

-- What the first call leaves has what the second expects, while there is no evidence.
checked_on : {T : Type 0} (tag_of : Message → List ℕ) (expected expected' : List (ℕ × Counter) → Type 0) (first second third : BusHistory)
    (engine engine' engine'' : TagEngineView T) (stop : Option MemStop) → ((used : List (ℕ × Counter)) → expected used → engine'.evidence ≡ None → expected' used) →
    RoseBy 0 first.lies second.lies → RoseBy 0 second.lies third.lies →
    IsChecked tag_of expected first engine second engine' None → IsChecked tag_of expected' second engine' third engine'' stop →
    IsChecked tag_of expected first engine third engine'' stop
checked_on tag_of expected expected' first second third engine engine' engine'' stop leaves rose more_rose checked more = record {
  honest = λ used expects was. more.honest used
      (λ quiet. leaves used (expects (quiet_before engine.evidence engine'.evidence checked.first quiet)) quiet) (checked.honest used expects was);
  found = λ used expects quiet.
      elim (checked.found used expects quiet) [
        | inl none ↦
            elim (more.found used (leaves used expects none.0) none.0) [
              | inl still ↦ inl still
              | inr lied ↦ inr (omega (arith, rose, lied))
            ]
        | inr lied ↦ inr (omega (arith, lied, more_rose))
      ];
  first = λ evidence is. more.first evidence (checked.first evidence is);
}

lies_rose : (old new : BusHistory) (accesses : List Access) → CameBy old accesses new → RoseBy 0 old.lies new.lies
lies_rose old new accesses came = subst (λ (t : BusHistory). RoseBy 0 old.lies t.lies) (sym came) (all_lies accesses old)

-- what it leaves as it was, adds to, or raises
pub makes_moves : {T : Type 0} {tag_of : Message → List ℕ} {expected : List (ℕ × Counter) → Type 0} {old new : BusHistory} {engine engine' : TagEngineView T}
    {accesses : List Access} {stop : Option MemStop} → Makes tag_of expected old engine new engine' accesses stop → Moves old engine new engine'
makes_moves {old = old} {new = new} {accesses = accesses} makes = record {
  bus_geometry = makes.bus_geometry;
  geometry = makes.geometry;
  tagger = makes.tagger;
  more = makes.has.written ++ makes.has.unwritten;
  made = makes.has.made;
  evidence = makes.checked.first;
  reads = λ place.
      let read = (all_reads_of accesses old place).0 in
      let is : new.reads place ≡ (after_all accesses old).reads place = ap (λ (t : BusHistory). t.reads place) makes.came in
      omega (arith, read, is);
  accesses =
      let made = (all_accesses accesses old).0 in
      let is : new.accesses ≡ (after_all accesses old).accesses = ap (λ (t : BusHistory). t.accesses) makes.came in
      omega (arith, made, is);
  lies = lies_rose old new accesses makes.came;
}

pub makes_on : {T : Type 0} (tag_of : Message → List ℕ) (expected expected' : List (ℕ × Counter) → Type 0)
    (first second third : BusHistory) (engine engine' engine'' : TagEngineView T) (before after : List Access) (stop : Option MemStop) →
    ((used : List (ℕ × Counter)) → expected used → engine'.evidence ≡ None → expected' used) →
    Makes tag_of expected first engine second engine' before None → Makes tag_of expected' second engine' third engine'' after stop →
    Makes tag_of expected first engine third engine'' (before ++ after) stop
makes_on tag_of expected expected' first second third engine engine' engine'' before after stop leaves makes more =
    record {
      came = came_on first second third before after makes.came more.came;
      bus_geometry = more.bus_geometry ∙ makes.bus_geometry;
      has = has_on tag_of engine engine' engine'' before after stop makes.geometry more.checked.first makes.has more.has;
      geometry = more.geometry ∙ makes.geometry;
      tagger = more.tagger ∙ makes.tagger;
      room =
          let all : List Message = makes.has.written ++ makes.has.unwritten in
          let rest : List Message = more.has.written ++ more.has.unwritten in
          omega (arith, more.room, makes.room, ap length makes.has.made, length-append engine.made all, ap length more.has.made, length-append engine'.made rest);
      checked = checked_on tag_of expected expected' first second third engine engine' engine'' stop leaves
          (lies_rose first second before makes.came) (lies_rose second third after more.came) makes.checked more.checked;
    }

-- evidence comes only where an answer was false
pub shown_rose : {T : Type 0} {tag_of : Message → List ℕ} {expected : List (ℕ × Counter) → Type 0} {old new : BusHistory} {engine engine' : TagEngineView T}
    {stop : Option MemStop} → IsChecked tag_of expected old engine new engine' stop → (used : List (ℕ × Counter)) → expected used → engine.evidence ≡ None →
    (engine'.evidence ≡ None) ⊎ Rose old.lies new.lies
shown_rose checked used expects quiet =
    elim (checked.found used expects quiet) [
      | inl none ↦ inl none.0
      | inr rose ↦ inr rose
    ]

-- and so does tampering, where there is none
pub tampered_rose : {T : Type 0} {tag_of : Message → List ℕ} {expected : List (ℕ × Counter) → Type 0} {old new : BusHistory} {engine engine' : TagEngineView T}
    {stop : Option MemStop} → IsChecked tag_of expected old engine new engine' stop → (used : List (ℕ × Counter)) → expected used → engine.evidence ≡ None →
    (place : Place) → stop ≡ Some (Tampered place) → Rose old.lies new.lies
tampered_rose checked used expects quiet place is =
    elim (checked.found used expects quiet) [
      | inl none ↦ absurd (none.1 place is)
      | inr rose ↦ rose
    ]

-- more may be expected
pub makes_under : {T : Type 0} (tag_of : Message → List ℕ) (expected expected' : List (ℕ × Counter) → Type 0)
    (old new : BusHistory) (engine engine' : TagEngineView T) (accesses : List Access) (stop : Option MemStop) →
    ((used : List (ℕ × Counter)) → expected' used → expected used) →
    Makes tag_of expected old engine new engine' accesses stop → Makes tag_of expected' old engine new engine' accesses stop
makes_under tag_of expected expected' old new engine engine' accesses stop under makes = record {
  came = makes.came;
  bus_geometry = makes.bus_geometry;
  has = makes.has;
  geometry = makes.geometry;
  tagger = makes.tagger;
  room = makes.room;
  checked = record {
    honest = λ used expects was. makes.checked.honest used (λ quiet. under used (expects quiet)) was;
    found = λ used expects quiet. makes.checked.found used (under used expects) quiet;
    first = makes.checked.first;
  };
}

-- where the tags of the second call are those of the engine between
pub makes_then : {T : Type 0} (data_tag_of node_tag_of : T → List ℕ → List ℕ)
    (expected expected' : List (ℕ × Counter) → Type 0) (first second third : BusHistory) (engine engine' engine'' : TagEngineView T)
    (before after : List Access) (stop : Option MemStop) → ((used : List (ℕ × Counter)) → expected used → engine'.evidence ≡ None → expected' used) →
    Makes (tags_of data_tag_of node_tag_of engine) expected first engine second engine' before None →
    Makes (tags_of data_tag_of node_tag_of engine') expected' second engine' third engine'' after stop →
    Makes (tags_of data_tag_of node_tag_of engine) expected first engine third engine'' (before ++ after) stop
makes_then data_tag_of node_tag_of expected expected' first second third engine engine' engine'' before after stop leaves makes more =
    makes_on (tags_of data_tag_of node_tag_of engine) expected expected' first second third engine engine' engine'' before after stop leaves makes
    (subst (λ (tag_of : Message → List ℕ). Makes tag_of expected' second engine' third engine'' after stop)
    (same_tags data_tag_of node_tag_of engine engine' makes.geometry makes.tagger) more)

-- Calls of a bus, one after another.
module _ {B T : Type 0} (bus_moved : B → List Access → B → Type 0) (tag_of : Message → List ℕ) where
  pub made_not : ((bus : B) → bus_moved bus [] bus) → (bus : B) (engine : TagEngineView T) (stop : Option MemStop) →
      ((place : Place) → stop ≢ Some (Tampered place)) → MakesAccesses bus_moved tag_of bus engine bus engine stop
  made_not unmoved bus engine stop untampered = record {
    accesses = [];
    moved = unmoved bus;
    has = has_not tag_of engine stop untampered;
  }

  pub made_on : ((first second third : B) (before after : List Access) → bus_moved first before second → bus_moved second after third → bus_moved first (before ++ after) third) →
      (first second third : B) (engine engine' engine'' : TagEngineView T) (stop : Option MemStop) →
      engine'.geometry ≡ engine.geometry → ((evidence : Evidence) → engine'.evidence ≡ Some evidence → engine''.evidence ≡ Some evidence) →
      MakesAccesses bus_moved tag_of first engine second engine' None → MakesAccesses bus_moved tag_of second engine' third engine'' stop →
      MakesAccesses bus_moved tag_of first engine third engine'' stop
  made_on moved_on first second third engine engine' engine'' stop geometry stays made more = record {
    accesses = made.accesses ++ more.accesses;
    moved = moved_on first second third made.accesses more.accesses made.moved more.moved;
    has = has_on tag_of engine engine' engine'' made.accesses more.accesses stop geometry stays made.has more.has;
  }

-- where its tags stay
module _ {B T : Type 0} (bus_moved : B → List Access → B → Type 0) (data_tag_of node_tag_of : T → List ℕ → List ℕ) where
  pub accesses_not : ((bus : B) → bus_moved bus [] bus) → (bus : B) (engine : TagEngineView T) (stop : Option MemStop) →
      ((place : Place) → stop ≢ Some (Tampered place)) →
      MakesAccesses bus_moved (tags_of data_tag_of node_tag_of engine) bus engine bus engine stop
  accesses_not unmoved bus engine stop untampered = made_not bus_moved (tags_of data_tag_of node_tag_of engine) unmoved bus engine stop untampered

  pub accesses_on : ((first second third : B) (before after : List Access) → bus_moved first before second → bus_moved second after third → bus_moved first (before ++ after) third) →
      (first second third : B) (engine engine' engine'' : TagEngineView T) (stop : Option MemStop) →
      engine'.geometry ≡ engine.geometry → engine'.tagger ≡ engine.tagger →
      ((evidence : Evidence) → engine'.evidence ≡ Some evidence → engine''.evidence ≡ Some evidence) →
      MakesAccesses bus_moved (tags_of data_tag_of node_tag_of engine) first engine second engine' None →
      MakesAccesses bus_moved (tags_of data_tag_of node_tag_of engine') second engine' third engine'' stop →
      MakesAccesses bus_moved (tags_of data_tag_of node_tag_of engine) first engine third engine'' stop
  accesses_on moved_on first second third engine engine' engine'' stop geometry tagger stays makes more =
      made_on bus_moved (tags_of data_tag_of node_tag_of engine) moved_on first second third engine engine' engine'' stop geometry stays makes
      (subst (λ (tag_of : Message → List ℕ). MakesAccesses bus_moved tag_of second engine' third engine'' stop)
      (same_tags data_tag_of node_tag_of engine engine' geometry tagger) more)

-- a call that stops so tells no other tampering and no less want of memory
pub accesses_stopped : {B T : Type 0} (bus_moved : B → List Access → B → Type 0) (tag_of : Message → List ℕ) (bus bus' : B) (engine engine' : TagEngineView T)
    (stop stop' : Option MemStop) → unwritten_in stop ≤ unwritten_in stop' → ((place : Place) → stop' ≡ Some (Tampered place) → stop ≡ Some (Tampered place)) →
    MakesAccesses bus_moved tag_of bus engine bus' engine' stop → MakesAccesses bus_moved tag_of bus engine bus' engine' stop'
accesses_stopped bus_moved tag_of bus bus' engine engine' stop stop' few told makes = record {
  accesses = makes.accesses;
  moved = makes.moved;
  has = record {
    written = makes.has.written;
    unwritten = makes.has.unwritten;
    made = makes.has.made;
    writes = makes.has.writes;
    few = let was = makes.has.few in omega (arith, was, few);
    inside = makes.has.inside;
    shown = makes.has.shown;
    tampered = λ place is. makes.has.tampered place (told place is);
  };
}
