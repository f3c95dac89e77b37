-- What a tag engine keeps, after each of its calls.
use Rattle.std.proofs.Common.{◌≡◌, ℕ, true, false, Contains, refl, ◌+◌, ◌-◌, ◌<◌, ◌≤◌, inl, inr, List, [], ◌∷◌, ◌++◌, length, Option, Some, None, IfSome, slice_index_or, slice_set, replicate, ap, ◌∙◌, sym, arith, length-append, get_or-set_other}
use Rattle.std.specs.Option.{option_or}
use Rattle.std.proofs.lemmas.List.{get_or_read, length-replicate, get_or-replicate, length-set}
use Rattle.std.proofs.lemmas.Bool.{cases_eq}
use Rattle.std.proofs.lemmas.Grind.{get_or-set_at}
use Rattle.sec_base.specs.declared.counter.Counter.{Counter}
use Rattle.sec_base.specs.declared.sealed.Sealed.{Sealed}
use Rattle.sec_base.specs.declared.message.Message.{Message}
use Rattle.sec_base.specs.declared.message.Message.TheVariants.{Line, Node}
use Rattle.sec_base.specs.declared.evidence.Evidence.{Evidence}
use Rattle.sec_base.specs.Geometry.{GeometryView, IsNode, line_count, node_end, node_number}
use Rattle.sec_base.specs.LastMessage.{data_part, node_part}
use Rattle.sec_base.proofs.Numbers.{number_inside, numbers_apart}
use Rattle.tag_engine.specs.TagEngine.{TagEngineView, new_engine, after_check_data, after_check_node, collision_of, forgery_of}
use Rattle.tag_engine.specs.Invariant.{IsTagEngine, last_place}
use Rattle.tag_engine.proofs.LastPlaces.{last_place-nothing, last_place-within, last_place-same, last_place-other, last_place-node, last_place-same_node, last_place-other_node, last_place-line}
use Rattle.tag_engine.proofs.Forgeries.{forgery_of-failed, known, genuine, still_genuine}
use Rattle.tag_engine.proofs.Collisions.{collision_of-failed, genuine as genuine_node}

-- nothing was made
none_at : (places : List (Option ℕ)) (count at : ℕ) → places ≡ replicate count None → at < count → slice_index_or places at None ≡ None
none_at places count at is below =
    let none : Option ℕ = None in
    ap (λ (xs : List (Option ℕ)). slice_index_or xs at none) is ∙ get_or-replicate count at none none below

pub kept_new : {T : Type 0} (tag_of : Message → List ℕ) (lines nodes : List (Option ℕ)) (capacity lines_long nodes_long : ℕ) (geometry : GeometryView) (tagger : T) →
    lines ≡ replicate lines_long None → lines_long ≡ line_count geometry → nodes ≡ replicate nodes_long None → nodes_long ≡ node_end geometry →
    IsTagEngine tag_of lines nodes capacity (new_engine tagger geometry)
kept_new tag_of lines nodes capacity lines_long nodes_long geometry tagger are all_lines node_is all_nodes =
    let none : Option ℕ = None in
    record {
      places = record {
        all_lines = ap length are ∙ length-replicate lines_long none ∙ all_lines;
        last_data = λ line inside. none_at lines lines_long line are (omega (arith, inside, all_lines)) ∙ sym (last_place-nothing (data_part line));
        all_nodes = ap length node_is ∙ length-replicate nodes_long none ∙ all_nodes;
        last_node = λ level index node.
            let inside = number_inside geometry level index node in
            none_at nodes nodes_long (node_number geometry level index) node_is (omega (arith, inside, all_nodes))
            ∙ sym (last_place-nothing (node_part level index));
      };
      room = omega arith;
      evidence = tt;
    }

place_after : (places places' : List (Option ℕ)) (made : List Message) (line at : ℕ) (counter : Counter) (cipher : List ℕ) →
    line < length places → at ≡ length made → places' ≡ slice_set places line (Some at) →
    (lines : ℕ) → ((other : ℕ) → other < lines → slice_index_or places other None ≡ last_place (data_part other) made) →
    (other : ℕ) → other < lines → slice_index_or places' other None ≡ last_place (data_part other) (made ++ Line line counter cipher ∷ [])
place_after places places' made line at counter cipher inside here stored lines was other below =
    let none : Option ℕ = None in
    let moved : slice_index_or places' other none ≡ slice_index_or (slice_set places line (Some at)) other none =
    ap (λ (xs : List (Option ℕ)). slice_index_or xs other none) stored in
    elim (cases_eq other line) [
      | inl same ↦ moved
          ∙ get_or-set_at places line other (Some at) none same inside
          ∙ ap Some here
          ∙ sym (ap (λ (l : ℕ). last_place (data_part l) (made ++ Line line counter cipher ∷ [])) same ∙ last_place-same line counter cipher made)
      | inr differs ↦ moved
          ∙ get_or-set_other places line other (Some at) none differs
          ∙ was other below
          ∙ sym (last_place-other other line counter cipher made differs)
    ]

-- a message of a data line was made
pub kept_made : {T : Type 0} (tag_of : Message → List ℕ) (lines lines' nodes : List (Option ℕ)) (capacity capacity' : ℕ) (engine : TagEngineView T)
    (line at room : ℕ) (counter : Counter) (cipher : List ℕ) (made : List Message) →
    IsTagEngine tag_of lines nodes capacity engine → line < line_count engine.geometry → at ≡ length engine.made →
    lines' ≡ slice_set lines line (Some at) → made ≡ engine.made ++ Line line counter cipher ∷ [] → room ≡ engine.room - 1 →
    length engine.made + 1 + (engine.room - 1) ≤ capacity' →
    IsTagEngine tag_of lines' nodes capacity' (record { tagger = engine.tagger; geometry = engine.geometry; made = made; evidence = engine.evidence; room = room })
kept_made tag_of lines lines' nodes capacity capacity' engine line at room counter cipher made kept inside here stored grown left enough =
    rw (grown, left) (record {
      places = record {
        all_lines = ap length stored ∙ length-set lines line (Some at) ∙ kept.places.all_lines;
        last_data = place_after lines lines' engine.made line at counter cipher (omega (arith, kept.places.all_lines)) here stored
            (line_count engine.geometry) kept.places.last_data;
        all_nodes = kept.places.all_nodes;
        last_node = λ level index node. kept.places.last_node level index node ∙ sym (last_place-node level index line counter cipher engine.made);
      };
      room = omega (arith, length-append engine.made (Line line counter cipher ∷ []));
      evidence = still_genuine tag_of engine.made (Line line counter cipher ∷ []) engine.evidence kept.evidence;
    })

node_place_after : (places places' : List (Option ℕ)) (made : List Message) (geometry : GeometryView) (level index at : ℕ) (block : List ℕ) →
    IsNode geometry level index → length places ≡ node_end geometry → at ≡ length made →
    places' ≡ slice_set places (node_number geometry level index) (Some at) →
    ((other place : ℕ) → IsNode geometry other place → slice_index_or places (node_number geometry other place) None ≡ last_place (node_part other place) made) →
    (other place : ℕ) → IsNode geometry other place →
    slice_index_or places' (node_number geometry other place) None ≡ last_place (node_part other place) (made ++ Node level index block ∷ [])
node_place_after places places' made geometry level index at block inside all here stored was other place node =
    let none : Option ℕ = None in
    let within : node_number geometry level index < length places = omega (arith, number_inside geometry level index inside, all) in
    let moved : slice_index_or places' (node_number geometry other place) none
    ≡ slice_index_or (slice_set places (node_number geometry level index) (Some at)) (node_number geometry other place) none =
    ap (λ (xs : List (Option ℕ)). slice_index_or xs (node_number geometry other place) none) stored in
    elim (cases_eq (node_number geometry other place) (node_number geometry level index)) [
      | inl same ↦
          let both = numbers_apart geometry other place level index node inside same in
          moved
          ∙ get_or-set_at places (node_number geometry level index) (node_number geometry other place) (Some at) none same within
          ∙ ap Some here
          ∙ sym (ap (λ (l : ℕ). last_place (node_part l place) (made ++ Node level index block ∷ [])) both.0
          ∙ ap (λ (i : ℕ). last_place (node_part level i) (made ++ Node level index block ∷ [])) both.1
          ∙ last_place-same_node level index block made)
      | inr differs ↦ moved
          ∙ get_or-set_other places (node_number geometry level index) (node_number geometry other place) (Some at) none differs
          ∙ was other place node
          ∙ sym (last_place-other_node other place level index block made
          (λ a b. differs (ap (λ (l : ℕ). node_number geometry l place) (sym a) ∙ ap (λ (i : ℕ). node_number geometry level i) (sym b))))
    ]

-- a message of a node was made
pub kept_made_node : {T : Type 0} (tag_of : Message → List ℕ) (lines nodes nodes' : List (Option ℕ)) (capacity capacity' : ℕ) (engine : TagEngineView T)
    (level index at number room : ℕ) (block : List ℕ) (made : List Message) →
    IsTagEngine tag_of lines nodes capacity engine → IsNode engine.geometry level index → at ≡ length engine.made →
    number ≡ node_number engine.geometry level index →
    nodes' ≡ slice_set nodes number (Some at) → made ≡ engine.made ++ Node level index block ∷ [] → room ≡ engine.room - 1 →
    length engine.made + 1 + (engine.room - 1) ≤ capacity' →
    IsTagEngine tag_of lines nodes' capacity' (record { tagger = engine.tagger; geometry = engine.geometry; made = made; evidence = engine.evidence; room = room })
kept_made_node tag_of lines nodes nodes' capacity capacity' engine level index at number room block made kept inside here is stored grown left enough =
    rw (grown, left) (record {
      places = record {
        all_lines = kept.places.all_lines;
        last_data = λ line below. kept.places.last_data line below ∙ sym (last_place-line line level index block engine.made);
        all_nodes = ap length stored ∙ length-set nodes number (Some at) ∙ kept.places.all_nodes;
        last_node = node_place_after nodes nodes' engine.made engine.geometry level index at block inside kept.places.all_nodes here
            (stored ∙ ap (λ (n : ℕ). slice_set nodes n (Some at)) is) kept.places.last_node;
      };
      room = omega (arith, length-append engine.made (Node level index block ∷ []));
      evidence = still_genuine tag_of engine.made (Node level index block ∷ []) engine.evidence kept.evidence;
    })

-- a check passed, and nothing had been shown before
pub kept_shown : {T : Type 0} (tag_of : Message → List ℕ) (lines nodes : List (Option ℕ)) (capacity : ℕ) (engine : TagEngineView T)
    (line : ℕ) (counter : Counter) (sealed : Sealed) (made : List Message) (shown : Option Evidence) →
    IsTagEngine tag_of lines nodes capacity engine → sealed.tag ≡ tag_of (Line line counter sealed.cipher) →
    made ≡ engine.made → shown ≡ forgery_of made line counter sealed true →
    IsTagEngine tag_of lines nodes capacity (record engine { evidence = shown })
kept_shown tag_of lines nodes capacity engine line counter sealed made shown kept tagged same is = record {
  places = kept.places;
  room = kept.room;
  evidence = rw (is, same) (genuine tag_of engine.made line counter sealed tagged);
}

nothing_shown : (made : List Message) (line : ℕ) (counter : Counter) (sealed : Sealed) (evidence : Option Evidence) →
    evidence ≡ option_or evidence (forgery_of made line counter sealed false)
nothing_shown made line counter sealed None = sym (forgery_of-failed made line counter sealed)
nothing_shown made line counter sealed (Some first) = refl

-- a check that failed changes nothing
pub failed_check : {T : Type 0} (engine : TagEngineView T) (line : ℕ) (counter : Counter) (sealed : Sealed) →
    engine ≡ after_check_data line counter sealed false engine
failed_check {T} engine line counter sealed =
    ap (λ (e : Option Evidence). record engine { evidence = e }) (nothing_shown engine.made line counter sealed engine.evidence)

-- what passed and showed nothing was made
pub known_before : {T : Type 0} (seen engine : TagEngineView T) (made : List Message) (line : ℕ) (counter : Counter) (sealed : Sealed) (shown : Option Evidence) →
    seen ≡ engine → made ≡ seen.made → shown ≡ forgery_of made line counter sealed true → shown ≡ None →
    Contains engine.made (Line line counter sealed.cipher)
known_before {T} seen engine made line counter sealed shown same here is none =
    let whole : made ≡ engine.made = here ∙ ap (λ (e : TagEngineView T). e.made) same in
    rw whole at (known made line counter sealed (sym is ∙ none))

-- the place that was read is that of a message
pub place_within : {T : Type 0} (tag_of : Message → List ℕ) (lines nodes : List (Option ℕ)) (capacity : ℕ) (engine : TagEngineView T)
    (line : ℕ) (place : Option ℕ) (made : List Message) →
    IsTagEngine tag_of lines nodes capacity engine → line < line_count engine.geometry → place ≡ slice_index_or lines line place → made ≡ engine.made →
    IfSome place (λ at. at < length made)
place_within tag_of lines nodes capacity engine line place made kept inside read same =
    let below : line < length lines = omega (arith, kept.places.all_lines) in
    let is : place ≡ last_place (data_part line) engine.made = get_or_read lines line place below read None ∙ kept.places.last_data line inside in
    rw (is, same) (last_place-within (data_part line) engine.made)

-- Of a node

-- the place that was read is that of the node's last message
pub node_place : {T : Type 0} (tag_of : Message → List ℕ) (lines nodes : List (Option ℕ)) (capacity : ℕ) (engine : TagEngineView T)
    (level index number : ℕ) (place : Option ℕ) →
    IsTagEngine tag_of lines nodes capacity engine → IsNode engine.geometry level index → number ≡ node_number engine.geometry level index →
    place ≡ slice_index_or nodes number place → place ≡ last_place (node_part level index) engine.made
node_place {T} tag_of lines nodes capacity engine level index number place kept inside is read =
    let here : place ≡ slice_index_or nodes (node_number engine.geometry level index) place =
    read ∙ ap (λ (n : ℕ). slice_index_or nodes n place) is in
    let below : node_number engine.geometry level index < length nodes =
    omega (arith, number_inside engine.geometry level index inside, kept.places.all_nodes) in
    get_or_read nodes (node_number engine.geometry level index) place below here None ∙ kept.places.last_node level index inside

-- a check passed, and nothing had been shown before
pub kept_collision : {T : Type 0} (tag_of : Message → List ℕ) (lines nodes : List (Option ℕ)) (capacity : ℕ) (engine : TagEngineView T)
    (level index : ℕ) (block tag : List ℕ) (shown : Option Evidence) →
    IsTagEngine tag_of lines nodes capacity engine → tag ≡ tag_of (Node level index block) →
    shown ≡ collision_of tag_of engine.made level index block tag true →
    IsTagEngine tag_of lines nodes capacity (record engine { evidence = shown })
kept_collision tag_of lines nodes capacity engine level index block tag shown kept tagged is = record {
  places = kept.places;
  room = kept.room;
  evidence = rw is (genuine_node tag_of engine.made level index block tag tagged);
}

no_collision : (tag_of : Message → List ℕ) (made : List Message) (level index : ℕ) (block tag : List ℕ) (evidence : Option Evidence) →
    evidence ≡ option_or evidence (collision_of tag_of made level index block tag false)
no_collision tag_of made level index block tag None = sym (collision_of-failed tag_of made level index block tag)
no_collision tag_of made level index block tag (Some first) = refl

-- a check that failed changes nothing
pub failed_check_node : {T : Type 0} (tag_of : Message → List ℕ) (engine : TagEngineView T) (level index : ℕ) (block tag : List ℕ) →
    engine ≡ after_check_node tag_of level index block tag false engine
failed_check_node {T} tag_of engine level index block tag =
    ap (λ (e : Option Evidence). record engine { evidence = e }) (no_collision tag_of engine.made level index block tag engine.evidence)
