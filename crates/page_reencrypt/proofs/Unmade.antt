-- What the lines outside keep where no message was made and no place was written.
use Rattle.std.proofs.Common.{◌≡◌, ℕ, List, ap, sym, ◌∙◌, subst}
use Rattle.sec_base.specs.declared.counter.Counter.{Counter}
use Rattle.sec_base.specs.declared.message.Message.{Message}
use Rattle.sec_base.specs.Geometry.{GeometryView, line_count}
use Rattle.bus_model.specs.BusHistory.{BusHistory}
use Rattle.tag_engine.specs.TagEngine.{TagEngineView, tags_of}
use Rattle.tag_engine.specs.Tag.{engine_tag}
use Rattle.bonsai_tree.specs.Tree.{NodesAreMade}
use Rattle.page_reencrypt.specs.Consistency.{IsConsistent}
use Rattle.page_reencrypt.specs.Contents.{HoldsSealed}

-- the tags of an engine with the same tagger and the same geometry
pub same_tags : {T : Type 0} (d n : T → List ℕ → List ℕ) (engine engine' : TagEngineView T) → engine'.tagger ≡ engine.tagger → engine'.geometry ≡ engine.geometry →
    tags_of d n engine' ≡ tags_of d n engine
same_tags {T} d n engine engine' tagger geometry =
    ap (λ (t : T). engine_tag (d t) (n t) engine'.geometry) tagger
    ∙ ap (λ (l : GeometryView). engine_tag (d engine.tagger) (n engine.tagger) l) geometry

-- what fits together still does
pub same_consistent : (tag_of : Message → List ℕ) (geometry : GeometryView) (history history' : BusHistory) (made : List Message) (used : List (ℕ × Counter)) →
    IsConsistent tag_of geometry history made used → history'.geometry ≡ history.geometry → history'.written ≡ history.written →
    IsConsistent tag_of geometry history' made used
same_consistent tag_of geometry history history' made used kept same written = record {
  bus_geometry = same ∙ kept.bus_geometry;
  paired = kept.paired;
  long = kept.long;
  sealed = subst (HoldsSealed tag_of (line_count geometry) made used) (sym written) kept.sealed;
  nodes = subst (NodesAreMade geometry made) (sym written) kept.nodes;
}
