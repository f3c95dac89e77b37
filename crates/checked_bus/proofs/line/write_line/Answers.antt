use Rattle.std.proofs.Common.{ℕ, List, ◌++◌, rules, ap, subst, sym}
use Rattle.sec_base.specs.Geometry.{GeometryView}
use Rattle.sec_base.specs.Tag.{IsTag}
use Rattle.tag_engine.proofs.Marks.{engine_tag_fits}
use Rattle.sec_base.specs.Evidence.{sealed_bytes}
use Rattle.sec_base.specs.declared.message.Message.{Message}
use Rattle.sec_base.specs.declared.message.Message.TheVariants.{Line}
use Rattle.sec_base.specs.declared.place.Place.TheVariants.{Line as line_place}
use Rattle.bus_model.specs.Access.{Access}
use Rattle.tag_engine.specs.TagEngine.{tags_of}
use Rattle.checked_bus.specs.Makes.{access_of, if_done}
use Rattle.checked_bus.specs.SealedLine.{sealed_line}
use Rattle.checked_bus.proofs.TaggedWrites.{one_done, write_makes}
use Rattle.checked_bus.proofs.line.write_line.Goals as goal

pub returns-clause-made : goal.returns-clause-made
returns-clause-made g c = search rules

pub returns-clause-makes : goal.returns-clause-makes
returns-clause-makes g c =
    let tag_of : Message → List ℕ = tags_of g.T.Tagger.data_tag_of g.T.Tagger.node_tag_of c.args.tags.now in
    let message : Message = Line c.args.line c.args.counter c.args.cipher.now in
    let wrote : g.B.Bus.moved c.args.bus.now (if_done c.write_data.result (access_of tag_of message)) c.write_data.new.self =
    subst (λ (accesses : List Access). g.B.Bus.moved c.args.bus.now accesses c.write_data.new.self)
    (one_done (line_place c.args.line) (sealed_bytes (record { cipher = c.args.cipher.now; tag = c.in_ok-tag.tag }))
    (sealed_line tag_of c.args.line c.args.counter c.args.cipher.now) c.write_data.result
    (ap (λ (tag : List ℕ). c.args.cipher.now ++ tag) c.in_ok-tag.ensures.tag)) c.write_data.ensures.access in (
      wrote,
      write_makes tag_of message (g.B.Bus.history c.args.bus.now) (g.B.Bus.history c.write_data.new.self)
          c.args.tags.now c.make_data.new.self (returns-clause-made g c) (c.requires.line, tt) c.write_data.result
          (g.met.B.Bus.told c.args.bus.now c.write_data.new.self _ wrote),
    )

pub write_data-requires-clause-fits : goal.write_data-requires-clause-fits
write_data-requires-clause-fits g c =
    let tags = c.args.tags.now in
    let engine_fits : IsTag tags.geometry.layout c.in_ok-tag.tag =
    subst (IsTag tags.geometry.layout) (sym c.in_ok-tag.ensures.tag)
    (engine_tag_fits (g.T.Tagger.data_tag_of tags.tagger) (g.T.Tagger.node_tag_of tags.tagger) (g.met.T.Tagger.data_tag_long tags.tagger)
    (g.met.T.Tagger.node_tag_long tags.tagger) tags.geometry (Line c.args.line c.args.counter c.args.cipher.now)) in
    subst (λ (geometry : GeometryView). IsTag geometry.layout c.in_ok-tag.tag) (sym c.requires.bus) engine_fits
