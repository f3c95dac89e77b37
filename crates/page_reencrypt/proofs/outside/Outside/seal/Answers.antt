use Rattle.sec_base.specs.declared.message.Message.TheVariants.{Line}
use Rattle.tag_engine.specs.TagEngine.{tags_of}
use Rattle.checked_bus.specs.Makes.{access_of}
use Rattle.checked_bus.proofs.Makes.{makes_moves}
use Rattle.checked_bus.proofs.TaggedWrites.{wrote_as, write_honest}
use Rattle.page_reencrypt.proofs.MadeAccesses.{made_written}
use Rattle.page_reencrypt.proofs.outside.Outside.seal.Goals as goal

pub returns-clause-accesses : goal.returns-clause-accesses
returns-clause-accesses g c =
    let wrote = c.write_line.ensures.makes in
    rw (← c.self.view_is)
    (made_written g.B.Bus.moved (tags_of g.T.Tagger.data_tag_of g.T.Tagger.node_tag_of c.self.inside.tags) (Line c.args.line c.args.counter c.in_ok-cipher.cipher)
    (g.B.Bus.history c.self.inside.bus) (g.B.Bus.history c.write_line.new.bus) c.self.inside.bus c.write_line.new.bus c.self.inside.tags c.write_line.new.tags
    c.write_line.result wrote.0 wrote.1)

pub returns-clause-moves : goal.returns-clause-moves
returns-clause-moves g c = rw (← c.self.view_is) (makes_moves c.write_line.ensures.makes.1)

pub returns-clause-ok : goal.returns-clause-ok
returns-clause-ok g c =
    rw (← c.self.view_is, ← c.in_ok-cipher.ensures.cipher) (wrote_as c.write_line.result (access_of (tags_of g.T.Tagger.data_tag_of g.T.Tagger.node_tag_of c.self.inside.tags) (Line c.args.line c.args.counter c.in_ok-cipher.cipher))
    (g.B.Bus.history c.self.inside.bus) (g.B.Bus.history c.write_line.new.bus) c.write_line.ensures.makes.1.came).0

pub returns-clause-err : goal.returns-clause-err
returns-clause-err g c =
    rw (← c.self.view_is) (wrote_as c.write_line.result (access_of (tags_of g.T.Tagger.data_tag_of g.T.Tagger.node_tag_of c.self.inside.tags) (Line c.args.line c.args.counter c.in_ok-cipher.cipher))
    (g.B.Bus.history c.self.inside.bus) (g.B.Bus.history c.write_line.new.bus) c.write_line.ensures.makes.1.came).1

pub returns-clause-honest : goal.returns-clause-honest
returns-clause-honest g c =
    rw (← c.self.view_is) (write_honest (Line c.args.line c.args.counter c.in_ok-cipher.cipher) c.write_line.result c.write_line.ensures.made c.write_line.ensures.makes.1)
