use Rattle.std.proofs.Common.{◌+◌, ◌*◌, ◌<◌, ◌≤◌, length}
use Rattle.split_counter.specs.CounterBlock.{place_of}
use Rattle.page_reencrypt.specs.Outside.{Accepts, IsAcceptedBeside}
use Rattle.page_reencrypt.proofs.Reencrypting.{AreSealedBelow}
use Rattle.page_reencrypt.proofs.outside.Outside.reencrypt_page.Given as goal

abbrev pub invariant-loop-place : goal.invariant-loop-place
invariant-loop-place g l = record {
  below : AreSealedBelow g.B.Bus.history g.B.Bus.moved g.T.Tagger.data_tag_of g.T.Tagger.node_tag_of
      (record { line = l.line; bytes = l.bytes; counter = l.counter }) l.fn.self l.self l.first l.place;
  accepted : Accepts l.fn.self l.self (IsAcceptedBeside l.line (length l.fn.self.engine.made));
  passed : place_of l.line < l.place → (g.B.Bus.history l.self.bus).accesses + 1 ≤ (g.B.Bus.history l.fn.self.bus).accesses + 2 * l.place;
  at_most : (g.B.Bus.history l.self.bus).accesses ≤ (g.B.Bus.history l.fn.self.bus).accesses + 2 * l.place;
}
