use Rattle.std.proofs.Common.{◌≡◌, drop}
use Rattle.sec_base.proofs.Writes.{IsPart}
use Rattle.rv32_listing.specs.Listing.{listing_of}
use Rattle.rv32_listing.proofs.write_listing.Given as goal

abbrev pub invariant-loop-segment : goal.invariant-loop-segment
invariant-loop-segment g l = record {
  part : IsPart (g.S.Sink.state l.fn.out) (g.S.Sink.state l.out) (listing_of l.image.segments) (listing_of (drop l.segment-index l.image.segments));
  quiet : (g.S.Sink.state l.out).faults ≡ (g.S.Sink.state l.fn.out).faults;
}
