use Rattle.std.proofs.Common.{refl}
use Rattle.chip_run.proofs.pair.UnderWay.begin.Goals as goal

pub returns-in-Err : goal.returns-in-Err
returns-in-Err g c = λ out. record {
  image = c.args.side.image.now;
  input = c.args.side.input.now;
  start_is = refl;
  geometry = c.requires.geometry;
  no_lie = c.requires.no_lie;
  nothing_written = c.requires.nothing_written;
  bus_is = c.in-Err.ensures.refused;
  sink_is = refl;
}
