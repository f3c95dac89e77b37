use Rattle.sec_base.specs.Width.{with_number}
use Rattle.cache_set.proofs.Ways.{written_at}
use Rattle.cache_set.proofs.cache_set.write_at.Goals as goal

pub returns : goal.returns
returns c =
    rw (c.write.ensures)
    (written_at (λ copy. with_number copy c.args.at c.args.width c.args.value) c.args.ways.now c.args.index c.args.place _ c.requires.apart c.requires.here c.requires.index)
