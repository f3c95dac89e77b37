use Rattle.std.proofs.Common.{rules, arith, ◌≡◌}
use Rattle.sec_base.specs.declared.files.ReadStop.TheVariants.{Long}
use Rattle.chip_edge.proofs.Left.{all_left}
use Rattle.chip_edge.proofs.real_files.read_all.Goals as goal

pub returns-in-Ok-2-clause-bytes : goal.returns-in-Ok-2-clause-bytes
returns-in-Ok-2-clause-bytes g c = λ small.
    all_left (g.R.Read.remaining c.args.reader) c.saturating_add.result c.args.limit c.from_vec.result (omega (arith, c.saturating_add.ensures))
    (rw c.from_vec.ensures (rw (c.take.ensures.inner, c.take.ensures.limit, c.new-bytes.ensures.items) at c.in-Ok.ensures.bytes)) (search rules)

pub returns-in-Err-clause-long : goal.returns-in-Err-clause-long
returns-in-Err-clause-long g c = λ small is. let same : c.stop_of.result ≡ Long = cc in absurd (c.stop_of.ensures.not_long same)
