use Rattle.std.proofs.Common.{◌≡◌, ◌*◌, ◌%◌, ◌^◌, sym, subst, arith}
use Rattle.sec_base.specs.Geometry.{IsMemorySize, memory_size}
use Rattle.sec_base.proofs.Geometries.{few_pages, some_size}
use Rattle.sec_base.proofs.geometry.Geometry.size.Goals as goal

pub returns-clause-some_size : goal.returns-clause-some_size
returns-clause-some_size c =
    let shifted : 4096 * 2 ^ c.page_bits.result % 4294967296 ≡ memory_size c.args.self.now =
    omega (arith, c.page_bits.ensures.pages, few_pages c.args.self.now c.page_bits.ensures.some) in
    subst IsMemorySize (sym shifted) (some_size c.args.self.now c.page_bits.ensures.some)
