use Rattle.std.proofs.Common.{◌≡◌, ◌*◌, ◌%◌, ◌^◌, sym, subst, arith}
use Rattle.sec_base.specs.Geometry.{line_count}
use Rattle.sec_base.specs.Lines.{IsLineCount}
use Rattle.sec_base.proofs.Geometries.{few_pages, some_lines}
use Rattle.sec_base.proofs.geometry.Geometry.lines.Goals as goal

pub returns-clause-some_memory : goal.returns-clause-some_memory
returns-clause-some_memory c =
    let shifted : 64 * 2 ^ c.page_bits.result % 4294967296 ≡ line_count c.args.self.now =
    omega (arith, c.page_bits.ensures.pages, few_pages c.args.self.now c.page_bits.ensures.some) in
    subst IsLineCount (sym shifted) (some_lines c.args.self.now c.page_bits.ensures.some)
