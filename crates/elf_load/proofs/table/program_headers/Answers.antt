use Rattle.std.proofs.Common.{sym}
use Rattle.elf_load.proofs.Tables.{headers_from-more}
use Rattle.elf_load.proofs.table.program_headers.Goals as goal

pub loop-index-preserved : goal.loop-index-preserved
loop-index-preserved c =
    rw (headers_from-more, sym c.loop-index.invariant, sym c.new.ensures) c.in_ok-push.ensures.items
