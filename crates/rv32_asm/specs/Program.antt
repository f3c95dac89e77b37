-- The program that an assembly text is.
use Rattle.std.specs.Prelude.{ℕ, List, [], Option, None, Some, Result, Ok, Err, codes, if◌then◌else◌}
use Rattle.sec_base.specs.Image.{is_entry}
use Rattle.sec_base.specs.Program.{Program}
use Rattle.sec_base.specs.Segment.{from_zero}
use Rattle.rv32_asm_syntax.specs.declared.fault.AsmFault.TheVariants.{Range}
use Rattle.rv32_asm_syntax.specs.Lines.{lines_of}
use Rattle.rv32_asm.specs.Labels.{Site, site_of}
use Rattle.rv32_asm.specs.Passes.{LineFault, start, first_pass, second_pass, ◌>>=◌}

-- where the program begins: where its label stands, and else at 0
abbrev pub entry_at : ℕ → Option Site → Result ℕ LineFault
entry_at size None = Ok 0
entry_at size (Some site) =
    if is_entry size site.address then Ok site.address else Err (record { line = site.line; code = Range })

-- The program of a text for a memory of a size, one segment from 0 on of all that was emitted, or the first fault: of the
-- first pass, of the second, of the entry.
unfoldable pub assembled_program : List ℕ → ℕ → Result Program LineFault
assembled_program text size = do
  let lines = lines_of text
  progress ← first_pass size 1 start lines
  bytes ← second_pass progress.labels 1 [] lines
  entry ← entry_at size (site_of progress.labels (codes "_start"))
  Ok (record { entry = entry; segments = from_zero bytes })
