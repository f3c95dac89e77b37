-- The addresses that lines lead to, and what the passes come to, for contracts inside the crate alone.
use Rattle.std.specs.Prelude.{◌≡◌, ℕ, List, [], ◌∷◌, Result, Ok, Err, ◌⊎◌}
use Rattle.rv32_asm_syntax.specs.declared.fault.AsmFault.{AsmFault}
use Rattle.rv32_asm.specs.declared.fault.AsmError.{AsmError}
use Rattle.rv32_asm.specs.declared.fault.AsmError.TheVariants as error
use Rattle.rv32_asm_syntax.specs.declared.fault.LineError.{LineError}
use Rattle.rv32_asm_syntax.specs.declared.fault.LineError.TheVariants.{Fault, NoMemory}
use Rattle.rv32_asm.specs.Labels.{Label}
use Rattle.rv32_asm_syntax.specs.Lines.{lines_of}
use Rattle.rv32_asm.specs.Passes.{Progress, address_behind, ◌>>=◌}
use Rattle.rv32_asm_syntax.specs.Reading.{statement_of}
use Rattle.rv32_asm.specs.SeenLabels.{AreAlike}

-- ---- lines

-- the first line of a text, and the text behind it, empty behind the last line
abbrev pub IsNextLine : List ℕ → List ℕ → List ℕ → Type 0
IsNextLine text line rest =
    (lines_of text ≡ line ∷ lines_of rest) ⊎ ((lines_of text ≡ line ∷ []) × (rest ≡ []))

-- an error in the line of a number
abbrev pub error_in_line : ℕ → LineError → AsmError
error_in_line number (Fault code) = error.Fault number code
error_in_line number NoMemory = error.NoMemory

-- ---- addresses

-- the address behind a line
unfoldable pub behind_line : ℕ → List ℕ → Result ℕ AsmFault
behind_line address line = statement_of line >>= address_behind address

-- the address behind lines
unfoldable pub end_of : ℕ → List (List ℕ) → Result ℕ AsmFault
end_of address [] = Ok address
end_of address (line ∷ lines) = do
  next ← behind_line address line
  end_of next lines

-- ---- outcomes

-- these labels, in whatever order
abbrev pub Gives : Result (List Label) AsmFault → List Label → Type 0
Gives (Ok given) labels = AreAlike given labels
Gives (Err fault) labels = ⊥

-- this address, and these labels in whatever order
abbrev pub LeadsTo : {E : Type 0} → Result Progress E → ℕ → List Label → Type 0
LeadsTo (Ok progress) address labels = (progress.address ≡ address) × AreAlike progress.labels labels
LeadsTo (Err fault) address labels = ⊥
