-- The script that a text is.
use Rattle.std.specs.Prelude.{ℕ, ◌+◌, ◌≡◌, ◌≤◌, ◌<◌, List, [], ◌∷◌, ◌++◌, length, All, Result, Ok, Err}
use Rattle.std.specs.Option.{option_to_list}
use Rattle.sec_base.specs.Place.{IsPlace, place_size, stored_size}
use Rattle.rv32_asm_syntax.specs.Lines.{lines_of}
use Rattle.adversary_script.specs.declared.fault.ScriptFault.{ScriptFault}
use Rattle.adversary_script.specs.declared.script.Action.{Action}
use Rattle.adversary_script.specs.declared.script.Action.TheVariants.{Set, Flip, Swap, Put, Save, Restore, SaveAll, RestoreAll}
use Rattle.adversary_script.specs.declared.script.ScriptLine.{ScriptLine}
use Rattle.adversary_script.specs.Grammar.{line_of}
use Rattle.sec_base.specs.Geometry.{GeometryView}

-- the fault of a line, lines counted from 1
pub record LineFault : Type 0 where
  pub line : ℕ
  pub code : ScriptFault

-- a line's answer, whose fault is told with the line's number
abbrev pub in_line : {X : Type 0} → ℕ → Result X ScriptFault → Result X LineFault
in_line number (Ok x) = Ok x
in_line number (Err fault) = Err (record { line = number; code = fault })

-- one step after another, as long as there is no fault
infixl 10 ◌>>=◌
-- `next` gets the value of an `Ok`; a fault stays as it is
abbrev pub ◌>>=◌ : {X Y E : Type 0} → Result X E → (X → Result Y E) → Result Y E
Ok x >>= next = next x
Err fault >>= next = Err fault

-- what the lines from a number on say, or their first fault
unfoldable pub script_from : GeometryView → ℕ → List (List ℕ) → Result (List ScriptLine) LineFault
script_from geometry number [] = Ok []
script_from geometry number (line ∷ lines) = do
  said ← in_line number (line_of geometry line)
  others ← script_from geometry (number + 1) lines
  Ok (option_to_list said ++ others)

-- the script of a text for the memory of a tree of this geometry, or its first fault
unfoldable pub script_of : GeometryView → List ℕ → Result (List ScriptLine) LineFault
script_of geometry text = script_from geometry 1 (lines_of text)

-- an action fits the memory: its places are there, its bytes end inside them, its register is one of 16
abbrev pub Fits : GeometryView → Action → Type 0
Fits geometry (Set place offset bytes) = IsPlace geometry place × (offset + length bytes.items ≤ stored_size geometry place)
Fits geometry (Flip place offset mask) = IsPlace geometry place × (offset + length mask.items ≤ stored_size geometry place)
Fits geometry (Swap first second) = IsPlace geometry first × IsPlace geometry second × (place_size first ≡ place_size second)
Fits geometry (Put place bytes) = IsPlace geometry place × (length bytes.items ≡ stored_size geometry place)
Fits geometry (Save register place) = IsPlace geometry place × (register < 16)
Fits geometry (Restore register place) = IsPlace geometry place × (register < 16)
Fits geometry (SaveAll register) = register < 16
Fits geometry (RestoreAll register) = register < 16

-- and so do those of all lines
abbrev pub FitScript : GeometryView → List ScriptLine → Type 0
FitScript geometry lines = All (λ line. Fits geometry line.action) lines
