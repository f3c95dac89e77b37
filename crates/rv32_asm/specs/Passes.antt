-- The two passes over the lines of a text: the first finds where the labels stand, the second makes the bytes.
use Rattle.std.specs.Prelude.{ℕ, ◌+◌, List, [], ◌∷◌, ◌++◌, Result, Ok, Err, length, nat_lt, not, if◌then◌else◌}
use Rattle.rv32_asm_syntax.specs.declared.fault.AsmFault.{AsmFault}
use Rattle.rv32_asm_syntax.specs.declared.fault.AsmFault.TheVariants.{Range, Twice, Missing, Large}
use Rattle.rv32_asm_syntax.specs.Lines.{labels_of}
use Rattle.rv32_asm_syntax.specs.Statements.{Statement}
use Rattle.rv32_asm_syntax.specs.Reading.{statement_of}
use Rattle.rv32_asm.specs.Labels.{Label, is_there}
use Rattle.rv32_asm.specs.Layout.{is_misplaced, size_at}
use Rattle.rv32_asm.specs.Encoding.{misses_label, is_in_range, encoded_bytes}

-- the fault of a line, lines counted from 1
pub record LineFault : Type 0 where
  pub line : ℕ
  pub code : AsmFault

-- a line's answer, whose fault is told with the line's number
abbrev pub in_line : {X : Type 0} → ℕ → Result X AsmFault → Result X LineFault
in_line number (Ok x) = Ok x
in_line number (Err fault) = Err (record { line = number; code = fault })

-- one step after another, as long as there is no fault
infixl 10 ◌>>=◌
-- `next` gets the value of an `Ok`; a fault stays as it is
abbrev pub ◌>>=◌ : {X Y E : Type 0} → Result X E → (X → Result Y E) → Result Y E
Ok x >>= next = next x
Err fault >>= next = Err fault

-- ---- the first pass

-- the address reached so far, and the labels
pub record Progress : Type 0 where
  pub address : ℕ
  pub labels : List Label

-- what the first pass starts with: address 0, and no label
abbrev pub start : Progress
start = record { address = 0; labels = [] }

-- labels with those of a line, of which none is there already
abbrev pub with_names : ℕ → ℕ → List (List ℕ) → List Label → Result (List Label) AsmFault
with_names address line [] labels = Ok labels
with_names address line (name ∷ names) labels =
    if is_there labels name then Err Twice
    else with_names address line names (record { name = name; site = record { address = address; line = line } } ∷ labels)

-- the address behind a statement, if it may stand there
abbrev pub address_behind : ℕ → Statement → Result ℕ AsmFault
address_behind address statement =
    if is_misplaced address statement then Err Range else Ok (address + size_at address statement)

-- the address behind a statement in a memory of a size
abbrev pub address_after : ℕ → ℕ → Statement → Result ℕ AsmFault
address_after size address statement = do
  after ← address_behind address statement
  if nat_lt size after then Err Large else Ok after

-- what the line of a number leaves, or its first fault
unfoldable pub after_line : ℕ → ℕ → Progress → List ℕ → Result Progress AsmFault
after_line size number progress line = do
  labels ← with_names progress.address number (labels_of line) progress.labels
  statement ← statement_of line
  address ← address_after size progress.address statement
  Ok (record { address = address; labels = labels })

-- what the lines from a number on leave, or the first fault
unfoldable pub first_pass : ℕ → ℕ → Progress → List (List ℕ) → Result Progress LineFault
first_pass size number progress [] = Ok progress
first_pass size number progress (line ∷ lines) = do
  after ← in_line number (after_line size number progress line)
  first_pass size (number + 1) after lines

-- ---- the second pass

-- the bytes of a statement at an address, or what is wrong with its values there
abbrev pub statement_bytes : List Label → ℕ → Statement → Result (List ℕ) AsmFault
statement_bytes labels address statement =
    if misses_label labels statement then Err Missing
    else if not (is_in_range labels address statement) then Err Range
    else Ok (encoded_bytes labels address statement)

-- the bytes of a line at an address, or its first fault
unfoldable pub line_bytes : List Label → ℕ → List ℕ → Result (List ℕ) AsmFault
line_bytes labels address line = statement_of line >>= statement_bytes labels address

-- the bytes so far with those of the lines from a number on, or the first fault
unfoldable pub second_pass : List Label → ℕ → List ℕ → List (List ℕ) → Result (List ℕ) LineFault
second_pass labels number bytes [] = Ok bytes
second_pass labels number bytes (line ∷ lines) = do
  more ← in_line number (line_bytes labels (length bytes) line)
  second_pass labels (number + 1) (bytes ++ more) lines
