-- What is told of a run, or of why nothing was done, and what is written of a report or of a generated program. Each line
-- ends with a line feed.
use Rattle.std.specs.Prelude.{List, [], ◌∷◌, ◌++◌, ℕ, Option, Some, None, codes}
use Rattle.std.specs.Fmt.{decimal}
use Rattle.std.specs.List.{concat, slice_get}
use Rattle.hex.specs.Hex.{encode_lower}
use Rattle.sec_base.specs.Ending.{ending_text}
use Rattle.sec_base.specs.Place.{place_text}
use Rattle.sec_base.specs.declared.counter.Counter.{Counter}
use Rattle.sec_base.specs.declared.ending.Ending.{Ending}
use Rattle.sec_base.specs.declared.evidence.Evidence.{Evidence}
use Rattle.sec_base.specs.declared.evidence.Evidence.TheVariants.{Forgery, Collision}
use Rattle.sec_base.specs.declared.message.Message.{Message}
use Rattle.sec_base.specs.declared.message.Message.TheVariants.{Line as line_message, Node as node_message}
use Rattle.sec_base.specs.declared.place.Place.TheVariants.{Line, Node}
use Rattle.sec_base.specs.declared.geometry.Layout.{Layout}
use Rattle.attest_report.specs.ToldLayout.{layout_number}
use Rattle.attest_report.specs.declared.report.Report.{Report}
use Rattle.attest_report.specs.declared.report.Signed.{Signed}
use Rattle.bus_trace.specs.declared.verdict.Difference.{Difference}
use Rattle.bus_trace.specs.declared.verdict.Difference.TheVariants.{Lie, Retired, Output, Ending as ending_differs}
use Rattle.chip_words.specs.Fault.{value_fault_name}
use Rattle.chip_words.specs.declared.fault.ValueFault.{ValueFault}

-- ---- the lines of a run

-- the first line says how a run ended
abbrev pub ending_line : Ending → List ℕ
ending_line ending = ending_text ending ++ codes "\n"

-- the second says how many instructions were retired
abbrev pub retired_line : ℕ → List ℕ
retired_line retired = codes "retired " ++ decimal retired ++ codes "\n"

-- the third says how many answers of the bus were false
abbrev pub lies_line : ℕ → List ℕ
lies_line lies = codes "lies " ++ decimal lies ++ codes "\n"

-- the lines behind it are of the evidence: which it is, and of which place
abbrev pub forgery_line : ℕ → List ℕ
forgery_line line = codes "evidence forgery " ++ place_text (Line line) ++ codes "\n"

-- the first line of evidence that two blocks of a node have one tag: the place of that node
abbrev pub collision_line : ℕ → ℕ → List ℕ
collision_line level index = codes "evidence collision " ++ place_text (Node level index) ++ codes "\n"

-- a line's counter in decimal: its page counter, then its line counter
abbrev pub counter_line : Counter → List ℕ
counter_line counter = codes "counter " ++ decimal counter.page ++ codes " " ++ decimal counter.line ++ codes "\n"

-- a line of bytes, each as two digits in lower case, behind what they are
abbrev pub hex_line : List ℕ → List ℕ → List ℕ
hex_line name bytes = name ++ codes " " ++ encode_lower bytes ++ codes "\n"

-- the block of a node's message
abbrev pub block_in : Option Message → List ℕ
block_in (Some (node_message level index block)) = block
block_in (Some (line_message line counter cipher)) = []
block_in None = []

-- The lines of evidence, by the messages that were made: of a line that has the tag of a message that was never made,
-- its counter and its bytes; of a node, the block that was made and the block that was accepted, which have one tag.
abbrev pub evidence_lines : List Message → Evidence → List (List ℕ)
evidence_lines made (Forgery line counter sealed made_count) =
    forgery_line line ∷ counter_line counter
    ∷ hex_line (codes "cipher") sealed.cipher ∷ hex_line (codes "tag") sealed.tag ∷ []
evidence_lines made (Collision level index made_at accepted tag) =
    collision_line level index ∷ hex_line (codes "made") (block_in (slice_get made made_at))
    ∷ hex_line (codes "accepted") accepted ∷ hex_line (codes "tag") tag ∷ []

-- the lines of the evidence, where there is some
abbrev pub shown_lines : List Message → Option Evidence → List (List ℕ)
shown_lines made None = []
shown_lines made (Some evidence) = evidence_lines made evidence

-- the last line is of the report, where there is one
abbrev pub report_lines : Option (List ℕ) → List (List ℕ)
report_lines None = []
report_lines (Some report) = hex_line (codes "report") report ∷ []

-- The text of a run on protected memory: how it ended, how many instructions were retired, how many answers were false,
-- the evidence, by the messages that were made, and the report.
abbrev pub record_text : Ending → ℕ → ℕ → List Message → Option Evidence → Option (List ℕ) → List ℕ
record_text ending retired lies made evidence report = concat (ending_line ending ∷ retired_line retired ∷ lies_line lies
    ∷ (shown_lines made evidence ++ report_lines report))

-- the text of a run on the plain machine: how it ended, and how many instructions were retired
abbrev pub plain_text : Ending → ℕ → List ℕ
plain_text ending retired = concat (ending_line ending ∷ retired_line retired ∷ [])

-- the line between the texts of two programs that shared the core
abbrev pub second_line : List ℕ
second_line = codes "second\n"

-- ---- the run of a generated program

-- the first line is its number
abbrev pub number_line : ℕ → List ℕ
number_line number = codes "number " ++ decimal number ++ codes "\n"

-- the lines of a generated program's run: its number, how it ended, how many instructions were retired, and the bytes
-- that it printed
abbrev pub summary_lines : ℕ → Ending → ℕ → List ℕ → List (List ℕ)
summary_lines number ending retired printed = number_line number ∷ ending_line ending ∷ retired_line retired
    ∷ hex_line (codes "output") printed ∷ []

-- the whole text of the summary of a generated program's run
abbrev pub summary_text : ℕ → Ending → ℕ → List ℕ → List ℕ
summary_text number ending retired printed = concat (summary_lines number ending retired printed)

-- ---- why nothing was done

-- The text of words that `clap` doesn't take: its own text about them follows the first line.
abbrev pub usage_text : List ℕ → List ℕ
usage_text text = codes "usage\n" ++ text

-- the line of a value that is refused
abbrev pub value_fault_line : ValueFault → List ℕ
value_fault_line fault = codes "usage " ++ value_fault_name fault ++ codes "\n"

-- the line of a file that could not be read
abbrev pub read_fault_line : List ℕ
read_fault_line = codes "read fault\n"

-- the line of a file that is longer than any of its form that is read
abbrev pub long_file_line : List ℕ
long_file_line = codes "refused long\n"

-- the line of a file that is no program: the number and the name of the first rule that it breaks
abbrev pub elf_fault_line : ℕ → List ℕ → List ℕ
elf_fault_line code name = codes "refused elf " ++ decimal code ++ codes " " ++ name ++ codes "\n"

-- the refusal of an assembly text: the line, and the number and name of the broken rule
abbrev pub asm_fault_line : ℕ → ℕ → List ℕ → List ℕ
asm_fault_line line code name =
    codes "refused asm " ++ decimal line ++ codes " " ++ decimal code ++ codes " " ++ name ++ codes "\n"

-- the refusal of a script: the line, and the number and name of the broken rule
abbrev pub script_fault_line : ℕ → ℕ → List ℕ → List ℕ
script_fault_line line code name =
    codes "refused script " ++ decimal line ++ codes " " ++ decimal code ++ codes " " ++ name ++ codes "\n"

-- the refusal of a trace: the number and name of the broken rule
abbrev pub trace_fault_line : ℕ → List ℕ → List ℕ
trace_fault_line code name = codes "refused trace " ++ decimal code ++ codes " " ++ name ++ codes "\n"

-- the refusal of an order of turns: the place of the first byte that names no program, counted from 0
abbrev pub order_fault_line : ℕ → List ℕ
order_fault_line place = codes "refused order " ++ decimal place ++ codes "\n"

-- the refusal of a report: the number and name of the broken rule
abbrev pub report_fault_line : ℕ → List ℕ → List ℕ
report_fault_line code name = codes "refused report " ++ decimal code ++ codes " " ++ name ++ codes "\n"

-- ---- judged traces

-- the line of a trace that follows
abbrev pub follows_line : List ℕ
follows_line = codes "judged follows\n"

-- the line of a trace that doesn't: what of it comes first that can't be; of a lie, the number of its entry
abbrev pub difference_line : Difference → List ℕ
difference_line (Lie number) = codes "judged no lie " ++ decimal number ++ codes "\n"
difference_line Retired = codes "judged no retired\n"
difference_line Output = codes "judged no output\n"
difference_line ending_differs = codes "judged no ending\n"

-- ---- reports

-- the line of a report that was made under another key, or was changed
abbrev pub tag_differs_line : List ℕ
tag_differs_line = codes "report tag differs\n"

-- the lines of what a report says, and the number of the ending and the code among them
abbrev pub told_ending_line : Report → List ℕ
told_ending_line report =
    codes "ending " ++ decimal report.ending ++ codes " code " ++ decimal report.code ++ codes "\n"

-- the lines of what a report says: bytes in hexadecimal, numbers in decimal
abbrev pub field_lines : Report → List (List ℕ)
field_lines report =
    hex_line (codes "measurement") report.measurement
    ∷ hex_line (codes "input") report.input_digest
    ∷ hex_line (codes "output") report.output_digest
    ∷ retired_line report.retired
    ∷ told_ending_line report
    ∷ hex_line (codes "nonce") report.nonce ∷ []

-- the line of the layout of a memory's tree
abbrev pub layout_line : Layout → List ℕ
layout_line layout = codes "layout " ++ decimal (layout_number layout) ++ codes "\n"

-- the last line is of the layout, where the report names one
abbrev pub layout_lines : Option Layout → List (List ℕ)
layout_lines None = []
layout_lines (Some layout) = layout_line layout ∷ []

-- the whole text of what a report says
abbrev pub report_text : Signed → List ℕ
report_text signed = concat (field_lines signed.report ++ layout_lines signed.layout)
