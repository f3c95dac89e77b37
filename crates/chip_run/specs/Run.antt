-- What a run on protected memory comes to.
use Rattle.std.specs.Prelude.{◌≡◌, ◌≢◌, ◌+◌, ◌-◌, ◌^◌, ◌<◌, ◌≤◌, ◌↔◌, ◌⊎◌, ◌++◌, ℕ, List, None, Some, IfSome, length, map, Contains}
use Rattle.sha2.specs.Sha256.{sha256}
use Rattle.sec_base.specs.declared.counter.Counter.{Counter}
use Rattle.sec_base.specs.declared.ending.Ending.{Ending}
use Rattle.sec_base.specs.declared.ending.Ending.TheVariants.{OutOfSteps, Tampered, Spent, WriteFault, NoMemory}
use Rattle.sec_base.specs.declared.evidence.Evidence.{Evidence}
use Rattle.sec_base.specs.declared.image.Image.{Image}
use Rattle.sec_base.specs.declared.message.Message.{Message}
use Rattle.sec_base.specs.declared.place.Place.{Place}
use Rattle.sec_base.specs.declared.place.Place.TheVariants.{Line, Node}
use Rattle.sec_base.specs.Evidence.{IsEvidence}
use Rattle.sec_base.specs.Gain.{Gain}
use Rattle.sec_base.specs.Geometry.{GeometryView, line_count, page_count}
use Rattle.sec_base.specs.LastMessage.{data_pairs}
use Rattle.sec_base.specs.Lines.{line_at}
use Rattle.sec_base.specs.Place.{IsPlace}
use Rattle.sec_base.specs.Sink.{SinkState}
use Rattle.bus_model.specs.Access.{Access, AreOf, EndsWithRead, writes_in}
use Rattle.bus_model.specs.BusHistory.{BusHistory}
use Rattle.bus_model.specs.FirstLie.{HonestOrCaught, IsOfFirstLie}
use Rattle.pad_stream.specs.PadBlocks.{ShareNoBlock}
use Rattle.pad_stream.specs.Pads.{NoRepeat, of_lines}
use Rattle.rv32_core.specs.Follows.{Follows, IsWhole}
use Rattle.rv32_core.specs.Machine.{Machine, opening, plain}
use Rattle.rv32_core.specs.Turnover.{page_turnover, turnover}
use Rattle.rv32_run.specs.Execution.{IsMemoryEnding, IsStop}
use Rattle.rv32_run.specs.Progress.{SinkEnds}
use Rattle.rv32_run.specs.StoredLines.{image_lines}
use Rattle.elf_load.specs.Measurement.{measurement_of}
use Rattle.checked_bus.specs.Makes.{IsShownIn, access_of}
use Rattle.bonsai_tree.specs.Tree.{NodesAreMade, NodesHoldLast, UnmadeAreUnread}
use Rattle.page_reencrypt.specs.Contents.{AreSuccessive, ArePaged, AreWithin, HoldsLast, HoldsSealed, IsSpent, NodesSay, line_bytes}
use Rattle.chip_run.specs.ByInstruction.{Basis, GoesByInstruction, most_left}
use Rattle.chip_run.specs.Report.{ReportTerms, signed_report}
use Rattle.chip_run.specs.declared.record.RunRecord.{RunRecord}
use Rattle.chip_run.specs.declared.record.Setup.{Setup}

-- What a run is of: the plain machine as the program begins on its input, the lines that storing the program touches, one for
-- each store, how many instructions may be retired, the geometry of the memory's tree, how high a page counter may rise, the
-- tags of messages, the key that lines are encrypted under, and what its report is of.
pub record Terms : Type 0 where
  pub start : Machine
  pub stored_lines : List ℕ
  pub budget : ℕ
  pub geometry : GeometryView
  pub page_limit : ℕ
  pub tag_of : Message → List ℕ
  pub enc_key : List ℕ
  pub report : ReportTerms

-- The terms of a run of a program on an input, as it is set up, under these tags.
abbrev pub run_terms : Image → List ℕ → Setup → (Message → List ℕ) → Terms
run_terms image input setup tag_of = record {
  start = opening image input;
  stored_lines = image_lines image.segments;
  budget = setup.budget;
  geometry = setup.geometry;
  page_limit = setup.page_limit;
  tag_of = tag_of;
  enc_key = setup.keys.enc_key;
  report = record {
    measurement = measurement_of image;
    input = input;
    nonce = setup.nonce;
    layout = setup.geometry.layout;
    report_key = setup.keys.report_key;
  };
}

-- the basis of a run of it
abbrev pub basis_of : Terms → Basis
basis_of terms = record {
  start = terms.start;
  stored_lines = terms.stored_lines;
  geometry = terms.geometry;
  enc_key = terms.enc_key;
}

-- All lines but a few, at most as many as the chip can hold, have the memory's bytes.
pub record IsWrittenOut (key : List ℕ) (lines : ℕ) (made : List Message) (memory : List ℕ) : Type 0 where
  pub left : List ℕ
  pub few : length left ≤ most_left
  pub out : (line : ℕ) → line < lines → ¬ Contains left line → line_bytes key made line ≡ line_at memory line

-- how many messages may be made that were not written: the last one, where the run ended out of memory
abbrev pub unwritten_at : Ending → ℕ
unwritten_at NoMemory = 1
unwritten_at _ = 0

-- the endings that may come in the middle of an overflow
abbrev pub EndsAnywhere : Ending → Type 0
EndsAnywhere ending = ((place : Place) × (ending ≡ Tampered place)) ⊎ (ending ≡ NoMemory)

-- the limit of page counters where none is asked for
abbrev pub default_page_limit : ℕ
default_page_limit = 2 ^ 64 - 1

-- Refused: a run past its budget, one that the budget ends too early, and one that stops where it was used up.
pub record KeepsBudget (terms : Terms) (run : RunRecord) : Type 0 where
  pub within : run.retired ≤ terms.budget
  pub budget_used : run.ending ≡ OutOfSteps → run.retired ≡ terms.budget
  -- the memory and the sink end it only where the budget allows one more instruction, or none at all
  pub early : IsStop run.ending → 0 < terms.budget → run.retired < terms.budget

-- Refused: messages that are missing, made up or not written. The lines that the run may encrypt are those that are allowed.
pub record KeepsLists (allowed : ℕ → Type 0) (terms : Terms) (after : BusHistory) (run : RunRecord) : Type 0 where
  -- each entry of `used` is of an allowed line, and each line of the memory was tagged under the counters that it was
  -- encrypted under, in the same order
  pub inside : (line : ℕ) (counter : Counter) → Contains run.used (line, counter) → allowed line
  pub few : length run.used < 2 ^ 64
  pub paired : data_pairs run.made ≡ of_lines (line_count terms.geometry) run.used
  -- each line's place that isn't zeros holds what was encrypted and tagged for it, each node's place that isn't zeros a
  -- block that was made for it, and the last that was, unless the run ended out of memory
  pub sealed : HoldsSealed terms.tag_of (line_count terms.geometry) run.made run.used after.written
  pub nodes : NodesAreMade terms.geometry run.made after.written
  pub holds_last : run.ending ≢ NoMemory → HoldsLast terms.tag_of (line_count terms.geometry) run.made after.written
  pub nodes_hold_last : run.ending ≢ NoMemory → NodesHoldLast terms.geometry run.made after.written

-- Refused: a list of messages that is not what was written to the bus, one by one, but for the last one where the run ended out of
-- memory. The accesses are all that the run made of its bus, in order.
pub record KeepsAccesses (terms : Terms) (after : BusHistory) (accesses : List Access) (run : RunRecord) : Type 0 where
  -- each write puts out one message, in order: a line's ciphertext with its tag, or a node's block, whose tag goes into its
  -- parent; where the run ended out of memory, the last message may not have been written
  pub written : List Message
  pub unwritten : List Message
  pub made : run.made ≡ written ++ unwritten
  pub writes : writes_in accesses ≡ map (access_of terms.tag_of) written
  pub few : length unwritten ≤ unwritten_at run.ending
  -- each is of a place of its memory
  pub inside : AreOf (IsPlace terms.geometry) accesses
  -- evidence is of an answer among them: a forgery's count is the number of writes before it, and a collision is with a block
  -- that was written before it
  pub shown : (evidence : Evidence) → run.evidence ≡ Some evidence → IsShownIn 0 accesses evidence
  -- a run that ended as tampering read that place last, also where there is evidence
  pub tampered : (place : Place) → run.ending ≡ Tampered place → EndsWithRead place accesses
  -- without evidence each instruction had its lines, and the messages say what these had
  pub by_instruction : run.evidence ≡ None → GoesByInstruction (basis_of terms) after accesses run.made run.retired run.ending

-- the endings that come of the sink or of the emulator
abbrev pub IsCutOff : Ending → Type 0
IsCutOff ending = (ending ≡ WriteFault) ⊎ (ending ≡ NoMemory)

-- Refused: any other program, a byte that it doesn't print, a write fault of another instruction, and a memory that isn't
-- the program's.
pub record FollowsPlain (terms : Terms) (printed : List ℕ) (after : BusHistory) (run : RunRecord) : Type 0 where
  -- the retired instructions and the printed bytes are a prefix of the plain machine's
  pub follows : Follows terms.start terms.budget run.retired run.ending printed
  -- a write fault comes before all was printed that the next instruction prints
  pub cut_short : run.ending ≡ WriteFault → length printed < length (plain terms.start (run.retired + 1)).output
  -- where no answer was false (so there is no evidence) and nothing cut it off, it is the plain machine's run over the whole
  -- budget, or a page was spent
  pub whole : after.lies ≡ 0 → ¬ IsCutOff run.ending →
      IsWhole terms.start terms.budget run.retired run.ending ⊎ ((page : ℕ) × (run.ending ≡ Spent page))
  -- the budget ends it exactly where it is used up by a program that goes on
  pub out_of_steps : ¬ IsMemoryEnding run.ending → ((run.ending ≡ OutOfSteps)
      ↔ ((run.retired ≡ terms.budget) × ((plain terms.start terms.budget).exit ≡ None)))
  -- where the memory did not end it, the last messages are the plain machine's memory
  pub written_out : ¬ IsMemoryEnding run.ending →
      IsWrittenOut terms.enc_key (line_count terms.geometry) run.made (plain terms.start run.retired).state.memory

-- Refused: a pad that encrypts two lines, a page counter that was skipped, a page that is spent too early, and a node that
-- says other tags or counters.
pub record KeepsPads (terms : Terms) (run : RunRecord) : Type 0 where
  -- no two entries of `used` are equal, and no two of their pads share an AES block: each line's counters are counted up, one
  -- right after another, and keep to the limit; a page is spent only where one of its lines has the last counter that the
  -- limit allows
  pub no_repeat : NoRepeat run.used
  pub pads_apart : ShareNoBlock terms.enc_key run.used
  pub successive : AreSuccessive run.used
  pub counters : AreWithin (line_count terms.geometry) terms.page_limit run.used
  pub spent : (page : ℕ) → run.ending ≡ Spent page → IsSpent (line_count terms.geometry) terms.page_limit run.used page
  -- the lines of a page have one page counter, and where it is M they were encrypted 64 M times at least, unless the run ended
  -- in the middle of an overflow; so under the default limit no page is ever spent
  pub paged : ¬ EndsAnywhere run.ending → ArePaged (line_count terms.geometry) run.used
  pub unspent : terms.page_limit ≡ default_page_limit → (page : ℕ) → run.ending ≢ Spent page
  -- each time a node above level 0 was made, each of its slots had the tag of that child's last message, or zeros where the
  -- child was never made; each counter block that was made says counters that its lines were encrypted under, or that of a
  -- line that was never written
  pub made_nodes : NodesSay terms.tag_of terms.geometry run.used run.made

-- Refused: a false answer that did not end the run as tampering of its place, and tampering where no answer was false.
pub record CatchesLies (terms : Terms) (after : BusHistory) (run : RunRecord) : Type 0 where
  -- no answer of the bus was false, and the run did not end as tampering; or one was, fails its check, was the last
  -- access, and the run ended as tampering of its place
  pub answers : HonestOrCaught terms.tag_of run.used run.made after (λ place. run.ending ≡ Tampered place)

-- Refused: a run that reads its bus too seldom for a chip that holds so little, or one that reads a node that was never made.
pub record TurnsOver (terms : Terms) (before after : BusHistory) (run : RunRecord) : Type 0 where
  -- the places of the lines were read together at least as often as the run turned over what the chip can hold, and so
  -- were the places of the pages' counter blocks, by pages
  pub turnover : Gain (line_count terms.geometry) (λ line. before.reads (Line line)) (λ line. after.reads (Line line))
      (turnover terms.start run.retired)
  pub page_turnover : Gain (page_count terms.geometry) (λ page. before.reads (Node 0 page)) (λ page. after.reads (Node 0 page))
      (page_turnover terms.start run.retired)
  -- a node that was never made is not read
  pub unread : UnmadeAreUnread before run.made after

-- Refused: evidence of a true answer, or that the lists don't bear out. It is what it says, and of the first false answer.
pub record ShowsEvidence (terms : Terms) (after : BusHistory) (run : RunRecord) (evidence : Evidence) : Type 0 where
  pub genuine : IsEvidence terms.tag_of run.made evidence
  pub first_lie : IsOfFirstLie run.made after evidence

-- Where there is no evidence. What rests on counters stands here, since they come from outside.
pub record HoldsWithoutEvidence (terms : Terms) (printed : List ℕ) (before after : BusHistory) (run : RunRecord) : Type 0 where
  pub plain : FollowsPlain terms printed after run
  pub pads : KeepsPads terms run
  pub bus : CatchesLies terms after run
  pub caches : TurnsOver terms before after run

-- The theorem, for the bytes that were printed and the lines that may be encrypted. Without evidence a run on protected
-- memory follows the plain machine, each false answer of the bus ended it as tampering at that access, and no pad encrypted
-- two lines; or else it hands out evidence: a message that passed a check though it was never tagged, or two unequal blocks
-- of one node with one tag.
pub record RanProtected (allowed : ℕ → Type 0) (terms : Terms) (printed : List ℕ) (before after : BusHistory) (run : RunRecord)
    : Type 0 where
  pub budget : KeepsBudget terms run
  pub lists : KeepsLists allowed terms after run
  pub without_evidence : run.evidence ≡ None → HoldsWithoutEvidence terms printed before after run
  pub with_evidence : IfSome run.evidence (ShowsEvidence terms after run)

-- The theorem of a run that encrypts the lines of its memory alone. With evidence or without, the sink gained what it
-- printed, and its report is of that.
pub record RunsProtected (terms : Terms) (out out' : SinkState) (before after : BusHistory) (run : RunRecord) : Type 0 where
  pub printed : List ℕ
  pub sink : SinkEnds out printed run.ending out'
  pub ran : RanProtected (λ line. line < line_count terms.geometry) terms printed before after run
  pub report : run.report ≡ signed_report terms.report (sha256 printed) run.retired run.ending
