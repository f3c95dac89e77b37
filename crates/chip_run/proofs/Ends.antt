-- The theorem of a run, from what it hands out of its memory and what its execution says.
use Rattle.std.proofs.Common.{◌==◌, ◌≡◌, ◌≢◌, ◌⊎◌, ◌↔◌, inl, inr, ◌^◌, ◌+◌, ◌<◌, ℕ, Bool, List, Option, Some, None, IfSome, Contains, length, refl, ap, subst, arith}
use Rattle.std.proofs.lemmas.List.Sums.{count_by-le-length, length-filter}
use Rattle.sec_base.specs.Count.{RoseBy}
use Rattle.sec_base.specs.Evidence.{IsEvidence}
use Rattle.sec_base.specs.Gain.{Gain}
use Rattle.sec_base.specs.Geometry.{line_count, page_count, page_of}
use Rattle.sec_base.specs.LastMessage.{data_pairs}
use Rattle.sec_base.specs.declared.counter.Counter.{Counter}
use Rattle.sec_base.specs.declared.ending.Ending.{Ending}
use Rattle.sec_base.specs.declared.ending.Ending.TheVariants.{OutOfSteps, Tampered, Spent, WriteFault}
use Rattle.sec_base.specs.declared.evidence.Evidence.{Evidence}
use Rattle.sec_base.specs.declared.message.Message.{Message}
use Rattle.sec_base.specs.declared.place.Place.{Place}
use Rattle.sec_base.specs.declared.place.Place.TheVariants.{Line, Node}
use Rattle.sec_base.specs.declared.stop.MemStop.{MemStop}
use Rattle.sec_base.specs.declared.stop.MemStop.TheVariants.{NoMemory as no_memory}
use Rattle.bus_model.specs.BusHistory.{BusHistory}
use Rattle.bus_model.specs.FirstLie.{AccountsForLies, HonestOrCaught}
use Rattle.pad_stream.proofs.RisingCounters.{rising_once}
use Rattle.rv32_core.specs.Follows.{Follows, IsWhole}
use Rattle.rv32_core.specs.Machine.{Machine, plain}
use Rattle.rv32_core.specs.Turnover.{page_turnover, turnover}
use Rattle.rv32_core.proofs.Plain.{whole_run}
use Rattle.rv32_run.specs.Execution.{CarriesEnding, IsMemoryEnding}
use Rattle.checked_bus.specs.Steps.{IsAccounted}
use Rattle.pad_stream.specs.PadBlocks.{ShareNoBlock}
use Rattle.pad_stream.specs.Pads.{of_lines}
use Rattle.bonsai_tree.specs.Tree.{NodesAreMade, NodesHoldLast, UnmadeAreUnread}
use Rattle.page_reencrypt.specs.Contents.{ArePaged, HoldsLast, HoldsSealed, IsSpent, NodesSay, counter_in}
use Rattle.page_reencrypt.specs.SealedLines.{CountersRise}
use Rattle.page_reencrypt.proofs.Successive.{counted_rising}
use Rattle.chip_run.specs.Run.{Terms, EndsAnywhere, FollowsPlain, IsCutOff, IsWrittenOut, KeepsBudget, KeepsLists, KeepsPads, RanProtected, ShowsEvidence, default_page_limit}
use Rattle.chip_run.specs.declared.record.RunRecord.{RunRecord}
use Rattle.chip_run.proofs.Closing.{ended_account, never_wanting, not_lasting, stopped_spent}

-- What a run hands out of a memory that is protected, the false answers of whose bus are accounted for, and that kept
-- this stop.
pub record OfMemory (terms : Terms) (before after : BusHistory) (run : RunRecord) : Type 0 where
  pub stopped : Option MemStop
  pub carries : CarriesEnding stopped (Some run.ending)
  pub inside : (line : ℕ) (counter : Counter) → Contains run.used (line, counter) → line < line_count terms.geometry
  pub paired : data_pairs run.made ≡ of_lines (line_count terms.geometry) run.used
  pub sealed : HoldsSealed terms.tag_of (line_count terms.geometry) run.made run.used after.written
  pub nodes : NodesAreMade terms.geometry run.made after.written
  pub holds_last : stopped ≢ Some no_memory → HoldsLast terms.tag_of (line_count terms.geometry) run.made after.written
  pub nodes_hold_last : stopped ≢ Some no_memory → NodesHoldLast terms.geometry run.made after.written
  pub rise : run.evidence ≡ None → CountersRise terms.geometry terms.page_limit run.used stopped
  pub made_nodes : run.evidence ≡ None → NodesSay terms.tag_of terms.geometry run.used run.made
  pub few : length run.used < 2 ^ 64
  pub apart : run.evidence ≡ None → ShareNoBlock terms.enc_key run.used
  pub accounted : IsAccounted terms.tag_of run.used run.made after stopped run.evidence
  pub reads : (place : Place) → RoseBy 0 (before.reads place) (after.reads place)
  pub unread : run.evidence ≡ None → UnmadeAreUnread before run.made after

-- The places of the lines, and of the pages' counter blocks, were read at least as often as the run turned over.
abbrev pub ReadsTurnover : Terms → BusHistory → BusHistory → RunRecord → Type 0
ReadsTurnover terms before after run =
    Gain (line_count terms.geometry) (λ line. before.reads (Line line)) (λ line. after.reads (Line line)) (turnover terms.start run.retired)
    × Gain (page_count terms.geometry) (λ page. before.reads (Node 0 page)) (λ page. after.reads (Node 0 page)) (page_turnover terms.start run.retired)

-- What the instructions came to, where a memory held them or stopped before the first one.
pub record OfInstructions (terms : Terms) (printed : List ℕ) (before after : BusHistory) (run : RunRecord) : Type 0 where
  pub budget : KeepsBudget terms run
  pub follows : run.evidence ≡ None → Follows terms.start terms.budget run.retired run.ending printed
  pub cut_short : run.evidence ≡ None → run.ending ≡ WriteFault → length printed < length (plain terms.start (run.retired + 1)).output
  pub written_out : run.evidence ≡ None → ¬ IsMemoryEnding run.ending →
      IsWrittenOut terms.enc_key (line_count terms.geometry) run.made (plain terms.start run.retired).state.memory
  pub out_of_steps : run.evidence ≡ None → ¬ IsMemoryEnding run.ending → ((run.ending ≡ OutOfSteps)
      ↔ ((run.retired ≡ terms.budget) × ((plain terms.start terms.budget).exit ≡ None)))
  pub turned : run.evidence ≡ None → ReadsTurnover terms before after run

-- Where no answer was false

untampered : (tag_of : Message → List ℕ) (used : List (ℕ × Counter)) (made : List Message) (history : BusHistory) (ending : Ending) → HonestOrCaught tag_of used made history (λ place. ending ≡ Tampered place) → history.lies ≡ 0 → (place : Place) → ending ≢ Tampered place
untampered tag_of used made history ending (inl honest) none = honest.untampered
untampered tag_of used made history ending (inr caught) none = absurd (omega (arith, caught.lies))

spent_or_not : (ending : Ending) → ((page : ℕ) → ending ≢ Spent page) ⊎ ((page : ℕ) × (ending ≡ Spent page))
spent_or_not (Spent page) = inr (page, refl)
spent_or_not _ = inl (λ page e. cc)

-- it is the plain machine's over the whole budget, or a page was spent
honest_run : (start : Machine) (budget n : ℕ) (ending : Ending) (printed : List ℕ) (tag_of : Message → List ℕ) (used : List (ℕ × Counter)) (made : List Message) (history : BusHistory) →
    history.lies ≡ 0 → HonestOrCaught tag_of used made history (λ place. ending ≡ Tampered place) → Follows start budget n ending printed →
    ¬ IsCutOff ending → IsWhole start budget n ending ⊎ ((page : ℕ) × (ending ≡ Spent page))
honest_run start budget n ending printed tag_of used made history honest answers follows whole =
    elim (spent_or_not ending) [
      | inl unspent ↦ inl (whole_run start budget n ending printed follows (λ is. whole (inl is)) (λ is. whole (inr is))
          (untampered tag_of used made history ending answers honest) unspent)
      | inr spent ↦ inr spent
    ]

-- No page is spent under the default limit

spent_whole : (ending : Ending) (page : ℕ) → ending ≡ Spent page → ¬ EndsAnywhere ending
spent_whole ending page is (inl tampered) = let place = tampered.1 in cc
spent_whole ending page is (inr memory) = cc

never_spent : (lines limit : ℕ) (used : List (ℕ × Counter)) (page : ℕ) → ArePaged lines used → length used < 2 ^ 64 → limit ≡ default_page_limit → IsSpent lines limit used page → ⊥
never_spent lines limit used page paged few default spent =
    let reached = paged.reached spent.line spent.inside in
    let highest : (counter_in used spent.line).page ≡ limit = ap (λ (c : Counter). c.page) spent.used_up in
    let of_page : ℕ × Counter → Bool = λ entry. page_of entry.0 == page_of spent.line in
    omega (arith, reached, highest, length-filter of_page used, count_by-le-length of_page used, few, default)

-- The theorem

if_shown : (evidence : Option Evidence) (P : Evidence → Type 0) → IfSome evidence P → (shown : Evidence) → evidence ≡ Some shown → P shown
if_shown None P holds shown is = absurd (cc)
if_shown (Some evidence) P holds shown is = let same : evidence ≡ shown = cc in subst P same holds

all_shown : (evidence : Option Evidence) (P : Evidence → Type 0) → ((shown : Evidence) → evidence ≡ Some shown → P shown) → IfSome evidence P
all_shown None P shown = tt
all_shown (Some evidence) P shown = shown evidence refl

module _ (terms : Terms) (printed : List ℕ) (before after : BusHistory) (run : RunRecord)
    (memory : OfMemory terms before after run) (instructions : OfInstructions terms printed before after run) where
  account : AccountsForLies terms.tag_of run.used run.made after (λ place. run.ending ≡ Tampered place) run.evidence
  account = ended_account terms.tag_of run.used run.made after memory.stopped run.ending run.evidence memory.carries memory.accounted.account

  spent_page : run.evidence ≡ None → (page : ℕ) → run.ending ≡ Spent page → IsSpent (line_count terms.geometry) terms.page_limit run.used page
  spent_page quiet page is = (memory.rise quiet).spent page (stopped_spent memory.stopped run.ending page memory.carries is)

  paged : run.evidence ≡ None → ¬ EndsAnywhere run.ending → ArePaged (line_count terms.geometry) run.used
  paged quiet whole = (memory.rise quiet).paged (not_lasting memory.stopped run.ending memory.carries whole)

  keeps_lists : KeepsLists (λ line. line < line_count terms.geometry) terms after run
  keeps_lists = record {
    inside = memory.inside;
    few = memory.few;
    paired = memory.paired;
    sealed = memory.sealed;
    nodes = memory.nodes;
    holds_last = λ some. memory.holds_last (never_wanting memory.stopped run.ending memory.carries some);
    nodes_hold_last = λ some. memory.nodes_hold_last (never_wanting memory.stopped run.ending memory.carries some);
  }

  follows_plain : run.evidence ≡ None → FollowsPlain terms printed after run
  follows_plain quiet = record {
    follows = instructions.follows quiet;
    cut_short = instructions.cut_short quiet;
    whole = λ honest.
        honest_run terms.start terms.budget run.retired run.ending printed terms.tag_of run.used run.made after honest (account.answers quiet) (instructions.follows quiet);
    out_of_steps = instructions.out_of_steps quiet;
    written_out = instructions.written_out quiet;
  }

  keeps_pads : run.evidence ≡ None → KeepsPads terms run
  keeps_pads quiet = record {
    no_repeat = rising_once run.used (counted_rising run.used (memory.rise quiet).successive);
    pads_apart = memory.apart quiet;
    successive = (memory.rise quiet).successive;
    counters = (memory.rise quiet).within;
    spent = spent_page quiet;
    paged = paged quiet;
    unspent = λ default page is.
        never_spent (line_count terms.geometry) terms.page_limit run.used page (paged quiet (spent_whole run.ending page is)) memory.few default (spent_page quiet page is);
    made_nodes = memory.made_nodes quiet;
  }

  shows : (evidence : Evidence) → run.evidence ≡ Some evidence → ShowsEvidence terms after run evidence
  shows evidence is = record {
    genuine = if_shown run.evidence (IsEvidence terms.tag_of run.made) memory.accounted.genuine evidence is;
    first_lie = account.shown evidence is;
  }

  pub ran_protected : RanProtected (λ line. line < line_count terms.geometry) terms printed before after run
  ran_protected = record {
    budget = instructions.budget;
    lists = keeps_lists;
    without_evidence = λ quiet. record {
      plain = follows_plain quiet;
      pads = keeps_pads quiet;
      bus = record { answers = account.answers quiet };
      caches = record {
        turnover = (instructions.turned quiet).0;
        page_turnover = (instructions.turned quiet).1;
        unread = memory.unread quiet;
      };
    };
    with_evidence = all_shown run.evidence (ShowsEvidence terms after run) shows;
  }
