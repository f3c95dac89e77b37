-- The states that a script runs through.
use Rattle.adversary_script.specs.declared.script.ScriptLine.{ScriptLine}
use Rattle.bus_adversary.specs.Adversary.{AdversaryView, after_due, new_adversary, after_put}
use Rattle.bus_adversary.specs.PlaceCounts.{PlaceCountsView, count_at, new_counts, with_one_more}
use Rattle.bus_adversary.specs.ScriptBus.{ScriptState, after_next_read, after_next_write, new_state}
use Rattle.bus_adversary.specs.declared.next_access.Access.{Access}
use Rattle.bus_adversary.specs.declared.next_access.Access.TheVariants.{Read, Write}
use Rattle.bus_model.proofs.Steps.{read_accesses, read_reads}
use Rattle.bus_model.specs.BusHistory.{BusHistory, after_read, after_write, new_history}
use Rattle.sec_base.specs.Count.{more_by}
use Rattle.sec_base.specs.declared.place.Place.{Place}
use Rattle.std.proofs.Common.{List, ap, refl, ℕ, ◌∙◌, ◌≡◌}
use Rattle.sec_base.specs.Geometry.{GeometryView}

-- what goes on in the state of a bus with this history
abbrev state : AdversaryView → BusHistory → PlaceCountsView → ScriptState
state adversary history writes = record { adversary = adversary; accesses = history.accesses; reads = history.reads; writes = writes }

-- two states with the same parts
same_state : {adversary adversary' : AdversaryView} {accesses accesses' : ℕ} {reads reads' : Place → ℕ} {writes writes' : PlaceCountsView} →
    adversary' ≡ adversary → accesses' ≡ accesses → reads' ≡ reads → writes' ≡ writes →
    ◌≡◌ {A = ScriptState} (record { adversary = adversary'; accesses = accesses'; reads = reads'; writes = writes' })
    (record { adversary = adversary; accesses = accesses; reads = reads; writes = writes })
same_state {adversary} {adversary'} {accesses} {accesses'} {reads} {reads'} {writes} {writes'} m a r w =
    ap (λ (x : AdversaryView). record { adversary = x; accesses = accesses'; reads = reads'; writes = writes' }) m
    ∙ ap (λ (x : ℕ). record { adversary = adversary; accesses = x; reads = reads'; writes = writes' }) a
    ∙ ap (λ (x : Place → ℕ). record { adversary = adversary; accesses = accesses; reads = x; writes = writes' }) r
    ∙ ap (λ (x : PlaceCountsView). record { adversary = adversary; accesses = accesses; reads = reads; writes = x }) w

-- the due actions were done, before this access of these numbers
due_at : {before before' alike alike' : ℕ} {adversary' : AdversaryView} (script : List ScriptLine) (access : Access) (adversary : AdversaryView) →
    adversary' ≡ after_due (record { access = access; accesses_before = before; same_before = alike }) script adversary → before ≡ before' → alike ≡ alike' →
    adversary' ≡ after_due (record { access = access; accesses_before = before'; same_before = alike' }) script adversary
due_at {before} {before'} {alike} {alike'} script access adversary is same same' =
    is ∙ ap (λ (n : ℕ). after_due (record { access = access; accesses_before = n; same_before = alike }) script adversary) same
    ∙ ap (λ (n : ℕ). after_due (record { access = access; accesses_before = before'; same_before = n }) script adversary) same'

pub read_state : (script : List ScriptLine) (history history' : BusHistory) (adversary adversary' : AdversaryView) (writes : PlaceCountsView)
    (place : Place) (written : List ℕ) (before alike : ℕ) →
    history' ≡ after_read place written history →
    adversary' ≡ after_due (record { access = Read place; accesses_before = before; same_before = alike }) script adversary →
    before ≡ history.accesses → alike ≡ history.reads place →
    state adversary' history' writes ≡ after_next_read script place (state adversary history writes)
read_state script history history' adversary adversary' writes place written before alike read due at times =
    same_state (due_at script (Read place) adversary due at times)
    (ap (λ (h : BusHistory). h.accesses) read ∙ read_accesses place written history)
    (ap (λ (h : BusHistory). h.reads) read ∙ read_reads place written history)
    refl

written_accesses : (place : Place) (bytes : List ℕ) (history : BusHistory) → (after_write place bytes history).accesses ≡ more_by 1 history.accesses
unfolding after_write
written_accesses place bytes history = refl

written_reads : (place : Place) (bytes : List ℕ) (history : BusHistory) → (after_write place bytes history).reads ≡ history.reads
unfolding after_write
written_reads place bytes history = refl

pub written_state : (script : List ScriptLine) (history history' : BusHistory) (adversary adversary' adversary'' : AdversaryView) (writes writes' : PlaceCountsView)
    (place : Place) (bytes : List ℕ) (before alike : ℕ) →
    history' ≡ after_write place bytes history →
    adversary' ≡ after_due (record { access = Write place; accesses_before = before; same_before = alike }) script adversary → adversary'' ≡ after_put place bytes adversary' →
    before ≡ history.accesses → alike ≡ count_at writes place → writes' ≡ with_one_more place writes →
    state adversary'' history' writes' ≡ after_next_write script place bytes (state adversary history writes)
written_state script history history' adversary adversary' adversary'' writes writes' place bytes before alike wrote due puts at times counted =
    same_state (puts ∙ ap (after_put place bytes) (due_at script (Write place) adversary due at times))
    (ap (λ (h : BusHistory). h.accesses) wrote ∙ written_accesses place bytes history)
    (ap (λ (h : BusHistory). h.reads) wrote ∙ written_reads place bytes history)
    counted

-- before the first call
pub new_is_state : (history : BusHistory) (adversary : AdversaryView) (writes : PlaceCountsView) (geometry : GeometryView) →
    history ≡ new_history geometry → adversary ≡ new_adversary geometry → writes ≡ new_counts geometry → state adversary history writes ≡ new_state geometry
new_is_state history adversary writes geometry is none uncounted =
    same_state none (ap (λ (h : BusHistory). h.accesses) is) (ap (λ (h : BusHistory). h.reads) is) uncounted
