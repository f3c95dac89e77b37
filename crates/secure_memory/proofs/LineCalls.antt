-- What a load and a store make of a memory.
use Rattle.std.proofs.Common.{◌≡◌, ◌⊎◌, inl, inr, ℕ, zero, suc, ◌+◌, ◌/◌, ◌≤◌, List, [], ◌∷◌, ◌++◌, length, map, take, Option, Some, None, Result, Ok, Err, IsOk, IsSome, Contains, OnOk, OnErr, Bool, true, false, cond, refl, ap, sym, ◌∙◌, subst, arith, ◌≢◌}
use Rattle.std.specs.Option.{option_or}
use Rattle.std.specs.Result.{result_err}
use Rattle.std.proofs.Math.Nat.{div-one, pow-zero}
use Rattle.std.proofs.lemmas.Bool.{true≢false}
use Rattle.std.proofs.lemmas.List.{append-nil, take_all}
use Rattle.std.proofs.lemmas.Option.{none-some, same_Some}
use Rattle.sec_base.specs.Count.{Rose, RoseBy}
use Rattle.sec_base.specs.Geometry.{GeometryView, arity, page_of}
use Rattle.sec_base.specs.LastMessage.{data_pairs, last_data}
use Rattle.sec_base.specs.Lines.{line_at}
use Rattle.sec_base.specs.declared.counter.Counter.{Counter}
use Rattle.sec_base.specs.declared.message.Message.{Message}
use Rattle.sec_base.specs.declared.place.Place.{Place}
use Rattle.sec_base.specs.declared.place.Place.TheVariants.{Line as line_place, Node as node_place}
use Rattle.sec_base.specs.declared.stop.MemStop.{MemStop}
use Rattle.sec_base.specs.declared.stop.MemStop.TheVariants.{Tampered, Spent}
use Rattle.sec_base.proofs.LastMessages.{none_front}
use Rattle.sec_base.specs.LastMessage.{data_part}
use Rattle.sec_base.proofs.Results.{stop_is, was_none}
use Rattle.bus_model.specs.Access.{Access}
use Rattle.bus_model.specs.BusHistory.{BusHistory}
use Rattle.tag_engine.specs.TagEngine.{TagEngineView}
use Rattle.pad_stream.specs.PadEngine.{PadEngineView}
use Rattle.bonsai_tree.specs.Node.{path_index}
use Rattle.bonsai_tree.specs.Tree.{IsFetchPlace, PathWasRead, TreeView, UnmadeAreUnread}
use Rattle.bonsai_tree.proofs.Climbs.{came_before, unmade_before}
use Rattle.page_reencrypt.specs.Contents.{lines_encrypted}
use Rattle.page_reencrypt.specs.LineMoves.{FitsUnlessStopped, ReadMoved, WriteMoved, overflow_accesses, read_accesses, terms_in, write_accesses}
use Rattle.page_reencrypt.specs.Outside.{IsLineRead, IsWrite, outside_of}
use Rattle.page_reencrypt.specs.SealedLines.{CopiesCame, IsLineOf, IsUnsealed, KeepsFew, Moves, SealedLinesView, made, page_counters, used}
use Rattle.page_reencrypt.specs.SealedLines as lines
use Rattle.counter_cache.specs.Counters.{cached_pages as lines_cached}
use Rattle.page_reencrypt.specs.Stops.{lasting_stop}
use Rattle.counter_cache.proofs.Havings.{no_copy_below, path_on}
use Rattle.page_reencrypt.proofs.Moves.{moves_not, own_moves_after, own_moves_on}
use Rattle.page_reencrypt.proofs.Nodes.{not_node}
use Rattle.page_reencrypt.proofs.Sealing.{listed_or_not}
use Rattle.page_reencrypt.proofs.WrittenMessages.{no_line_at, written_says}
use Rattle.cache_set.specs.declared.way.Way.{Way}
use Rattle.cache_set.specs.Cache.{copy_at, places, victim_for, way_at}
use Rattle.cache_set.proofs.Listed.{listed_at}
use Rattle.cache_set.specs.Bringing.{if_changed, leaving}
use Rattle.cache_set.proofs.Bringing.{goes_for_none, goes_there}
use Rattle.line_cache.specs.LineCache.{AreCopies, IsMiss, IsMissed, IsStep, LineCacheView, line_sets, most_held}
use Rattle.line_cache.specs.LineCache.{IsMoved as IsChain}
use Rattle.line_cache.proofs.Lines.{over_held}
use Rattle.line_cache.proofs.Steps.{way_of_copy}
use Rattle.secure_memory.specs.Encrypted.{EncryptsContents}
use Rattle.secure_memory.specs.LineCall.{IsLineCall, IsWrittenAnew, IsWrittenInPart}
use Rattle.secure_memory.specs.SecureRam.{SecureRamView, CopiesHad, IsMoved, IsQuiet, LineHad, PageHad, PageRead, cached_pages, contents, held_lines, geometry, stopped}
use Rattle.secure_memory.specs.Moving.{copies_not, copies_on, encrypts_both, encrypts_none, on_chip_of_line, on_chip_of_page}

-- Answers and stops

ok_stays : {A : Type 0} (answer : Result A MemStop) (before : Option MemStop) → result_err answer ≡ None → before ≡ None → option_or (result_err answer) before ≡ None
ok_stays answer before ok none = ap (λ (o : Option MemStop). option_or o before) ok ∙ none

pub done_or_not : {P Q : Type 0} (answer : Result (Unit {0}) MemStop) → OnOk answer P → OnErr answer Q → P ⊎ Q
done_or_not (Ok value) done refused = inl done
done_or_not (Err stop) done refused = inr refused

only_line : (line other : ℕ) → Contains (line ∷ []) other → other ≡ line
only_line line other (zero, below, at) = sym at
only_line line other (suc k, below, at) = absurd (omega (arith, below))

-- the page's own node is the first on its path
page_on_path : (geometry : GeometryView) (page : ℕ) → path_index geometry 0 page ≡ page
page_on_path geometry page = ap (λ (n : ℕ). page / n) (pow-zero (arity geometry)) ∙ div-one page

-- the place of another line is none that a read of the line names
not_beside : (geometry : GeometryView) (line other : ℕ) → other ≢ line → ¬ ((line_place other ≡ line_place line) ⊎ IsFetchPlace geometry (page_of line) (line_place other))
not_beside geometry line other differs (inl own) = differs cc
not_beside geometry line other differs (inr node) = not_node geometry (page_of line) other node

module _ {B T : Type 0} (history : B → BusHistory) where
  -- No call encrypts no line
  pub unsealed_not : (lines : SealedLinesView B T) → IsUnsealed history lines lines
  unfolding data_pairs
  unsealed_not lines = record { unused = refl; more = []; messages = sym (append-nil (made lines)); untagged = refl; unwritten_to = λ line. refl }

  -- what was had before further reads, was had
  module _ (first second third : SealedLinesView B T) (bus_moved : B → List Access → B → Type 0) (tags : TagEngineView T → Message → List ℕ)
      (moves : Moves history bus_moved tags (IsLineOf first) first second) where
    untagged_before : (line : ℕ) → last_data line (made second) ≡ None → last_data line (made first) ≡ None
    untagged_before line none =
        none_front (data_part line) (made first) moves.step.more (subst (λ (made : List Message). last_data line made ≡ None) moves.step.made none)

    rose_before : (place : Place) → Rose ((history second.bus).reads place) ((history third.bus).reads place) →
        Rose ((history first.bus).reads place) ((history third.bus).reads place)
    rose_before place rose = let on = moves.step.reads place in omega (arith, rose, on)

-- a path that was read still was after further calls
path_later : (tree : TreeView) (page : ℕ) (made : List Message) (first second third : BusHistory) → ((place : Place) → RoseBy 0 (second.reads place) (third.reads place)) →
    PathWasRead tree made 0 page first second → PathWasRead tree made 0 page first third
path_later tree page made first second third after path = record {
  rose = λ level low high none. came_before made level (path_index tree.geometry level page) first second third after (path.rose level low high none);
}

-- the page's own node was read
own_was_read : {B T : Type 0} (history : B → BusHistory) (old new : SecureRamView B T) (page : ℕ) →
    PathWasRead old.lines.counters.tree (made old.lines) 0 page (history old.lines.bus) (history new.lines.bus) → PageRead history old new page
own_was_read history old new page path =
    subst (PageRead history old new) (page_on_path old.lines.counters.tree.geometry page)
    (path.rose 0 (omega arith) (omega arith) (λ lower from within. no_copy_below old.lines.counters.tree lower page within))

module _ {B T : Type 0} (history : B → BusHistory) (bus_moved : B → List Access → B → Type 0) (tags : TagEngineView T → Message → List ℕ) where
  -- A write of the line that goes out

  module _ (old mid : SealedLinesView B T) (way : Way) (answer : Result (Unit {0}) MemStop)
      (w : IsWrite (terms_in history bus_moved tags old) old.limit way.place way.copy (outside_of old) old.counters (outside_of mid) mid.counters (result_err answer)) where
    none_written : w.count ≡ 0 → IsUnsealed history old mid
    none_written none =
        let nothing : take w.count (lines_encrypted w.counter way.place) ≡ [] = ap (λ (k : ℕ). take k (lines_encrypted w.counter way.place)) none in
        record {
          unused = w.entries ∙ ap (λ (xs : List ℕ). used old ++ map (λ at. (at, w.counter)) xs) nothing ∙ append-nil (used old);
          more = w.step.more;
          messages = w.step.made;
          untagged = w.pairs ∙ ap (λ (xs : List ℕ). map (λ at. (at, w.counter)) xs) nothing;
          unwritten_to = w.unwritten none;
        }

  module _ (old new : SecureRamView B T) (line : ℕ) (going : stopped old ≡ None)
      (held : (other : ℕ) → Contains (held_lines new) other → Contains (held_lines old) other ⊎ (other ≡ line)) where
    -- A line that is held

    pub hit_call : Contains (held_lines old) line → new.lines ≡ old.lines → IsLineCall history old line None None new
    hit_call listed same =
        let accesses : (history new.lines.bus).accesses ≡ (history old.lines.bus).accesses = ap (λ (l : SealedLinesView B T). (history l.bus).accesses) same in
        record {
          hit = λ there. (refl, same, refl);
          held = held;
          few = omega (arith, accesses);
          once = λ quiet short. omega (arith, accesses);
          alone = λ quiet short other differs. ap (λ (l : SealedLinesView B T). (history l.bus).reads (line_place other)) same;
          read = λ quiet goes. inl listed;
          path = λ quiet goes free. absurd (free listed);
          unsealed = λ none. (
            subst (λ (l : SealedLinesView B T). IsUnsealed history old.lines l) (sym same) (unsealed_not history old.lines),
            λ quiet page. ap (λ (l : SealedLinesView B T). page_counters l page) same,
          );
          fresh = λ none quiet never. ap (λ (l : SealedLinesView B T). (history l.bus).reads (line_place line)) same;
          sealed = λ way is. absurd (cc);
          tampered = λ place is. absurd (cc);
          untampered = λ other quiet which differs is. absurd (cc);
          spent = λ page is. absurd (cc);
          used_up = λ quiet up. absurd up;
        }

    -- Any other line

    module _ (unheld : ¬ Contains (held_lines old) line) where
      -- no changed line goes out for it
      module _ (answer : Result (List ℕ) MemStop) (r : ReadMoved history bus_moved tags old.lines line answer new.lines) where
        seen : IsLineRead (terms_in history bus_moved tags old.lines) line (outside_of old.lines) old.lines.counters (outside_of new.lines) new.lines.counters answer
        seen = r.outside (ap lasting_stop going)

        goes_on : result_err answer ≡ None → lasting_stop new.lines.stopped ≡ None
        goes_on ok = ap lasting_stop (r.stopped ∙ ok_stays answer old.lines.stopped ok going)

        read_call : IsLineCall history old line None (result_err answer) new
        read_call =
            let once : (history new.lines.bus).accesses ≤ (history old.lines.bus).accesses + read_accesses (lines.geometry old.lines).levels = seen.once in
            record {
              hit = λ there. absurd (unheld there);
              held = held;
              few = omega (arith, once);
              once = λ quiet short. omega (arith, once);
              alone = λ quiet short. seen.alone;
              read = λ quiet ok. inr (r.read.read (goes_on ok) quiet);
              path = λ quiet ok free uncached. r.read.path (goes_on ok) quiet uncached;
              unsealed = λ none. (
                record { unused = ap (λ (p : PadEngineView). p.used) seen.pads; more = seen.step.more; messages = seen.step.made; untagged = seen.pairs; unwritten_to = seen.written },
                seen.same,
              );
              fresh = λ none. seen.fresh;
              sealed = λ way is. absurd (cc);
              tampered = λ place is. let named = seen.tampered place (stop_is answer (Tampered place) is) in (inl named.0, named.1);
              untampered = λ other quiet which differs is.
                  not_beside (lines.geometry old.lines) line other differs (seen.tampered (line_place other) (stop_is answer (Tampered (line_place other)) is)).0;
              spent = λ page is. absurd (seen.unspent page (stop_is answer (Spent page) is));
              used_up = λ quiet up. absurd up;
            }

      -- the write of the line that goes out stops
      module _ (way : Way) (stop : MemStop) (w : WriteMoved history bus_moved tags old.lines way.place way.copy (Err stop) new.lines) where
        wrote : IsWrite (terms_in history bus_moved tags old.lines) old.lines.limit way.place way.copy (outside_of old.lines) old.lines.counters (outside_of new.lines) new.lines.counters (Some stop)
        wrote = w.outside (ap lasting_stop going)

        stopped_part : IsWrittenInPart way.place old new
        stopped_part = record { counter = wrote.counter; next = wrote.next; count = wrote.count; within = wrote.within; entries = wrote.entries }

        stopped_call : IsLineCall history old line (Some way) (Some stop) new
        stopped_call =
            let most : (history new.lines.bus).accesses ≤ (history old.lines.bus).accesses + overflow_accesses (lines.geometry old.lines).levels = w.few in
            record {
              hit = λ there. absurd (unheld there);
              held = held;
              few = omega (arith, most);
              once = λ quiet short.
                  let once : (history new.lines.bus).accesses ≤ (history old.lines.bus).accesses + write_accesses (lines.geometry old.lines).levels = (w.once quiet short).0 in
                  omega (arith, once);
              alone = λ quiet short other differs. (w.once quiet short).1 other;
              read = λ quiet ok. absurd (cc);
              path = λ quiet ok. absurd (cc);
              unsealed = λ none. absurd (cc);
              fresh = λ none. absurd (cc);
              sealed = λ other is. (subst (λ (w : Way). IsWrittenInPart w.place old new) (same_Some way other is) stopped_part, λ ok. absurd (cc));
              tampered = λ place is. (
                inr (elim (wrote.tampered place is) [
                  | inl node ↦ inl node
                  | inr beside ↦ inr beside.0
                ]),
                wrote.lied place is,
              );
              untampered = λ other quiet which differs is. elim which [
                | inl short ↦
                    elim (wrote.tampered (line_place other) is) [
                      | inl node ↦ not_node (lines.geometry old.lines) (page_of way.place) other node
                      | inr beside ↦ short (sym (ap (λ (k : Counter). k.line) (wrote.next quiet)) ∙ beside.1)
                    ]
                | inr up ↦ not_node (lines.geometry old.lines) (page_of way.place) other ((wrote.used_up quiet up).4 (line_place other) is)
              ];
              spent = λ page is. let spent = wrote.spent page is in (spent.0, spent.2, none_written old.lines new.lines way (Err stop) wrote spent.1);
              used_up = λ quiet up. let last = wrote.used_up quiet up in (last.1, none_written old.lines new.lines way (Err stop) wrote last.0, last.2);
            }

      -- it is written, and then the line is read
      module _ (way : Way) (answer : Result (List ℕ) MemStop) (mid : SealedLinesView B T)
          (w : WriteMoved history bus_moved tags old.lines way.place way.copy (Ok tt) mid) (r : ReadMoved history bus_moved tags mid line answer new.lines) where
        mid_going : mid.stopped ≡ None
        mid_going = w.stopped ∙ going

        left : IsWrite (terms_in history bus_moved tags old.lines) old.lines.limit way.place way.copy (outside_of old.lines) old.lines.counters (outside_of mid) mid.counters None
        left = w.outside (ap lasting_stop going)

        came : IsLineRead (terms_in history bus_moved tags mid) line (outside_of mid) mid.counters (outside_of new.lines) new.lines.counters answer
        came = r.outside (ap lasting_stop mid_going)

        mid_quiet : IsQuiet new → lines.IsQuiet mid
        mid_quiet quiet = was_none mid.engine.evidence new.lines.engine.evidence r.moves.step.evidence quiet

        then_goes_on : result_err answer ≡ None → lasting_stop new.lines.stopped ≡ None
        then_goes_on ok = ap lasting_stop (r.stopped ∙ ok_stays answer mid.stopped ok mid_going)

        same_geometry : lines.geometry mid ≡ lines.geometry old.lines
        same_geometry = w.moves.step.geometry

        same_used : used new.lines ≡ used mid
        same_used = ap (λ (p : PadEngineView). p.used) came.pads

        whole_part : IsWrittenInPart way.place old new
        whole_part = record { counter = left.counter; next = λ quiet. left.next (mid_quiet quiet); count = left.count; within = left.within; entries = same_used ∙ left.entries }

        anew : IsWrittenAnew way.place old new
        anew =
            let whole = left.whole refl in
            record {
              counter = left.counter;
              next = λ quiet. left.next (mid_quiet quiet);
              entries = same_used ∙ left.entries
                  ∙ ap (λ (xs : List ℕ). used old.lines ++ map (λ at. (at, left.counter)) xs) (take_all left.count (lines_encrypted left.counter way.place) (omega (arith, whole)));
            }

        -- where the write brought in the counters of the line's page, it was the page's own path that it read
        path_written : IsQuiet new → ¬ Contains (cached_pages old) (page_of line) → Contains (lines_cached mid.counters) (page_of line) →
            PathWasRead old.lines.counters.tree (made old.lines) 0 (page_of line) (history old.lines.bus) (history new.lines.bus)
        path_written quiet uncached there = elim ((w.copies (mid_quiet quiet)).blocks (page_of line) there) [
          | inl was ↦ absurd (uncached was)
          | inr came ↦
              let path = left.path (mid_quiet quiet) refl (λ cached. uncached (subst (Contains (cached_pages old)) (sym came.0) cached)) in
              subst (λ (page : ℕ). PathWasRead old.lines.counters.tree (made old.lines) 0 page (history old.lines.bus) (history new.lines.bus)) (sym came.0)
              (path_later old.lines.counters.tree (page_of way.place) (made old.lines) (history old.lines.bus) (history mid.bus) (history new.lines.bus) r.moves.step.reads path)
        ]

        both_call : IsLineCall history old line (Some way) (result_err answer) new
        both_call =
            let most : (history mid.bus).accesses ≤ (history old.lines.bus).accesses + overflow_accesses (lines.geometry old.lines).levels = w.few in
            let then : (history new.lines.bus).accesses ≤ (history mid.bus).accesses + read_accesses (lines.geometry old.lines).levels =
            subst (λ (n : GeometryView). (history new.lines.bus).accesses ≤ (history mid.bus).accesses + read_accesses n.levels) same_geometry came.once in
            record {
              hit = λ there. absurd (unheld there);
              held = held;
              few = omega (arith, most, then);
              once = λ quiet short.
                  let once : (history mid.bus).accesses ≤ (history old.lines.bus).accesses + write_accesses (lines.geometry old.lines).levels = (w.once (mid_quiet quiet) short).0 in
                  omega (arith, once, then);
              alone = λ quiet short other differs. came.alone other differs ∙ (w.once (mid_quiet quiet) short).1 other;
              read = λ quiet ok.
                  elim (r.read.read (then_goes_on ok) quiet) [
                    | inl untagged ↦ inr (inl (untagged_before history old.lines mid new.lines bus_moved tags w.moves line untagged))
                    | inr rose ↦ inr (inr (rose_before history old.lines mid new.lines bus_moved tags w.moves (line_place line) rose))
                  ];
              path = λ quiet ok free uncached.
                  elim (listed_or_not (lines_cached mid.counters) (page_of line)) [
                    | inl there ↦ path_written quiet uncached there
                    | inr out ↦
                        path_on old.lines.counters.tree mid.counters.tree (page_of line) (made old.lines) (made mid) (history old.lines.bus) (history mid.bus) (history new.lines.bus)
                        left.geometry w.moves.step.reads r.moves.step.reads (w.copies (mid_quiet quiet)).nodes
                        (unmade_before (made old.lines) (made mid) w.moves.step.more w.moves.step.made)
                        (r.read.path (then_goes_on ok) quiet out)
                  ];
              unsealed = λ none. absurd (cc);
              fresh = λ none. absurd (cc);
              sealed = λ other is. (
                subst (λ (w : Way). IsWrittenInPart w.place old new) (same_Some way other is) whole_part,
                λ ok. subst (λ (w : Way). IsWrittenAnew w.place old new) (same_Some way other is) anew,
              );
              tampered = λ place is.
                  let named = came.tampered place (stop_is answer (Tampered place) is) in (
                    inl (subst (λ (geometry : GeometryView). (place ≡ line_place line) ⊎ IsFetchPlace geometry (page_of line) place) same_geometry named.0),
                    λ quiet. elim (left.shows quiet) [
                      | inl still ↦ let rose = named.1 still in omega (arith, rose, w.moves.step.lies)
                      | inr rose ↦ omega (arith, rose, r.moves.step.lies)
                    ],
                  );
              untampered = λ other quiet which differs is.
                  not_beside (lines.geometry mid) line other differs (came.tampered (line_place other) (stop_is answer (Tampered (line_place other)) is)).0;
              spent = λ page is. absurd (came.unspent page (stop_is answer (Spent page) is));
              used_up = λ quiet up. absurd ((left.used_up (mid_quiet quiet) up).1 refl);
            }

      pub missed_call : (out : Option Way) (answer : Result (List ℕ) MemStop) →
          IsMiss (ReadMoved history bus_moved tags) (WriteMoved history bus_moved tags) out old.lines line answer new.lines →
          IsLineCall history old line out (result_err answer) new
      missed_call None answer r = read_call answer r
      missed_call (Some way) answer (inl (stop, is, w)) =
          subst (λ (a : Result (List ℕ) MemStop). IsLineCall history old line (Some way) (result_err a) new) (sym is) (stopped_call way stop w)
      missed_call (Some way) answer (inr (mid, w, r)) = both_call way answer mid w r

    -- How the memory moves

    pub missed_moves : ((engine engine' : TagEngineView T) → engine'.geometry ≡ engine.geometry → engine'.tagger ≡ engine.tagger → tags engine' ≡ tags engine) →
        ((first second third : B) (before after : List Access) → bus_moved first before second → bus_moved second after third → bus_moved first (before ++ after) third) →
        (out : Option Way) (answer : Result (List ℕ) MemStop) →
        IsMiss (ReadMoved history bus_moved tags) (WriteMoved history bus_moved tags) out old.lines line answer new.lines →
        Moves history bus_moved tags (IsLineOf old.lines) old.lines new.lines
    missed_moves tags_stay moved_on None answer r = r.moves
    missed_moves tags_stay moved_on (Some way) answer (inl (stop, is, w)) = w.moves
    missed_moves tags_stay moved_on (Some way) answer (inr (mid, w, r)) = own_moves_on history bus_moved tags tags_stay moved_on old.lines mid new.lines w.moves r.moves

    -- the last stop is the call's
    stop_kept : (answer : Result (List ℕ) MemStop) (before : Option MemStop) → before ≡ None → option_or (result_err answer) before ≡ result_err answer
    stop_kept (Ok bytes) before none = none
    stop_kept (Err stop) before none = refl

    pub missed_stops : (out : Option Way) (answer : Result (List ℕ) MemStop) →
        IsMiss (ReadMoved history bus_moved tags) (WriteMoved history bus_moved tags) out old.lines line answer new.lines → new.lines.stopped ≡ result_err answer
    missed_stops None answer r = r.stopped ∙ stop_kept answer old.lines.stopped going
    missed_stops (Some way) answer (inl (stop, is, w)) = w.stopped ∙ sym (ap result_err is)
    missed_stops (Some way) answer (inr (mid, w, r)) = r.stopped ∙ stop_kept answer mid.stopped (w.stopped ∙ going)

    -- The blocks and nodes that have copies

    none_of_both : (stop before : Option MemStop) → option_or stop before ≡ None → stop ≡ None
    none_of_both None before none = refl
    none_of_both (Some stop) before none = absurd (cc)

    came_so : (first second : SecureRamView B T) (page : ℕ) → second.lines.counters.tree.geometry ≡ first.lines.counters.tree.geometry →
        KeepsFew first.lines.counters second.lines.counters → (stop : Option MemStop) → second.lines.stopped ≡ option_or stop first.lines.stopped →
        (IsQuiet second →
        CopiesCame page (history first.lines.bus) (made first.lines) first.lines.counters (history second.lines.bus) (made second.lines) second.lines.counters stop) →
        CopiesHad history first second
    came_so first second page same few stop stops came = record {
      tree_geometry = same;
      few_blocks = few.blocks;
      few_nodes = few.nodes;
      blocks = λ quiet other cached. elim ((came quiet).blocks other cached) [
        | inl was ↦ inl was
        | inr own ↦ inr (subst (PageRead history first second) (sym own.0) own.1)
      ];
      nodes = λ quiet. (came quiet).nodes;
      nodes_came = λ quiet memory.
          (came quiet).nodes_came (λ want. memory (stops ∙ ap (λ (s : Option MemStop). option_or s first.lines.stopped) want));
      blocks_came = λ quiet goes. (came quiet).blocks_came (ap lasting_stop (none_of_both stop first.lines.stopped (sym stops ∙ goes)));
    }

    read_copies : (first : SecureRamView B T) (answer : Result (List ℕ) MemStop) → first.lines.stopped ≡ None →
        ReadMoved history bus_moved tags first.lines line answer new.lines → CopiesHad history first new
    read_copies first answer goes r = came_so first new (page_of line) (r.outside (ap lasting_stop goes)).geometry r.few_copies (result_err answer) r.stopped r.copies

    written_copies : (second : SecureRamView B T) (way : Way) (answer : Result (Unit {0}) MemStop) →
        WriteMoved history bus_moved tags old.lines way.place way.copy answer second.lines → CopiesHad history old second
    written_copies second way answer w = came_so old second (page_of way.place) (w.outside (ap lasting_stop going)).geometry w.few_copies (result_err answer) w.stopped w.copies

    pub missed_copies : (out : Option Way) (answer : Result (List ℕ) MemStop) →
        IsMiss (ReadMoved history bus_moved tags) (WriteMoved history bus_moved tags) out old.lines line answer new.lines → CopiesHad history old new
    missed_copies None answer r = read_copies old answer going r
    missed_copies (Some way) answer (inl (stop, is, w)) = written_copies new way (Err stop) w
    missed_copies (Some way) answer (inr (mid, w, r)) =
        let between : SecureRamView B T = record { lines = mid; ways = old.ways } in
        copies_on history bus_moved tags (IsLineOf old.lines) old between new w.moves
        (own_moves_after history bus_moved tags old.lines mid new.lines w.moves r.moves)
        (λ stop (want : mid.stopped ≡ Some stop). let none : mid.stopped ≡ None = w.stopped ∙ going in absurd (cc))
        (written_copies between way (Ok tt) w) (read_copies between answer (w.stopped ∙ going) r)

    -- no node was read that was never made
    pub missed_unread : (out : Option Way) (answer : Result (List ℕ) MemStop) →
        IsMiss (ReadMoved history bus_moved tags) (WriteMoved history bus_moved tags) out old.lines line answer new.lines →
        IsQuiet new → UnmadeAreUnread (history old.lines.bus) (made new.lines) (history new.lines.bus)
    missed_unread None answer r = r.unread
    missed_unread (Some way) answer (inl (stop, is, w)) = w.unread
    missed_unread (Some way) answer (inr (mid, w, r)) = λ quiet level index none.
        r.unread quiet level index none
        ∙ w.unread (was_none mid.engine.evidence new.lines.engine.evidence r.moves.step.evidence quiet) level index
        (unmade_before (made mid) (made new.lines) r.moves.step.more r.moves.step.made level index none)

    -- it fits what the chip has of it
    pub missed_fits : (out : Option Way) (answer : Result (List ℕ) MemStop) →
        IsMiss (ReadMoved history bus_moved tags) (WriteMoved history bus_moved tags) out old.lines line answer new.lines → FitsUnlessStopped history bus_moved tags new.lines
    missed_fits None answer r = r.fits
    missed_fits (Some way) answer (inl (stop, is, w)) = w.fits
    missed_fits (Some way) answer (inr (mid, w, r)) = r.fits

    -- What the messages say, where the copy that goes out is what its line has, and no other line changes

    abbrev Encrypts : SealedLinesView B T → SealedLinesView B T → Type 0
    Encrypts first second =
        EncryptsContents (lines.enc_key old.lines) (made second) (length (made first)) (length (made second)) (line ∷ []) (contents old) (contents new)

    module _ (stays : (other : ℕ) → other ≢ line → line_at (contents new) other ≡ line_at (contents old) other) where
      read_encrypts : (first second : SealedLinesView B T) (more : List Message) → made second ≡ made first ++ more → data_pairs more ≡ [] → Encrypts first second
      read_encrypts first second more is none = record {
        says = λ at other counter cipher low high there. absurd (no_line_at (made first) more (made second) at other counter cipher is none low there);
      }

      written_encrypts : (mid : SealedLinesView B T) (way : Way) (answer : Result (Unit {0}) MemStop) →
          WriteMoved history bus_moved tags old.lines way.place way.copy answer mid → lines.IsQuiet mid →
          (line_at (contents old) way.place ≡ way.copy) × (way.place ≢ line) → Encrypts old.lines mid
      written_encrypts mid way answer w quiet goes = record {
        says = λ at other counter cipher low high there.
            elim (written_says (terms_in history bus_moved tags old.lines) old.lines.limit way.place way.copy (outside_of old.lines) old.lines.counters
            (outside_of mid) mid.counters (result_err answer) (w.outside (ap lasting_stop going)) quiet at other counter cipher low there) [
              | inl own ↦
                  let had = own.1 ∙ sym goes.0 ∙ ap (line_at (contents old)) (sym own.0) in
                  inr (record {
                    sooner = [];
                    later = line ∷ [];
                    all = refl;
                    before = λ none. had;
                    after = λ none. had ∙ sym (stays other (λ same. goes.1 (sym own.0 ∙ same)));
                  })
              | inr last ↦ inl last
            ];
      }

      missed_encrypts : (out : Option Way) (answer : Result (List ℕ) MemStop) →
          IsMiss (ReadMoved history bus_moved tags) (WriteMoved history bus_moved tags) out old.lines line answer new.lines → IsQuiet new →
          ((way : Way) → out ≡ Some way → (line_at (contents old) way.place ≡ way.copy) × (way.place ≢ line)) → Encrypts old.lines new.lines
      missed_encrypts None answer r quiet goes =
          let seen = r.outside (ap lasting_stop going) in
          read_encrypts old.lines new.lines seen.step.more seen.step.made seen.pairs
      missed_encrypts (Some way) answer (inl (stop, is, w)) quiet goes = written_encrypts new.lines way (Err stop) w quiet (goes way refl)
      missed_encrypts (Some way) answer (inr (mid, w, r)) quiet goes =
          let came = r.outside (ap lasting_stop (w.stopped ∙ going)) in
          encrypts_both (lines.enc_key old.lines) (made mid) came.step.more (made new.lines) (length (made old.lines)) (line ∷ []) (contents old) (contents new) came.step.made
          (written_encrypts mid way (Ok tt) w (was_none mid.engine.evidence new.lines.engine.evidence r.moves.step.evidence quiet) (goes way refl))
          (read_encrypts mid new.lines came.step.more came.step.made came.pairs)

    module _ (out : Option Way) (stop : Option MemStop) (called : IsLineCall history old line out stop new) (stops : stopped new ≡ stop) where
      page_had : stopped new ≡ None → IsQuiet new → PageHad history old new (page_of line)
      page_had still quiet =
          elim (listed_or_not (held_lines old) line) [
            | inl listed ↦ inl (on_chip_of_line (held_lines old) (cached_pages old) line listed)
            | inr free ↦ elim (listed_or_not (cached_pages old) (page_of line)) [
              | inl cached ↦ inl (on_chip_of_page (held_lines old) (cached_pages old) (page_of line) cached)
              | inr uncached ↦ inr (own_was_read history old new (page_of line) (called.path quiet (sym stops ∙ still) free uncached))
            ]
          ]

      line_had : stopped new ≡ None → IsQuiet new → LineHad history old new line × PageHad history old new (page_of line)
      line_had still quiet = (called.read quiet (sym stops ∙ still), page_had still quiet)

      pub call_moved : Moves history bus_moved tags (IsLineOf old.lines) old.lines new.lines → CopiesHad history old new →
          (IsQuiet new → UnmadeAreUnread (history old.lines.bus) (made new.lines) (history new.lines.bus)) →
          (FitsUnlessStopped history bus_moved tags old.lines → FitsUnlessStopped history bus_moved tags new.lines) → length (held_lines new) ≤ most_held →
          (IsQuiet new → (other : ℕ) → other ≢ line → line_at (contents new) other ≡ line_at (contents old) other) →
          (IsQuiet new → Encrypts old.lines new.lines) → IsMoved history bus_moved tags old (line ∷ []) new
      call_moved moves copies unread fits few same encrypts = record {
        moves = moves;
        stays = λ stop is. absurd (cc);
        few = λ was. few;
        copies = copies;
        unread = unread;
        fits = fits;
        had = λ still quiet. record {
          touched = λ other listed. subst (λ (l : ℕ). LineHad history old new l × PageHad history old new (page_of l)) (sym (only_line line other listed)) (line_had still quiet);
          held = λ other there.
              elim (held other there) [
                | inl was ↦ (inl was, inl (on_chip_of_line (held_lines old) (cached_pages old) other was))
                | inr same ↦ subst (λ (l : ℕ). LineHad history old new l × PageHad history old new (page_of l)) (sym same) (line_had still quiet)
              ];
        };
        encrypts = encrypts;
        untouched = λ quiet other none. same quiet other (λ is. none (zero, omega arith, sym is));
      }

  -- a memory that answers its stop again
  pub stopped_unmoved : ((bus : B) → bus_moved bus [] bus) → (memory : SecureRamView B T) (listed : List ℕ) (stop : MemStop) →
      stopped memory ≡ Some stop → IsMoved history bus_moved tags memory listed memory
  stopped_unmoved bus_unmoved memory listed stop is = record {
    moves = moves_not history bus_moved tags (IsLineOf memory.lines) bus_unmoved memory.lines;
    stays = λ other was. was;
    few = λ few. few;
    copies = copies_not history memory memory.ways;
    unread = λ quiet level index none. refl;
    fits = λ fits. fits;
    had = λ going quiet. absurd (cc);
    encrypts = λ quiet. encrypts_none (lines.enc_key memory.lines) (made memory.lines) (length (made memory.lines)) listed (contents memory) (contents memory);
    untouched = λ quiet line none. refl;
  }

-- What is seen of a cache of the lines outside
abbrev pub memory_of : {B T : Type 0} → LineCacheView (SealedLinesView B T) → SecureRamView B T
memory_of cache = record { lines = cache.store; ways = cache.lines }

changed_if : (b : Bool) (found way : Way) → cond b (Some found) None ≡ Some way → found ≡ way
changed_if true found way e = same_Some found way e
changed_if false found way e = absurd (cc)

changed_is : (found : Option Way) (way : Way) → if_changed found ≡ Some way → found ≡ Some way
changed_is None way e = absurd (cc)
changed_is (Some found) way e = ap Some (changed_if found.changed found way e)

-- A call of the cache by a line
module _ {B T : Type 0} (history : B → BusHistory) (bus_moved : B → List Access → B → Type 0) (tags : TagEngineView T → Message → List ℕ)
    (cache cache' : LineCacheView (SealedLinesView B T)) (line : ℕ) (stop : Option MemStop) (copied : List ℕ → List ℕ)
    (going : cache.store.stopped ≡ None)
    (chain : IsChain (ReadMoved history bus_moved tags) (WriteMoved history bus_moved tags) cache (line ∷ []) cache')
    (hit : Contains (places cache.lines) line → stop ≡ None)
    (missed : ¬ Contains (places cache.lines) line →
    IsMissed (ReadMoved history bus_moved tags) (WriteMoved history bus_moved tags) cache.lines cache.store line copied stop cache'.lines cache'.store) where
  step : IsStep (ReadMoved history bus_moved tags) (WriteMoved history bus_moved tags) cache line cache'
  step =
      subst (λ (c : LineCacheView (SealedLinesView B T)). IsStep (ReadMoved history bus_moved tags) (WriteMoved history bus_moved tags) cache line c)
      (sym chain.2) chain.1

  abbrev old : SecureRamView B T
  old = memory_of cache

  abbrev new : SecureRamView B T
  new = memory_of cache'

  pub called : IsLineCall history old line (leaving cache.lines line) stop new
  called = elim (listed_or_not (places cache.lines) line) [
    | inl there ↦
        subst (λ (s : Option MemStop). IsLineCall history old line (leaving cache.lines line) s new) (sym (hit there))
        (subst (λ (out : Option Way). IsLineCall history old line out None new) (sym (step.hit there).1)
        (hit_call history bus_moved tags old new line going step.held there (step.hit there).0))
    | inr out ↦
        let m = missed out in
        subst (λ (s : Option MemStop). IsLineCall history old line (leaving cache.lines line) s new) m.stops
        (missed_call history bus_moved tags old new line going step.held out (leaving cache.lines line) m.answer m.miss)
  ]

  pub stops_so : cache'.store.stopped ≡ stop
  stops_so = elim (listed_or_not (places cache.lines) line) [
    | inl there ↦ ap (λ (l : SealedLinesView B T). l.stopped) (step.hit there).0 ∙ going ∙ sym (hit there)
    | inr out ↦ let m = missed out in missed_stops history bus_moved tags old new line going step.held (leaving cache.lines line) m.answer m.miss ∙ m.stops
  ]

  pub fits_so : FitsUnlessStopped history bus_moved tags cache.store → FitsUnlessStopped history bus_moved tags cache'.store
  fits_so was = elim (listed_or_not (places cache.lines) line) [
    | inl there ↦ subst (λ (l : SealedLinesView B T). FitsUnlessStopped history bus_moved tags l) (sym (step.hit there).0) was
    | inr out ↦ let m = missed out in missed_fits history bus_moved tags old new line going step.held (leaving cache.lines line) m.answer m.miss
  ]

  -- the copy that goes out is what its line has
  goes : AreCopies (lines.lines_of cache.store) cache.lines → (way : Way) → leaving cache.lines line ≡ Some way →
      (line_at (contents old) way.place ≡ way.copy) × (way.place ≢ line)
  goes copies way leaves =
      let is : victim_for cache.lines line ≡ Some way = changed_is (victim_for cache.lines line) way leaves in
      let there : way_at cache.lines way.place ≡ Some way = goes_there line_sets cache.lines copies.cache line way is in (
        over_held (lines.contents cache.store) (lines.lines_of cache.store) cache.lines way.place way (copies.inside way.place way there) there (copies.whole way.place way there),
        λ same. none-some way (sym (goes_for_none line_sets cache.lines copies.cache line way is) ∙ ap (way_at cache.lines) (sym same) ∙ there),
      )

  pub moved_so : AreCopies (lines.lines_of cache.store) cache.lines →
      (IsQuiet new → (other : ℕ) → other ≢ line → line_at (contents new) other ≡ line_at (contents old) other) → ((bus : B) → bus_moved bus [] bus) →
      ((engine engine' : TagEngineView T) → engine'.geometry ≡ engine.geometry → engine'.tagger ≡ engine.tagger → tags engine' ≡ tags engine) →
      ((first second third : B) (before after : List Access) → bus_moved first before second → bus_moved second after third → bus_moved first (before ++ after) third) →
      IsMoved history bus_moved tags old (line ∷ []) new
  moved_so copies same unmoved tags_stay moved_on =
      call_moved history bus_moved tags old new line going step.held (leaving cache.lines line) stop called stops_so
      (elim (listed_or_not (places cache.lines) line) [
        | inl there ↦
            subst (λ (l : SealedLinesView B T). Moves history bus_moved tags (IsLineOf cache.store) cache.store l) (sym (step.hit there).0)
            (moves_not history bus_moved tags (IsLineOf cache.store) unmoved cache.store)
        | inr out ↦ let m = missed out in missed_moves history bus_moved tags old new line going step.held tags_stay moved_on (leaving cache.lines line) m.answer m.miss
      ])
      (elim (listed_or_not (places cache.lines) line) [
        | inl there ↦ subst (λ (l : SealedLinesView B T). CopiesHad history old (record { lines = l; ways = cache'.lines })) (sym (step.hit there).0) (copies_not history old cache'.lines)
        | inr out ↦ let m = missed out in missed_copies history bus_moved tags old new line going step.held (leaving cache.lines line) m.answer m.miss
      ])
      (elim (listed_or_not (places cache.lines) line) [
        | inl there ↦ λ quiet level index none. ap (λ (l : SealedLinesView B T). (history l.bus).reads (node_place level index)) (step.hit there).0
        | inr out ↦ let m = missed out in missed_unread history bus_moved tags old new line going step.held (leaving cache.lines line) m.answer m.miss
      ])
      fits_so step.few same
      (λ quiet. elim (listed_or_not (places cache.lines) line) [
        | inl there ↦
            subst (λ (l : SealedLinesView B T). EncryptsContents (lines.enc_key cache.store) (made l) (length (made cache.store)) (length (made l)) (line ∷ []) (contents old) (contents new))
            (sym (step.hit there).0) (encrypts_none (lines.enc_key cache.store) (made cache.store) (length (made cache.store)) (line ∷ []) (contents old) (contents new))
        | inr out ↦
            let m = missed out in
            missed_encrypts history bus_moved tags old new line going step.held (same quiet) (leaving cache.lines line) m.answer m.miss quiet (goes copies)
      ])

  pub few_so : length (held_lines new) ≤ most_held
  few_so = step.few

pub ok_goes : {A : Type 0} (answer : Result A MemStop) → IsOk answer → result_err answer ≡ None
ok_goes (Ok value) ok = refl
ok_goes (Err stop) ok = absurd (true≢false (sym ok))

-- a line that has a copy is held
pub copy_held : (ways : List (List Way)) (line : ℕ) (copy : List ℕ) → copy_at ways line ≡ Some copy → Contains (places ways) line
copy_held ways line copy is =
    let found = way_of_copy (way_at ways line) copy is in
    listed_at ways line (subst IsSome (sym found.1) refl)
