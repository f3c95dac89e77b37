-- The files of two programs that share the core.
use Rattle.std.proofs.Common.{◌≡◌, ◌≤◌, ℕ, List, [], ◌∷◌, ◌++◌, length, get_or, Option, Some, None, IfSome, Result, true, refl, sym, ap, subst, arith, append_assoc}
use Rattle.std.specs.Prelude.{IfOk, OnOk, nat_lt, option_map}
use Rattle.std.specs.Result.{IfErr}
use Rattle.std.proofs.lemmas.List.Elements.{All-get_or}
use Rattle.std.proofs.lemmas.List.Quantifiers.{position-Some}
use Rattle.adversary_script.specs.Script.{FitScript}
use Rattle.adversary_script.specs.declared.script.ScriptLine.{ScriptLine}
use Rattle.sec_base.specs.Files.{FilesState, HasBytes}
use Rattle.sec_base.specs.Geometry.{GeometryView, memory_size, one}
use Rattle.sec_base.specs.Program.{IsImageOf, Program}
use Rattle.sec_base.specs.declared.image.Image.{Image}
use Rattle.turn_order.specs.OrderError.{wrong_place}
use Rattle.turn_order.specs.Side.{NamesSide}
use Rattle.turn_order.specs.TurnOrder.{IsOrder}
use Rattle.turn_order.specs.declared.order_error.OrderError.{OrderError}
use Rattle.chip_words.specs.Defaults.{side_run}
use Rattle.chip_words.specs.Request.{FileAsked, PairAsked}
use Rattle.chip_files.specs.declared.refusal.Refusal.TheVariants.{Order}
use Rattle.chip_files.specs.declared.stop.Stop.{Stop}
use Rattle.chip_files.specs.Orders.{order_fault, order_limit}
use Rattle.chip_files.specs.Needs.{Need, AreAccepted, names, order_need, order_needs, pair_needs, program_need, script_need, script_needs}
use Rattle.chip_files.specs.Causes.{Asks, IsLater}
use Rattle.chip_files.specs.Stop.{IsStoppedBy, order_stop_of}
use Rattle.chip_files.specs.Taken.{IsOrderOf, IsProgram, IsScript, ReadsPair}
use Rattle.chip_files.proofs.Paired.{order_accepted}
use Rattle.chip_files.proofs.Takings.{accepted_before, all_before, asks_more, both_accepted, later_by, later_on, stops_first, stops_here, stops_later}

-- ---- an order of turns

-- a byte of it is none that names no side
names_none : (byte : ℕ) → NamesSide byte → nat_lt 1 byte ≡ true → ⊥
names_none byte names wrong = grind arith

no_place : (bytes : List ℕ) (found : Option ℕ) → wrong_place bytes ≡ found → IsOrder bytes → found ≡ None
no_place bytes None is order = refl
no_place bytes (Some place) is order =
    let at = position-Some (λ byte. nat_lt 1 byte) bytes place 0 is in
    absurd (names_none (get_or bytes place 0) (All-get_or NamesSide bytes place 0 at.0 order) at.1)

-- it has its form
pub order_formed : (bytes : List ℕ) → IsOrder bytes → order_fault bytes ≡ None
order_formed bytes order = rw (no_place bytes (wrong_place bytes) refl order) refl

-- a file was read, and is none
pub no_order : (error : OrderError) (name bytes : List ℕ) (old new : FilesState) → HasBytes old.held name bytes → length bytes ≤ order_limit → Asks (order_need name ∷ []) old new →
    wrong_place bytes ≡ Some error.place → IsStoppedBy (order_stop_of error) (order_need name ∷ []) old new
no_order error name bytes old new told within asked wrong =
    stops_here (Order error) (order_need name) old new asked
    (record { bytes = bytes; told = told; within = within; fault = ap (option_map (λ place. Order (record { place = place }))) wrong })

-- ---- what was read later is so by the files before

pub program_before : (file : FileAsked) (program : Program) (old mid : FilesState) → mid.held ≡ old.held → IsProgram mid file program → IsProgram old file program
program_before file program old mid same is = record {
  bytes = is.bytes;
  accepted = accepted_before (program_need file) is.bytes old mid same is.accepted;
  is = is.is;
}

pub order_before : (name : Option (List ℕ)) (order : List ℕ) (old mid : FilesState) → mid.held ≡ old.held → IsOrderOf mid name order → IsOrderOf old name order
order_before None order old mid same is = is
order_before (Some name) order old mid same is = accepted_before (order_need name) order old mid same is

pub script_before : (geometry : GeometryView) (name : Option (List ℕ)) (script : Option (List ScriptLine)) (old mid : FilesState) → mid.held ≡ old.held → IsScript mid geometry name script →
    IsScript old geometry name script
script_before geometry None None old mid same is = tt
script_before geometry None (Some script) old mid same is = absurd is
script_before geometry (Some name) None old mid same is = absurd is
script_before geometry (Some name) (Some script) old mid same is = record {
  bytes = is.bytes;
  accepted = accepted_before (script_need geometry name) is.bytes old mid same is.accepted;
  is = is.is;
}

-- ---- files that were taken, and then others

-- these files were taken: just they were asked for, and each is accepted
pub record Took (needs : List Need) (old new : FilesState) : Type 0 where
  pub accepted : AreAccepted old needs
  pub asked : Asks needs old new
  pub later : IsLater old new

pub program_took : (file : FileAsked) (program : Program) (old new : FilesState) → IsProgram old file program → Asks (program_need file ∷ []) old new →
    new.held ≡ old.held → new.faults ≡ old.faults → old.taken ≤ new.taken → Took (program_need file ∷ []) old new
program_took file program old new is asked held faults taken =
    record { accepted = ((is.bytes, is.accepted), tt); asked = asked; later = later_by held faults taken }

pub order_took : (name : Option (List ℕ)) (order : List ℕ) (old new : FilesState) → IsOrderOf old name order → Asks (order_needs name) old new →
    new.held ≡ old.held → new.faults ≡ old.faults → old.taken ≤ new.taken → Took (order_needs name) old new
order_took name order old new is asked held faults taken =
    record { accepted = order_accepted name order old is; asked = asked; later = later_by held faults taken }

took_more : (first others : List Need) (old mid new : FilesState) → Took first old mid → Took others mid new → Took (first ++ others) old new
took_more first others old mid new once then = record {
  accepted = both_accepted first others old once.accepted (all_before others old mid once.later.held then.accepted);
  asked = asks_more first others old mid new once.asked then.asked;
  later = later_on old mid new once.later then.later;
}

stops_after : (stop : Stop) (first needs : List Need) (old mid new : FilesState) → Took first old mid → IsStoppedBy stop needs mid new → IsStoppedBy stop (first ++ needs) old new
stops_after stop first needs old mid new once stops =
    stops_later stop first needs old mid new once.accepted once.asked once.later stops

-- ---- the files of a pair

abbrev pub first_file : PairAsked → FileAsked
first_file pair = (side_run pair.first).execution.file

abbrev pub second_file : PairAsked → FileAsked
second_file pair = (side_run pair.second).execution.file

-- the scripts that it needs
abbrev pub pair_scripts : PairAsked → List Need
pair_scripts pair = script_needs (one 4) pair.first.script ++ script_needs (one 4) pair.second.script

-- all that it needs, its scripts taken together
abbrev grouped : PairAsked → List Need
grouped pair = program_need (first_file pair) ∷ program_need (second_file pair) ∷ (order_needs pair.order ++ pair_scripts pair)

are_grouped : (pair : PairAsked) → grouped pair ≡ pair_needs pair
are_grouped pair = ap (λ (needs : List Need). program_need (first_file pair) ∷ program_need (second_file pair) ∷ needs)
    (sym (append_assoc (order_needs pair.order) (script_needs (one 4) pair.first.script) (script_needs (one 4) pair.second.script)))

stopped_by : (stop : Stop) (pair : PairAsked) (old new : FilesState) → IsStoppedBy stop (grouped pair) old new → IsStoppedBy stop (pair_needs pair) old new
stopped_by stop pair old new stops = subst (λ (needs : List Need). IsStoppedBy stop needs old new) (are_grouped pair) stops

-- a program is that of one of its files
pub side_taken : (file asked : FileAsked) (files : FilesState) (result : Result Image Stop) → file ≡ asked →
    IfOk result (λ image. (program : Program) × IsImageOf (memory_size file.geometry) program image × IsProgram files file program) →
    IfOk result (λ image. (program : Program) × IsImageOf (memory_size asked.geometry) program image × IsProgram files asked program)
side_taken file asked files result same taken =
    subst (λ (f : FileAsked). IfOk result (λ image. (program : Program) × IsImageOf (memory_size f.geometry) program image × IsProgram files f program)) same taken

pub side_asks : (file asked : FileAsked) (before after : List (List ℕ)) (result : Result Image Stop) → file ≡ asked → OnOk result (after ≡ before ++ file.name ∷ []) →
    OnOk result (after ≡ before ++ asked.name ∷ [])
side_asks file asked before after result same asks = subst (λ (f : FileAsked). OnOk result (after ≡ before ++ f.name ∷ [])) same asks

pub side_stopped : (file asked : FileAsked) (old new : FilesState) (result : Result Image Stop) → file ≡ asked → IfErr result (λ stop. IsStoppedBy stop (program_need file ∷ []) old new) →
    IfErr result (λ stop. IsStoppedBy stop (program_need asked ∷ []) old new)
side_stopped file asked old new result same stops =
    subst (λ (f : FileAsked). IfErr result (λ stop. IsStoppedBy stop (program_need f ∷ []) old new)) same stops

-- its first program stopped it
pub stops_at_first : (stop : Stop) (pair : PairAsked) (old new : FilesState) → IsStoppedBy stop (program_need (first_file pair) ∷ []) old new → IsStoppedBy stop (pair_needs pair) old new
stops_at_first stop pair old new stops = stopped_by stop pair old new
    (stops_first stop (program_need (first_file pair) ∷ []) (program_need (second_file pair) ∷ (order_needs pair.order ++ pair_scripts pair)) old new stops)

-- its second program stopped it
pub stops_at_second : (stop : Stop) (pair : PairAsked) (old once new : FilesState) → Took (program_need (first_file pair) ∷ []) old once →
    IsStoppedBy stop (program_need (second_file pair) ∷ []) once new → IsStoppedBy stop (pair_needs pair) old new
stops_at_second stop pair old once new first stops = stopped_by stop pair old new
    (stops_after stop (program_need (first_file pair) ∷ []) (program_need (second_file pair) ∷ (order_needs pair.order ++ pair_scripts pair)) old once new first
    (stops_first stop (program_need (second_file pair) ∷ []) (order_needs pair.order ++ pair_scripts pair) once new stops))

-- both programs were taken
took_both : (pair : PairAsked) (old once twice : FilesState) → Took (program_need (first_file pair) ∷ []) old once → Took (program_need (second_file pair) ∷ []) once twice →
    Took (program_need (first_file pair) ∷ program_need (second_file pair) ∷ []) old twice
took_both pair old once twice first second =
    took_more (program_need (first_file pair) ∷ []) (program_need (second_file pair) ∷ []) old once twice first second

-- the order stopped it
pub stops_at_order : (stop : Stop) (pair : PairAsked) (old once twice new : FilesState) → Took (program_need (first_file pair) ∷ []) old once → Took (program_need (second_file pair) ∷ []) once twice →
    IsStoppedBy stop (order_needs pair.order) twice new → IsStoppedBy stop (pair_needs pair) old new
stops_at_order stop pair old once twice new first second stops = stopped_by stop pair old new
    (stops_after stop (program_need (first_file pair) ∷ program_need (second_file pair) ∷ []) (order_needs pair.order ++ pair_scripts pair) old twice new
    (took_both pair old once twice first second) (stops_first stop (order_needs pair.order) (pair_scripts pair) twice new stops))

-- the programs and the order were taken
took_order : (pair : PairAsked) (old once twice thrice : FilesState) → Took (program_need (first_file pair) ∷ []) old once → Took (program_need (second_file pair) ∷ []) once twice →
    Took (order_needs pair.order) twice thrice → Took (program_need (first_file pair) ∷ program_need (second_file pair) ∷ order_needs pair.order) old thrice
took_order pair old once twice thrice first second order =
    took_more (program_need (first_file pair) ∷ program_need (second_file pair) ∷ []) (order_needs pair.order) old twice thrice
    (took_both pair old once twice first second) order

-- a script stopped it
pub stops_at_scripts : (stop : Stop) (pair : PairAsked) (old once twice thrice new : FilesState) → Took (program_need (first_file pair) ∷ []) old once → Took (program_need (second_file pair) ∷ []) once twice →
    Took (order_needs pair.order) twice thrice → IsStoppedBy stop (pair_scripts pair) thrice new → IsStoppedBy stop (pair_needs pair) old new
stops_at_scripts stop pair old once twice thrice new first second order stops = stopped_by stop pair old new
    (stops_after stop (program_need (first_file pair) ∷ program_need (second_file pair) ∷ order_needs pair.order) (pair_scripts pair) old thrice new
    (took_order pair old once twice thrice first second order) stops)

-- all of them were read
pub reads_pair : (pair : PairAsked) (first second : Program) (order : List ℕ) (script1 script2 : Option (List ScriptLine)) (old once twice thrice new : FilesState) → Took (program_need (first_file pair) ∷ []) old once →
    Took (program_need (second_file pair) ∷ []) once twice → Took (order_needs pair.order) twice thrice → IsProgram old (first_file pair) first → IsProgram once (second_file pair) second →
    IsOrderOf twice pair.order order → IsScript thrice (one 4) pair.first.script script1 → IsScript thrice (one 4) pair.second.script script2 → Asks (pair_scripts pair) thrice new →
    ReadsPair pair old new first second order script1 script2
reads_pair pair first second order script1 script2 old once twice thrice new took1 took2 took3 first_is second_is order_is script1_is script2_is asked =
    let both = took_both pair old once twice took1 took2 in
    let three = took_order pair old once twice thrice took1 took2 took3 in
    record {
      first_is = first_is;
      second_is = program_before (second_file pair) second old once took1.later.held second_is;
      order_is = order_before pair.order order old twice both.later.held order_is;
      first_script_is = script_before (one 4) pair.first.script script1 old thrice three.later.held script1_is;
      second_script_is = script_before (one 4) pair.second.script script2 old thrice three.later.held script2_is;
      asked = subst (λ (needs : List Need). Asks needs old new) (are_grouped pair)
          (asks_more (program_need (first_file pair) ∷ program_need (second_file pair) ∷ order_needs pair.order) (pair_scripts pair) old thrice new three.asked asked);
    }

-- the scripts stopped it, of memories of this shape
pub scripts_stopped : (shape asked : GeometryView) (stop : Stop) (first second : Option (List ℕ)) (old new : FilesState) → shape ≡ asked →
    IsStoppedBy stop (script_needs shape first ++ script_needs shape second) old new → IsStoppedBy stop (script_needs asked first ++ script_needs asked second) old new
scripts_stopped shape asked stop first second old new same stops =
    subst (λ (s : GeometryView). IsStoppedBy stop (script_needs s first ++ script_needs s second) old new) same stops

-- files of which just this was asked
abbrev that_asked : List (List ℕ) → FilesState
that_asked asked = record { held = None; faults = 0; taken = 0; asked = asked }

-- and were asked for
pub scripts_asked : (shape asked : GeometryView) (first second : Option (List ℕ)) (before mid after : List (List ℕ)) → shape ≡ asked → mid ≡ before ++ names (script_needs shape first) →
    after ≡ mid ++ names (script_needs shape second) → after ≡ before ++ names (script_needs asked first ++ script_needs asked second)
scripts_asked shape asked first second before mid after same once then =
    subst (λ (s : GeometryView). after ≡ before ++ names (script_needs s first ++ script_needs s second)) same
    (asks_more (script_needs shape first) (script_needs shape second) (that_asked before) (that_asked mid) (that_asked after) once then)

-- and fit
pub script_fits : (shape asked : GeometryView) (script : Option (List ScriptLine)) → shape ≡ asked → IfSome script (FitScript shape) → IfSome script (FitScript asked)
script_fits shape asked script same fits = subst (λ (s : GeometryView). IfSome script (FitScript s)) same fits

pub script_is : (shape asked : GeometryView) (name : Option (List ℕ)) (script : Option (List ScriptLine)) (old mid : FilesState) → shape ≡ asked → mid.held ≡ old.held → IsScript mid shape name script →
    IsScript old asked name script
script_is shape asked name script old mid same held is =
    subst (λ (s : GeometryView). IsScript old s name script) same (script_before shape name script old mid held is)
