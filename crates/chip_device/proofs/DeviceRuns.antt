-- A run on the device, as its pieces were made.
use Rattle.std.proofs.Common.{◌≡◌, ◌∙◌, ℕ, List, [], Option, Some, None, Result, Ok, Err, refl, sym, ap, subst}
use Rattle.std.specs.Result.{IsOkAnd}
use Rattle.sec_base.specs.Geometry.{GeometryView, memory_size}
use Rattle.sec_base.specs.Sink.{SinkState}
use Rattle.sec_base.specs.declared.image.Image.{Image}
use Rattle.elf_load.specs.Measurement.{measurement_by, measurement_of}
use Rattle.hmac_tag.specs.DeviceKeys.{keys_of}
use Rattle.hmac_tag.specs.Tags.{TagKeys, tag_of, xor_tag_of}
use Rattle.hmac_tag.specs.declared.derivation.Keys.{Keys}
use Rattle.tag_engine.specs.Tag.{engine_tag}
use Rattle.rv32_core.specs.Machine.{opening as image_opening}
use Rattle.rv32_run.specs.StoredLines.{image_lines}
use Rattle.sec_base.specs.Program.{IsImageOf, Program}
use Rattle.chip_words.specs.declared.request.Tags.TheVariants.{Hmac, Xor}
use Rattle.chip_words.specs.declared.request.Terms.{Terms}
use Rattle.adversary_script.specs.declared.script.ScriptLine.{ScriptLine}
use Rattle.sec_base.specs.declared.message.Message.{Message}
use Rattle.bus_model.specs.Access.{Access, CameBy}
use Rattle.bus_model.specs.BusHistory.{BusHistory, NothingWritten, new_history}
use Rattle.chip_run.specs.Pair.{RunsAsSide}
use Rattle.chip_run.specs.Run.{KeepsAccesses, RunsProtected, Terms as RunTerms, run_terms}
use Rattle.chip_run.specs.declared.pair.SideStop.{SideStop}
use Rattle.chip_run.specs.declared.record.RunRecord.{RunRecord}
use Rattle.chip_run.specs.declared.record.Setup.{Setup}
use Rattle.chip_words.specs.Request.{RunAsked}
use Rattle.chip_device.specs.Buses.{IsBusOf, IsSameKind, WentOver, kind_told, run_history}
use Rattle.chip_device.specs.declared.run_bus.RunBus.{RunBus}
use Rattle.chip_device.specs.declared.run_bus.RunBus.TheVariants.{Honest, Script}
use Rattle.chip_device.specs.Device.{device_enc_key, device_tag, opening, setup_of, terms_of}
use Rattle.chip_device.specs.Paired.{RunsBeside}
use Rattle.chip_device.specs.Printed.{gathered}

-- the tags are the device's, where they are HMACs
pub hmac_tag_is : (terms : Terms) (tagger : TagKeys) (keys : Keys) (geometry : GeometryView) → terms.tags ≡ Hmac → tagger ≡ record { line_key = keys.line_key; tree_key = keys.tree_key } → keys ≡ keys_of terms.device_key →
    engine_tag (tag_of tagger.line_key) (tag_of tagger.tree_key) geometry ≡ device_tag terms geometry
unfolding device_tag
hmac_tag_is terms tagger keys geometry tags under derived = rw (tags, under, derived) refl

-- and where they are made by xor
pub xor_tag_is : (terms : Terms) (tagger : TagKeys) (keys : Keys) (geometry : GeometryView) → terms.tags ≡ Xor → tagger ≡ record { line_key = keys.line_key; tree_key = keys.tree_key } → keys ≡ keys_of terms.device_key →
    engine_tag (xor_tag_of tagger.line_key) (xor_tag_of tagger.tree_key) geometry ≡ device_tag terms geometry
unfolding device_tag
xor_tag_is terms tagger keys geometry tags under derived = rw (tags, under, derived) refl

-- and so is the key that lines are encrypted under
pub enc_key_is : (terms : Terms) (keys : Keys) → keys ≡ keys_of terms.device_key → keys.enc_key ≡ device_enc_key terms
unfolding device_enc_key
enc_key_is terms keys derived = rw derived refl

-- the machine is the program's as it begins
pub opening_is : (geometry : GeometryView) (program : Program) (input : List ℕ) (image : Image) → IsImageOf (memory_size geometry) program image → image_opening image input ≡ opening geometry program input
opening_is geometry program input image is = rw (is.entry, is.memory, is.segments) refl

-- the lines that storing it touches are the program's
pub stored_lines_are : (geometry : GeometryView) (program : Program) (image : Image) → IsImageOf (memory_size geometry) program image → image_lines image.segments ≡ image_lines program.segments
stored_lines_are geometry program image is = ap image_lines is.segments

-- and so is what was measured
pub measurement_is : (geometry : GeometryView) (program : Program) (image : Image) → IsImageOf (memory_size geometry) program image →
    measurement_of image ≡ measurement_by program.entry (memory_size geometry) program.segments
measurement_is geometry program image is = rw (is.entry, is.memory, is.segments) refl

-- the program that there is
pub program_of : {E : Type 0} (made : Result Program E) (P : Program → Type 0) → IsOkAnd made P → (program : Program) × (made ≡ Ok program) × P program
program_of (Ok program) P holds = (program, refl, holds)
program_of (Err fault) P holds = absurd holds

-- a bus that follows a script follows it still
pub still_of : (script : Option (List ScriptLine)) (old new : RunBus) (accesses : List Access) → IsBusOf script old → IsSameKind old accesses new → IsBusOf script new
still_of None (Honest old) (Honest new) accesses is same = tt
still_of (Some script) (Script old) (Script new) accesses is same = same.0 ∙ is
still_of None (Honest old) (Script new) accesses is same = absurd same
still_of (Some script) (Script old) (Honest new) accesses is same = absurd same
still_of None (Script old) new accesses is same = absurd is
still_of (Some script) (Honest old) new accesses is same = absurd is

-- ---- the terms of a run, as it was set up

-- they are those that it was asked on
terms_are : (asked : RunAsked) (program : Program) (input : List ℕ) (image : Image) (setup : Setup) (tagged : Message → List ℕ) → setup ≡ setup_of asked →
    tagged ≡ device_tag asked.terms asked.execution.file.geometry → IsImageOf (memory_size asked.execution.file.geometry) program image → run_terms image input setup tagged ≡ terms_of asked program input
terms_are asked program input image setup tagged is tags flat =
    let geometry : setup.geometry ≡ asked.execution.file.geometry = ap (λ (s : Setup). s.geometry) is in
    let budget : setup.budget ≡ asked.execution.steps = ap (λ (s : Setup). s.budget) is in
    let limit : setup.page_limit ≡ asked.terms.page_limit = ap (λ (s : Setup). s.page_limit) is in
    let nonce : setup.nonce ≡ asked.terms.nonce = ap (λ (s : Setup). s.nonce) is in
    let key = enc_key_is asked.terms setup.keys (ap (λ (s : Setup). s.keys) is) in
    let signed : setup.keys.report_key ≡ (keys_of asked.terms.device_key).report_key = ap (λ (s : Setup). s.keys.report_key) is in
    let opens = opening_is asked.execution.file.geometry program input image flat in
    let stored = stored_lines_are asked.execution.file.geometry program image flat in
    let measured = measurement_is asked.execution.file.geometry program image flat in
    rw (geometry, budget, limit, nonce, key, signed, opens, stored, measured, tags) refl

-- where tags are HMACs
pub hmac_terms_are : (asked : RunAsked) (program : Program) (input : List ℕ) (image : Image) (setup : Setup) (tagger : TagKeys) → asked.terms.tags ≡ Hmac → setup ≡ setup_of asked →
    tagger ≡ record { line_key = setup.keys.line_key; tree_key = setup.keys.tree_key } → IsImageOf (memory_size asked.execution.file.geometry) program image →
    run_terms image input setup (engine_tag (tag_of tagger.line_key) (tag_of tagger.tree_key) setup.geometry) ≡ terms_of asked program input
hmac_terms_are asked program input image setup tagger tags is under flat =
    terms_are asked program input image setup (engine_tag (tag_of tagger.line_key) (tag_of tagger.tree_key) setup.geometry) is
    (hmac_tag_is asked.terms tagger setup.keys setup.geometry tags under (ap (λ (s : Setup). s.keys) is) ∙ ap (λ (s : Setup). device_tag asked.terms s.geometry) is) flat

-- and where they are made by xor
pub xor_terms_are : (asked : RunAsked) (program : Program) (input : List ℕ) (image : Image) (setup : Setup) (tagger : TagKeys) → asked.terms.tags ≡ Xor → setup ≡ setup_of asked →
    tagger ≡ record { line_key = setup.keys.line_key; tree_key = setup.keys.tree_key } → IsImageOf (memory_size asked.execution.file.geometry) program image →
    run_terms image input setup (engine_tag (xor_tag_of tagger.line_key) (xor_tag_of tagger.tree_key) setup.geometry) ≡ terms_of asked program input
xor_terms_are asked program input image setup tagger tags is under flat =
    terms_are asked program input image setup (engine_tag (xor_tag_of tagger.line_key) (xor_tag_of tagger.tree_key) setup.geometry) is
    (xor_tag_is asked.terms tagger setup.keys setup.geometry tags under (ap (λ (s : Setup). s.keys) is) ∙ ap (λ (s : Setup). device_tag asked.terms s.geometry) is) flat

-- what a run comes to, by the terms that it was asked on, over a bus that was new
pub runs_asked : (terms asked : RunTerms) (out out' : SinkState) (before begins after : BusHistory) (run : RunRecord) → terms ≡ asked → before ≡ begins → RunsProtected terms out out' before after run →
    RunsProtected asked out out' begins after run
runs_asked terms asked out out' before begins after run same new runs =
    subst (λ (t : RunTerms). RunsProtected t out out' begins after run) same (subst (λ (b : BusHistory). RunsProtected terms out out' b after run) new runs)

-- and so what it tells of its accesses
pub keeps_asked : (terms asked : RunTerms) (run : RunRecord) (after : BusHistory) (accesses : List Access) → terms ≡ asked → KeepsAccesses terms after accesses run → KeepsAccesses asked after accesses run
keeps_asked terms asked run after accesses same keeps = subst (λ (t : RunTerms). KeepsAccesses t after accesses run) same keeps

-- what went over a bus that was new
pub went_over : (asked : RunTerms) (run : RunRecord) (old new : RunBus) (accesses : List Access) → run_history old ≡ new_history asked.geometry → IsSameKind old accesses new →
    KeepsAccesses asked (run_history new) accesses run → WentOver asked run new
went_over asked run old new accesses begins moved keeps = record {
  accesses = accesses;
  came = subst (λ (history : BusHistory). CameBy history accesses (run_history new)) begins (kind_told old new accesses moved);
  keeps = keeps;
}

-- a bus that is new fits a setup, and nothing was written to it
pub has_shape : (asked : RunAsked) (setup : Setup) → setup ≡ setup_of asked → setup.geometry ≡ asked.execution.file.geometry
has_shape asked setup is = ap (λ (s : Setup). s.geometry) is

pub is_unwritten : (history : BusHistory) (geometry : GeometryView) → history ≡ new_history geometry → NothingWritten history
is_unwritten history geometry is = subst (λ (h : BusHistory). NothingWritten h) (sym is) (record { zeros = λ place inside. refl })

-- one of two programs that shared the core, by the terms that it was asked on, over a bus that was new
pub runs_beside : (terms asked : RunTerms) (begun printed : List ℕ) (run : RunRecord) (old new : RunBus) (stop : Option SideStop) (accesses : List Access) → terms ≡ asked → begun ≡ [] →
    run_history old ≡ new_history asked.geometry → RunsAsSide terms (gathered begun) (gathered printed) (run_history old) (run_history new) stop run → IsSameKind old accesses new → KeepsAccesses terms (run_history new) accesses run →
    RunsBeside asked printed run new stop
runs_beside terms asked begun printed run old new stop accesses same empty begins side moved keeps = record {
  side = subst (λ (t : RunTerms). RunsAsSide t (gathered []) (gathered printed) (new_history asked.geometry) (run_history new) stop run) same
      (subst (λ (b : BusHistory). RunsAsSide terms (gathered []) (gathered printed) b (run_history new) stop run) begins
      (subst (λ (bytes : List ℕ). RunsAsSide terms (gathered bytes) (gathered printed) (run_history old) (run_history new) stop run) empty side));
  accesses = went_over asked run old new accesses begins moved (keeps_asked terms asked run (run_history new) accesses same keeps);
}
