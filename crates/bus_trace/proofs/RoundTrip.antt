-- The two laws: what is read is spelled so, and what is spelled so is read.
use Rattle.std.proofs.Common.{◌≡◌, ℕ, ◌^◌, ◌<◌, eqb, List, [], ◌++◌, length, Result, Ok, Err, refl, sym, ap, subst, ◌∙◌, append_assoc, eqb-true}
use Rattle.std.specs.Prelude.{IfOk}
use Rattle.std.proofs.lemmas.List.{append-nil, nil_from_length}
use Rattle.sec_base.specs.Geometry.{GeometryView, IsGeometry}
use Rattle.bus_trace.specs.declared.entry.Entry.{Entry}
use Rattle.bus_trace.specs.declared.fault.TraceFault.TheVariants.{Rest}
use Rattle.bus_trace.specs.declared.fault.TraceError.{TraceError}
use Rattle.bus_trace.specs.declared.trace.Trace.{Trace}
use Rattle.bus_trace.specs.Format.{IsInForm, entries_bytes, magic, outcome_bytes, output_bytes, trace_bytes}
use Rattle.bus_trace.specs.Reading.{◌>>=◌, all_entries_at, behind_magic, ok_where, outcome_at, output_at, read_trace}
use Rattle.bus_trace.specs.Reads.{IsReadInMemory}
use Rattle.bus_trace.proofs.SpelledFields.{IsBytes, Takes-then, bind_ok, magic_again, magic_takes, outcome_again, outcome_takes, output_again, output_takes, where_ok}
use Rattle.bus_trace.proofs.SpelledEntries.{all_entries_again, all_entries_take}

-- the trace of these fields
abbrev trace_of : List ℕ → ℕ × ℕ × ℕ → List Entry → Trace
trace_of output outcome entries = record {
  output = output;
  ending = outcome.0;
  code = outcome.1;
  retired = outcome.2;
  entries = entries;
}

pub trace_takes : (geometry : GeometryView) (file : List ℕ) (trace : Trace) → IsBytes file → read_trace geometry file ≡ Ok trace →
    IsInForm geometry trace × (file ≡ trace_bytes trace)
unfolding read_trace trace_bytes
trace_takes geometry file trace are e =
    let a = bind_ok (behind_magic file) (λ bytes. output_at bytes >>= λ output. outcome_at output.1 >>= λ outcome. all_entries_at geometry outcome.1 >>= λ entries.
    ok_where (eqb (length entries.1) 0) Rest (trace_of output.0 outcome.0 entries.0)) trace e in
    let b = bind_ok (output_at a.0) (λ output. outcome_at output.1 >>= λ outcome. all_entries_at geometry outcome.1 >>= λ entries.
    ok_where (eqb (length entries.1) 0) Rest (trace_of output.0 outcome.0 entries.0)) trace a.2 in
    let c = bind_ok (outcome_at b.0.1) (λ outcome. all_entries_at geometry outcome.1 >>= λ entries.
    ok_where (eqb (length entries.1) 0) Rest (trace_of b.0.0 outcome.0 entries.0)) trace b.2 in
    let d = bind_ok (all_entries_at geometry c.0.1) (λ entries.
    ok_where (eqb (length entries.1) 0) Rest (trace_of b.0.0 c.0.0 entries.0)) trace c.2 in
    let made : Trace = trace_of b.0.0 c.0.0 d.0.0 in
    let g = where_ok (eqb (length d.0.1) 0) Rest made trace d.2 in
    let first = magic_takes file a.0 are a.1 in
    let output = output_takes a.0 b.0.0 b.0.1 first.rest_are b.1 in
    let outcome = outcome_takes b.0.1 c.0.0 c.0.1 output.0.rest_are c.1 in
    let entries = all_entries_take geometry c.0.1 d.0.0 d.0.1 outcome.0.rest_are d.1 in
    let one = Takes-then file magic a.0 (output_bytes b.0.0) b.0.1 first output.0 in
    let two = Takes-then file (magic ++ output_bytes b.0.0) b.0.1 (outcome_bytes c.0.0.0 c.0.0.1 c.0.0.2) c.0.1 one outcome.0 in
    let all = Takes-then file (magic ++ output_bytes b.0.0 ++ outcome_bytes c.0.0.0 c.0.0.1 c.0.0.2) c.0.1 (entries_bytes d.0.0) d.0.1 two entries.0 in
    let nothing : d.0.1 ≡ [] = nil_from_length d.0.1 (eqb-true _ _ g.0) in
    let text : List ℕ = magic ++ output_bytes b.0.0 ++ outcome_bytes c.0.0.0 c.0.0.1 c.0.0.2 ++ entries_bytes d.0.0 in
    let whole : file ≡ text = all.parts ∙ ap (λ (rest : List ℕ). text ++ rest) nothing ∙ append-nil text in
    let form : IsInForm geometry made = record {
      ending = outcome.1;
      entries = entries.1;
    } in
    subst (λ (t : Trace). IsInForm geometry t × (file ≡ trace_bytes t)) g.1 (form, whole)

-- each number of a trace fits its field
pub record HasNumbers (trace : Trace) : Type 0 where
  pub output : length trace.output < 2 ^ 64
  pub code : trace.code < 2 ^ 32
  pub retired : trace.retired < 2 ^ 64
  pub count : length trace.entries < 2 ^ 64

pub trace_again : (geometry : GeometryView) (trace : Trace) → HasNumbers trace → IsGeometry geometry → IsInForm geometry trace → read_trace geometry (trace_bytes trace) ≡ Ok trace
unfolding read_trace trace_bytes
trace_again geometry trace numbers is form =
    let output = output_bytes trace.output in
    let outcome = outcome_bytes trace.ending trace.code trace.retired in
    let entries = entries_bytes trace.entries in
    let regrouped : magic ++ output ++ outcome ++ entries ≡ magic ++ (output ++ (outcome ++ (entries ++ []))) =
    append_assoc (magic ++ output) outcome entries ∙ append_assoc magic output (outcome ++ entries)
    ∙ ap (λ (rest : List ℕ). magic ++ (output ++ (outcome ++ rest))) (sym (append-nil entries)) in
    ap (read_trace geometry) regrouped
    ∙ rw (
      magic_again (output ++ (outcome ++ (entries ++ []))),
      output_again trace.output (outcome ++ (entries ++ [])) numbers.output,
      outcome_again trace.ending trace.code trace.retired (entries ++ []) form.ending numbers.code numbers.retired,
      all_entries_again geometry trace.entries [] is form.entries numbers.count,
    ) refl

-- what a call read

pub is_in_form : (geometry : GeometryView) (file : List ℕ) (read : Result Trace TraceError) → IsBytes file → IsReadInMemory (λ trace. trace) read (read_trace geometry file) →
    IfOk read (IsInForm geometry)
is_in_form geometry file (Ok trace) are given = (trace_takes geometry file trace are given).0
is_in_form geometry file (Err error) are given = tt

pub is_written : (geometry : GeometryView) (file : List ℕ) (read : Result Trace TraceError) → IsBytes file → IsReadInMemory (λ trace. trace) read (read_trace geometry file) →
    IfOk read (λ trace. file ≡ trace_bytes trace)
is_written geometry file (Ok trace) are given = (trace_takes geometry file trace are given).1
is_written geometry file (Err error) are given = tt
