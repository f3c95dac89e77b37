-- What a run can print.
use Rattle.std.proofs.Common.{◌≡◌, ◌↔◌, ℕ, ◌+◌, Bool, List, sym, subst, arith}
use Rattle.std.specs.Prelude.{IsTrue}
use Rattle.sec_base.specs.Prefix.{IsPrefix}
use Rattle.rv32_core.specs.Machine.{Machine, plain}
use Rattle.rv32_core.proofs.TouchedLines.{prefix_all}
use Rattle.bus_trace.specs.declared.trace.Trace.{Trace}
use Rattle.bus_trace.specs.Judge.{CanPrint, is_stopped}
use Rattle.bus_trace.proofs.Prefixes.{prefix_same}
use Rattle.bus_trace.proofs.Stands.{output_by}

module _ (start : Machine) (trace : Trace) (front whole : Bool) (begins : IsTrue front ↔ IsPrefix (plain start trace.retired).output trace.output) where
  pub not_begun : (¬ IsTrue front) → ¬ CanPrint start trace
  not_begun other prints = other (begins.1 prints.began)

  pub stopped_front : IsTrue front → IsTrue (is_stopped trace.ending) → (IsTrue whole ↔ IsPrefix trace.output (plain start (trace.retired + 1)).output) →
      IsTrue whole ↔ CanPrint start trace
  stopped_front holds stopped covers = (
    λ covered. record { began = begins.0 holds; ahead = covers.0 covered; whole = λ going. absurd (going stopped) },
    λ prints. covers.1 prints.ahead,
  )

  pub whole_front : IsTrue front → (¬ IsTrue (is_stopped trace.ending)) → (IsTrue whole ↔ IsPrefix trace.output (plain start trace.retired).output) →
      IsTrue whole ↔ CanPrint start trace
  whole_front holds going covers = (
    λ covered.
        let same : trace.output ≡ (plain start trace.retired).output = prefix_same (plain start trace.retired).output trace.output (begins.0 holds) (covers.0 covered) in
        record {
          began = begins.0 holds;
          ahead = subst (λ (xs : List ℕ). IsPrefix xs (plain start (trace.retired + 1)).output) (sym same) (output_by start trace.retired (trace.retired + 1) (omega arith));
          whole = λ _. same;
        },
    λ prints. covers.1 (subst (λ (xs : List ℕ). IsPrefix trace.output xs) (prints.whole going) (prefix_all trace.output)),
  )
