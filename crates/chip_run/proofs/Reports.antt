-- The report of a run.
use Rattle.std.proofs.Common.{◌≡◌, ℕ, List, Option, None, sym, ◌∙◌, subst}
use Rattle.sec_base.specs.declared.ending.Ending.{Ending}
use Rattle.sec_base.specs.declared.ending.Ending.TheVariants.{NoMemory}
use Rattle.chip_run.specs.Report.{ReportTerms, signed_report}

-- a run without memory has none
pub unreported : (terms : ReportTerms) (digest : List ℕ) (retired : ℕ) (ending : Ending) (report : Option (List ℕ)) → ending ≡ NoMemory → report ≡ None → report ≡ signed_report terms digest retired ending
unreported terms digest retired ending report ended none = subst (λ (e : Ending). report ≡ signed_report terms digest retired e) (sym ended) none

-- a report that was made of this digest, count and ending is that of a run that has them
pub report_is : (terms : ReportTerms) (digest digest' : List ℕ) (retired retired' : ℕ) (ending ending' : Ending) (made report : Option (List ℕ)) → made ≡ signed_report terms digest retired ending →
    report ≡ made → digest ≡ digest' → retired' ≡ retired → ending' ≡ ending → report ≡ signed_report terms digest' retired' ending'
report_is terms digest digest' retired retired' ending ending' made report signed is same count ended =
    is ∙ subst (λ (e : Ending). made ≡ signed_report terms digest' retired' e) (sym ended)
    (subst (λ (n : ℕ). made ≡ signed_report terms digest' n ending) (sym count)
    (subst (λ (d : List ℕ). made ≡ signed_report terms d retired ending) same signed))
