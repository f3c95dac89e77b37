-- The program of a text, from what the passes found.
use Rattle.std.proofs.Common.{◌≡◌, ℕ, List, [], Result, Ok, Err, codes, refl, ap, ◌∙◌}
use Rattle.sec_base.specs.Program.{Program}
use Rattle.sec_base.specs.Segment.{from_zero}
use Rattle.rv32_asm.specs.Program.{assembled_program, entry_at}
use Rattle.rv32_asm.specs.PassSteps.{LeadsTo, end_of}
use Rattle.rv32_asm.specs.Labels.{Label, site_of}
use Rattle.rv32_asm_syntax.specs.Lines.{lines_of}
use Rattle.rv32_asm.specs.Passes.{LineFault, Progress, first_pass, second_pass, start, ◌>>=◌}
use Rattle.rv32_asm.proofs.FirstSteps.{pass_ends}
use Rattle.rv32_asm.proofs.SameLabels.{second_same}

module _ (text : List ℕ) (size : ℕ) where
  -- the first pass
  abbrev first : Result Progress LineFault
  first = first_pass size 1 start (lines_of text)

  -- the second pass with labels
  abbrev second : List Label → Result (List ℕ) LineFault
  second labels = second_pass labels 1 [] (lines_of text)

  -- what begins a program
  abbrev begins : List Label → Result ℕ LineFault
  begins labels = entry_at size (site_of labels (codes "_start"))

  pub no_labels : (fault : LineFault) → first ≡ Err fault → assembled_program text size ≡ Err fault
  unfolding assembled_program
  no_labels fault e = rw e refl

  abbrev from : Result Progress LineFault → Result Program LineFault
  from passed =
      passed >>= λ progress. second progress.labels >>= λ bytes.
      entry_at size (site_of progress.labels (codes "_start")) >>= λ entry. Ok (record { entry = entry; segments = from_zero bytes })

  ends : (passed : Result Progress LineFault) (address : ℕ) (labels : List Label) → first ≡ passed → LeadsTo passed address labels →
      end_of 0 (lines_of text) ≡ Ok address
  ends (Ok progress) address labels e reach = pass_ends size (lines_of text) 1 start progress e ∙ ap Ok reach.0
  ends (Err fault) address labels e reach = absurd reach

  module _ (address : ℕ) (labels : List Label) where
    pub end_is : LeadsTo first address labels → end_of 0 (lines_of text) ≡ Ok address
    end_is reach = ends first address labels refl reach

    no_more : (passed : Result Progress LineFault) (fault : LineFault) → LeadsTo passed address labels → second labels ≡ Err fault →
        from passed ≡ Err fault
    no_more (Ok progress) fault reach e = rw (second_same progress.labels labels reach.1 (lines_of text) 1 [], e) refl
    no_more (Err other) fault reach e = absurd reach

    pub no_bytes : (fault : LineFault) → LeadsTo first address labels → second labels ≡ Err fault → assembled_program text size ≡ Err fault
    unfolding assembled_program
    no_bytes fault reach e = no_more first fault reach e

    begun : (passed : Result Progress LineFault) (bytes : List ℕ) (began : Result ℕ LineFault) → LeadsTo passed address labels →
        second labels ≡ Ok bytes → begins labels ≡ began → from passed ≡ (began >>= λ entry. Ok (record { entry = entry; segments = from_zero bytes }))
    begun (Ok progress) bytes began reach e f =
        let same = ap (entry_at size) (reach.1.each (codes "_start")) ∙ f in
        rw (second_same progress.labels labels reach.1 (lines_of text) 1 [], e, same) refl
    begun (Err other) bytes began reach e f = absurd reach

    pub no_entry : (bytes : List ℕ) (fault : LineFault) → LeadsTo first address labels → second labels ≡ Ok bytes →
        begins labels ≡ Err fault → assembled_program text size ≡ Err fault
    unfolding assembled_program
    no_entry bytes fault reach e f = begun first bytes (Err fault) reach e f

    pub program_is : (bytes : List ℕ) (entry : ℕ) → LeadsTo first address labels → second labels ≡ Ok bytes →
        begins labels ≡ Ok entry → assembled_program text size ≡ Ok (record { entry = entry; segments = from_zero bytes })
    unfolding assembled_program
    program_is bytes entry reach e f = begun first bytes (Ok entry) reach e f
