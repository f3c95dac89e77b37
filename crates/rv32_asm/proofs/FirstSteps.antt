-- The steps of the first pass, from line to line.
use Rattle.std.proofs.Common.{◌≡◌, ℕ, ◌+◌, ◌≤◌, Bool, true, false, List, [], ◌∷◌, Option, Some, Result, Ok, Err, length, option_map, refl, ap, subst, ◌∙◌, inl, inr, arith, if◌then◌else◌}
use Rattle.std.specs.Prelude.{find, is_some, nat_lt}
use Rattle.std.specs.Str.{bytes_eq}
use Rattle.std.proofs.lemmas.Bool.{le-ltb}
use Rattle.rv32_asm_syntax.specs.declared.fault.AsmFault.{AsmFault}
use Rattle.rv32_asm_syntax.specs.declared.fault.AsmFault.TheVariants.{Range, Large, Twice}
use Rattle.rv32_asm.specs.PassSteps.{Gives, IsNextLine, LeadsTo, behind_line, end_of}
use Rattle.rv32_asm.specs.Labels.{Label, Site, is_there}
use Rattle.rv32_asm.specs.Layout.{is_misplaced, size_at}
use Rattle.rv32_asm_syntax.specs.Parts.{parts}
use Rattle.rv32_asm_syntax.specs.Lines.{labels_in, labels_of, lines_of, without_comment}
use Rattle.rv32_asm.specs.Passes.{LineFault, Progress, address_after, after_line, address_behind, first_pass, in_line, with_names, ◌>>=◌}
use Rattle.rv32_asm_syntax.specs.Reading.{statement_of}
use Rattle.rv32_asm.specs.SeenLabels.{AreAlike}
use Rattle.rv32_asm_syntax.specs.Statements.{Statement}
use Rattle.rv32_asm.proofs.SecondSteps.{nothing_said}

-- ---- labels that are alike

abbrev site : Label → Site
site label = label.site

pub there_alike : (a b : List Label) → AreAlike a b → (name : List ℕ) → is_there a name ≡ is_there b name
there_alike a b alike name = ap is_some (alike.each name)

either_alike : (c : Bool) (label : Label) (o p : Option Label) → option_map site o ≡ option_map site p →
    option_map site (if c then Some label else o) ≡ option_map site (if c then Some label else p)
either_alike true label o p e = refl
either_alike false label o p e = e

more_alike : (label : Label) (a b : List Label) → AreAlike a b → AreAlike (label ∷ a) (label ∷ b)
more_alike label a b alike = record {
  each = λ name.
      either_alike (bytes_eq label.name name) label (find (λ l. bytes_eq l.name name) a) (find (λ l. bytes_eq l.name name) b) (alike.each name);
}

same_alike : (a : List Label) → AreAlike a a
same_alike a = record { each = λ name. refl }

alike_on : (a b c : List Label) → AreAlike a b → AreAlike b c → AreAlike a c
alike_on a b c first second = record { each = λ name. first.each name ∙ second.each name }

-- ---- the labels of a line

-- the same fault, or labels that are alike
abbrev pub ListsAlike : Result (List Label) AsmFault → Result (List Label) AsmFault → Type 0
ListsAlike (Ok a) (Ok b) = AreAlike a b
ListsAlike (Ok a) (Err f) = ⊥
ListsAlike (Err e) (Ok b) = ⊥
ListsAlike (Err e) (Err f) = e ≡ f

refused_alike : (c : Bool) (x y : Result (List Label) AsmFault) → ListsAlike x y →
    ListsAlike (if c then Err Twice else x) (if c then Err Twice else y)
refused_alike true x y alike = refl
refused_alike false x y alike = alike

only_fault : (all : Result (List Label) AsmFault) (fault : AsmFault) → ListsAlike all (Err fault) → all ≡ Err fault
only_fault (Ok a) fault alike = absurd alike
only_fault (Err e) fault alike = ap Err alike

module _ (address line : ℕ) where
  names_alike : (names : List (List ℕ)) (a b : List Label) → AreAlike a b →
      ListsAlike (with_names address line names a) (with_names address line names b)
  names_alike [] a b alike = alike
  names_alike (name ∷ names) a b alike =
      let label : Label = record { name = name; site = record { address = address; line = line } } in
      rw (there_alike a b alike name)
      (refused_alike (is_there b name) _ _ (names_alike names (label ∷ a) (label ∷ b) (more_alike label a b alike)))

  lists_on : (x y z : Result (List Label) AsmFault) → ListsAlike x y → ListsAlike y z → ListsAlike x z
  lists_on (Ok a) (Ok b) (Ok c) first second = alike_on a b c first second
  lists_on (Ok a) (Ok b) (Err g) first second = second
  lists_on (Ok a) (Err f) z first second = absurd first
  lists_on (Err e) (Ok b) z first second = absurd first
  lists_on (Err e) (Err f) (Ok c) first second = second
  lists_on (Err e) (Err f) (Err g) first second = first ∙ second

  abbrev pub named : List (List ℕ) → List Label → Result (List Label) AsmFault
  named names labels = with_names address line names labels

  pub one_named : (all : Result (List Label) AsmFault) (before names : List (List ℕ)) (name : List ℕ) (old new : List Label) →
      before ≡ name ∷ names → is_there old name ≡ false →
      AreAlike (record { name = name; site = record { address = address; line = line } } ∷ old) new →
      ListsAlike all (named before old) → ListsAlike all (named names new)
  one_named all before names name old new e none added alike =
      let so_far = rw (e, none) at alike in
      lists_on all _ _ so_far (names_alike names (record { name = name; site = record { address = address; line = line } } ∷ old) new added)

  pub one_twice : (all : Result (List Label) AsmFault) (before names : List (List ℕ)) (name : List ℕ) (old : List Label) →
      before ≡ name ∷ names → is_there old name ≡ true → ListsAlike all (named before old) → all ≡ Err Twice
  one_twice all before names name old e there alike =
      let so_far = rw (e, there) at alike in
      only_fault all Twice so_far

pub all_named : (all : Result (List Label) AsmFault) (labels : List Label) → ListsAlike all (Ok labels) → Gives all labels
all_named (Ok a) labels alike = alike
all_named (Err e) labels alike = absurd alike

-- ---- a line

pub labels_are : (line text : List ℕ) → text ≡ without_comment line → labels_in (parts text) ≡ labels_of line
unfolding labels_of
labels_are line text e = rw e refl

-- what is left of a line's work once its labels are known
abbrev after_labels : Result (List Label) AsmFault → Result Statement AsmFault → (Statement → Result ℕ AsmFault) → Result Progress AsmFault
after_labels named read there =
    named >>= λ labels. read >>= λ statement. there statement >>= λ address. Ok (record { address = address; labels = labels })

module _ (size number : ℕ) (progress : Progress) (line : List ℕ) where
  abbrev names : Result (List Label) AsmFault
  names = with_names progress.address number (labels_of line) progress.labels

  reaches : (named : Result (List Label) AsmFault) (read : Result Statement AsmFault) (there : Statement → Result ℕ AsmFault)
      (labels : List Label) (statement : Statement) (address : ℕ) → Gives named labels → read ≡ Ok statement →
      there statement ≡ Ok address → LeadsTo (after_labels named read there) address labels
  reaches (Ok given) read there labels statement address gives e f = rw (e, f) (refl, gives)
  reaches (Err fault) read there labels statement address gives e f = absurd gives

  pub line_reaches : (labels : List Label) (statement : Statement) (address : ℕ) → Gives names labels →
      statement_of line ≡ Ok statement → address_after size progress.address statement ≡ Ok address →
      LeadsTo (after_line size number progress line) address labels
  unfolding after_line
  line_reaches labels statement address gives e f =
      reaches names (statement_of line) (address_after size progress.address) labels statement address gives e f

  pub labels_refused : (fault : AsmFault) → names ≡ Err fault → after_line size number progress line ≡ Err fault
  unfolding after_line
  labels_refused fault e = rw e refl

  unread : (named : Result (List Label) AsmFault) (read : Result Statement AsmFault) (there : Statement → Result ℕ AsmFault)
      (labels : List Label) (fault : AsmFault) → Gives named labels → read ≡ Err fault → after_labels named read there ≡ Err fault
  unread (Ok given) read there labels fault gives e = rw e refl
  unread (Err other) read there labels fault gives e = absurd gives

  pub statement_refused : (labels : List Label) (fault : AsmFault) → Gives names labels → statement_of line ≡ Err fault →
      after_line size number progress line ≡ Err fault
  unfolding after_line
  statement_refused labels fault gives e = unread names (statement_of line) (address_after size progress.address) labels fault gives e

  unplaced : (named : Result (List Label) AsmFault) (read : Result Statement AsmFault) (there : Statement → Result ℕ AsmFault)
      (labels : List Label) (statement : Statement) (fault : AsmFault) → Gives named labels → read ≡ Ok statement →
      there statement ≡ Err fault → after_labels named read there ≡ Err fault
  unplaced (Ok given) read there labels statement fault gives e f = rw (e, f) refl
  unplaced (Err other) read there labels statement fault gives e f = absurd gives

  pub place_refused : (labels : List Label) (statement : Statement) (fault : AsmFault) → Gives names labels →
      statement_of line ≡ Ok statement → address_after size progress.address statement ≡ Err fault →
      after_line size number progress line ≡ Err fault
  unfolding after_line
  place_refused labels statement fault gives e f =
      unplaced names (statement_of line) (address_after size progress.address) labels statement fault gives e f

-- ---- from line to line

-- the same fault, or the same address and labels that are alike
abbrev pub Agree : {E : Type 0} → Result Progress E → Result Progress E → Type 0
Agree (Ok p) (Ok q) = (p.address ≡ q.address) × AreAlike p.labels q.labels
Agree (Ok p) (Err f) = ⊥
Agree (Err e) (Ok q) = ⊥
Agree (Err e) (Err f) = e ≡ f

agree_on : {E : Type 0} (x y z : Result Progress E) → Agree x y → Agree y z → Agree x z
agree_on (Ok p) (Ok q) (Ok r) first second = (first.0 ∙ second.0, alike_on p.labels q.labels r.labels first.1 second.1)
agree_on (Ok p) (Ok q) (Err g) first second = second
agree_on (Ok p) (Err f) z first second = absurd first
agree_on (Err e) (Ok q) z first second = absurd first
agree_on (Err e) (Err f) (Ok r) first second = second
agree_on (Err e) (Err f) (Err g) first second = first ∙ second

pub agree_fault : {E : Type 0} (x : Result Progress E) (fault : E) → Agree x (Err fault) → x ≡ Err fault
agree_fault (Ok p) fault agree = absurd agree
agree_fault (Err e) fault agree = ap Err agree

pub agree_reaches : {E : Type 0} (x : Result Progress E) (progress : Progress) → Agree x (Ok progress) →
    LeadsTo x progress.address progress.labels
agree_reaches (Ok p) progress agree = agree
agree_reaches (Err e) progress agree = absurd agree

abbrev pub at : ℕ → List Label → Progress
at address labels = record { address = address; labels = labels }

work_agrees : (x y : Result (List Label) AsmFault) (read : Result Statement AsmFault) (there : Statement → Result ℕ AsmFault) →
    ListsAlike x y → Agree (after_labels x read there) (after_labels y read there)
work_agrees (Ok a) (Ok b) (Ok statement) there alike = placed_agrees (there statement)
  where
    placed_agrees : (next : Result ℕ AsmFault) → Agree (next >>= λ n. Ok (at n a)) (next >>= λ n. Ok (at n b))
    placed_agrees (Ok n) = (refl, alike)
    placed_agrees (Err f) = refl
work_agrees (Ok a) (Ok b) (Err f) there alike = refl
work_agrees (Ok a) (Err f) read there alike = absurd alike
work_agrees (Err e) (Ok b) read there alike = absurd alike
work_agrees (Err e) (Err f) read there alike = alike

module _ (size : ℕ) where
  line_agrees : (number address : ℕ) (line : List ℕ) (a b : List Label) → AreAlike a b →
      Agree (after_line size number (at address a) line) (after_line size number (at address b) line)
  unfolding after_line
  line_agrees number address line a b alike =
      work_agrees (with_names address number (labels_of line) a) (with_names address number (labels_of line) b)
      (statement_of line) (address_after size address) (names_alike address number (labels_of line) a b alike)

  abbrev next_lines : ℕ → List (List ℕ) → Result Progress AsmFault → Result Progress LineFault
  next_lines number lines after = in_line number after >>= λ progress. first_pass size (number + 1) progress lines

  -- what lines alike_too to labels, they do to labels that are alike
  abbrev DoAlike : List (List ℕ) → Type 0
  DoAlike lines = (number address : ℕ) (a b : List Label) → AreAlike a b →
      Agree (first_pass size number (at address a) lines) (first_pass size number (at address b) lines)

  at_one_address : (lines : List (List ℕ)) → DoAlike lines → (number : ℕ) (p q : Progress) → p.address ≡ q.address →
      AreAlike p.labels q.labels → Agree (first_pass size number p lines) (first_pass size number q lines)
  at_one_address lines alike_too number p q e alike =
      let P : ℕ → Type 0 = λ address. Agree (first_pass size number p lines) (first_pass size number (at address q.labels) lines) in
      subst P e (alike_too number p.address p.labels q.labels alike)

  then_agree : (number : ℕ) (lines : List (List ℕ)) → DoAlike lines → (x y : Result Progress AsmFault) → Agree x y →
      Agree (next_lines number lines x) (next_lines number lines y)
  then_agree number lines alike_too (Ok p) (Ok q) agree = at_one_address lines alike_too (number + 1) p q agree.0 agree.1
  then_agree number lines alike_too (Ok p) (Err f) agree = absurd agree
  then_agree number lines alike_too (Err e) (Ok q) agree = absurd agree
  then_agree number lines alike_too (Err e) (Err f) agree = ap (λ code. record { line = number; code = code }) agree

  lines_agree : (lines : List (List ℕ)) → DoAlike lines
  unfolding first_pass
  lines_agree [] number address a b alike = (refl, alike)
  lines_agree (line ∷ lines) number address a b alike =
      then_agree number lines
      (λ n address' p q alike'. lines_agree lines n address' p q alike')
      (after_line size number (at address a) line) (after_line size number (at address b) line)
      (line_agrees number address line a b alike)

  -- ---- one line

  then_reach : (number : ℕ) (lines : List (List ℕ)) (x : Result Progress AsmFault) (address : ℕ) (labels : List Label) →
      LeadsTo x address labels → Agree (next_lines number lines x) (first_pass size (number + 1) (at address labels) lines)
  then_reach number lines (Ok p) address labels reach =
      at_one_address lines (lines_agree lines) (number + 1) p (at address labels) reach.0 reach.1
  then_reach number lines (Err f) address labels reach = absurd reach

  nothing_left : (number : ℕ) (p : Progress) → p.address ≤ size → after_line size number p [] ≡ Ok p
  unfolding after_line labels_of without_comment is_misplaced size_at
  nothing_left number p inside =
      let still : p.address + 0 ≡ p.address = omega arith in
      rw (nothing_said, still, le-ltb size p.address inside) refl

  last_pass : (number : ℕ) (p : Progress) → p.address ≤ size → first_pass size number p (lines_of []) ≡ Ok p
  unfolding lines_of first_pass
  last_pass number p inside = rw (nothing_left number p inside) refl

  pub pass_done : (number : ℕ) (p : Progress) (rest : List ℕ) → p.address ≤ size → length rest ≡ 0 →
      first_pass size number p (lines_of rest) ≡ Ok p
  pass_done number p [] inside none = last_pass number p inside
  pass_done number p (byte ∷ rest) inside none = absurd (omega arith)

  pub pass_reaches : (number : ℕ) (p : Progress) (rest : List ℕ) (all : Result Progress LineFault) → p.address ≤ size → length rest ≡ 0 →
      Agree all (first_pass size number p (lines_of rest)) → LeadsTo all p.address p.labels
  pass_reaches number p rest all inside none agree =
      let ended = rw (pass_done number p rest inside none) at agree in
      agree_reaches all p ended

  module _ (text line rest : List ℕ) (next : IsNextLine text line rest) (number : ℕ) (p : Progress) where
    goes_along : (address : ℕ) (labels : List Label) → LeadsTo (after_line size number p line) address labels → address ≤ size →
        Agree (first_pass size number p (lines_of text)) (first_pass size (number + 1) (at address labels) (lines_of rest))
    unfolding first_pass
    goes_along address labels reach inside = elim next [
      | inl e ↦ rw e (then_reach number (lines_of rest) (after_line size number p line) address labels reach)
      | inr e ↦ rw (e.0, e.1, last_pass (number + 1) (at address labels) inside)
          (then_reach number [] (after_line size number p line) address labels reach)
    ]

    pub pass_on : (all : Result Progress LineFault) (address : ℕ) (labels : List Label) →
        LeadsTo (after_line size number p line) address labels → address ≤ size → Agree all (first_pass size number p (lines_of text)) →
        Agree all (first_pass size (number + 1) (at address labels) (lines_of rest))
    pass_on all address labels reach inside agree =
        agree_on all (first_pass size number p (lines_of text)) _ agree (goes_along address labels reach inside)

    stops : (fault : AsmFault) → after_line size number p line ≡ Err fault →
        first_pass size number p (lines_of text) ≡ Err (record { line = number; code = fault })
    unfolding first_pass
    stops fault f = elim next [
      | inl e ↦ rw (e, f) refl
      | inr e ↦ rw (e.0, f) refl
    ]

    pub pass_stop : (all : Result Progress LineFault) (fault : AsmFault) → after_line size number p line ≡ Err fault →
        Agree all (first_pass size number p (lines_of text)) → all ≡ Err (record { line = number; code = fault })
    pass_stop all fault f agree = agree_fault all _ (rw (stops fault f) at agree)

  -- ---- the address that is reached

  room_ends : (large : Bool) (next : ℕ) (labels : List Label) (r : Progress) →
      ((if large then Err Large else Ok next) >>= λ address. Ok (at address labels)) ≡ Ok r → next ≡ r.address
  room_ends true next labels r e = cc
  room_ends false next labels r e = let same : at next labels ≡ r = cc in ap (λ p. p.address) same

  next_ends : (misplaced : Bool) (large : ℕ → Bool) (next : ℕ) (labels : List Label) (r : Progress) →
      ((if misplaced then Err Range else Ok next) >>= (λ after. if large after then Err Large else Ok after)
      >>= λ address. Ok (at address labels)) ≡ Ok r →
      (if misplaced then Err Range else Ok next) ≡ Ok r.address
  next_ends true large next labels r e = cc
  next_ends false large next labels r e = ap Ok (room_ends (large next) next labels r e)

  work_ends : (named : Result (List Label) AsmFault) (read : Result Statement AsmFault) (address : ℕ) (r : Progress) →
      after_labels named read (address_after size address) ≡ Ok r → (read >>= address_behind address) ≡ Ok r.address
  work_ends (Ok labels) (Ok statement) address r e =
      next_ends (is_misplaced address statement) (nat_lt size) (address + size_at address statement) labels r e
  work_ends (Ok labels) (Err f) address r e = cc
  work_ends (Err f) read address r e = cc

  line_ends : (number : ℕ) (p : Progress) (line : List ℕ) (r : Progress) → after_line size number p line ≡ Ok r →
      behind_line p.address line ≡ Ok r.address
  unfolding after_line behind_line
  line_ends number p line r e = work_ends (names size number p line) (statement_of line) p.address r e

  ending : (number : ℕ) (lines : List (List ℕ)) (q : Progress) (x : Result Progress AsmFault) (there : Result ℕ AsmFault) →
      ((r : Progress) → x ≡ Ok r → there ≡ Ok r.address) →
      ((r : Progress) → first_pass size (number + 1) r lines ≡ Ok q → end_of r.address lines ≡ Ok q.address) →
      next_lines number lines x ≡ Ok q → (there >>= λ after. end_of after lines) ≡ Ok q.address
  ending number lines q (Ok r) there first later e = rw (first r refl) (later r e)
  ending number lines q (Err f) there first later e = cc

  pub pass_ends : (lines : List (List ℕ)) (number : ℕ) (p q : Progress) → first_pass size number p lines ≡ Ok q →
      end_of p.address lines ≡ Ok q.address
  unfolding first_pass end_of
  pass_ends [] number p q e = let same : p ≡ q = cc in ap (λ r. Ok r.address) same
  pass_ends (line ∷ lines) number p q e =
      ending number lines q (after_line size number p line) (behind_line p.address line)
      (λ r. line_ends number p line r) (λ r. pass_ends lines (number + 1) r q) e
