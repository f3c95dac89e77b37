-- The lines of a store, and copies that are laid over them.
use Rattle.std.proofs.Common.{◌≡◌, ◌≢◌, ◌==◌, ◌⊎◌, inl, inr, ℕ, zero, suc, ◌+◌, ◌*◌, ◌<◌, ◌≤◌, List, ◌++◌, length, take, replicate, Bool, true, false, cond, Option, Some, None, refl, sym, ◌∙◌, ap, subst, arith, length-drop}
use Rattle.std.proofs.Math.Seq.{take-add}
use Rattle.std.proofs.lemmas.Bool.{true≢false}
use Rattle.std.proofs.lemmas.Bool.Decides.{nat_tests}
use Rattle.std.proofs.lemmas.List.{length-take, take_all, take_at}
use Rattle.std.proofs.lemmas.Option.{same_Some, none-some}
use Rattle.sec_base.specs.Lines.{joined_lines, line_at, with_line}
use Rattle.sec_base.proofs.JoinedLines.{joined_lines-same, line_at-joined_lines, with_line-joined_lines}
use Rattle.cache_set.specs.declared.way.Way.{Way}
use Rattle.cache_set.specs.Cache.{IsCache, way_at}
use Rattle.line_cache.specs.LineCache.{AreClean, AreCopies, contents_over, laid_over, line_sets, whole_line}
use Rattle.line_cache.specs.WriteBack.{written, written_if}
use Rattle.line_cache.specs.Moving.{length-line, length-whole_line}

pub same_or_not : (a b : ℕ) → (a ≡ b) ⊎ (a ≢ b)
same_or_not a b = grind arith

-- 64 bytes are a line as they are
pub whole_same : (bytes : List ℕ) → length bytes ≡ 64 → whole_line bytes ≡ bytes
unfolding whole_line
whole_same bytes long = take_at bytes (replicate 64 0) 64 long

length-line_at : (stored : List ℕ) (line : ℕ) → 64 * line + 64 ≤ length stored → length (line_at stored line) ≡ 64
length-line_at stored line within = omega (arith, length-take {A = ℕ}, length-drop {A = ℕ})

front_lines : (stored : List ℕ) (count : ℕ) → 64 * count ≤ length stored → joined_lines (λ line. whole_line (line_at stored line)) count ≡ take (64 * count) stored
unfolding joined_lines
front_lines stored zero within = refl
front_lines stored (suc count) within =
    ap (λ (front : List ℕ). front ++ whole_line (line_at stored count)) (front_lines stored count (omega (arith, within)))
    ∙ (ap (λ (back : List ℕ). take (64 * count) stored ++ back) (whole_same (line_at stored count) (length-line_at stored count (omega (arith, within))))
    ∙ (sym (take-add (64 * count) 64 stored) ∙ ap (λ (n : ℕ). take n stored) (omega arith)))

-- a memory is its lines, one after another
as_lines : (stored : List ℕ) (count : ℕ) → length stored ≡ 64 * count → joined_lines (λ line. whole_line (line_at stored line)) count ≡ stored
as_lines stored count long = front_lines stored count (omega (arith, long)) ∙ take_all (64 * count) stored (omega (arith, long))

module _ (stored : List ℕ) (count place : ℕ) (copy : List ℕ) (long : length stored ≡ 64 * count) (inside : place < count) (whole : length copy ≡ 64) where
  line_with : ℕ → List ℕ
  line_with line = cond (line == place) copy (whole_line (line_at stored line))

  length-line_with : (line : ℕ) → length (line_with line) ≡ 64
  unfolding line_with
  length-line_with line = elim (line == place) as (λ t. length (cond t copy (whole_line (line_at stored line))) ≡ 64) [ true ↦ whole | false ↦ length-whole_line (line_at stored line) ]

  here : line_with place ≡ copy
  unfolding line_with
  here = grind (arith, nat_tests)

  others : (other : ℕ) → other ≢ place → line_with other ≡ whole_line (line_at stored other)
  unfolding line_with
  others other apart = grind (arith, nat_tests)

  with_lines : with_line stored place copy ≡ joined_lines line_with count
  with_lines =
      ap (λ (bytes : List ℕ). with_line bytes place copy) (sym (as_lines stored count long))
      ∙ with_line-joined_lines (λ line. whole_line (line_at stored line)) line_with count place copy (λ line. length-whole_line (line_at stored line)) inside here others

  pub written_here : line_at (with_line stored place copy) place ≡ copy
  written_here = ap (λ (bytes : List ℕ). line_at bytes place) with_lines ∙ (line_at-joined_lines line_with count place length-line_with inside ∙ here)

  pub written_apart : (other : ℕ) → other < count → other ≢ place → line_at (with_line stored place copy) other ≡ line_at stored other
  written_apart other below apart =
      ap (λ (bytes : List ℕ). line_at bytes other) with_lines
      ∙ (line_at-joined_lines line_with count other length-line_with below ∙ (others other apart
      ∙ whole_same (line_at stored other) (length-line_at stored other (omega (arith, below, long)))))

laid_some : (found : Option Way) (way : Way) (stored : List ℕ) → found ≡ Some way → laid_over found stored ≡ whole_line way.copy
laid_some found way stored is = ap (λ (f : Option Way). laid_over f stored) is

laid_none : (found : Option Way) (stored : List ℕ) → found ≡ None → laid_over found stored ≡ whole_line stored
laid_none found stored is = ap (λ (f : Option Way). laid_over f stored) is

-- contents are the same where each line is
pub over_same : (stored stored' : List ℕ) (count : ℕ) (lines lines' : List (List Way)) →
    ((line : ℕ) → line < count → laid_over (way_at lines line) (line_at stored line) ≡ laid_over (way_at lines' line) (line_at stored' line)) →
    contents_over stored count lines ≡ contents_over stored' count lines'
over_same stored stored' count lines lines' same =
    joined_lines-same (λ line. laid_over (way_at lines line) (line_at stored line)) (λ line. laid_over (way_at lines' line) (line_at stored' line)) count same

-- a held line of the contents is its copy
pub over_held : (stored : List ℕ) (count : ℕ) (lines : List (List Way)) (line : ℕ) (way : Way) → line < count → way_at lines line ≡ Some way → length way.copy ≡ 64 →
    line_at (contents_over stored count lines) line ≡ way.copy
over_held stored count lines line way below is whole =
    line_at-joined_lines (λ line. laid_over (way_at lines line) (line_at stored line)) count line (length-line stored lines) below
    ∙ (laid_some (way_at lines line) way (line_at stored line) is ∙ whole_same way.copy whole)

-- ways that are used in another order
pub over_touched : (stored : List ℕ) (count : ℕ) (lines lines' : List (List Way)) → ((other : ℕ) → way_at lines' other ≡ way_at lines other) →
    contents_over stored count lines' ≡ contents_over stored count lines
over_touched stored count lines lines' same = over_same stored stored count lines' lines (λ line below. ap (λ (f : Option Way). laid_over f (line_at stored line)) (same line))

-- a line is brought in, with the store's bytes
pub over_put : (stored : List ℕ) (count : ℕ) (lines lines' : List (List Way)) (line : ℕ) (way : Way) →
    way_at lines line ≡ None → way_at lines' line ≡ Some way → way.copy ≡ line_at stored line →
    ((other : ℕ) → other ≢ line → way_at lines' other ≡ way_at lines other) →
    contents_over stored count lines' ≡ contents_over stored count lines
over_put stored count lines lines' line way none is same others = over_same stored stored count lines' lines (λ other below.
    elim (same_or_not other line) [
      | inl here ↦ subst (λ l. laid_over (way_at lines' l) (line_at stored l) ≡ laid_over (way_at lines l) (line_at stored l)) (sym here)
          (laid_some (way_at lines' line) way (line_at stored line) is ∙ (ap whole_line same ∙ sym (laid_none (way_at lines line) (line_at stored line) none)))
      | inr apart ↦ ap (λ (f : Option Way). laid_over f (line_at stored other)) (others other apart)
    ])

-- a line goes out, whose bytes the store has
pub over_gone : (stored : List ℕ) (count : ℕ) (lines lines' : List (List Way)) (line : ℕ) (way : Way) →
    way_at lines line ≡ Some way → way_at lines' line ≡ None → line_at stored line ≡ way.copy →
    ((other : ℕ) → other ≢ line → way_at lines' other ≡ way_at lines other) →
    contents_over stored count lines' ≡ contents_over stored count lines
over_gone stored count lines lines' line way is none same others =
    sym (over_put stored count lines' lines line way none is (sym same) (λ other apart. sym (others other apart)))

-- a held line is written
over_line : (stored : List ℕ) (count : ℕ) (lines : List (List Way)) (way : Way) → length stored ≡ 64 * count → way.place < count → length way.copy ≡ 64 →
    way_at lines way.place ≡ Some way → contents_over (with_line stored way.place way.copy) count lines ≡ contents_over stored count lines
over_line stored count lines way long inside whole is = over_same (with_line stored way.place way.copy) stored count lines lines (λ other below.
    elim (same_or_not other way.place) [
      | inl here ↦ subst (λ l. laid_over (way_at lines l) (line_at (with_line stored way.place way.copy) l) ≡ laid_over (way_at lines l) (line_at stored l)) (sym here)
          (laid_some (way_at lines way.place) way _ is ∙ sym (laid_some (way_at lines way.place) way _ is))
      | inr apart ↦ ap (laid_over (way_at lines other)) (written_apart stored count way.place way.copy long inside whole other below apart)
    ])

over_if : (changed : Bool) (stored : List ℕ) (count : ℕ) (lines : List (List Way)) (way : Way) → length stored ≡ 64 * count → way.place < count → length way.copy ≡ 64 →
    way_at lines way.place ≡ Some way → contents_over (written_if changed way stored) count lines ≡ contents_over stored count lines
over_if false stored count lines way long inside whole is = refl
over_if true stored count lines way long inside whole is = over_line stored count lines way long inside whole is

-- a way is written, if it was changed
pub over_written : (stored : List ℕ) (count : ℕ) (lines : List (List Way)) (way : Way) → length stored ≡ 64 * count → way.place < count → length way.copy ≡ 64 →
    way_at lines way.place ≡ Some way → contents_over (written way stored) count lines ≡ contents_over stored count lines
over_written stored count lines way = over_if way.changed stored count lines way

line_if : (changed : Bool) (stored : List ℕ) (count : ℕ) (way : Way) → length stored ≡ 64 * count → way.place < count → length way.copy ≡ 64 →
    (changed ≡ false → way.copy ≡ line_at stored way.place) → line_at (written_if changed way stored) way.place ≡ way.copy
line_if false stored count way long inside whole clean = sym (clean refl)
line_if true stored count way long inside whole clean = written_here stored count way.place way.copy long inside whole

-- then the store has its bytes
pub line_written : (stored : List ℕ) (count : ℕ) (way : Way) → length stored ≡ 64 * count → way.place < count → length way.copy ≡ 64 →
    (way.changed ≡ false → way.copy ≡ line_at stored way.place) → line_at (written way stored) way.place ≡ way.copy
line_written stored count way = line_if way.changed stored count way

clean_line : (stored : List ℕ) (count : ℕ) (lines : List (List Way)) (way : Way) → length stored ≡ 64 * count → AreCopies count lines → way_at lines way.place ≡ Some way → way.changed ≡ true →
    AreClean stored lines → AreClean (with_line stored way.place way.copy) lines
clean_line stored count lines way long copies is marked clean line other held unmarked =
    elim (same_or_not line way.place) [
      | inl here ↦
          let same : other ≡ way = same_Some other way (sym held ∙ (ap (way_at lines) here ∙ is)) in
          absurd (true≢false (sym marked ∙ (ap (λ (w : Way). w.changed) (sym same) ∙ unmarked)))
      | inr apart ↦ clean line other held unmarked
          ∙ sym (written_apart stored count way.place way.copy long (copies.inside way.place way is) (copies.whole way.place way is) line (copies.inside line other held) apart)
    ]

clean_if : (changed : Bool) (stored : List ℕ) (count : ℕ) (lines : List (List Way)) (way : Way) → way.changed ≡ changed → length stored ≡ 64 * count → AreCopies count lines → way_at lines way.place ≡ Some way →
    AreClean stored lines → AreClean (written_if changed way stored) lines
clean_if false stored count lines way mark long copies is clean = clean
clean_if true stored count lines way mark long copies is clean = clean_line stored count lines way long copies is mark clean

-- copies that were not changed stay the store's lines
pub clean_written : (stored : List ℕ) (count : ℕ) (lines : List (List Way)) (way : Way) → length stored ≡ 64 * count → AreCopies count lines → way_at lines way.place ≡ Some way →
    AreClean stored lines → AreClean (written way stored) lines
clean_written stored count lines way = clean_if way.changed stored count lines way refl

-- what is left of ways
abbrev pub IsPart : List (List Way) → List (List Way) → Type 0
IsPart lines' lines = (line : ℕ) (way : Way) → way_at lines' line ≡ Some way → way_at lines line ≡ Some way

pub part_gone : (lines lines' : List (List Way)) (place : ℕ) → way_at lines' place ≡ None → ((other : ℕ) → other ≢ place → way_at lines' other ≡ way_at lines other) → IsPart lines' lines
part_gone lines lines' place none others line way is = elim (same_or_not line place) [
  | inl here ↦ absurd (none-some way (sym none ∙ (ap (way_at lines') (sym here) ∙ is)))
  | inr apart ↦ sym (others line apart) ∙ is
]

pub clean_part : (stored : List ℕ) (lines lines' : List (List Way)) → IsPart lines' lines → AreClean stored lines → AreClean stored lines'
clean_part stored lines lines' part clean line way is = clean line way (part line way is)

pub copies_part : (count : ℕ) (lines lines' : List (List Way)) → IsCache line_sets lines' → IsPart lines' lines → AreCopies count lines → AreCopies count lines'
copies_part count lines lines' is part copies = record {
  cache = is;
  inside = λ line way held. copies.inside line way (part line way held);
  whole = λ line way held. copies.whole line way (part line way held);
}

-- a way more, or another one in place of a way
pub copies_with : (count : ℕ) (lines lines' : List (List Way)) (line : ℕ) (way : Way) → IsCache line_sets lines' → line < count → length way.copy ≡ 64 →
    way_at lines' line ≡ Some way → ((other : ℕ) → other ≢ line → way_at lines' other ≡ way_at lines other) → AreCopies count lines → AreCopies count lines'
copies_with count lines lines' line way is below whole here others copies = record {
  cache = is;
  inside = λ other found held. elim (same_or_not other line) [
    | inl same ↦ subst (λ l. l < count) (sym same) below
    | inr apart ↦ copies.inside other found (sym (others other apart) ∙ held)
  ];
  whole = λ other found held. elim (same_or_not other line) [
    | inl same ↦ subst (λ (w : Way). length w.copy ≡ 64) (same_Some way found (sym here ∙ (ap (way_at lines') (sym same) ∙ held))) whole
    | inr apart ↦ copies.whole other found (sym (others other apart) ∙ held)
  ];
}

-- it is the store's line, or marked
pub clean_with : (stored : List ℕ) (lines lines' : List (List Way)) (line : ℕ) (way : Way) → (way.changed ≡ false → way.copy ≡ line_at stored line) →
    way_at lines' line ≡ Some way → ((other : ℕ) → other ≢ line → way_at lines' other ≡ way_at lines other) → AreClean stored lines → AreClean stored lines'
clean_with stored lines lines' line way fresh here others clean other found held unmarked = elim (same_or_not other line) [
  | inl same ↦
      let is : way ≡ found = same_Some way found (sym here ∙ (ap (way_at lines') (sym same) ∙ held)) in
      subst (λ (w : Way). w.copy ≡ line_at stored other) is
      (fresh (ap (λ (w : Way). w.changed) is ∙ unmarked) ∙ ap (line_at stored) (sym same))
  | inr apart ↦ clean other found (sym (others other apart) ∙ held) unmarked
]

-- a held line gets other bytes
pub over_changed : (stored : List ℕ) (count : ℕ) (lines lines' : List (List Way)) (line : ℕ) (way : Way) → line < count → length way.copy ≡ 64 →
    way_at lines' line ≡ Some way → ((other : ℕ) → other ≢ line → way_at lines' other ≡ way_at lines other) →
    contents_over stored count lines' ≡ with_line (contents_over stored count lines) line way.copy
over_changed stored count lines lines' line way below whole here others = sym (with_line-joined_lines
    (λ l. laid_over (way_at lines l) (line_at stored l)) (λ l. laid_over (way_at lines' l) (line_at stored l)) count line way.copy (length-line stored lines) below
    (laid_some (way_at lines' line) way (line_at stored line) here ∙ whole_same way.copy whole)
    (λ other apart. ap (λ (f : Option Way). laid_over f (line_at stored other)) (others other apart)))

-- a line of the contents that has no copy is the store's
pub over_unheld : (stored : List ℕ) (count : ℕ) (lines : List (List Way)) (line : ℕ) → length stored ≡ 64 * count → line < count → way_at lines line ≡ None →
    line_at (contents_over stored count lines) line ≡ line_at stored line
over_unheld stored count lines line long below none =
    line_at-joined_lines (λ line. laid_over (way_at lines line) (line_at stored line)) count line (length-line stored lines) below
    ∙ (laid_none (way_at lines line) (line_at stored line) none ∙ whole_same (line_at stored line) (length-line_at stored line (omega (arith, below, long))))

-- where no line has a copy, the contents are the store's
pub over_nothing : (stored : List ℕ) (count : ℕ) (lines : List (List Way)) → length stored ≡ 64 * count → ((line : ℕ) → way_at lines line ≡ None) →
    contents_over stored count lines ≡ stored
over_nothing stored count lines long none =
    joined_lines-same (λ line. laid_over (way_at lines line) (line_at stored line)) (λ line. whole_line (line_at stored line)) count
    (λ line below. laid_none (way_at lines line) (line_at stored line) (none line))
    ∙ as_lines stored count long
