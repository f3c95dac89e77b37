-- What the lines of a text say, one after another.
use Rattle.std.proofs.Common.{◌≡◌, ◌≢◌, ℕ, ◌+◌, ◌<◌, length, List, [], ◌∷◌, ◌++◌, Result, Ok, Err, refl, sym, ap, subst, arith, ◌∙◌, append_assoc}
use Rattle.std.specs.Borrow.{Bor}
use Rattle.std.specs.Prelude.{Option, Some, None, IfSome, unwrap_or}
use Rattle.std.specs.Option.{option_to_list}
use Rattle.std.proofs.lemmas.List.{append-nil}
use Rattle.std.proofs.lemmas.List.Elements.{All-append, All-nil}
use Rattle.rv32_asm_syntax.specs.Lines.{lines_of}
use Rattle.rv32_asm_syntax.specs.Parts.{lines_left}
use Rattle.adversary_script.specs.declared.fault.ScriptFault.{ScriptFault}
use Rattle.adversary_script.specs.declared.script.ScriptLine.{ScriptLine}
use Rattle.adversary_script.specs.Grammar.{line_in, line_of, read_alone, script_line}
use Rattle.adversary_script.specs.Words.{without_comment, words_of}
use Rattle.adversary_script.specs.Script.{Fits, FitScript, LineFault, ◌>>=◌, in_line, script_from, script_of}
use Rattle.sec_base.specs.Geometry.{GeometryView}

-- ---- a line

in_words : (geometry : GeometryView) (words : List (List ℕ)) → words ≢ [] → line_in geometry words ≡ read_alone (script_line geometry words)
in_words geometry [] some = absurd (some refl)
in_words geometry (first ∷ words) some = refl

pub nothing_said : (geometry : GeometryView) (line : List ℕ) (words : List (List ℕ)) → words ≡ words_of (without_comment line) → words ≡ [] → Ok None ≡ line_of geometry line
unfolding line_of
nothing_said geometry line words e none = ap (line_in geometry) (sym none ∙ e)

pub line_said : (geometry : GeometryView) (line : List ℕ) (words : List (List ℕ)) → words ≡ words_of (without_comment line) → words ≢ [] → read_alone (script_line geometry words) ≡ line_of geometry line
unfolding line_of
line_said geometry line words e some = sym (in_words geometry words some) ∙ ap (line_in geometry) e

-- ---- the lines of a text

-- lines that were read, and those behind them
abbrev pub behind : List ScriptLine → Result (List ScriptLine) LineFault → Result (List ScriptLine) LineFault
behind lines (Ok more) = Ok (lines ++ more)
behind lines (Err fault) = Err fault

-- what a line says, before what the lines behind it say
abbrev before_others : ℕ → Result (Option ScriptLine) ScriptFault → Result (List ScriptLine) LineFault → Result (List ScriptLine) LineFault
before_others number answer others = in_line number answer >>= λ said. others >>= λ lines. Ok (option_to_list said ++ lines)

joined : (number : ℕ) (said : Option ScriptLine) (items new : List ScriptLine) (others : Result (List ScriptLine) LineFault) → new ≡ items ++ option_to_list said → behind new others ≡ behind items (before_others number (Ok said) others)
joined number said items new (Ok more) e = rw (e, append_assoc) refl
joined number said items new (Err fault) e = refl

no_words : words_of [] ≡ []
unfolding words_of
no_words = refl

no_line : (geometry : GeometryView) → line_of geometry [] ≡ Ok None
no_line geometry = sym (nothing_said geometry [] [] (sym no_words) refl)

no_lines : (geometry : GeometryView) (number : ℕ) → script_from geometry number (lines_of []) ≡ Ok []
unfolding script_from lines_of
no_lines geometry number = ap (λ said. before_others number said (Ok [])) (no_line geometry)

-- the lines of what is left behind a line feed, or of nothing
left_over : (geometry : GeometryView) (number : ℕ) (cut : Option (Bor (List ℕ))) (rest nothing : Bor (List ℕ)) → rest ≡ unwrap_or cut nothing → nothing.now ≡ [] → script_from geometry number (lines_of rest.now) ≡ script_from geometry number (lines_left cut)
unfolding script_from
left_over geometry number (Some text) rest nothing e none = ap (λ each. script_from geometry number (lines_of each.now)) e
left_over geometry number None rest nothing e none =
    ap (λ each. script_from geometry number (lines_of each.now)) e
    ∙ ap (λ each. script_from geometry number (lines_of each)) none ∙ no_lines geometry number

one_line : (geometry : GeometryView) (number : ℕ) (text line : List ℕ) (cut : Option (Bor (List ℕ))) → lines_of text ≡ line ∷ lines_left cut → script_from geometry number (lines_of text) ≡ before_others number (line_of geometry line) (script_from geometry (number + 1) (lines_left cut))
unfolding script_from
one_line geometry number text line cut e = ap (script_from geometry number) e

pub goes_on : (geometry : GeometryView) (number : ℕ) (text line : List ℕ) (cut : Option (Bor (List ℕ))) (rest nothing : Bor (List ℕ)) (said : Option ScriptLine) (items new : List ScriptLine) (whole : Result (List ScriptLine) LineFault) →
    lines_of text ≡ line ∷ lines_left cut → rest ≡ unwrap_or cut nothing → nothing.now ≡ [] → Ok said ≡ line_of geometry line → new ≡ items ++ option_to_list said →
    behind items (script_from geometry number (lines_of text)) ≡ whole → behind new (script_from geometry (number + 1) (lines_of rest.now)) ≡ whole
goes_on geometry number text line cut rest nothing said items new whole e f none says joins so_far =
    ap (behind new) (left_over geometry (number + 1) cut rest nothing f none)
    ∙ joined number said items new (script_from geometry (number + 1) (lines_left cut)) joins
    ∙ ap (λ each. behind items (before_others number each (script_from geometry (number + 1) (lines_left cut)))) says
    ∙ ap (behind items) (sym (one_line geometry number text line cut e)) ∙ so_far

stopped : (geometry : GeometryView) (number : ℕ) (text line : List ℕ) (cut : Option (Bor (List ℕ))) (items : List ScriptLine) (code : ScriptFault) (whole : Result (List ScriptLine) LineFault) →
    lines_of text ≡ line ∷ lines_left cut → Err code ≡ line_of geometry line → behind items (script_from geometry number (lines_of text)) ≡ whole → whole ≡ Err (record { line = number; code = code })
stopped geometry number text line cut items code whole e says so_far =
    sym so_far ∙ ap (behind items) (one_line geometry number text line cut e)
    ∙ ap (λ each. behind items (before_others number each (script_from geometry (number + 1) (lines_left cut)))) (sym says)

-- the first fault of all of a text
pub stops : (geometry : GeometryView) (number : ℕ) (all text line : List ℕ) (cut : Option (Bor (List ℕ))) (items : List ScriptLine) (code : ScriptFault) →
    lines_of text ≡ line ∷ lines_left cut → Err code ≡ line_of geometry line → behind items (script_from geometry number (lines_of text)) ≡ script_from geometry 1 (lines_of all) → script_of geometry all ≡ Err (record { line = number; code = code })
unfolding script_of
stops geometry number all text line cut items code e says so_far = stopped geometry number text line cut items code _ e says so_far

-- the script of all of a text
pub ends : (geometry : GeometryView) (number : ℕ) (all text : List ℕ) (items : List ScriptLine) → length text ≡ 0 → behind items (script_from geometry number (lines_of text)) ≡ script_from geometry 1 (lines_of all) → script_of geometry all ≡ Ok items
unfolding script_of
ends geometry number all [] items none so_far = sym so_far ∙ ap (behind items) (no_lines geometry number) ∙ ap Ok (append-nil items)
ends geometry number all (x ∷ xs) items none so_far = grind (arith, none)

-- less of the text is left
pub shorter : (text : List ℕ) (cut : Option (Bor (List ℕ))) (rest nothing : Bor (List ℕ)) → rest ≡ unwrap_or cut nothing → nothing.now ≡ [] → 0 < length text → IfSome cut (λ left. length left.now < length text) → length rest.now < length text
shorter text None rest nothing e none some less = rw (e, none) some
shorter text (Some left) rest nothing e none some less = rw e less

-- ---- actions fit the memory

said_fits : (geometry : GeometryView) (said : Option ScriptLine) → IfSome said (λ line. Fits geometry line.action) → FitScript geometry (option_to_list said)
said_fits geometry None fits = All-nil (λ line. Fits geometry line.action)
said_fits geometry (Some line) fits = λ k d below. let none : k ≡ 0 = omega (arith, below) in rw none fits

pub joined_fit : (geometry : GeometryView) (said : Option ScriptLine) (items new : List ScriptLine) → new ≡ items ++ option_to_list said → FitScript geometry items → IfSome said (λ line. Fits geometry line.action) → FitScript geometry new
joined_fit geometry said items new e fit more =
    let P : List ScriptLine → Type 0 = λ lines. FitScript geometry lines in
    subst P (sym e) (All-append (λ line. Fits geometry line.action) items (option_to_list said) fit (said_fits geometry said more))
