-- Words are searched in tables.
use Rattle.std.proofs.Common.{◌≡◌, ℕ, ◌++◌, Bool, true, false, List, [], ◌∷◌, refl, ◌∙◌}
use Rattle.std.specs.Prelude.{Some, None, map}
use Rattle.std.specs.Str.{bytes_eq}
use Rattle.rv32_decode.specs.Table.{ops, row_of, rows}
use Rattle.rv32_decode.specs.declared.table.Row as code
use Rattle.rv32_asm_syntax.specs.Keywords.{Keyword, row_entries}
use Rattle.rv32_asm_syntax.specs.Tables.{keyword_in, row_entry}

at_first : (c : Bool) (word : List ℕ) (entry : List ℕ × Keyword) (rest more : List (List ℕ × Keyword)) (keyword : Keyword) → bytes_eq entry.0 word ≡ c → keyword_in (entry ∷ rest) word ≡ Some keyword → (keyword_in rest word ≡ Some keyword → keyword_in (rest ++ more) word ≡ Some keyword) → keyword_in (entry ∷ (rest ++ more)) word ≡ Some keyword
at_first true word entry rest more keyword e h next = let f = rw e at h in rw e f
at_first false word entry rest more keyword e h next = let f = rw e at h in rw e (next f)

pub found_first : (a b : List (List ℕ × Keyword)) (word : List ℕ) (keyword : Keyword) → keyword_in a word ≡ Some keyword → keyword_in (a ++ b) word ≡ Some keyword
found_first [] b word keyword h = cc
found_first (x ∷ xs) b word keyword h = at_first (bytes_eq x.0 word) word x xs b keyword refl h (found_first xs b word keyword)

at_later : (c : Bool) (word : List ℕ) (entry : List ℕ × Keyword) (rest more : List (List ℕ × Keyword)) → bytes_eq entry.0 word ≡ c → keyword_in (entry ∷ rest) word ≡ None → (keyword_in rest word ≡ None → keyword_in (rest ++ more) word ≡ keyword_in more word) → keyword_in (entry ∷ (rest ++ more)) word ≡ keyword_in more word
at_later true word entry rest more e h next = let f = rw e at h in cc
at_later false word entry rest more e h next = let f = rw e at h in rw e (next f)

pub found_later : (a b : List (List ℕ × Keyword)) (word : List ℕ) → keyword_in a word ≡ None → keyword_in (a ++ b) word ≡ keyword_in b word
found_later [] b word h = refl
found_later (x ∷ xs) b word h = at_later (bytes_eq x.0 word) word x xs b refl h (found_later xs b word)

rows_of_names : (table : List code.Row) → map (λ row. row_entry row.op) table ≡ map row_entry (map (λ row. row.op) table)
rows_of_names [] = refl
rows_of_names (row ∷ table) = rw (rows_of_names table) refl

pub rows_named : (table : List code.Row) → map (λ row. row.op) table ≡ map (λ row. row.op) rows → map (λ row. row_entry row.op) table ≡ row_entries
unfolding row_entries rows ops row_of
rows_named table e = rows_of_names table ∙ rw e refl
