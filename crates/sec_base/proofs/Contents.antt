-- What the files in memory have for a name.
use Rattle.std.proofs.Common.{ℕ, Bool, true, false, List, [], ◌∷◌, ◌++◌, Some, cond, ◌≡◌, ◌≢◌, ◌∙◌, ap, sym, refl}
use Rattle.std.proofs.lemmas.List.Sums.{fold-append}
use Rattle.std.proofs.lemmas.Slice.Eq.{bytes_eq-Decides}
use Rattle.std.specs.Str.{bytes_eq}
use Rattle.sec_base.proofs.Results.{test_fails}
use Rattle.sec_base.specs.MemoryFiles.{content_of, content_with}
use Rattle.sec_base.specs.declared.memory_files.NamedFile.{NamedFile}

content_of-append : (files : List NamedFile) (file : NamedFile) (name : List ℕ) →
    content_of (files ++ file ∷ []) name ≡ content_with name (content_of files name) file
unfolding content_of
content_of-append files file name = fold-append (content_with name) _ files (file ∷ [])

-- a file that was added is found by its name
pub added_file : (files after : List NamedFile) (file : NamedFile) (name bytes : List ℕ) →
    after ≡ files ++ file ∷ [] → file ≡ record { name = name; bytes = bytes } → content_of after name ≡ Some bytes
added_file files after file name bytes grown is =
    let same : bytes_eq name name ≡ true = (bytes_eq-Decides name name).1 refl in
    ap (λ (fs : List NamedFile). content_of fs name) grown
    ∙ content_of-append files file name
    ∙ ap (λ (f : NamedFile). content_with name (content_of files name) f) is
    ∙ ap (λ (b : Bool). cond b (Some bytes) (content_of files name)) same

-- and each other name has what it had
pub other_file : (files after : List NamedFile) (file : NamedFile) (name bytes other : List ℕ) →
    after ≡ files ++ file ∷ [] → file ≡ record { name = name; bytes = bytes } → other ≢ name →
    content_of after other ≡ content_of files other
other_file files after file name bytes other grown is differs =
    let not_same : bytes_eq name other ≡ false =
    test_fails (bytes_eq name other) (bytes_eq-Decides name other).0 (λ (e : name ≡ other). differs (sym e)) in
    ap (λ (fs : List NamedFile). content_of fs other) grown
    ∙ content_of-append files file other
    ∙ ap (λ (f : NamedFile). content_with other (content_of files other) f) is
    ∙ ap (λ (b : Bool). cond b (Some bytes) (content_of files other)) not_same
