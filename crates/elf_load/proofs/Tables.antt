-- Program headers one after another.
use Rattle.std.proofs.Common.{◌≡◌, ℕ, zero, suc, ◌+◌, ◌*◌, List, [], ◌∷◌, ◌++◌, ap, ◌∙◌, arith, add-one}
use Rattle.elf_load.specs.Format.{headers_from, program_header}

-- one more header stands behind the others
headers_from-suc : (file : List ℕ) (at count : ℕ)
    → headers_from file at (suc count) ≡ headers_from file at count ++ program_header file (at + 32 * count) ∷ []
headers_from-suc file at zero =
    let here : at ≡ at + 32 * zero = omega arith in
    ap (λ place. program_header file place ∷ []) here
headers_from-suc file at (suc count) =
    let here : at + 32 + 32 * count ≡ at + 32 * suc count = omega arith in
    ap (λ rest. program_header file at ∷ rest)
    (headers_from-suc file (at + 32) count ∙ ap (λ place. headers_from file (at + 32) count ++ program_header file place ∷ []) here)

pub headers_from-more : (file : List ℕ) (at count : ℕ)
    → headers_from file at (count + 1) ≡ headers_from file at count ++ program_header file (at + 32 * count) ∷ []
headers_from-more file at count = rw add-one (headers_from-suc file at count)
