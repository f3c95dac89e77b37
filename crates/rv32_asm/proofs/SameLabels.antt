-- Labels that are alike give the same bytes and the same entry.
use Rattle.std.proofs.Common.{◌≡◌, ℕ, ◌+◌, ℤ, Bool, not, List, [], ◌∷◌, ◌++◌, Option, Some, None, Result, Ok, Err, length, option_map, unwrap_or, refl, ap}
use Rattle.std.specs.List.{list_any, list_all, flat_map}
use Rattle.rv32_asm_syntax.specs.declared.fault.AsmFault.{AsmFault}
use Rattle.rv32_asm.specs.Encoding.{encoded_bytes, code_from, encoded_at, expressions_in, fit_from, fits_at, fits_width, is_in_range, misses_label, value_bytes}
use Rattle.rv32_asm_syntax.specs.Expressions.{Expression}
use Rattle.rv32_asm.specs.Labels.{Label, Site}
use Rattle.rv32_asm.specs.Passes.{LineFault, statement_bytes, in_line, line_bytes, second_pass, ◌>>=◌}
use Rattle.rv32_asm_syntax.specs.Reading.{statement_of}
use Rattle.rv32_asm.specs.SeenLabels.{AreAlike}
use Rattle.rv32_asm_syntax.specs.Statements.{Immediate, Whole, Upper, Lower, Instruction, Statement, Instructions, Data, Bytes, Zeros, Aligned, Nothing}
use Rattle.rv32_asm.specs.Values.{address_of, immediate_value, is_missing, value_of}
use Rattle.rv32_asm.proofs.FirstSteps.{there_alike}

any_same : {X : Type 0} (p q : X → Bool) → ((x : X) → p x ≡ q x) → (xs : List X) → list_any p xs ≡ list_any q xs
any_same p q same [] = refl
any_same p q same (x ∷ xs) = rw (same x, any_same p q same xs) refl

all_same : {X : Type 0} (p q : X → Bool) → ((x : X) → p x ≡ q x) → (xs : List X) → list_all p xs ≡ list_all q xs
all_same p q same [] = refl
all_same p q same (x ∷ xs) = rw (same x, all_same p q same xs) refl

bytes_same : {X : Type 0} (f g : X → List ℕ) → ((x : X) → f x ≡ g x) → (xs : List X) → flat_map f xs ≡ flat_map g xs
bytes_same f g same [] = refl
bytes_same f g same (x ∷ xs) = rw (same x, bytes_same f g same xs) refl

module _ (a b : List Label) (alike : AreAlike a b) where
  address_same : (name : Option (List ℕ)) → address_of a name ≡ address_of b name
  address_same None = refl
  address_same (Some name) = ap (λ (o : Option Site). unwrap_or (option_map (λ site. site.address) o) 0) (alike.each name)

  value_same : (e : Expression) → value_of a e ≡ value_of b e
  unfolding value_of
  value_same e = rw (address_same e.label) refl

  names_same : (label : Option (List ℕ)) (number : ℤ) →
      is_missing a (record { label = label; number = number }) ≡ is_missing b (record { label = label; number = number })
  names_same None number = refl
  names_same (Some name) number = ap not (there_alike a b alike name)

  missing_same : (e : Expression) → is_missing a e ≡ is_missing b e
  missing_same e = names_same e.label e.number

  immediate_same : (i : Immediate) → immediate_value a i ≡ immediate_value b i
  unfolding immediate_value
  immediate_same (Whole e) = value_same e
  immediate_same (Upper e) = rw (value_same e) refl
  immediate_same (Lower e) = rw (value_same e) refl

  fits_same : (address : ℕ) (i : Instruction) → fits_at a address i ≡ fits_at b address i
  unfolding fits_at
  fits_same address i = rw (immediate_same i.immediate) refl

  encoded_same : (address : ℕ) (i : Instruction) → encoded_at a address i ≡ encoded_at b address i
  unfolding encoded_at
  encoded_same address i = rw (immediate_same i.immediate) refl

  fit_same : (address : ℕ) (is : List Instruction) → fit_from a address is ≡ fit_from b address is
  fit_same address [] = refl
  fit_same address (i ∷ is) = rw (fits_same address i, fit_same (address + 4) is) refl

  code_same : (address : ℕ) (is : List Instruction) → code_from a address is ≡ code_from b address is
  code_same address [] = refl
  code_same address (i ∷ is) = rw (encoded_same address i, code_same (address + 4) is) refl

  misses_same : (statement : Statement) → misses_label a statement ≡ misses_label b statement
  unfolding misses_label
  misses_same statement = any_same (is_missing a) (is_missing b) missing_same (expressions_in statement)

  in_range_same : (address : ℕ) (statement : Statement) → is_in_range a address statement ≡ is_in_range b address statement
  unfolding is_in_range
  in_range_same address (Instructions is) = fit_same address is
  in_range_same address (Data width es) = all_same _ _ (λ e. ap (fits_width width) (value_same e)) es
  in_range_same address (Bytes bytes) = refl
  in_range_same address (Zeros number) = refl
  in_range_same address (Aligned number) = refl
  in_range_same address Nothing = refl

  bytes_at_same : (address : ℕ) (statement : Statement) → encoded_bytes a address statement ≡ encoded_bytes b address statement
  unfolding encoded_bytes
  bytes_at_same address (Instructions is) = code_same address is
  bytes_at_same address (Data width es) = bytes_same _ _ (λ e. ap (value_bytes width) (value_same e)) es
  bytes_at_same address (Bytes bytes) = refl
  bytes_at_same address (Zeros number) = refl
  bytes_at_same address (Aligned number) = refl
  bytes_at_same address Nothing = refl

  emitted_same : (address : ℕ) (statement : Statement) → statement_bytes a address statement ≡ statement_bytes b address statement
  emitted_same address statement =
      rw (misses_same statement, in_range_same address statement, bytes_at_same address statement) refl

  said_same : (read : Result Statement AsmFault) (address : ℕ) → (read >>= statement_bytes a address) ≡ (read >>= statement_bytes b address)
  said_same (Ok statement) address = emitted_same address statement
  said_same (Err fault) address = refl

  line_same : (address : ℕ) (line : List ℕ) → line_bytes a address line ≡ line_bytes b address line
  unfolding line_bytes
  line_same address line = said_same (statement_of line) address

  onward_same : (r : Result (List ℕ) LineFault) (f g : List ℕ → Result (List ℕ) LineFault) → ((more : List ℕ) → f more ≡ g more) →
      (r >>= f) ≡ (r >>= g)
  onward_same (Ok more) f g same = same more
  onward_same (Err fault) f g same = refl

  pub second_same : (lines : List (List ℕ)) (number : ℕ) (bytes : List ℕ) →
      second_pass a number bytes lines ≡ second_pass b number bytes lines
  unfolding second_pass
  second_same [] number bytes = refl
  second_same (line ∷ lines) number bytes =
      rw (line_same (length bytes) line)
      (onward_same (in_line number (line_bytes b (length bytes) line)) _ _ (λ more. second_same lines (number + 1) (bytes ++ more)))
