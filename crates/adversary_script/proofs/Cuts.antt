-- A line is cut into its words.
use Rattle.std.proofs.Common.{◌≡◌, ℕ, ◌+◌, ◌<◌, ◌≤◌, Bool, true, false, ◌&&◌, List, [], ◌∷◌, length, take, drop, suc, max, sym, refl, ap, subst, ◌∙◌, arith}
use Rattle.std.specs.Prelude.{if◌then◌else◌, IsTrue, ◌↔◌, ◌==◌}
use Rattle.std.specs.List.{onto_first, prefix_len}
use Rattle.rv32_asm_syntax.specs.Characters.{is_blank, skip_blanks}
use Rattle.adversary_script.specs.Words.{is_in_words, begins_in_word, words_of}
use Rattle.adversary_script.specs.Parts.{front_len}

first_taken : {A : Type 0} (c : Bool) (p q : A) → c ≡ true → (if c then p else q) ≡ p
first_taken true p q e = refl
first_taken false p q e = cc

second_taken : {A : Type 0} (c d : Bool) (p q r : A) → c ≡ false → d ≡ true → (if c then p else if d then q else r) ≡ q
second_taken false true p q r e f = refl
second_taken true d p q r e f = cc
second_taken false false p q r e f = cc

third_taken : {A : Type 0} (c d : Bool) (p q r : A) → c ≡ false → d ≡ false → (if c then p else if d then q else r) ≡ r
third_taken false false p q r e f = refl
third_taken true d p q r e f = cc
third_taken false true p q r e f = cc

blank_goes : (x : ℕ) (xs : List ℕ) → is_blank x ≡ true → words_of (x ∷ xs) ≡ words_of xs
unfolding words_of
blank_goes x xs e = first_taken (is_blank x) (words_of xs) _ e

word_goes_on : (x : ℕ) (xs : List ℕ) → is_blank x ≡ false → (is_in_words x && begins_in_word xs) ≡ true → words_of (x ∷ xs) ≡ onto_first x (words_of xs)
unfolding words_of
word_goes_on x xs e f = second_taken (is_blank x) (is_in_words x && begins_in_word xs) _ _ _ e f

word_ends : (x : ℕ) (xs : List ℕ) → is_blank x ≡ false → (is_in_words x && begins_in_word xs) ≡ false → words_of (x ∷ xs) ≡ (x ∷ []) ∷ words_of xs
unfolding words_of
word_ends x xs e f = third_taken (is_blank x) (is_in_words x && begins_in_word xs) _ _ _ e f

-- ---- blanks at the front

skip_blank : (x : ℕ) (xs : List ℕ) → is_blank x ≡ true → skip_blanks (x ∷ xs) ≡ skip_blanks xs
skip_blank x xs e = first_taken (is_blank x) (skip_blanks xs) _ e

stay_others : {A : Type 0} (c : Bool) (p q : A) → c ≡ false → (if c then p else q) ≡ q
stay_others false p q e = refl
stay_others true p q e = cc

skip_other : (x : ℕ) (xs : List ℕ) → is_blank x ≡ false → skip_blanks (x ∷ xs) ≡ x ∷ xs
skip_other x xs e = stay_others (is_blank x) _ _ e

by_blank : (b : Bool) (x : ℕ) (xs : List ℕ) → is_blank x ≡ b → words_of (skip_blanks xs) ≡ words_of xs → words_of (skip_blanks (x ∷ xs)) ≡ words_of (x ∷ xs)
by_blank true x xs e next = ap words_of (skip_blank x xs e) ∙ next ∙ sym (blank_goes x xs e)
by_blank false x xs e next = ap words_of (skip_other x xs e)

pub skipped : (xs : List ℕ) → words_of (skip_blanks xs) ≡ words_of xs
skipped [] = refl
skipped (x ∷ xs) = by_blank (is_blank x) x xs refl (skipped xs)

-- ---- the first word

one_plus : (n : ℕ) → 1 + n ≡ suc n
one_plus n = omega arith

-- the first word of a text that begins with one, and the words behind it
abbrev pub IsCut : List ℕ → Type 0
IsCut text = words_of text ≡ take (front_len text) text ∷ words_of (drop (front_len text) text)

not_blank : (x : ℕ) → is_in_words x ≡ true → is_blank x ≡ false
not_blank x e = grind (arith, e)

one_more : (p : ℕ) → max (1 + p) 1 ≡ suc p
one_more p = omega arith

len_on : (x : ℕ) (xs : List ℕ) → is_in_words x ≡ true → front_len (x ∷ xs) ≡ suc (prefix_len is_in_words xs)
len_on x xs e = ap (λ n. max n 1) (first_taken (is_in_words x) (1 + prefix_len is_in_words xs) 0 e) ∙ one_more (prefix_len is_in_words xs)

len_off : (x : ℕ) (xs : List ℕ) → is_in_words x ≡ false → front_len (x ∷ xs) ≡ 1
len_off x xs e = ap (λ n. max n 1) (stay_others (is_in_words x) (1 + prefix_len is_in_words xs) 0 e)

-- a word of one byte
alone : (x : ℕ) (xs : List ℕ) (n : ℕ) → n ≡ 1 → words_of (x ∷ xs) ≡ (x ∷ []) ∷ words_of xs → words_of (x ∷ xs) ≡ take n (x ∷ xs) ∷ words_of (drop n (x ∷ xs))
alone x xs n e cut = rw e cut

-- one byte before a word
longer : (x y : ℕ) (ys : List ℕ) (n m : ℕ) → n ≡ suc m → words_of (x ∷ y ∷ ys) ≡ onto_first x (words_of (y ∷ ys)) → words_of (y ∷ ys) ≡ take m (y ∷ ys) ∷ words_of (drop m (y ∷ ys)) → words_of (x ∷ y ∷ ys) ≡ take n (x ∷ y ∷ ys) ∷ words_of (drop n (x ∷ y ∷ ys))
longer x y ys n m e on next = rw e (on ∙ ap (onto_first x) next)

both_true : (c d : Bool) → c ≡ true → d ≡ true → (c && d) ≡ true
both_true true d e f = f
both_true false d e f = cc

right_false : (c d : Bool) → d ≡ false → (c && d) ≡ false
right_false true d f = f
right_false false d f = refl

left_false : (c d : Bool) → c ≡ false → (c && d) ≡ false
left_false false d e = refl
left_false true d e = cc

no_more : (y : ℕ) (ys : List ℕ) → is_in_words y ≡ false → prefix_len is_in_words (y ∷ ys) ≡ 0
no_more y ys e = stay_others (is_in_words y) _ _ e

more : (y : ℕ) (ys : List ℕ) → is_in_words y ≡ true → prefix_len is_in_words (y ∷ ys) ≡ suc (prefix_len is_in_words ys)
more y ys e = first_taken (is_in_words y) (1 + prefix_len is_in_words ys) 0 e ∙ one_plus (prefix_len is_in_words ys)

by_next : (b : Bool) (x y : ℕ) (ys : List ℕ) → is_in_words x ≡ true → is_in_words y ≡ b → (is_in_words y ≡ true → IsCut (y ∷ ys)) → IsCut (x ∷ y ∷ ys)
by_next true x y ys e f next =
    longer x y ys (front_len (x ∷ y ∷ ys)) (front_len (y ∷ ys)) (len_on x (y ∷ ys) e ∙ ap suc (more y ys f ∙ sym (len_on y ys f)))
    (word_goes_on x (y ∷ ys) (not_blank x e) (both_true _ _ e f)) (next f)
by_next false x y ys e f next =
    alone x (y ∷ ys) (front_len (x ∷ y ∷ ys)) (len_on x (y ∷ ys) e ∙ ap suc (no_more y ys f))
    (word_ends x (y ∷ ys) (not_blank x e) (right_false (is_in_words x) _ f))

-- the next word is cut off, where a word stands next
abbrev IsNextCut : List ℕ → Type 0
IsNextCut [] = Unit {0}
IsNextCut (y ∷ ys) = is_in_words y ≡ true → IsCut (y ∷ ys)

by_first : (b : Bool) (x : ℕ) (xs : List ℕ) → is_blank x ≡ false → is_in_words x ≡ b → IsNextCut xs → IsCut (x ∷ xs)
by_first false x xs e f next = alone x xs (front_len (x ∷ xs)) (len_off x xs f) (word_ends x xs e (left_false _ (begins_in_word xs) f))
by_first true x [] e f next = alone x [] (front_len (x ∷ [])) (len_on x [] f) (word_ends x [] e (right_false (is_in_words x) false refl))
by_first true x (y ∷ ys) e f next = by_next (is_in_words y) x y ys f refl next

cut : (x : ℕ) (xs : List ℕ) → is_blank x ≡ false → IsCut (x ∷ xs)
cut x [] e = by_first (is_in_words x) x [] e refl tt
cut x (y ∷ ys) e = by_first (is_in_words x) x (y ∷ ys) e refl (λ f. cut y ys (not_blank y f))

-- the text begins with no blank
abbrev IsBegun : List ℕ → Type 0
IsBegun [] = Unit {0}
IsBegun (x ∷ xs) = is_blank x ≡ false

begun_by : (b : Bool) (x : ℕ) (xs : List ℕ) → is_blank x ≡ b → IsBegun (skip_blanks xs) → IsBegun (skip_blanks (x ∷ xs))
begun_by true x xs e next = subst IsBegun (sym (skip_blank x xs e)) next
begun_by false x xs e next = subst IsBegun (sym (skip_other x xs e)) e

begun : (xs : List ℕ) → IsBegun (skip_blanks xs)
begun [] = tt
begun (x ∷ xs) = begun_by (is_blank x) x xs refl (begun xs)

first_cut : (text : List ℕ) → IsBegun text → 0 < length text → IsCut text
first_cut [] is some = elim some [ ]
first_cut (x ∷ xs) is some = cut x xs is

none_cut : (text : List ℕ) → IsBegun text → words_of text ≡ [] → text ≡ []
none_cut [] is none = refl
none_cut (x ∷ xs) is none = let same : (take (front_len (x ∷ xs)) (x ∷ xs) ∷ words_of (drop (front_len (x ∷ xs)) (x ∷ xs))) ≡ [] = sym (cut x xs is) ∙ none in cc

-- the first word of what is left of a line, and the words behind it
pub next_word : (rest text : List ℕ) (n : ℕ) → text ≡ skip_blanks rest → n ≡ front_len text → 0 < length text → words_of rest ≡ take n text ∷ words_of (drop n text)
next_word rest text n e f some =
    rw f (sym (skipped rest) ∙ ap words_of (sym e) ∙ first_cut text (subst IsBegun (sym e) (begun rest)) some)

pub no_word : (rest text : List ℕ) → text ≡ skip_blanks rest → text ≡ [] → words_of rest ≡ []
unfolding words_of
no_word rest text e none = sym (skipped rest) ∙ ap words_of (sym e ∙ none)

pub no_text : (rest text : List ℕ) → text ≡ skip_blanks rest → words_of rest ≡ [] → text ≡ []
no_text rest text e none = none_cut text (subst IsBegun (sym e) (begun rest)) (ap words_of e ∙ skipped rest ∙ none)

none_or_some : (n : ℕ) (b : Bool) → b ≡ (suc n == 0) → b ≡ false
none_or_some n b e = grind (arith, e)

-- a line has no word left where nothing but blanks is left
pub emptied : (rest text : List ℕ) (b : Bool) → text ≡ skip_blanks rest → b ≡ (length text == 0) → IsTrue b ↔ (words_of rest ≡ [])
emptied rest [] b g e = rw e ((λ _. no_word rest [] g refl), (λ _. refl))
emptied rest (x ∷ xs) b g e = rw (none_or_some (length xs) b e) ((λ never. cc), (λ none. let same : (x ∷ xs) ≡ [] = no_text rest (x ∷ xs) g none in cc))

pub no_words : (rest text : List ℕ) → text ≡ skip_blanks rest → true ≡ (length text == 0) → words_of rest ≡ []
no_words rest text g e = (emptied rest text true g e).0 refl

pub within_text : (text : List ℕ) (n : ℕ) → 0 < length text → n ≤ length text → max n 1 ≤ length text
within_text text n some within = omega (arith, some, within)
