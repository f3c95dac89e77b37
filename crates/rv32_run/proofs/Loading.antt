-- Bytes that are laid over a memory one after another.
use Rattle.std.proofs.Common.{◌≡◌, ◌≤◌, ◌<◌, ℕ, ◌+◌, ◌*◌, ◌/◌, ◌%◌, ◌^◌, List, [], ◌∷◌, ◌++◌, length, take, drop, get_or, replicate, fold, refl, sym, ap, ◌∙◌, arith, length-append, length-drop}
use Rattle.std.proofs.lemmas.List.{take_all, drop_more, length-take, length-replicate}
use Rattle.std.proofs.lemmas.List.Sums.{fold_more}
use Rattle.std.proofs.Math.Seq.{take-add}
use Rattle.sec_base.specs.declared.width.Width.TheVariants.{One, Four}
use Rattle.sec_base.specs.declared.segment.Segment.{Segment}
use Rattle.sec_base.specs.Opening.{segment_memory, with_segment, opening_memory}
use Rattle.sec_base.specs.Width.{number_bytes, with_number}
use Rattle.rv32_core.specs.State.{memory_bytes, with_bytes}
use Rattle.rv32_core.proofs.Storing.{both_stored, number_stored}

pub length-part : (bytes : List ℕ) (at count : ℕ) → at + count ≤ length bytes → length (memory_bytes bytes at count) ≡ count
length-part bytes at count h = simp (length-take, length-drop) (omega arith)

pub part_byte : (bytes : List ℕ) (at : ℕ) → at < length bytes → memory_bytes bytes at 1 ≡ get_or bytes at 0 ∷ []
part_byte bytes at h = ap (take 1) (drop_more bytes at 0 h)

pub part_word : (bytes : List ℕ) (at : ℕ) → at + 4 ≤ length bytes → memory_bytes bytes at 4 ≡ get_or bytes at 0 ∷ get_or bytes (at + 1) 0 ∷ get_or bytes (at + 2) 0 ∷ get_or bytes (at + 3) 0 ∷ []
part_word bytes at h =
    let third : at + 1 + 1 ≡ at + 2 = omega arith in
    let fourth : at + 2 + 1 ≡ at + 3 = omega arith in
    rw (drop_more bytes at 0 (omega arith), drop_more bytes (at + 1) 0 (omega arith), third, drop_more bytes (at + 2) 0 (omega arith), fourth, drop_more bytes (at + 3) 0 (omega arith)) refl

pub part_more : (bytes : List ℕ) (at count : ℕ) → take at bytes ++ memory_bytes bytes at count ≡ take (at + count) bytes
part_more bytes at count = sym (take-add at count bytes)

pub length-segment_memory : (segment : Segment) → length segment.bytes ≤ segment.length → length (segment_memory segment) ≡ segment.length
length-segment_memory segment h = simp (length-append, length-replicate) (omega arith)

pub laid_whole : (m : List ℕ) (segment : Segment) → length segment.bytes ≤ segment.length → with_bytes m segment.addr (segment_memory segment) ≡ with_segment m segment
unfolding with_bytes
laid_whole m segment h =
    ap (λ (n : ℕ). take segment.addr m ++ segment_memory segment ++ drop (segment.addr + n) m) (length-segment_memory segment h)

-- one more part of a segment
pub laid_more : (m now new : List ℕ) (a at count : ℕ) (bytes : List ℕ) → at + count ≤ length bytes → a + length bytes ≤ length m → now ≡ with_bytes m a (take at bytes) → new ≡ with_bytes now (a + at) (memory_bytes bytes at count) → new ≡ with_bytes m a (take (at + count) bytes)
laid_more m now new a at count bytes h inside before after =
    after ∙ ap (λ (xs : List ℕ). with_bytes xs (a + at) (memory_bytes bytes at count)) before
    ∙ both_stored m a (a + at) (take at bytes) (memory_bytes bytes at count) (omega (arith, length-take at bytes)) (omega (arith, length-part bytes at count h))
    ∙ ap (with_bytes m a) (part_more bytes at count)

-- a word that is made of four bytes has these bytes
pub made_of : (a b c d n : ℕ) → a < 2 ^ 8 → b < 2 ^ 8 → c < 2 ^ 8 → d < 2 ^ 8 → n ≡ a + b * 2 ^ 8 + c * 2 ^ 16 + d * 2 ^ 24 → number_bytes Four n ≡ a ∷ b ∷ c ∷ d ∷ []
made_of a b c d n ha hb hc hd e =
    let first : n % 2 ^ 8 ≡ a = omega arith in
    let second : n / 2 ^ 8 % 2 ^ 8 ≡ b = omega arith in
    let third : n / 2 ^ 16 % 2 ^ 8 ≡ c = omega arith in
    let fourth : n / 2 ^ 24 % 2 ^ 8 ≡ d = omega arith in
    rw (first, second, third, fourth) refl

-- a word, or a byte, of a list that was stored
pub word_stored : (old new : List ℕ) (address n : ℕ) (bytes : List ℕ) (at : ℕ) → number_bytes Four n ≡ memory_bytes bytes at 4 → new ≡ with_number old address Four n → new ≡ with_bytes old address (memory_bytes bytes at 4)
word_stored old new address n bytes at e stored = stored ∙ number_stored old address Four n ∙ ap (with_bytes old address) e

pub byte_stored : (old new : List ℕ) (address n : ℕ) (bytes : List ℕ) (at : ℕ) → at < length bytes → n < 2 ^ 8 → n ≡ get_or bytes at 0 → new ≡ with_number old address One n → new ≡ with_bytes old address (memory_bytes bytes at 1)
byte_stored old new address n bytes at inside small e stored =
    let whole : n % 2 ^ 8 ≡ get_or bytes at 0 = omega arith in
    stored ∙ number_stored old address One n ∙ ap (λ (b : ℕ). with_bytes old address (b ∷ [])) whole
    ∙ ap (with_bytes old address) (sym (part_byte bytes at inside))

-- all of a segment
pub laid_all : (m now : List ℕ) (segment : Segment) (at : ℕ) → length segment.bytes ≤ segment.length → segment.length ≤ at → now ≡ with_bytes m segment.addr (take at (segment_memory segment)) → now ≡ with_segment m segment
laid_all m now segment at h past e =
    e ∙ ap (with_bytes m segment.addr) (take_all at (segment_memory segment) (omega (arith, length-segment_memory segment h)))
    ∙ laid_whole m segment h

-- one more segment
pub segment_more : (start now new : List ℕ) (segments : List Segment) (i : ℕ) (segment : Segment) → i < length segments → segment ≡ get_or segments i segment → now ≡ fold with_segment start (take i segments) → new ≡ with_segment now segment → new ≡ fold with_segment start (take (i + 1) segments)
segment_more start now new segments i segment h item before after =
    after ∙ ap (λ (xs : List ℕ). with_segment xs segment) before
    ∙ ap (with_segment (fold with_segment start (take i segments))) item
    ∙ sym (fold_more with_segment start segments i segment h)

-- all segments
pub segments_all : (start now : List ℕ) (segments all : List Segment) (size i : ℕ) → length segments ≤ i → now ≡ fold with_segment start (take i segments) → start ≡ replicate size 0 → segments ≡ all → now ≡ opening_memory size all
unfolding opening_memory
segments_all start now segments all size i h e zeros same =
    e ∙ ap (fold with_segment start) (take_all i segments h ∙ same) ∙ ap (λ (xs : List ℕ). fold with_segment xs all) zeros
