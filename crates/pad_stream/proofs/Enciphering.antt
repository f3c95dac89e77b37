-- Lines, enciphered and deciphered.
use Rattle.std.proofs.Common.{◌≡◌, ℕ, ◌<◌, List, length, slice_index, refl, ap, sym, ◌∙◌, arith}
use Rattle.std.proofs.lemmas.List.{ext_get_or}
use Rattle.std.proofs.lemmas.List.FromFn.{get_or-map-range_with_len, fill_by_all}
use Rattle.std.specs.Int.Bits.{bit_xor, xor_assoc, xor_self, xor_zero_l}
use Rattle.sec_base.specs.declared.counter.Counter.{Counter}
use Rattle.pad_stream.specs.Pad.{pad_of, xor_of, cipher_of}

-- 64 bytes that were mixed one by one
pub xor_of-all : (pad bytes mixed : List ℕ) → length mixed ≡ 64 →
    ((k : ℕ) → k < 64 → slice_index mixed k ≡ bit_xor (slice_index pad k) (slice_index bytes k)) → mixed ≡ xor_of pad bytes
unfolding xor_of
xor_of-all pad bytes mixed long each =
    fill_by_all (λ place. bit_xor (slice_index pad place) (slice_index bytes place)) mixed 64 0 long each

-- a line has 64 bytes, whatever was mixed
pub length-xor_of : (pad bytes : List ℕ) → length (xor_of pad bytes) ≡ 64
unfolding xor_of
length-xor_of pad bytes = refl

-- each of its bytes
pub xor_of-at : (pad bytes : List ℕ) (place : ℕ) → place < 64 →
    slice_index (xor_of pad bytes) place ≡ bit_xor (slice_index pad place) (slice_index bytes place)
unfolding xor_of
xor_of-at pad bytes place inside =
    get_or-map-range_with_len (λ at. bit_xor (slice_index pad at) (slice_index bytes at)) 0 64 place place 0 inside (omega arith)

-- what is mixed twice is as before
xor_twice : (a b : ℕ) → bit_xor a (bit_xor a b) ≡ b
xor_twice a b = sym (xor_assoc a a b) ∙ ap (λ (n : ℕ). bit_xor n b) (xor_self a) ∙ xor_zero_l b

pub xor_of-twice : (pad bytes : List ℕ) → length bytes ≡ 64 → xor_of pad (xor_of pad bytes) ≡ bytes
xor_of-twice pad bytes long =
    ext_get_or 0 (xor_of pad (xor_of pad bytes)) bytes (length-xor_of pad (xor_of pad bytes) ∙ sym long)
    (λ place inside.
    let below : place < 64 = omega (arith, length-xor_of pad (xor_of pad bytes)) in
    xor_of-at pad (xor_of pad bytes) place below
    ∙ ap (bit_xor (slice_index pad place)) (xor_of-at pad bytes place below)
    ∙ xor_twice (slice_index pad place) (slice_index bytes place))

-- the cipher of a line has 64 bytes
pub length-cipher_of : (key : List ℕ) (line : ℕ) (counter : Counter) (bytes : List ℕ) →
    length (cipher_of key line counter bytes) ≡ 64
unfolding cipher_of
length-cipher_of key line counter bytes = length-xor_of (pad_of key line counter) bytes

-- a line's cipher, deciphered, is the line
pub cipher_of_twice : (key : List ℕ) (line : ℕ) (counter : Counter) (bytes : List ℕ) → length bytes ≡ 64 →
    cipher_of key line counter (cipher_of key line counter bytes) ≡ bytes
unfolding cipher_of
cipher_of_twice key line counter bytes long = xor_of-twice (pad_of key line counter) bytes long

-- lines with the same cipher are the same
pub cipher_of-injective : (key : List ℕ) (line : ℕ) (counter : Counter) (first second : List ℕ) →
    length first ≡ 64 → length second ≡ 64 →
    cipher_of key line counter first ≡ cipher_of key line counter second → first ≡ second
cipher_of-injective key line counter first second long_first long_second same =
    sym (cipher_of_twice key line counter first long_first)
    ∙ ap (cipher_of key line counter) same
    ∙ cipher_of_twice key line counter second long_second
