-- Headers that are put by halves and words.
use Rattle.std.proofs.Common.{◌≡◌, ℕ, List, [], ◌∷◌, ◌++◌, length, replicate, refl, ap, ◌∙◌, append_assoc}
use Rattle.std.specs.List.{flat_map}
use Rattle.sec_base.specs.declared.segment.Segment.{Segment}
use Rattle.elf_load.specs.Spelling.{spelled_header, spelled_segment, u16_bytes, u32_bytes}

header_words : (entry count : ℕ)
    → (0x7f ∷ 0x45 ∷ 0x4c ∷ 0x46 ∷ []) ++ (1 ∷ 1 ∷ 1 ∷ []) ++ replicate 9 0 ++ flat_map u16_bytes (2 ∷ 243 ∷ [])
    ++ flat_map u32_bytes (1 ∷ entry ∷ 52 ∷ 0 ∷ 0 ∷ []) ++ flat_map u16_bytes (52 ∷ 32 ∷ count ∷ 0 ∷ 0 ∷ 0 ∷ [])
    ≡ spelled_header entry count
unfolding spelled_header u16_bytes u32_bytes
header_words entry count = refl

header_behind : (file : List ℕ) (entry count : ℕ)
    → file ++ (0x7f ∷ 0x45 ∷ 0x4c ∷ 0x46 ∷ []) ++ (1 ∷ 1 ∷ 1 ∷ []) ++ replicate 9 0 ++ flat_map u16_bytes (2 ∷ 243 ∷ [])
    ++ flat_map u32_bytes (1 ∷ entry ∷ 52 ∷ 0 ∷ 0 ∷ []) ++ flat_map u16_bytes (52 ∷ 32 ∷ count ∷ 0 ∷ 0 ∷ 0 ∷ [])
    ≡ file ++ spelled_header entry count
unfolding u16_bytes u32_bytes
header_behind file entry count = simp append_assoc (ap (λ header. file ++ header) (header_words entry count))

-- a file header that was put piece by piece
pub header_put : (file one two three four five six : List ℕ) (entry count : ℕ)
    → one ≡ file ++ (0x7f ∷ 0x45 ∷ 0x4c ∷ 0x46 ∷ []) → two ≡ one ++ (1 ∷ 1 ∷ 1 ∷ []) → three ≡ two ++ replicate 9 0
    → four ≡ three ++ flat_map u16_bytes (2 ∷ 243 ∷ []) → five ≡ four ++ flat_map u32_bytes (1 ∷ entry ∷ 52 ∷ 0 ∷ 0 ∷ [])
    → six ≡ five ++ flat_map u16_bytes (52 ∷ 32 ∷ count ∷ 0 ∷ 0 ∷ 0 ∷ []) → six ≡ file ++ spelled_header entry count
header_put file one two three four five six entry count first second third fourth fifth sixth =
    sixth
    ∙ ap (λ t. t ++ flat_map u16_bytes (52 ∷ 32 ∷ count ∷ 0 ∷ 0 ∷ 0 ∷ []))
    (fifth ∙ ap (λ t. t ++ flat_map u32_bytes (1 ∷ entry ∷ 52 ∷ 0 ∷ 0 ∷ []))
    (fourth ∙ ap (λ t. t ++ flat_map u16_bytes (2 ∷ 243 ∷ []))
    (third ∙ ap (λ t. t ++ replicate 9 0) (second ∙ ap (λ t. t ++ (1 ∷ 1 ∷ 1 ∷ [])) first))))
    ∙ header_behind file entry count

segment_words : (offset : ℕ) (segment : Segment)
    → flat_map u32_bytes (1 ∷ offset ∷ segment.addr ∷ segment.addr ∷ length segment.bytes ∷ segment.length ∷ 7 ∷ 1 ∷ []) ≡ spelled_segment offset segment
unfolding spelled_segment u32_bytes
segment_words offset segment = refl

-- a program header that was put
pub segment_put : (file more : List ℕ) (offset file_length : ℕ) (segment : Segment) → file_length ≡ length segment.bytes
    → more ≡ file ++ flat_map u32_bytes (1 ∷ offset ∷ segment.addr ∷ segment.addr ∷ file_length ∷ segment.length ∷ 7 ∷ 1 ∷ [])
    → more ≡ file ++ spelled_segment offset segment
segment_put file more offset file_length segment long put =
    put
    ∙ ap (λ n. file ++ flat_map u32_bytes (1 ∷ offset ∷ segment.addr ∷ segment.addr ∷ n ∷ segment.length ∷ 7 ∷ 1 ∷ [])) long
    ∙ ap (λ words. file ++ words) (segment_words offset segment)
