-- An entry that was read is the entry that was written, and what was written is read again.
use Rattle.std.proofs.Common.{◌≡◌, ℕ, zero, suc, ◌+◌, ◌^◌, ◌<◌, Bool, true, false, cond, eqb, ltb, ◌&&◌, ◌⊎◌, List, [], ◌∷◌, ◌++◌, length, Ok, Err, refl, sym, ap, subst, ◌∙◌, append_assoc, arith, inl, inr, eqb-true}
use Rattle.std.specs.List.{flat_map}
use Rattle.std.proofs.lemmas.Bool.{ltb-true, lt-ltb}
use Rattle.std.proofs.lemmas.List.Concat.{flat_map-cons}
use Rattle.sec_base.specs.declared.sealed.Sealed.{Sealed}
use Rattle.sec_base.specs.Geometry.{GeometryView, IsGeometry, IsNode, line_count, width}
use Rattle.sec_base.proofs.Geometries.{few_pages}
use Rattle.sec_base.proofs.Numbers.{few_nodes}
use Rattle.bus_model.specs.HonestBus.{is_node}
use Rattle.bus_trace.specs.declared.entry.Entry.{Entry}
use Rattle.bus_trace.specs.declared.entry.Entry.TheVariants.{ReadLine, WriteLine, ReadNode, WriteNode}
use Rattle.bus_trace.specs.declared.fault.TraceFault.{TraceFault}
use Rattle.bus_trace.specs.declared.fault.TraceFault.TheVariants.{Place}
use Rattle.bus_trace.specs.Entry.{AreEntries, IsEntry, IsLineEntry, IsNodeEntry}
use Rattle.bus_trace.specs.Format.{entries_bytes, entry_bytes, line_bytes, node_bytes, u32_bytes, u64_bytes}
use Rattle.bus_trace.specs.Reading.{◌>>=◌, all_entries_at, first_byte, first_bytes, entries_at, entry_at, entry_of_kind, line_at, line_entry_at, node_at, node_block_at, node_entry_at, ok_where, sealed_at, sealed_line_at, u32_at, u64_at}
use Rattle.bus_trace.proofs.SpelledFields.{IsBytes, Takes, Takes-then, bind_ok, byte_takes, bytes_again, bytes_take, ok_is, u32_again, u32_takes, u64_again, u64_takes, where_ok}

-- places

and_true : (a b : Bool) → a && b ≡ true → (a ≡ true) × (b ≡ true)
and_true true b e = (refl, e)
and_true false b e = absurd cc

line_takes : (geometry : GeometryView) (bytes : List ℕ) (line : ℕ) (rest : List ℕ) → IsBytes bytes → line_at geometry bytes ≡ Ok (line, rest) →
    Takes bytes (u32_bytes line) rest × (line < line_count geometry)
unfolding line_at
line_takes geometry bytes line rest are e =
    let a = bind_ok (u32_at bytes) (λ found. ok_where (ltb found.0 (line_count geometry)) Place found) (line, rest) e in
    let g = where_ok (ltb a.0.0 (line_count geometry)) Place a.0 (line, rest) a.2 in
    subst (λ (p : ℕ × List ℕ). Takes bytes (u32_bytes p.0) p.1 × (p.0 < line_count geometry)) g.1
    ((u32_takes bytes a.0.0 a.0.1 are a.1).0, ltb-true _ _ g.0)

line_again : (geometry : GeometryView) (line : ℕ) (rest : List ℕ) → IsGeometry geometry → line < line_count geometry →
    line_at geometry (u32_bytes line ++ rest) ≡ Ok (line, rest)
unfolding line_at
line_again geometry line rest is inside =
    let fits : line < 2 ^ 32 = omega (arith, few_pages geometry is) in
    rw (u32_again line rest fits, lt-ltb _ _ inside) refl

is_node-true : (geometry : GeometryView) (level index : ℕ) → is_node geometry level index ≡ true → IsNode geometry level index
is_node-true geometry level index e =
    let both = and_true (ltb level (geometry.levels + 1)) (ltb index (width geometry level)) e in
    let low : level < geometry.levels + 1 = ltb-true _ _ both.0 in
    (omega (arith, low), ltb-true _ _ both.1)

node-is_node : (geometry : GeometryView) (level index : ℕ) → IsNode geometry level index → is_node geometry level index ≡ true
node-is_node geometry level index node =
    let low : level < geometry.levels + 1 = omega (arith, node.0) in
    rw (lt-ltb level (geometry.levels + 1) low, lt-ltb index (width geometry level) node.1) refl

node_takes : (geometry : GeometryView) (bytes : List ℕ) (node : ℕ × ℕ) (rest : List ℕ) → IsBytes bytes → node_at geometry bytes ≡ Ok (node, rest) →
    Takes bytes (node.0 ∷ u32_bytes node.1) rest × IsNode geometry node.0 node.1
unfolding node_at
node_takes geometry bytes node rest are e =
    let a = bind_ok (first_byte bytes) (λ level. u32_at level.1 >>= λ index. ok_where (is_node geometry level.0 index.0) Place ((level.0, index.0), index.1)) (node, rest) e in
    let b = bind_ok (u32_at a.0.1) (λ index. ok_where (is_node geometry a.0.0 index.0) Place ((a.0.0, index.0), index.1)) (node, rest) a.2 in
    let made : (ℕ × ℕ) × List ℕ = ((a.0.0, b.0.0), b.0.1) in
    let g = where_ok (is_node geometry a.0.0 b.0.0) Place made (node, rest) b.2 in
    let level = byte_takes bytes a.0.0 a.0.1 are a.1 in
    let index = u32_takes a.0.1 b.0.0 b.0.1 level.rest_are b.1 in
    let both = Takes-then bytes (a.0.0 ∷ []) a.0.1 (u32_bytes b.0.0) b.0.1 level index.0 in
    subst (λ (p : (ℕ × ℕ) × List ℕ). Takes bytes (p.0.0 ∷ u32_bytes p.0.1) p.1 × IsNode geometry p.0.0 p.0.1) g.1
    (both, is_node-true geometry a.0.0 b.0.0 g.0)

node_again : (geometry : GeometryView) (level index : ℕ) (rest : List ℕ) → IsGeometry geometry → IsNode geometry level index →
    node_at geometry (level ∷ (u32_bytes index ++ rest)) ≡ Ok ((level, index), rest)
unfolding node_at
node_again geometry level index rest is node =
    let fits : index < 2 ^ 32 = omega (arith, few_nodes geometry level index is node) in
    rw (u32_again index rest fits, node-is_node geometry level index node) refl

-- places and their bytes

sealed_takes : (bytes : List ℕ) (sealed : Sealed) (rest : List ℕ) → IsBytes bytes → sealed_at bytes ≡ Ok (sealed, rest) →
    Takes bytes (sealed.cipher ++ sealed.tag) rest × (length sealed.cipher ≡ 64) × (length sealed.tag ≡ 16)
unfolding sealed_at
sealed_takes bytes sealed rest are e =
    let a = bind_ok (first_bytes 64 bytes) (λ cipher. first_bytes 16 cipher.1 >>= λ tag. Ok (record { cipher = cipher.0; tag = tag.0 }, tag.1)) (sealed, rest) e in
    let b = bind_ok (first_bytes 16 a.0.1) (λ tag. Ok (record { cipher = a.0.0; tag = tag.0 }, tag.1)) (sealed, rest) a.2 in
    let cipher = bytes_take 64 bytes a.0.0 a.0.1 are a.1 in
    let tag = bytes_take 16 a.0.1 b.0.0 b.0.1 cipher.takes.rest_are b.1 in
    let made : Sealed × List ℕ = (record { cipher = a.0.0; tag = b.0.0 }, b.0.1) in
    subst (λ (p : Sealed × List ℕ). Takes bytes (p.0.cipher ++ p.0.tag) p.1 × (length p.0.cipher ≡ 64) × (length p.0.tag ≡ 16))
    {x = made} (ok_is made (sealed, rest) b.2) (Takes-then bytes a.0.0 a.0.1 b.0.0 b.0.1 cipher.takes tag.takes, cipher.long, tag.long)

sealed_again : (sealed : Sealed) (rest : List ℕ) → length sealed.cipher ≡ 64 → length sealed.tag ≡ 16 →
    sealed_at (sealed.cipher ++ (sealed.tag ++ rest)) ≡ Ok (sealed, rest)
unfolding sealed_at
sealed_again sealed rest cipher tag =
    rw (bytes_again 64 sealed.cipher (sealed.tag ++ rest) cipher, bytes_again 16 sealed.tag rest tag) refl

sealed_line_takes : (geometry : GeometryView) (bytes : List ℕ) (found : ℕ × Sealed) (rest : List ℕ) → IsBytes bytes → sealed_line_at geometry bytes ≡ Ok (found, rest) →
    Takes bytes (u32_bytes found.0 ++ found.1.cipher ++ found.1.tag) rest × IsLineEntry geometry found.0 found.1
unfolding sealed_line_at
sealed_line_takes geometry bytes found rest are e =
    let a = bind_ok (line_at geometry bytes) (λ line. sealed_at line.1 >>= λ sealed. Ok ((line.0, sealed.0), sealed.1)) (found, rest) e in
    let b = bind_ok (sealed_at a.0.1) (λ sealed. Ok ((a.0.0, sealed.0), sealed.1)) (found, rest) a.2 in
    let line = line_takes geometry bytes a.0.0 a.0.1 are a.1 in
    let sealed = sealed_takes a.0.1 b.0.0 b.0.1 line.0.rest_are b.1 in
    let both = Takes-then bytes (u32_bytes a.0.0) a.0.1 (b.0.0.cipher ++ b.0.0.tag) b.0.1 line.0 sealed.0 in
    let grouped = subst (λ (text : List ℕ). Takes bytes text b.0.1) (sym (append_assoc (u32_bytes a.0.0) b.0.0.cipher b.0.0.tag)) both in
    let made : (ℕ × Sealed) × List ℕ = ((a.0.0, b.0.0), b.0.1) in
    subst (λ (p : (ℕ × Sealed) × List ℕ). Takes bytes (u32_bytes p.0.0 ++ p.0.1.cipher ++ p.0.1.tag) p.1 × IsLineEntry geometry p.0.0 p.0.1)
    {x = made} (ok_is made (found, rest) b.2) (grouped, record { inside = line.1; cipher = sealed.1; tag = sealed.2 })

sealed_line_again : (geometry : GeometryView) (line : ℕ) (sealed : Sealed) (rest : List ℕ) → IsGeometry geometry → IsLineEntry geometry line sealed →
    sealed_line_at geometry ((u32_bytes line ++ sealed.cipher ++ sealed.tag) ++ rest) ≡ Ok ((line, sealed), rest)
unfolding sealed_line_at
sealed_line_again geometry line sealed rest is entry =
    let regrouped : (u32_bytes line ++ sealed.cipher ++ sealed.tag) ++ rest ≡ u32_bytes line ++ (sealed.cipher ++ (sealed.tag ++ rest)) =
    append_assoc (u32_bytes line ++ sealed.cipher) sealed.tag rest ∙ append_assoc (u32_bytes line) sealed.cipher (sealed.tag ++ rest) in
    ap (sealed_line_at geometry) regrouped
    ∙ rw (line_again geometry line (sealed.cipher ++ (sealed.tag ++ rest)) is entry.inside, sealed_again sealed rest entry.cipher entry.tag) refl

node_block_takes : (geometry : GeometryView) (bytes : List ℕ) (found : (ℕ × ℕ) × List ℕ) (rest : List ℕ) → IsBytes bytes → node_block_at geometry bytes ≡ Ok (found, rest) →
    Takes bytes (found.0.0 ∷ u32_bytes found.0.1 ++ found.1) rest × IsNodeEntry geometry found.0.0 found.0.1 found.1
unfolding node_block_at
node_block_takes geometry bytes found rest are e =
    let a = bind_ok (node_at geometry bytes) (λ node. first_bytes 64 node.1 >>= λ block. Ok ((node.0, block.0), block.1)) (found, rest) e in
    let b = bind_ok (first_bytes 64 a.0.1) (λ block. Ok ((a.0.0, block.0), block.1)) (found, rest) a.2 in
    let node = node_takes geometry bytes a.0.0 a.0.1 are a.1 in
    let block = bytes_take 64 a.0.1 b.0.0 b.0.1 node.0.rest_are b.1 in
    let both = Takes-then bytes (a.0.0.0 ∷ u32_bytes a.0.0.1) a.0.1 b.0.0 b.0.1 node.0 block.takes in
    let made : ((ℕ × ℕ) × List ℕ) × List ℕ = ((a.0.0, b.0.0), b.0.1) in
    subst (λ (p : ((ℕ × ℕ) × List ℕ) × List ℕ). Takes bytes (p.0.0.0 ∷ u32_bytes p.0.0.1 ++ p.0.1) p.1 × IsNodeEntry geometry p.0.0.0 p.0.0.1 p.0.1)
    {x = made} (ok_is made (found, rest) b.2) (both, record { inside = node.1; long = block.long })

node_block_again : (geometry : GeometryView) (level index : ℕ) (block rest : List ℕ) → IsGeometry geometry → IsNodeEntry geometry level index block →
    node_block_at geometry ((level ∷ u32_bytes index ++ block) ++ rest) ≡ Ok (((level, index), block), rest)
unfolding node_block_at
node_block_again geometry level index block rest is entry =
    let regrouped : (level ∷ u32_bytes index ++ block) ++ rest ≡ level ∷ (u32_bytes index ++ (block ++ rest)) =
    ap (λ (behind : List ℕ). level ∷ behind) (append_assoc (u32_bytes index) block rest) in
    ap (node_block_at geometry) regrouped
    ∙ rw (node_again geometry level index (block ++ rest) is entry.inside, bytes_again 64 block rest entry.long) refl

-- entries

chosen : {A : Type 0} (b : Bool) (x y z : A) → cond b x y ≡ z → ((b ≡ true) × (x ≡ z)) ⊎ ((b ≡ false) × (y ≡ z))
chosen true x y z e = inl (refl, e)
chosen false x y z e = inr (refl, e)

no_entry : {A : Type 0} {fault : TraceFault} {x : A} → Err fault ≡ Ok x → ⊥
no_entry e = cc

-- an entry of this kind took these bytes
abbrev TakesEntry : GeometryView → ℕ → List ℕ → Entry → List ℕ → Type 0
TakesEntry geometry kind bytes entry rest = (text : List ℕ) × Takes bytes text rest × (entry_bytes entry ≡ kind ∷ text) × IsEntry geometry entry

of_line : (geometry : GeometryView) (kind : ℕ) (make : ℕ → Sealed → Entry) (bytes : List ℕ) (entry : Entry) (rest : List ℕ)
    → ((line : ℕ) (sealed : Sealed) → entry_bytes (make line sealed) ≡ line_bytes kind line sealed)
    → ((line : ℕ) (sealed : Sealed) → IsLineEntry geometry line sealed → IsEntry geometry (make line sealed))
    → IsBytes bytes → line_entry_at make geometry bytes ≡ Ok (entry, rest) → TakesEntry geometry kind bytes entry rest
of_line geometry kind make bytes entry rest spelled is are e =
    let a = bind_ok (sealed_line_at geometry bytes) (λ line. Ok (make line.0.0 line.0.1, line.1)) (entry, rest) e in
    let taken = sealed_line_takes geometry bytes a.0.0 a.0.1 are a.1 in
    let made : Entry × List ℕ = (make a.0.0.0 a.0.0.1, a.0.1) in
    subst (λ (p : Entry × List ℕ). TakesEntry geometry kind bytes p.0 p.1) (ok_is made (entry, rest) a.2)
    (u32_bytes a.0.0.0 ++ a.0.0.1.cipher ++ a.0.0.1.tag, taken.0, spelled a.0.0.0 a.0.0.1, is a.0.0.0 a.0.0.1 taken.1)

of_node : (geometry : GeometryView) (kind : ℕ) (make : ℕ → ℕ → List ℕ → Entry) (bytes : List ℕ) (entry : Entry) (rest : List ℕ)
    → ((level index : ℕ) (block : List ℕ) → entry_bytes (make level index block) ≡ node_bytes kind level index block)
    → ((level index : ℕ) (block : List ℕ) → IsNodeEntry geometry level index block → IsEntry geometry (make level index block))
    → IsBytes bytes → node_entry_at make geometry bytes ≡ Ok (entry, rest) → TakesEntry geometry kind bytes entry rest
of_node geometry kind make bytes entry rest spelled is are e =
    let a = bind_ok (node_block_at geometry bytes) (λ node. Ok (make node.0.0.0 node.0.0.1 node.0.1, node.1)) (entry, rest) e in
    let taken = node_block_takes geometry bytes a.0.0 a.0.1 are a.1 in
    let made : Entry × List ℕ = (make a.0.0.0.0 a.0.0.0.1 a.0.0.1, a.0.1) in
    subst (λ (p : Entry × List ℕ). TakesEntry geometry kind bytes p.0 p.1) (ok_is made (entry, rest) a.2)
    (a.0.0.0.0 ∷ u32_bytes a.0.0.0.1 ++ a.0.0.1, taken.0, spelled a.0.0.0.0 a.0.0.0.1 a.0.0.1, is a.0.0.0.0 a.0.0.0.1 a.0.0.1 taken.1)

kind_takes : (geometry : GeometryView) (kind : ℕ) (bytes : List ℕ) (entry : Entry) (rest : List ℕ) → IsBytes bytes →
    entry_of_kind kind geometry bytes ≡ Ok (entry, rest) → TakesEntry geometry kind bytes entry rest
unfolding entry_of_kind entry_bytes
kind_takes geometry kind bytes entry rest are e =
    let goal : ℕ → Type 0 = λ (k : ℕ). TakesEntry geometry k bytes entry rest in
    elim (chosen (eqb kind 0) _ _ _ e) [
      | inl h ↦ subst goal (sym (eqb-true kind 0 h.0)) (of_line geometry 0 ReadLine bytes entry rest (λ line sealed. refl) (λ line sealed is. is) are h.1)
      | inr h ↦ elim (chosen (eqb kind 1) _ _ _ h.1) [
        | inl h ↦ subst goal (sym (eqb-true kind 1 h.0)) (of_line geometry 1 WriteLine bytes entry rest (λ line sealed. refl) (λ line sealed is. is) are h.1)
        | inr h ↦ elim (chosen (eqb kind 2) _ _ _ h.1) [
          | inl h ↦ subst goal (sym (eqb-true kind 2 h.0)) (of_node geometry 2 ReadNode bytes entry rest (λ level index block. refl) (λ level index block is. is) are h.1)
          | inr h ↦ elim (chosen (eqb kind 3) _ _ _ h.1) [
            | inl h ↦ subst goal (sym (eqb-true kind 3 h.0)) (of_node geometry 3 WriteNode bytes entry rest (λ level index block. refl) (λ level index block is. is) are h.1)
            | inr h ↦ absurd (no_entry h.1)
          ]
        ]
      ]
    ]

pub entry_takes : (geometry : GeometryView) (bytes : List ℕ) (entry : Entry) (rest : List ℕ) → IsBytes bytes → entry_at geometry bytes ≡ Ok (entry, rest) →
    Takes bytes (entry_bytes entry) rest × IsEntry geometry entry
unfolding entry_at
entry_takes geometry bytes entry rest are e =
    let a = bind_ok (first_byte bytes) (λ kind. entry_of_kind kind.0 geometry kind.1) (entry, rest) e in
    let kind = byte_takes bytes a.0.0 a.0.1 are a.1 in
    let taken = kind_takes geometry a.0.0 a.0.1 entry rest kind.rest_are a.2 in
    let both = Takes-then bytes (a.0.0 ∷ []) a.0.1 taken.0 rest kind taken.1 in
    (subst (λ (text : List ℕ). Takes bytes text rest) (sym taken.2) both, taken.3)

entry_again : (geometry : GeometryView) (entry : Entry) (rest : List ℕ) → IsGeometry geometry → IsEntry geometry entry →
    entry_at geometry (entry_bytes entry ++ rest) ≡ Ok (entry, rest)
unfolding entry_at entry_of_kind entry_bytes
entry_again geometry (ReadLine line sealed) rest is entry = rw (sealed_line_again geometry line sealed rest is entry) refl
entry_again geometry (WriteLine line sealed) rest is entry = rw (sealed_line_again geometry line sealed rest is entry) refl
entry_again geometry (ReadNode level index block) rest is entry = rw (node_block_again geometry level index block rest is entry) refl
entry_again geometry (WriteNode level index block) rest is entry = rw (node_block_again geometry level index block rest is entry) refl

-- entries one after another

entries_take : (geometry : GeometryView) (count : ℕ) (bytes : List ℕ) (found : List Entry × List ℕ) → IsBytes bytes → entries_at geometry count bytes ≡ Ok found →
    Takes bytes (flat_map entry_bytes found.0) found.1 × (length found.0 ≡ count) × AreEntries geometry found.0
unfolding entries_at
entries_take geometry zero bytes found are e =
    subst (λ (x : List Entry × List ℕ). Takes bytes (flat_map entry_bytes x.0) x.1 × (length x.0 ≡ 0) × AreEntries geometry x.0)
    (ok_is ([], bytes) found e) (record { parts = refl; rest_are = are }, refl, tt)
entries_take geometry (suc count) bytes found are e =
    let a = bind_ok (entry_at geometry bytes) (λ first. entries_at geometry count first.1 >>= λ others. Ok (first.0 ∷ others.0, others.1)) found e in
    let b = bind_ok (entries_at geometry count a.0.1) (λ others. Ok (a.0.0 ∷ others.0, others.1)) found a.2 in
    let first = entry_takes geometry bytes a.0.0 a.0.1 are a.1 in
    let others = entries_take geometry count a.0.1 b.0 first.0.rest_are b.1 in
    let both = Takes-then bytes (entry_bytes a.0.0) a.0.1 (flat_map entry_bytes b.0.0) b.0.1 first.0 others.0 in
    let made : List Entry × List ℕ = (a.0.0 ∷ b.0.0, b.0.1) in
    subst (λ (x : List Entry × List ℕ). Takes bytes (flat_map entry_bytes x.0) x.1 × (length x.0 ≡ suc count) × AreEntries geometry x.0)
    {x = made} (ok_is made found b.2) (rw flat_map-cons both, ap suc others.1, (first.1, others.2))

entries_again : (geometry : GeometryView) (entries : List Entry) (rest : List ℕ) → IsGeometry geometry → AreEntries geometry entries →
    entries_at geometry (length entries) (flat_map entry_bytes entries ++ rest) ≡ Ok (entries, rest)
unfolding entries_at
entries_again geometry [] rest is are = refl
entries_again geometry (entry ∷ entries) rest is are =
    let regrouped : flat_map entry_bytes (entry ∷ entries) ++ rest ≡ entry_bytes entry ++ (flat_map entry_bytes entries ++ rest) =
    ap (λ (x : List ℕ). x ++ rest) (flat_map-cons entry_bytes entry entries) ∙ append_assoc (entry_bytes entry) (flat_map entry_bytes entries) rest in
    ap (entries_at geometry (suc (length entries))) regrouped
    ∙ rw (entry_again geometry entry (flat_map entry_bytes entries ++ rest) is are.0, entries_again geometry entries rest is are.1) refl

pub all_entries_take : (geometry : GeometryView) (bytes : List ℕ) (entries : List Entry) (rest : List ℕ) → IsBytes bytes → all_entries_at geometry bytes ≡ Ok (entries, rest) →
    Takes bytes (entries_bytes entries) rest × AreEntries geometry entries
unfolding all_entries_at entries_bytes
all_entries_take geometry bytes entries rest are e =
    let a = bind_ok (u64_at bytes) (λ count. entries_at geometry count.0 count.1) (entries, rest) e in
    let count = u64_takes bytes a.0.0 a.0.1 are a.1 in
    let taken = entries_take geometry a.0.0 a.0.1 (entries, rest) count.0.rest_are a.2 in
    let both = Takes-then bytes (u64_bytes a.0.0) a.0.1 (flat_map entry_bytes entries) rest count.0 taken.0 in
    (subst (λ (n : ℕ). Takes bytes (u64_bytes n ++ flat_map entry_bytes entries) rest) (sym taken.1) both, taken.2)

pub all_entries_again : (geometry : GeometryView) (entries : List Entry) (rest : List ℕ) → IsGeometry geometry → AreEntries geometry entries → length entries < 2 ^ 64 →
    all_entries_at geometry (entries_bytes entries ++ rest) ≡ Ok (entries, rest)
unfolding all_entries_at entries_bytes
all_entries_again geometry entries rest is are few =
    let regrouped : (u64_bytes (length entries) ++ flat_map entry_bytes entries) ++ rest ≡ u64_bytes (length entries) ++ (flat_map entry_bytes entries ++ rest) =
    append_assoc (u64_bytes (length entries)) (flat_map entry_bytes entries) rest in
    ap (all_entries_at geometry) regrouped
    ∙ rw (u64_again (length entries) (flat_map entry_bytes entries ++ rest) few, entries_again geometry entries rest is are) refl
