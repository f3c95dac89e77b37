-- The slots of a node by its layout: four of 16 bytes, or eight of 8.
use Rattle.std.proofs.Common.{ℕ, ap, ◌≡◌, ◌∙◌, ◌+◌, ◌-◌, ◌*◌, ◌/◌, ◌%◌, ◌^◌, ◌<◌, ◌≤◌, inl, inr, subst, sym, arith}
use Rattle.std.proofs.Math.Nat.{mul-le-mul_left, pow-le-pow_right}
use Rattle.std.proofs.lemmas.Grind.{pow_more}
use Rattle.std.proofs.lemmas.Bool.{cases_order}
use Rattle.sec_base.specs.declared.geometry.Layout.{Layout}
use Rattle.sec_base.specs.declared.geometry.Layout.TheVariants.{One, Two}
use Rattle.sec_base.specs.Geometry.{arity_of, slot_len_of}

-- a slot is one of its parent's
pub slot_inside : (layout : Layout) (index : ℕ) → index % arity_of layout < arity_of layout
slot_inside One index = omega arith
slot_inside Two index = omega arith

-- nodes of one parent and one slot are one
pub parts_same : (layout : Layout) (index other : ℕ) → index / arity_of layout ≡ other / arity_of layout → index % arity_of layout ≡ other % arity_of layout →
    index ≡ other
parts_same One index other above beside = omega arith
parts_same Two index other above beside = omega arith

-- the parent of a child
pub child_above : (layout : Layout) (index slot : ℕ) → slot < arity_of layout → (arity_of layout * index + slot) / arity_of layout ≡ index
child_above One index slot inside = omega arith
child_above Two index slot inside = omega arith

-- the slot of a child
pub child_slot : (layout : Layout) (index slot : ℕ) → slot < arity_of layout → (arity_of layout * index + slot) % arity_of layout ≡ slot
child_slot One index slot inside = omega arith
child_slot Two index slot inside = omega arith

-- a node is the child of its parent in its slot
pub node_parts : (layout : Layout) (index : ℕ) → arity_of layout * (index / arity_of layout) + index % arity_of layout ≡ index
node_parts One index = omega arith
node_parts Two index = omega arith

-- a parent is one of those above
pub div_less : (layout : Layout) (index count : ℕ) → index < count * arity_of layout → index / arity_of layout < count
div_less One index count inside = omega arith
div_less Two index count inside = omega arith

-- a child is one of those below
pub child_less : (layout : Layout) (index slot count : ℕ) → index < count → slot < arity_of layout → arity_of layout * index + slot < count * arity_of layout
child_less One index slot count below inside = omega arith
child_less Two index slot count below inside = omega arith

pub two_at_least : (layout : Layout) → 2 ≤ arity_of layout
two_at_least One = omega arith
two_at_least Two = omega arith

pub eight_at_most : (layout : Layout) → arity_of layout ≤ 8
eight_at_most One = omega arith
eight_at_most Two = omega arith

-- The bytes of slots

-- a slot ends in its block
pub slot_ends : (layout : Layout) (slot : ℕ) → slot < arity_of layout → slot_len_of layout * slot + slot_len_of layout ≤ 64
slot_ends One slot inside = omega arith
slot_ends Two slot inside = omega arith

-- a slot ends before the next one begins
pub slot_before : (layout : Layout) (slot next : ℕ) → slot < next → slot_len_of layout * slot + slot_len_of layout ≤ slot_len_of layout * next
slot_before One slot next before = omega arith
slot_before Two slot next before = omega arith

-- a slot is no longer than a tag
pub slot_short : (layout : Layout) → slot_len_of layout ≤ 16
slot_short One = omega arith
slot_short Two = omega arith

-- and holds some of it
pub slot_some : (layout : Layout) → 8 ≤ slot_len_of layout
slot_some One = omega arith
slot_some Two = omega arith

-- Powers, of which each level has one as its number of nodes

-- a level has as many times more nodes than the one above it as a node has slots
pub power_step : (slots levels level : ℕ) → level < levels → slots ^ (levels - level) ≡ slots ^ (levels - (level + 1)) * slots
power_step slots levels level below =
    let more : levels - level ≡ levels - (level + 1) + 1 = omega arith in
    ap (λ (n : ℕ). slots ^ n) more ∙ pow_more slots (levels - (level + 1))

-- a level that has fewer nodes stands before
power_before : (slots a b i j : ℕ) → 2 ≤ slots → a < b → i < slots ^ a → slots ^ a + i < slots ^ b + j
power_before slots a b i j some below small =
    let twice : slots ^ a * 2 ≤ slots ^ (a + 1) =
    subst (λ (n : ℕ). slots ^ a * 2 ≤ n) (sym (pow_more slots a)) (mul-le-mul_left (slots ^ a) some) in
    let more : slots ^ (a + 1) ≤ slots ^ b = pow-le-pow_right {n = slots} (omega (arith, some)) (omega (arith, below)) in
    omega (arith, twice, more, small)

-- nodes that stand at one place are of one level
pub same_power : (slots a b i j : ℕ) → 2 ≤ slots → i < slots ^ a → j < slots ^ b → slots ^ a + i ≡ slots ^ b + j → a ≡ b
same_power slots a b i j some small small' e =
    elim (cases_order a b) [
      | inl same ↦ same
      | inr apart ↦ elim apart [
        | inl less ↦ absurd (omega (arith, power_before slots a b i j some less small))
        | inr more ↦ absurd (omega (arith, power_before slots b a j i some more small'))
      ]
    ]
