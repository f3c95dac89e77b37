-- The sizes of the memories that there are.
use Rattle.std.proofs.Common.{◌≡◌, ◌∙◌, ap, sym, ◌*◌, ℕ, zero, suc, ◌<◌, ◌≤◌, ◌^◌, Bool, true, refl, arith, get_or, eqb-true, leb-true}
use Rattle.std.specs.Prelude.{◌==◌, nat_le}
use Rattle.std.specs.List.{list_all}
use Rattle.std.proofs.lemmas.List.Sums.{AllPass-from_list_all}
use Rattle.sec_base.specs.declared.geometry.Layout.{Layout}
use Rattle.sec_base.specs.declared.geometry.Layout.TheVariants.{One, Two}
use Rattle.sec_base.specs.Geometry.{GeometryView, IsGeometry, all_geometries, one, page_count, line_count, memory_size, is_memory_size, IsMemorySize}
use Rattle.sec_base.specs.Lines.{is_line_count, IsLineCount}

-- the bits of a page's number: two for each level of four children, and three for each of eight
abbrev pub bits_of : Layout → ℕ
bits_of One = 2
bits_of Two = 3

abbrev pub page_bits : GeometryView → ℕ
page_bits geometry = bits_of geometry.layout * geometry.levels

-- A test that each shape passes

at_number : (test : GeometryView → Bool) → list_all test all_geometries ≡ true → (k : ℕ) → k < 13 → test (get_or all_geometries k (one 1)) ≡ true
at_number test pass k few = AllPass-from_list_all test all_geometries pass k (one 1) few

by_levels : (test : GeometryView → Bool) → list_all test all_geometries ≡ true → (layout : Layout) (levels : ℕ) →
    IsGeometry (record { layout = layout; levels = levels }) → test (record { layout = layout; levels = levels }) ≡ true
by_levels test pass One zero is = absurd (omega (arith, is.0))
by_levels test pass One (suc zero) is = at_number test pass 0 (omega arith)
by_levels test pass One (suc (suc zero)) is = at_number test pass 1 (omega arith)
by_levels test pass One (suc (suc (suc zero))) is = at_number test pass 2 (omega arith)
by_levels test pass One (suc (suc (suc (suc zero)))) is = at_number test pass 3 (omega arith)
by_levels test pass One (suc (suc (suc (suc (suc zero))))) is = at_number test pass 4 (omega arith)
by_levels test pass One (suc (suc (suc (suc (suc (suc zero)))))) is = at_number test pass 5 (omega arith)
by_levels test pass One (suc (suc (suc (suc (suc (suc (suc zero))))))) is = at_number test pass 6 (omega arith)
by_levels test pass One (suc (suc (suc (suc (suc (suc (suc (suc zero)))))))) is = at_number test pass 7 (omega arith)
by_levels test pass One (suc (suc (suc (suc (suc (suc (suc (suc (suc levels))))))))) is = absurd (omega (arith, is.1))
by_levels test pass Two zero is = absurd (omega (arith, is.0))
by_levels test pass Two (suc zero) is = at_number test pass 8 (omega arith)
by_levels test pass Two (suc (suc zero)) is = at_number test pass 9 (omega arith)
by_levels test pass Two (suc (suc (suc zero))) is = at_number test pass 10 (omega arith)
by_levels test pass Two (suc (suc (suc (suc zero)))) is = at_number test pass 11 (omega arith)
by_levels test pass Two (suc (suc (suc (suc (suc zero))))) is = at_number test pass 12 (omega arith)
by_levels test pass Two (suc (suc (suc (suc (suc (suc levels)))))) is = absurd (omega (arith, is.1))

pub each_shape : (test : GeometryView → Bool) → list_all test all_geometries ≡ true → (geometry : GeometryView) → IsGeometry geometry → test geometry ≡ true
each_shape test pass geometry is = by_levels test pass geometry.layout geometry.levels is

-- no tree has more than 65536 pages
pub few_pages : (geometry : GeometryView) → IsGeometry geometry → page_count geometry ≤ 65536
few_pages geometry is = leb-true (page_count geometry) 65536 (each_shape (λ geometry. nat_le (page_count geometry) 65536) refl geometry is)

pub few_bits : (geometry : GeometryView) → IsGeometry geometry → page_bits geometry ≤ 16
few_bits geometry is = leb-true (page_bits geometry) 16 (each_shape (λ geometry. nat_le (page_bits geometry) 16) refl geometry is)

-- the memory of each tree has a tree's size
pub some_size : (geometry : GeometryView) → IsGeometry geometry → IsMemorySize (memory_size geometry)
some_size = each_shape (λ geometry. is_memory_size (memory_size geometry)) refl

-- and so many lines
pub some_lines : (geometry : GeometryView) → IsGeometry geometry → IsLineCount (line_count geometry)
some_lines = each_shape (λ geometry. is_line_count (line_count geometry)) refl

-- the bits of a page's number give the pages
pub bits_give : (geometry : GeometryView) → IsGeometry geometry → 2 ^ page_bits geometry ≡ page_count geometry
bits_give geometry is = eqb-true _ _ (each_shape (λ geometry. 2 ^ page_bits geometry == page_count geometry) refl geometry is)

pub bits_for : {geometry : GeometryView} (layout : Layout) (levels : ℕ) → record { layout = layout; levels = levels } ≡ geometry → IsGeometry geometry →
    (other : Layout) → layout ≡ other → 2 ^ (bits_of other * levels) ≡ page_count geometry
bits_for {geometry = geometry} layout levels view is other same =
    ap (λ (l : Layout). 2 ^ (bits_of l * levels)) (sym same) ∙ ap (λ (g : GeometryView). 2 ^ page_bits g) view ∙ bits_give geometry is
