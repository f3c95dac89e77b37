-- Numbers in the copies of held lines.
use Rattle.std.proofs.Common.{◌≡◌, ◌≢◌, ℕ, ◌+◌, ◌%◌, ◌/◌, ◌<◌, ◌≤◌, List, length, true, Option, Some, None, refl, sym, ◌∙◌, ap, subst}
use Rattle.std.specs.Option.{option_map}
use Rattle.std.proofs.lemmas.Bool.{true≢false}
use Rattle.std.proofs.lemmas.Option.{none-some, same_Some}
use Rattle.sec_base.specs.Lines.{line_at}
use Rattle.sec_base.specs.Width.{width_bytes, number_at, with_number}
use Rattle.sec_base.specs.declared.width.Width.{Width}
use Rattle.sec_base.specs.declared.stop.MemStop.{MemStop}
use Rattle.sec_base.proofs.LineNumbers.{number_read, number_written}
use Rattle.sec_base.proofs.NumberBytes.{length-with_number}
use Rattle.cache_set.specs.declared.way.Way.{Way}
use Rattle.cache_set.specs.Cache.{IsCache, copy_at, way_at}
use Rattle.line_cache.specs.LineCache.{AreClean, AreCopies, LineCacheView, contents_over, line_sets}
use Rattle.line_cache.proofs.Lines.{clean_with, copies_with, over_changed, over_held}
use Rattle.line_cache.proofs.Steps.{way_of_copy}

-- the copy that a number was read from
pub copy_of_number : (found : Option (List ℕ)) (number : List ℕ → ℕ) (n : ℕ) → Some n ≡ option_map number found → (copy : List ℕ) × (found ≡ Some copy) × (n ≡ number copy)
copy_of_number None number n h = absurd (none-some n (sym h))
copy_of_number (Some copy) number n h = (copy, refl, same_Some n (number copy) h)

-- the ways are as they were
abbrev pub with_lines : {S : Type 0} → S → Option MemStop → List (List Way) → LineCacheView S
with_lines store stop lines = record { store = store; lines = lines; stop = stop }

pub as_before : {S : Type 0} (store : S) (stop : Option MemStop) (lines lines' : List (List Way)) (before : LineCacheView S) → lines' ≡ lines → with_lines store stop lines ≡ before → with_lines store stop lines' ≡ before
as_before store stop lines lines' before same is = ap (with_lines store stop) same ∙ is

module _ (stored : List ℕ) (count : ℕ) (lines : List (List Way)) (addr : ℕ) (width : Width) (copies : AreCopies count lines) (aligned : addr % width_bytes width ≡ 0) (copy : List ℕ) (held : copy_at lines (addr / 64) ≡ Some copy) where
  line_held : copy ≡ line_at (contents_over stored count lines) (addr / 64)
  line_held =
      let way = way_of_copy (way_at lines (addr / 64)) copy held in
      sym (over_held stored count lines (addr / 64) way.0 (copies.inside (addr / 64) way.0 way.1) way.1 (copies.whole (addr / 64) way.0 way.1) ∙ way.2)

  copy_long : length copy ≡ 64
  copy_long =
      let way = way_of_copy (way_at lines (addr / 64)) copy held in
      ap length (sym way.2) ∙ copies.whole (addr / 64) way.0 way.1

  -- a number that is read
  pub read_over : (n : ℕ) → n ≡ number_at copy (addr % 64) width → n ≡ number_at (contents_over stored count lines) addr width
  read_over n is = number_read (contents_over stored count lines) copy addr n width aligned line_held is

  module _ (value : ℕ) (within : addr % 64 + width_bytes width ≤ 64) (lines' : List (List Way)) (is : IsCache line_sets lines')
      (put : way_at lines' (addr / 64) ≡ Some (record { place = addr / 64; changed = true; copy = with_number copy (addr % 64) width value }))
      (others : (other : ℕ) → other ≢ addr / 64 → way_at lines' other ≡ way_at lines other) where
    abbrev changed : Way
    changed = record { place = addr / 64; changed = true; copy = with_number copy (addr % 64) width value }

    below : addr / 64 < count
    below = let way = way_of_copy (way_at lines (addr / 64)) copy held in copies.inside (addr / 64) way.0 way.1

    whole : length (with_number copy (addr % 64) width value) ≡ 64
    whole = length-with_number copy (addr % 64) width value (subst (λ n. addr % 64 + width_bytes width ≤ n) (sym copy_long) within) ∙ copy_long

    -- a number that is put in
    pub copies_put : AreCopies count lines'
    copies_put = copies_with count lines lines' (addr / 64) changed is below whole put others copies

    pub clean_put : AreClean stored lines → AreClean stored lines'
    clean_put clean = clean_with stored lines lines' (addr / 64) changed (λ unmarked. absurd (true≢false unmarked)) put others clean

    pub written_over : contents_over stored count lines' ≡ with_number (contents_over stored count lines) addr width value
    written_over =
        number_written (contents_over stored count lines) (contents_over stored count lines) (contents_over stored count lines') copy
        (with_number copy (addr % 64) width value) addr value width aligned line_held refl refl
        (over_changed stored count lines lines' (addr / 64) changed below whole put others)
