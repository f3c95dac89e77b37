-- Reading entries one after another.
use Rattle.std.proofs.Common.{◌≡◌, ℕ, suc, ◌-◌, ◌+◌, ◌≤◌, ◌<◌, List, [], ◌∷◌, ◌++◌, Ok, Err, refl, sym, ap, ◌∙◌, append_assoc, arith}
use Rattle.std.proofs.lemmas.List.{append-nil}
use Rattle.sec_base.specs.Geometry.{GeometryView}
use Rattle.bus_trace.specs.declared.entry.Entry.{Entry}
use Rattle.bus_trace.specs.declared.fault.TraceFault.{TraceFault}
use Rattle.bus_trace.specs.Reading.{Field, ◌>>=◌, entry_at, entries_at}

-- what was read before, and what is still read
abbrev pub with_front : List Entry → Field (List Entry) → Field (List Entry)
with_front front read = read >>= λ x. Ok (front ++ x.0, x.1)

regroup : (front : List Entry) (entry : Entry) (read : Field (List Entry)) →
    with_front front (read >>= λ x. Ok (entry ∷ x.0, x.1)) ≡ with_front (front ++ entry ∷ []) read
regroup front entry (Ok x) = ap (λ (entries : List Entry). Ok (entries, x.1)) (simp append_assoc)
regroup front entry (Err fault) = refl

pub goes_on : (geometry : GeometryView) (front : List Entry) (count i : ℕ) (bytes : List ℕ) (entry : Entry) (after : List ℕ) (total : Field (List Entry)) →
    i < count → entry_at geometry bytes ≡ Ok (entry, after) → with_front front (entries_at geometry (count - i) bytes) ≡ total →
    with_front (front ++ entry ∷ []) (entries_at geometry (count - (i + 1)) after) ≡ total
unfolding entries_at
goes_on geometry front count i bytes entry after total less read so_far =
    let left : count - i ≡ suc (count - (i + 1)) = omega arith in
    let one : with_front front (entries_at geometry (count - i) bytes) ≡ with_front (front ++ entry ∷ []) (entries_at geometry (count - (i + 1)) after) =
    rw (left, read) (regroup front entry (entries_at geometry (count - (i + 1)) after)) in
    sym one ∙ so_far

pub ends : (geometry : GeometryView) (fault : TraceFault) (front : List Entry) (count i : ℕ) (bytes : List ℕ) (total : Field (List Entry)) →
    i < count → entry_at geometry bytes ≡ Err fault → with_front front (entries_at geometry (count - i) bytes) ≡ total → total ≡ Err fault
unfolding entries_at
ends geometry fault front count i bytes total less read so_far =
    let left : count - i ≡ suc (count - (i + 1)) = omega arith in
    let one : with_front front (entries_at geometry (count - i) bytes) ≡ Err fault = rw (left, read) refl in
    sym so_far ∙ one

pub is_done : (geometry : GeometryView) (front : List Entry) (count i : ℕ) (bytes : List ℕ) (total : Field (List Entry)) →
    count ≤ i → with_front front (entries_at geometry (count - i) bytes) ≡ total → total ≡ Ok (front, bytes)
unfolding entries_at
is_done geometry front count i bytes total all so_far =
    let left : count - i ≡ 0 = omega arith in
    let one : with_front front (entries_at geometry (count - i) bytes) ≡ Ok (front, bytes) = rw left (ap (λ (entries : List Entry). Ok (entries, bytes)) (append-nil front)) in
    sym so_far ∙ one
