-- The calls of a bus that answered falsely as often as can be counted: what it was asked and answered is the same for any
-- answers.
use Rattle.std.proofs.Common.{◌≡◌, ℕ, Bool, true, false, if◌then◌else◌, List, refl}
use Rattle.sec_base.specs.declared.place.Place.{Place}
use Rattle.bus_model.specs.BusHistory.{BusHistory, NothingWritten, after_answer, after_lie, after_read, after_write, new_history}
use Rattle.fakes.specs.ReplayBus.{lied_out}
use Rattle.sec_base.specs.Geometry.{GeometryView}

either : (lies lied : Bool) (place : Place) (bytes answer : List ℕ) (history : BusHistory) →
    lied_out (if lies then after_lie place bytes (after_answer place history) else after_answer place history)
    ≡ (if lied then after_lie place answer (after_answer place (lied_out history)) else after_answer place (lied_out history))
either true true place bytes answer history = refl
either true false place bytes answer history = refl
either false true place bytes answer history = refl
either false false place bytes answer history = refl

pub any_answer : (place : Place) (bytes answer : List ℕ) (old new : BusHistory) → new ≡ after_read place bytes old →
    lied_out new ≡ after_read place answer (lied_out old)
unfolding after_read
any_answer place bytes answer old new is = rw is (either _ _ place bytes answer old)

pub any_write : (place : Place) (bytes : List ℕ) (old new : BusHistory) → new ≡ after_write place bytes old →
    lied_out new ≡ after_write place bytes (lied_out old)
unfolding after_write
any_write place bytes old new is = rw is refl

pub new_and_lied_out : (geometry : GeometryView) (history : BusHistory) → history ≡ new_history geometry → NothingWritten (lied_out history)
new_and_lied_out geometry history is = rw is (record { zeros = λ place inside. refl })
