use Rattle.std.proofs.Common.{ℕ, Option, slice_set, ap, arith, length, length-append, [], ◌∷◌, ◌+◌, ◌-◌, ◌≤◌}
use Rattle.std.specs.Vec.{vec_capacity}
use Rattle.sec_base.specs.declared.message.Message.TheVariants.{Line}
use Rattle.tag_engine.specs.Invariant.{engine_view}
use Rattle.tag_engine.proofs.Upkeep.{kept_made}
use Rattle.tag_engine.proofs.tag_engine.TagEngine.make_data.Goals as goal

pub invariant_of-self-2 : goal.invariant_of-self-2
invariant_of-self-2 g c =
    kept_made _ _ _ _ _ _ (engine_view c.self.inside) c.args.line (c.len.result - 1) _ c.args.counter c.args.cipher.now _
    c.self.invariant (rw (← c.self.view_is) at c.requires.inside)
    (omega (arith, c.len.ensures, ap length c.in_ok-push.ensures.items, length-append c.self.inside.made.items (Line c.args.line c.args.counter c.args.cipher.now ∷ []))) (ap (λ (o : Option ℕ). slice_set c.self.inside.line_places.items c.args.line o) c.last_of.ensures) c.in_ok-push.ensures.items
    c.saturating_sub-self-inside.ensures
    (let was : length c.self.inside.made.items + c.self.inside.room ≤ vec_capacity c.self.inside.made = c.self.invariant.room in
    omega (arith, was, c.in_ok-push.ensures.len, c.in_ok-push.ensures.capacity, c.push.new.self.ok))
