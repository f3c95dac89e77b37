use Rattle.std.proofs.Common.{◌≡◌, ◌<◌, ℕ, Option, IfSome, length, rules, subst, sym}
use Rattle.sec_base.specs.declared.message.Message.TheVariants.{Line}
use Rattle.tag_engine.specs.Invariant.{engine_view}
use Rattle.tag_engine.specs.TagEngine.{tags_of}
use Rattle.tag_engine.proofs.Upkeep.{place_within, kept_shown, failed_check, known_before}
use Rattle.tag_engine.proofs.tag_engine.TagEngine.check_data.Goals as goal

pub returns-then-ne-clause-state : goal.returns-then-ne-clause-state
returns-then-ne-clause-state g c = failed_check c.args.self.now c.args.line c.args.counter c.args.sealed.now

pub forgery-self-inside-requires : goal.forgery-self-inside-requires
forgery-self-inside-requires g c =
    subst (λ (o : Option ℕ). IfSome o (λ at. at < length c.deref.result.now)) (sym c.get.ensures)
    (place_within _ _ _ _ _ c.args.line c.index.result.now c.deref.result.now
    c.self.invariant (rw (← c.self.view_is) at c.requires.inside) c.index.ensures c.deref.ensures.value)

pub invariant_of-self : goal.invariant_of-self
invariant_of-self g c =
    let tagged : c.args.sealed.now.tag ≡ tags_of g.T.Tagger.data_tag_of g.T.Tagger.node_tag_of c.args.self.now (Line c.args.line c.args.counter c.args.sealed.now.cipher) = search rules in
    kept_shown _ _ _ _ (engine_view c.self.inside) c.args.line c.args.counter c.args.sealed.now c.deref.result.now _
    c.self.invariant (rw (← c.self.view_is) at tagged) c.deref.ensures.value c.forgery-self-inside.ensures

pub returns-then-is_none-clause-known : goal.returns-then-is_none-clause-known
returns-then-is_none-clause-known g c = λ _ none.
    known_before (engine_view c.self.inside) c.args.self.now c.deref.result.now
    c.args.line c.args.counter c.args.sealed.now c.forgery-self-inside.result
    c.self.view_is c.deref.ensures.value c.forgery-self-inside.ensures none

pub returns-then-is_none-clause-genuine : goal.returns-then-is_none-clause-genuine
returns-then-is_none-clause-genuine g c = (invariant_of-self g c).evidence
