use Rattle.std.proofs.Common.{◌≡◌, true, length, refl, sym, ◌∙◌, ap, ℕ}
use Rattle.std.proofs.lemmas.Result.{err_from_is_err_and}
use Rattle.rv32_core.specs.Services.{next_input, is_inside, a0, a1, a2}
use Rattle.rv32_core.specs.State.{State, state_of}
use Rattle.rv32_core.proofs.Serving.{inside_as, read_in_part}
use Rattle.rv32_core.proofs.processor.Core.read_input.Goals as goal

pub returns-in_err-store_bytes-clause-outcome : goal.returns-in_err-store_bytes-clause-outcome
returns-in_err-store_bytes-clause-outcome g c = λ reliable.
    let before : State = state_of c.args.self.now c.args.calls.now.services (g.M.Ram.contents c.args.ram.now) in
    let input : a0 before ≡ 0 = sym c.reg.ensures ∙ c.if-reg-ne0.false in
    let inside : is_inside (a1 before) (a2 before) (length before.memory) ≡ true =
    inside_as before c.reg-from.result c.reg-count.result c.size.result true c.reg-from.ensures c.reg-count.ensures (c.size.ensures ∙ sym (g.met.M.Ram.sized c.args.ram.now)) (sym c.reaches_inside.ensures ∙ c.if-not-reaches_inside.false) in
    let bytes : c.next_bytes-bytes.result.now ≡ next_input before.calls (a2 before) =
    c.next_bytes-bytes.ensures.bytes ∙ ap (λ (n : ℕ). next_input before.calls n) c.reg-count.ensures in
    let p = err_from_is_err_and c.from_residual.result c.from_residual.ensures.1 in
    let part = c.in_err-store_bytes.ensures.front reliable in
    rw (p.1, p.2) ((_, refl), read_in_part before (g.M.Ram.contents c.store_bytes.new.ram) c.next_bytes-bytes.result.now c.reg-from.result part.0 c.reg-from.ensures input inside bytes part.1)
