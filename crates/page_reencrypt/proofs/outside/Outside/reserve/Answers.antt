use Rattle.std.proofs.Common.{refl}
use Rattle.page_reencrypt.proofs.NodeSteps.{err_map}
use Rattle.page_reencrypt.proofs.outside.Outside.reserve.Goals as goal

pub returns-clause-refused : goal.returns-clause-refused
returns-clause-refused g c =
    err_map c.reserve-2.result
    (λ same. rw (← c.self.view_is) (record { room = _; bus = refl; engine = c.in_ok-reserve.ensures.taken; pads = same }))
    c.reserve-2.ensures.refused
