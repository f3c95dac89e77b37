use Rattle.std.proofs.Common.{◌≡◌, length, sym, arith}
use Rattle.std.proofs.lemmas.Result.{err_from_is_err_and}
use Rattle.sealed_state.proofs.Verdicts.{IsGood-from_none, IsGood-told, fault_told, state_told}
use Rattle.sealed_state.proofs.state_file.unseal.Goals as goal

pub returns-in_err-check-clause-opened : goal.returns-in_err-check-clause-opened
returns-in_err-check-clause-opened c =
    let told = err_from_is_err_and c.from_residual.result c.from_residual.ensures.1 in
    rw (told.1, told.2) (fault_told c.args.pads.now.key c.args.key.now c.args.number c.args.file.now _ c.in_err-check.ensures)

pub returns-in_err-check-clause-good : goal.returns-in_err-check-clause-good
returns-in_err-check-clause-good c =
    IsGood-told c.args.pads.now.key c.args.key.now c.args.number c.args.file.now _ (returns-in_err-check-clause-opened c)

pub part-cipher-requires : goal.part-cipher-requires
part-cipher-requires c =
    let long : length c.args.file.now ≡ 233 =
    (IsGood-from_none c.args.key.now c.args.number c.args.file.now (sym c.in_ok-check.ensures)).length_is in
    omega arith

pub returns-clause-opened : goal.returns-clause-opened
returns-clause-opened c =
    state_told c.args.pads.now.key c.args.key.now c.args.number c.args.file.now c.part-cipher.result c.decipher.result c.state_of_bytes.result
    c.in_ok-check.ensures c.part-cipher.ensures c.decipher.ensures c.state_of_bytes.ensures

pub returns-clause-good : goal.returns-clause-good
returns-clause-good c =
    IsGood-told c.args.pads.now.key c.args.key.now c.args.number c.args.file.now _ (returns-clause-opened c)
