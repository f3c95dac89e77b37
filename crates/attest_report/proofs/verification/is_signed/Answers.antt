use Rattle.attest_report.proofs.Versions.{signed_told}
use Rattle.attest_report.proofs.verification.is_signed.Goals as goal

pub returns : goal.returns
returns c =
    signed_told c.args.bytes.now c.args.key.now c.hmac.result c.field.result c.is_same.result c.requires
    c.hmac.ensures c.field.ensures c.is_same.ensures
