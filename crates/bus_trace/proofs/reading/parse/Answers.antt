use Rattle.std.proofs.Common.{arith}
use Rattle.bus_trace.proofs.RoundTrip.{is_in_form, is_written}
use Rattle.bus_trace.proofs.reading.parse.Goals as goal

pub returns-clause-form : goal.returns-clause-form
returns-clause-form c = is_in_form c.args.geometry c.args.file.now c.read.result (λ i. omega (arith, c.type_inv.file i)) c.read.ensures

pub returns-clause-bytes : goal.returns-clause-bytes
returns-clause-bytes c = is_written c.args.geometry c.args.file.now c.read.result (λ i. omega (arith, c.type_inv.file i)) c.read.ensures
