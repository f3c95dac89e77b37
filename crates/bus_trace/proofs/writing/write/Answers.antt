use Rattle.std.proofs.Common.{rules, ap, ◌≡◌, ◌∙◌}
use Rattle.bus_trace.specs.Format.{trace_bytes}
use Rattle.bus_trace.specs.Reading.{read_trace}
use Rattle.bus_trace.proofs.RoundTrip.{HasNumbers, trace_again}
use Rattle.bus_trace.proofs.writing.write.Goals as goal

pub returns-clause-read_back : goal.returns-clause-read_back
unfolding trace_bytes
returns-clause-read_back c = λ geometry is form.
    let bytes : c.from_vec.result ≡ trace_bytes c.args.trace.now = search rules in
    let numbers : HasNumbers c.args.trace.now = record { output = search rules; code = search rules; retired = search rules; count = search rules } in
    ap (read_trace geometry) bytes ∙ trace_again geometry c.args.trace.now numbers is form
