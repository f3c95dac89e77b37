use Rattle.bus_adversary.proofs.KeptPlaces.{kept_there}
use Rattle.bus_adversary.proofs.stored_places.StoredPlaces.line.Goals as goal
use Rattle.bus_adversary.specs.StoredPlaces.{EndsInZeros, empty_line}
use Rattle.bus_adversary.specs.declared.stored_places.LineBytes.{LineBytes}
use Rattle.sec_base.specs.Geometry.{line_count}
use Rattle.std.proofs.Common.{ap, subst, sym, ◌∙◌}

pub returns-clause-bytes : goal.returns-clause-bytes
returns-clause-bytes c =
    rw (← c.self.view_is) (ap (λ (x : LineBytes). x.bytes) (c.kept_line.ensures
    ∙ sym (kept_there (line_count c.self.inside.geometry) c.args.line empty_line c.self.inside.lines.entries (rw (← c.self.view_is) at c.requires))))

pub returns-clause-fits : goal.returns-clause-fits
returns-clause-fits c =
    rw (← c.self.view_is) (subst (λ (x : LineBytes). EndsInZeros c.self.inside.geometry x.bytes)
    (kept_there (line_count c.self.inside.geometry) c.args.line empty_line c.self.inside.lines.entries (rw (← c.self.view_is) at c.requires)
    ∙ sym c.kept_line.ensures)
    (c.self.invariant.0.fits c.args.line))
