use Rattle.bus_adversary.proofs.PlaceChanges.{put_changes, restore_changes}
use Rattle.bus_adversary.proofs.adversary.Adversary.act.Goals as goal
use Rattle.bus_adversary.specs.declared.adversary.Register.TheVariants.{Empty}
use Rattle.std.proofs.Common.{rules, slice_index_or}

pub returns-in_ok-set-in-Set-clause-changes : goal.returns-in_ok-set-in-Set-clause-changes
returns-in_ok-set-in-Set-clause-changes c =
    rw (c.in-Set.is, c.in_ok-set-in-Set.ensures.ok) (put_changes c.in-Set.place _ c.args.self.now.places (search rules))

pub returns-in_ok-put-in-Put-clause-changes : goal.returns-in_ok-put-in-Put-clause-changes
returns-in_ok-put-in-Put-clause-changes c =
    rw (c.in-Put.is, c.in_ok-put-in-Put.ensures.ok) (put_changes c.in-Put.place _ c.args.self.now.places (search rules))

pub returns-in_ok-flip-in-Flip-clause-changes : goal.returns-in_ok-flip-in-Flip-clause-changes
returns-in_ok-flip-in-Flip-clause-changes c =
    rw (c.in-Flip.is, c.in_ok-flip-in-Flip.ensures.ok) (put_changes c.in-Flip.place _ c.args.self.now.places (search rules))

pub returns-in_ok-restore-in-Restore-clause-changes : goal.returns-in_ok-restore-in-Restore-clause-changes
returns-in_ok-restore-in-Restore-clause-changes c =
    rw (c.in-Restore.is, c.in_ok-restore-in-Restore.ensures.ok)
    (restore_changes (slice_index_or c.args.self.now.registers c.in-Restore.register Empty) c.in-Restore.place c.args.self.now (search rules))
