use Rattle.std.proofs.Common.{◌+◌, ◌-◌, ◌*◌}
use Rattle.bonsai_tree.proofs.tree.Tree.+present.Given as goal

abbrev pub decreases-present : goal.decreases-present
decreases-present g l = 4 * (l.self.now.geometry.levels - l.level) + 3

abbrev pub decreases-make_room : goal.decreases-make_room
decreases-make_room g l = 4 * (l.self.now.geometry.levels - l.level) + 2

abbrev pub decreases-write_back : goal.decreases-write_back
decreases-write_back g l = 4 * (l.self.now.geometry.levels - l.level) + 1

abbrev pub decreases-parent_present : goal.decreases-parent_present
decreases-parent_present g l = 4 * (l.self.now.geometry.levels - l.level)
