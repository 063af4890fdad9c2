use Rattle.std.proofs.Common.{w32}
use Rattle.std.proofs.lemmas.Int.{to_z-of_z}
use Rattle.grid.proofs.Rows.{set_pair}
use Rattle.grid.proofs.matrix.Matrix.set.Goals as goal

pub returns : goal.returns
returns c = let m = c.args.self.now in rw (to_z-of_z w32 c.args.weight c.ranges.weight) (set_pair m.rows c.args.v.index c.args.u.index c.args.weight m.long m.wide c.args.v.within c.args.u.within)
