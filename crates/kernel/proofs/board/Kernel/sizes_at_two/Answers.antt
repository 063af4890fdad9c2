use Rattle.std.proofs.Common.{arith}
use Rattle.std.proofs.lemmas.Int.{ints}
use Rattle.cuts.proofs.Sizes.{sizes_row}
use Rattle.kernel.specs.Views.{view}
use Rattle.kernel.proofs.Totals.{summed}
use Rattle.kernel.proofs.board.Kernel.sizes_at_two.Goals as goal

pub returns-clause-sum : goal.returns-clause-sum
returns-clause-sum c =
    let k = c.args.self.now in
    let total = summed c.row_sizes.result c.row_sizes-2.result c.size.result c.row_sizes.ensures.small c.row_sizes-2.ensures.small (omega (arith, ints, c.size.ensures.size)) in
    omega (arith, ints, total, c.row_sizes.ensures.sum, c.row_sizes-2.ensures.sum, c.size.ensures.size, sizes_row (view k) c.args.v.index 120 k.sound k.few, sizes_row (view k) c.args.u.index 120 k.sound k.few)
