use Rattle.std.proofs.Common.{◌≡◌, ◌∙◌, arith, w64, to_z, of_z}
use Rattle.std.proofs.lemmas.Int.{ints}
use Rattle.cuts.proofs.Sizes.{sum_row}
use Rattle.kernel.specs.Views.{view}
use Rattle.kernel.proofs.board.Kernel.shift.Goals as goal

pub returns-in-Opposed : goal.returns-in-Opposed
returns-in-Opposed c =
    let k = c.args.self.now in
    let e : to_z w64 (of_z w64 c.row_sum.result) ≡ c.row_sum.result = omega (arith, ints) in
    rw c.in-Opposed.is (e ∙ c.row_sum.ensures ∙ sum_row (view k) c.args.v.index 120 k.sound k.few)
