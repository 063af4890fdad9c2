use Rattle.std.proofs.Common.{◌≡◌, cond, pos, refl, ◌∙◌, arith, rules, w64, to_z, of_z}
use Rattle.std.proofs.lemmas.Int.{ints}
use Rattle.cuts.specs.Boards.{connected, connections}
use Rattle.cuts.proofs.Sums.{count_le}
use Rattle.kernel.specs.Views.{view}
use Rattle.kernel.proofs.Counting.{counted}
use Rattle.kernel.proofs.board.Kernel.connections.Goals as goal

total : (c : goal.After-sum_of) → to_z w64 (of_z w64 c.sum_of.result) ≡ pos (connections (view c.args.self.now) c.args.v.index)
total c =
    let b = view c.args.self.now in
    let e = c.sum_of.ensures.sum (λ u. pos (cond (connected (b.weight c.args.v.index u)) 1 0)) (λ u z p. search rules) ∙ counted b.nets (λ u. connected (b.weight c.args.v.index u)) in
    omega (arith, ints, e)

pub overflow_cast-result : goal.overflow_cast-result
overflow_cast-result c =
    let b = view c.args.self.now in
    rw (total c) (tt, omega (arith, c.args.self.now.few, count_le b.nets (λ u. connected (b.weight c.args.v.index u))))

pub returns : goal.returns
returns c = rw (total c) refl
