use Rattle.std.proofs.Common.{sym, arith}
use Rattle.std.proofs.lemmas.Int.{ints}
use Rattle.kernel.proofs.Boards.{light_weights}
use Rattle.kernel.proofs.board.Kernel.grown_weight.Goals as goal

pub overflow_add-result : goal.overflow_add-result
overflow_add-result c = omega (arith, ints, c.weight-kept.ensures, c.weight-passed.ensures, light_weights c.args.self.now c.args.u.index c.args.other.index, light_weights c.args.self.now c.args.v.index c.args.other.index)

pub overflow_sub-result : goal.overflow_sub-result
overflow_sub-result c = omega (arith, ints, c.weight-kept.ensures, c.weight-passed.ensures, light_weights c.args.self.now c.args.u.index c.args.other.index, light_weights c.args.self.now c.args.v.index c.args.other.index)

pub returns-in-Joined : goal.returns-in-Joined
returns-in-Joined c =
    let a = light_weights c.args.self.now c.args.u.index c.args.other.index in
    let b = light_weights c.args.self.now c.args.v.index c.args.other.index in
    rw (c.in-Joined.is, sym c.if-eq.ensures) (omega (arith, ints, c.weight-kept.ensures, c.weight-passed.ensures))

pub returns-in-Opposed : goal.returns-in-Opposed
returns-in-Opposed c =
    let a = light_weights c.args.self.now c.args.u.index c.args.other.index in
    let b = light_weights c.args.self.now c.args.v.index c.args.other.index in
    rw (c.in-Opposed.is, sym c.if-eq.ensures) (omega (arith, ints, c.weight-kept.ensures, c.weight-passed.ensures))
