use Rattle.std.proofs.Common.{arith, rules}
use Rattle.std.proofs.lemmas.Int.{ints}
use Rattle.grid.proofs.matrix.Matrix.row_sizes.Goals as goal

pub returns-clause-small : goal.returns-clause-small
returns-clause-small c = omega (arith, ints, c.sum_of.ensures.bound 2147483648 (λ v z p. search rules))
