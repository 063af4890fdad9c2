use Rattle.std.proofs.Common.{◌≡◌, ℕ, ap, false, slice_index_or, ◌∙◌, arith, rules, w64, to_z, of_z}
use Rattle.std.proofs.lemmas.Int.{ints}
use Rattle.cuts.specs.Boards.{cut}
use Rattle.cuts.proofs.Sums.{∑_cong}
use Rattle.kernel.specs.Views.{view}
use Rattle.kernel.proofs.board.Kernel.value_at.Goals as goal

pub returns-clause-value : goal.returns-clause-value
returns-clause-value c =
    let k = c.args.self.now in
    let v = c.args.v.index in
    let s = λ (u : ℕ). slice_index_or c.args.sides.now u false in
    let e : to_z w64 (of_z w64 c.sum_of.result) ≡ c.sum_of.result = omega (arith, ints) in
    e
    ∙ c.sum_of.ensures.sum (λ u. cut (s u) (s v) ((view k).weight v u)) (λ u z p. search rules)
    ∙ ∑_cong v _ _ (λ u p. ap (cut (s u) (s v)) (k.sound.symmetric v u))

pub returns-clause-small : goal.returns-clause-small
returns-clause-small c =
    let few = c.args.v.within in
    let a = c.sum_of.ensures.bound 2147483648 (λ v z p. search rules) in
    omega (arith, ints, a)
