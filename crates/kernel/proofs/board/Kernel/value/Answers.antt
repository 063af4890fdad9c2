use Rattle.std.proofs.Common.{◌≡◌, ℕ, ◌<◌, ap, ap₂, false, slice_index_or, ◌∙◌, arith, rules, w64, to_z, of_z}
use Rattle.std.proofs.lemmas.Int.{ints}
use Rattle.cuts.specs.Boards.{cut, size, value}
use Rattle.cuts.specs.Sums.{∑, pairs}
use Rattle.cuts.proofs.Sums.{∑_cong}
use Rattle.cuts.proofs.Values.{bounded}
use Rattle.kernel.specs.Views.{view}
use Rattle.kernel.proofs.board.Kernel.value.Goals as goal

pub returns : goal.returns
unfolding pairs
returns g c =
    let k = c.args.self.now in
    let b = view k in
    let s = g.S.Split.sides c.args.split.now in
    let t = λ (u : ℕ). slice_index_or c.sides-sides.result u false in
    let e : to_z w64 (of_z w64 c.sum_of.result) ≡ c.sum_of.result = omega (arith, ints) in
    let same : (i : ℕ) → i < k.nets → t i ≡ s i = λ i p. c.sides-sides.ensures i p in
    let total : to_z w64 (of_z w64 c.sum_of.result) ≡ value b s =
    e
    ∙ c.sum_of.ensures.sum (λ v. ∑ v (λ u. cut (t u) (t v) (b.weight u v))) (λ v z p. search rules)
    ∙ ∑_cong k.nets _ _ (λ v p. ∑_cong v _ _ (λ u q. ap₂ (λ x y. cut x y (b.weight u v)) (same u (omega (arith, p, q))) (same v p))) in
    record { value = total; bounded = omega (arith, ints, ap size total, bounded b s) }
