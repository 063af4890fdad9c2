use Rattle.std.proofs.Common.{◌≡◌, sym, ◌∙◌, arith, rules, w64, to_z, of_z}
use Rattle.std.proofs.lemmas.Int.{ints}
use Rattle.cuts.specs.Boards.{size}
use Rattle.kernel.specs.Views.{view, besides}
use Rattle.kernel.proofs.Counting.{spares}
use Rattle.kernel.proofs.board.Kernel.sizes_at.Goals as goal

pub returns : goal.returns
returns c =
    let h = c.sum_of.ensures.sum (besides c.args.spared.now (λ u. size ((view c.args.self.now).weight c.args.v.index u))) (λ v z p. rw (sym (spares c.args.spared.now v)) (search rules)) in
    let e : to_z w64 (of_z w64 c.sum_of.result) ≡ c.sum_of.result = omega (arith, ints) in
    e ∙ h
