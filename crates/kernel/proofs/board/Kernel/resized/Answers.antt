use Rattle.std.proofs.Common.{◌≡◌, ap, ◌∙◌, arith, w32}
use Rattle.std.proofs.lemmas.Int.{ints, to_z-of_z}
use Rattle.cuts.specs.Boards.{size}
use Rattle.cuts.proofs.Sizes.{sizes_natural, weighed_sizes}
use Rattle.kernel.specs.Views.{view}
use Rattle.kernel.proofs.Totals.{replaced}
use Rattle.kernel.proofs.board.Kernel.resized.Goals as goal

pub overflow_sub-result : goal.overflow_sub-result
overflow_sub-result c = let k = c.args.self.now in omega (arith, ints, k.light, k.counted, sizes_natural (view k), c.size.ensures.size, c.size.ensures.small)

pub overflow_add-result : goal.overflow_add-result
overflow_add-result c = let k = c.args.self.now in omega (arith, ints, k.light, k.counted, sizes_natural (view k), c.size.ensures.size, c.size.ensures.small, c.weight_size.ensures.size, c.weight_size.ensures.small)

pub returns : goal.returns
returns c =
    let k = c.args.self.now in
    let total = sizes_natural (view k) in
    let counted = k.counted in
    let old = c.size.ensures.size in
    let new : c.weight_size.result ≡ size c.args.weight = c.weight_size.ensures.size ∙ ap size (to_z-of_z w32 c.args.weight c.ranges.weight) in
    let sum = weighed_sizes (view k) c.args.v.index c.args.u.index c.args.weight k.sound c.requires in
    replaced k.sizes c.size.result c.weight_size.result _ (omega (arith, ints, k.light)) (omega (arith, ints, c.size.ensures.small)) (omega (arith, ints, c.weight_size.ensures.small)) (omega (arith, ints))
