use Rattle.std.proofs.Common.{◌≡◌, ◌<◌, false, length, set, Some, sym, ap, ◌∙◌, subst, arith, length-set, w64, to_z, of_z, rules}
use Rattle.std.proofs.lemmas.Int.{ints}
use Rattle.cuts.specs.Boards.{Sound, Weights, size, sizes, sizes_at}
use Rattle.cuts.specs.Merging.{merged}
use Rattle.cuts.specs.Sums.{∑}
use Rattle.cuts.proofs.Merging.{merged_sound}
use Rattle.cuts.proofs.Sizes.{sizes_row, merged_sizes, merged_lighter, sizes_natural}
use Rattle.kernel.specs.Arrays.{board_in}
use Rattle.kernel.specs.Views.{view}
use Rattle.kernel.proofs.Boards.{put_merged, remerged}
use Rattle.kernel.proofs.Cases.{merge_done, merge_exact}
use Rattle.kernel.proofs.Totals.{replaced}
use Rattle.kernel.proofs.board.Kernel.merge.Goals as goal

pub overflow_sub-self : goal.overflow_sub-self
overflow_sub-self c = let k = c.args.self.now in omega (arith, ints, k.light, k.counted, sizes_natural (view k), c.sizes_at_two-before.ensures.small)

pub overflow_add-self : goal.overflow_add-self
overflow_add-self c = let k = c.args.self.now in omega (arith, ints, k.light, k.counted, sizes_natural (view k), c.sizes_at_two-before.ensures.small, c.row_sizes.ensures.small)

pub invariant_of-self : goal.invariant_of-self
invariant_of-self c =
    let k = c.args.self.now in
    let room : c.args.v.index < length k.standing = search rules in
    let two = sym c.if-not-are_two.ensures in
    let weights = put_merged k c.args.tie c.args.v.index c.args.u.index c.put_row.new.self c.put_row-2.new.self c.grown_row-row.result c.grown_row-row.ensures c.put_row.ensures c.put_row-2.ensures in
    let board = remerged k c.args.tie c.put_row-2.new.self c.args.v.index c.args.u.index room weights in
    let s : Sound (board_in k.nets (set k.standing c.args.v.index false) c.put_row-2.new.self) = subst Sound (sym board) (merged_sound c.args.tie (view k) c.args.v.index c.args.u.index k.sound two) in
    let row : c.row_sizes.result ≡ sizes_at (merged c.args.tie c.args.v.index c.args.u.index (view k)) c.args.u.index = c.row_sizes.ensures.sum ∙ ap (λ (w : Weights). ∑ 120 (λ j. size (w c.args.u.index j))) weights ∙ sizes_row (merged c.args.tie c.args.v.index c.args.u.index (view k)) c.args.u.index 120 (merged_sound c.args.tie (view k) c.args.v.index c.args.u.index k.sound two) k.few in
    let same : sizes (board_in k.nets (set k.standing c.args.v.index false) c.put_row-2.new.self) ≡ sizes (merged c.args.tie c.args.v.index c.args.u.index (view k)) = ap sizes board in
    let sum = merged_sizes c.args.tie (view k) c.args.v.index c.args.u.index k.sound two in
    let less = merged_lighter c.args.tie (view k) c.args.v.index c.args.u.index k.sound two in
    let total = replaced k.sizes c.sizes_at_two-before.result c.row_sizes.result (sizes (board_in k.nets (set k.standing c.args.v.index false) c.put_row-2.new.self))
    (omega (arith, ints, k.light, k.counted, sizes_natural (view k)))
    c.sizes_at_two-before.ensures.small
    (omega (arith, ints, c.row_sizes.ensures.small))
    (omega (arith, ints, k.counted, c.sizes_at_two-before.ensures.sum)) in
    record {
      room = length-set k.standing c.args.v.index false ∙ k.room;
      few = k.few;
      sound = s;
      counted = total;
      light = omega (arith, ints, k.light, k.counted);
    }

pub returns : goal.returns
returns c =
    let k = c.args.self.now in
    let room : c.args.v.index < length k.standing = search rules in
    let two = sym c.if-not-are_two.ensures in
    let r = merge_done c.args.tie c.args.v.index c.args.u.index (view k) two in
    let e : to_z w64 (of_z w64 c.shift-shift.result) ≡ c.shift-shift.result = omega (arith, ints) in
    let weights = put_merged k c.args.tie c.args.v.index c.args.u.index c.put_row.new.self c.put_row-2.new.self c.grown_row-row.result c.grown_row-row.ensures c.put_row.ensures c.put_row-2.ensures in
    let board = remerged k c.args.tie c.put_row-2.new.self c.args.v.index c.args.u.index room weights in
    record {
      answer = ap Some (e ∙ c.shift-shift.ensures) ∙ r.0;
      board = board ∙ r.1;
      exact = merge_exact c.args.tie c.args.v.index c.args.u.index (view k) _ k.sound two board;
    }
