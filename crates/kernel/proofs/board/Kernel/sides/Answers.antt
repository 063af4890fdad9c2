use Rattle.std.proofs.Common.{false, ◌∙◌, arith, length-set}
use Rattle.std.proofs.lemmas.List.Edits.{fill_by_more}
use Rattle.kernel.proofs.board.Kernel.sides.Goals as goal

pub loop-index-preserved : goal.loop-index-preserved
loop-index-preserved g c =
    let s = g.S.Split.sides c.args.split.now in
    record {
      long = length-set c.loop-index.side-items c.loop-index.index _ ∙ c.loop-index.invariant.long;
      sides = rw c.on_b.ensures (fill_by_more s c.loop-index.side-items c.loop-index.index false (omega (arith, c.loop-index.invariant.long)) c.loop-index.invariant.sides);
    }
