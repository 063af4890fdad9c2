use Rattle.std.proofs.Common.{◌+◌, ◌<◌, true, length, set, sym, ◌∙◌, subst, arith, length-set, rules}
use Rattle.cuts.specs.Boards.{Sound}
use Rattle.cuts.proofs.Building.{added_sound}
use Rattle.cuts.proofs.Sizes.{added_sizes}
use Rattle.kernel.specs.Arrays.{board_in}
use Rattle.kernel.specs.Views.{view}
use Rattle.kernel.proofs.Boards.{restood}
use Rattle.kernel.proofs.board.Kernel.add.Goals as goal

pub invariant_of-self : goal.invariant_of-self
invariant_of-self c =
    let k = c.args.self.now in
    let room : k.nets < length k.standing = search rules in
    let s : Sound (board_in (k.nets + 1) (set k.standing k.nets true) k.weights) = subst Sound (sym (restood k (k.nets + 1) k.nets true room)) (added_sound (view k) k.sound) in
    record {
      room = length-set k.standing k.nets true ∙ k.room;
      few = omega arith;
      sound = s;
      counted = k.counted ∙ sym (added_sizes (view k) k.sound);
      light = k.light;
    }
