use Rattle.std.proofs.Common.{◌<◌, false, length, set, pos, sym, ◌∙◌, subst, length-set, rules}
use Rattle.cuts.specs.Boards.{Board, Sound}
use Rattle.cuts.specs.Reductions.{Reduces}
use Rattle.cuts.specs.Sums.{put}
use Rattle.cuts.proofs.Building.{lone_tells}
use Rattle.cuts.proofs.Reducing.{removed_reduces}
use Rattle.kernel.specs.Arrays.{board_in}
use Rattle.kernel.specs.Views.{view}
use Rattle.kernel.proofs.Boards.{restood}
use Rattle.kernel.proofs.board.Kernel.remove.Goals as goal

pub invariant_of-self : goal.invariant_of-self
invariant_of-self c =
    let k = c.args.self.now in
    let room : c.args.v.index < length k.standing = search rules in
    let lone = lone_tells (view k) c.args.v.index (sym c.connections.ensures ∙ c.if-connections-ne0.false) in
    let s : Sound (board_in k.nets (set k.standing c.args.v.index false) k.weights) = subst Sound (sym (restood k k.nets c.args.v.index false room)) (removed_reduces (view k) c.args.v.index k.sound lone).sound in
    record {
      room = length-set k.standing c.args.v.index false ∙ k.room;
      few = k.few;
      sound = s;
      counted = k.counted;
      light = k.light;
    }

pub returns-clause-reduces : goal.returns-clause-reduces
returns-clause-reduces c =
    let k = c.args.self.now in
    let v = c.args.v.index in
    let room : v < length k.standing = search rules in
    let none = sym c.connections.ensures ∙ c.if-connections-ne0.false in
    λ _. subst (λ (b : Board). Reduces (view k) b (put v false) (pos 0)) (sym (restood k k.nets v false room)) (removed_reduces (view k) v k.sound (lone_tells (view k) v none))
