use Rattle.std.proofs.Common.{◌≡◌, ℤ, sym, ap, ◌∙◌, subst, arith, w32}
use Rattle.std.proofs.lemmas.Int.{ints, to_z-of_z}
use Rattle.cuts.specs.Boards.{Sound, sizes}
use Rattle.cuts.specs.Building.{weighed}
use Rattle.cuts.proofs.Building.{weighed_sound}
use Rattle.kernel.specs.Arrays.{board_in}
use Rattle.kernel.specs.Views.{view}
use Rattle.kernel.proofs.Boards.{repaired}
use Rattle.kernel.proofs.board.Kernel.set.Goals as goal

pub invariant_of-self : goal.invariant_of-self
invariant_of-self c =
    let k = c.args.self.now in
    let e = to_z-of_z w32 c.args.weight c.ranges.weight in
    let board = repaired k c.set.new.self c.args.v.index c.args.u.index _ c.args.weight e c.set.ensures in
    let s : Sound (board_in k.nets k.standing c.set.new.self) = subst Sound (sym board) (weighed_sound (view k) c.args.v.index c.args.u.index c.args.weight k.sound (sym c.if-not-are_two.ensures)) in
    let total : c.resized-sizes.result ≡ sizes (board_in k.nets k.standing c.set.new.self) = c.resized-sizes.ensures ∙ ap (λ (z : ℤ). sizes (weighed c.args.v.index c.args.u.index z (view k))) e ∙ ap sizes (sym board) in
    record {
      room = k.room;
      few = k.few;
      sound = s;
      counted = omega (arith, ints);
      light = grind (arith, ints, c.if-sizes-gt-LIMIT.false);
    }
