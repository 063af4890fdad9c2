use Rattle.std.proofs.Common.{false, sym, subst, arith}
use lib.ListN.{length-replicate}
use Rattle.std.proofs.lemmas.Int.{ints}
use Rattle.cuts.specs.Boards.{Sound}
use Rattle.cuts.proofs.Building.{empty_sound}
use Rattle.cuts.proofs.Pairs.{pairs_none}
use Rattle.kernel.proofs.Boards.{board_empty}
use Rattle.kernel.proofs.board.Kernel.new.Goals as goal

pub invariant_of-result : goal.invariant_of-result
invariant_of-result c = record {
  room = length-replicate 120 false;
  few = omega arith;
  sound = subst Sound (sym (board_empty 120 c.new.result c.new.ensures)) empty_sound;
  counted = sym (pairs_none _);
  light = omega (arith, ints);
}

pub returns : goal.returns
returns c = board_empty 120 c.new.result c.new.ensures
