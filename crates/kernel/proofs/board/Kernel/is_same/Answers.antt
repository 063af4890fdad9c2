use Rattle.kernel.proofs.Memory.{faithful, alike}
use Rattle.kernel.proofs.board.Kernel.is_same.Goals as goal

pub returns : goal.returns
returns c = record { same = alike c.args.self.now c.args.other.now c.eq.result c.eq.ensures; faithful = faithful }
