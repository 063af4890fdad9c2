use Rattle.std.proofs.Common.{◌≤◌}
use Rattle.sides.proofs.Filling.{Filled}
use Rattle.sides.proofs.fill.Given as goal

-- each read so far brought a byte
abbrev pub invariant-loop : goal.invariant-loop
invariant-loop g l = Filled (g.R.Read.remaining l.initial.reader) (g.R.Read.remaining l.reader) l.room l.len × (l.counter ≤ l.len)
