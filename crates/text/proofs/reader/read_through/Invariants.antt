use Rattle.std.proofs.Common.{List, ◌++◌, length}
use Rattle.text.specs.Joins.{Accepts}
use Rattle.text.proofs.Reading.{Begun}
use Rattle.text.specs.declared.takers.Join.{Join}
use Rattle.text.proofs.reader.read_through.Given as goal

abbrev pub invariant-loop-line : goal.invariant-loop-line
invariant-loop-line g l =
    (js : List (Join g.row.T-Key.Denot)) × Begun g.T.Key.Spelled.spelled g.T.Key.Headed.header l.text l.lines js × ((before : List (Join g.row.T-Key.Denot)) → g.T.Taker.taken l.initial.taker before → Accepts g.T.Taker.rule before js × g.T.Taker.taken l.taker (before ++ js))

abbrev pub decreases-loop-line : goal.decreases-loop-line
decreases-loop-line g l = length l.lines.rest.now
