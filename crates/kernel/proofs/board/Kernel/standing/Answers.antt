use Rattle.std.proofs.Common.{◌≡◌, false, get_or, take, sym, ◌∙◌, arith, length-set, rules}
use Rattle.std.proofs.lemmas.List.{get_or-take}
use Rattle.cuts.proofs.Building.{listed_none}
use Rattle.kernel.specs.Views.{view}
use Rattle.kernel.proofs.Listing.{stands_next, goes_next}
use Rattle.kernel.proofs.board.Kernel.standing.Goals as goal
use Rattle.kernel.proofs.board.Kernel.standing.Goals.{then-stands, else-stands}

pub loop-index-init : goal.loop-index-init
loop-index-init c = record { long = search rules; behind = omega arith; listed = sym (listed_none _) }

pub loop-index-preserved : goal.loop-index-preserved
loop-index-preserved c =
    let k = c.args.self.now in
    let l = c.loop-index in
    let before = l.invariant in
    let stands = (view k).stands in
    let whole : get_or (take k.nets k.standing) l.index false ≡ stands l.index = get_or-take k.nets k.standing l.index false (omega arith) in
    elim c.if-stands.branch [
      | then-stands w ↦ rw (w.row-is, w.count-is) record { long = length-set l.row l.count _ ∙ before.long; behind = omega (arith, before.behind); listed = stands_next l.row l.count _ stands (omega (arith, before.behind, before.long)) (sym whole ∙ w.if-stands.true) before.listed }
      | else-stands w ↦ rw (w.row-is, w.count-is) record { long = before.long; behind = omega (arith, before.behind); listed = goes_next l.row l.count l.index stands (sym whole ∙ w.if-stands.false) before.listed }
    ]
