use Rattle.std.proofs.Common.{◌≡◌, ℕ, get_or, ℤ, pos, ap, ◌∙◌, ap₂, arith, w32, SFits, rules}
use Rattle.std.proofs.lemmas.Int.{to_z-of_z}
use Rattle.cuts.specs.Building.{paired}
use Rattle.grid.specs.Matrices.{weight_in}
use Rattle.grid.proofs.Rows.{upto, upto_more, upto_all}
use Rattle.grid.proofs.matrix.Matrix.put_row.Goals as goal

pub loop-index-preserved : goal.loop-index-preserved
loop-index-preserved c =
    let f : ℕ → ℤ = λ u. get_or c.args.row.now u (pos 0) in
    let fits : SFits w32 (f c.loop-index.index) = search rules in
    c.set.ensures
    ∙ ap₂ (paired c.args.v.index c.loop-index.index) (to_z-of_z w32 (f c.loop-index.index) fits) c.loop-index.invariant
    ∙ upto_more c.loop-index.index c.args.v.index f (weight_in c.args.self.now)

pub returns : goal.returns
returns c =
    let e : c.loop-index.index ≡ 120 = omega arith in
    let m = c.args.self.now in
    c.loop-index.invariant
    ∙ ap (λ k. upto k c.args.v.index (λ u. get_or c.args.row.now u (pos 0)) (weight_in m)) e
    ∙ upto_all c.args.v.index c.args.row.now m.rows c.told-row m.long m.wide
