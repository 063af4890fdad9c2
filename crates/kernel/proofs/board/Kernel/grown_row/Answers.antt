use Rattle.std.proofs.Common.{◌≡◌, ℕ, ℤ, pos, sym, ◌∙◌, inl, inr, arith, length-set, w32, to_z, of_z}
use Rattle.std.proofs.lemmas.List.Edits.{fill_by_more}
use Rattle.std.proofs.lemmas.List.{get_or_past}
use Rattle.std.proofs.lemmas.Int.{ints}
use Rattle.std.proofs.lemmas.Bool.{cases_lt}
use Rattle.cuts.specs.Merging.{grown}
use Rattle.kernel.specs.Views.{view}
use Rattle.kernel.proofs.Boards.{grown_outside}
use Rattle.kernel.proofs.board.Kernel.grown_row.Goals as goal

pub loop-index-preserved : goal.loop-index-preserved
loop-index-preserved c =
    let f : ℕ → ℤ = grown c.args.tie c.args.v.index c.args.u.index (view c.args.self.now).weight in
    let e : to_z w32 (of_z w32 c.grown_weight.result) ≡ c.grown_weight.result = omega (arith, ints) in
    let long = c.loop-index.invariant.long in
    record {
      long = length-set c.loop-index.weight-items c.loop-index.index _ ∙ long;
      grown = rw (e ∙ c.grown_weight.ensures) (fill_by_more f c.loop-index.weight-items c.loop-index.index (pos 0) (omega arith) c.loop-index.invariant.grown);
    }

pub returns : goal.returns
returns c j = elim (cases_lt j 120) [
  | inl h ↦ c.loop-index.invariant.grown j (omega arith)
  | inr h ↦ get_or_past c.loop-index.weight-items j (pos 0) (omega (arith, c.loop-index.invariant.long)) ∙ sym (grown_outside c.args.tie c.args.v.index c.args.u.index c.args.self.now j h)
]
