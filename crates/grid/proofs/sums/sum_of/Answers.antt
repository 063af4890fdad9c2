use Rattle.std.proofs.Common.{ℤ, ◌+ℤ◌, pos, ◌≤ℤ◌, sym, ◌∙◌, ap₂, subst, arith, ◌*◌, ◌+◌}
use Rattle.std.proofs.lemmas.Int.{ints}
use Rattle.cuts.specs.Boards.{size}
use Rattle.cuts.proofs.Sums.{∑_none, ∑_more}
use Rattle.grid.proofs.Totals.{added, sum_word, grown}
use Rattle.grid.proofs.sums.sum_of.Goals as goal

pub loop-index-init : goal.loop-index-init
loop-index-init g c = record { sum = λ f h. sym (∑_none f); bound = λ m h. omega (arith, ints) }

pub overflow_add-total : goal.overflow_add-total
overflow_add-total g c = added _ c.term-total.result c.loop-index.index (omega arith) (c.loop-index.invariant.bound 1125899906842624 c.requires.small) (c.requires.small _ _ c.term-total.ensures)

pub loop-index-preserved : goal.loop-index-preserved
loop-index-preserved g c =
    let e = sum_word _ c.term-total.result c.loop-index.index (omega arith) (c.loop-index.invariant.bound 1125899906842624 c.requires.small) (c.requires.small _ _ c.term-total.ensures) in
    record {
      sum = λ f h. e ∙ ap₂ ◌+ℤ◌ (c.loop-index.invariant.sum f h) (h _ _ c.term-total.ensures) ∙ sym (∑_more c.loop-index.index f);
      bound = λ m h. subst (λ (z : ℤ). size z ≤ℤ pos (m * (c.loop-index.index + 1))) (sym e) (grown _ c.term-total.result m c.loop-index.index (c.loop-index.invariant.bound m h) (h _ _ c.term-total.ensures));
    }
