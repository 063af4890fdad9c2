-- What follows from what a reduction keeps.
use Rattle.std.proofs.Common.{false, ◌+ℤ◌, refl, ◌∙◌, arith}
use Rattle.std.proofs.lemmas.Int.{ints}
use Rattle.cuts.specs.Boards.{Split}
use Rattle.cuts.specs.Reductions.{ReducesBest, BestShifted, ReducesThen, ReducesNot, ShiftBounded}
use Rattle.cuts.proofs.BestCuts.{best_unique}
use Rattle.cuts.proofs.Values.{one_side, bounded}

pub reduces_best : ReducesBest
reduces_best before after lift shift m r best =
    let s = best.attained.0 in
    let e = best.attained.1 in
    record {
      attained = (lift s, omega (arith, ints, r.exact s));
      largest = λ s. omega (arith, ints, (r.covers s).1, best.largest (r.covers s).0);
    }

pub best_shifted : BestShifted
best_shifted before after lift shift l m r best best' = best_unique before l (m +ℤ shift) best (reduces_best before after lift shift m r best')

pub reduces_then : ReducesThen
reduces_then first second third lift lift' shift shift' r r' = record {
  nets = r'.nets ∙ r.nets;
  fewer = λ v h. r.fewer v (r'.fewer v h);
  sound = r'.sound;
  lighter = omega (arith, ints, r.lighter, r'.lighter);
  keeps = λ s v h. r.keeps (lift' s) v (r'.fewer v h) ∙ r'.keeps s v h;
  exact = λ s. omega (arith, ints, r.exact (lift' s), r'.exact s);
  covers = λ s. ((r'.covers (r.covers s).0).0, omega (arith, ints, (r.covers s).1, (r'.covers (r.covers s).0).1));
}

pub reduces_not : ReducesNot
reduces_not b sound = record {
  nets = refl;
  fewer = λ v h. h;
  sound = sound;
  lighter = omega (arith, ints);
  keeps = λ s v h. refl;
  exact = λ s. omega (arith, ints);
  covers = λ s. (s, omega (arith, ints));
}

-- all nets on A cut nothing, so the shift is the value of what they are lifted to
pub shift_bounded : ShiftBounded
shift_bounded before after lift shift r =
    let s : Split = λ v. false in
    let e = r.exact s in
    let z = one_side after false in
    let h = bounded before (lift s) in
    omega (arith, ints)
