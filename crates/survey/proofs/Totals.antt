-- What a text hands on is counted in full. Assumes nothing.
use Rattle.std.proofs.Common.{◌≡◌, ℕ, ◌*◌, ◌^◌, ◌<◌, ◌≤◌, List, [], ◌∷◌, length, ℤ, pos, negsuc, nat_abs, Result, sym, ap, subst, arith}
use Rattle.std.specs.List.{AllByRecursion}
use Rattle.std.proofs.lemmas.List.{length-append}
use Rattle.faults.specs.declared.places.Fault.{Fault}
use Rattle.text.specs.Boards.{Setting, written, Fine, Outcome, oversize, headless, reading}
use Rattle.text.specs.Lines.{Short}
use Rattle.text.specs.declared.takers.Join.{Join}
use Rattle.text.proofs.Reading.{few_joins}
use Rattle.survey.specs.Census.{sizes_of, Counted}
use Rattle.survey.specs.Summaries.{summary}
use Rattle.survey.specs.declared.summary.Kind.{Kind}
use Rattle.survey.specs.declared.summary.Summary.{Summary}

short_size : (z : ℤ) → Short z → nat_abs z < 10 ^ 7
short_size (pos n) h = h
short_size (negsuc n) h = h

sizes_bounded : {K : Type 0} (js : List (Join K)) → AllByRecursion Fine js → sizes_of js ≤ length js * 10000000
sizes_bounded [] h = omega arith
sizes_bounded (j ∷ js) h = let l : nat_abs j.weight < 10000000 = short_size j.weight h.0 in omega (arith, sizes_bounded js h.1)

module _ {K R : Type 0} (s : Setting K R) (text : List ℕ) where
  pub bounded : (after : List (Join K)) (r : Result ℕ Fault) → Outcome s text [] after r → (length after ≤ 60000) × (sizes_of after ≤ 60000 * 10000000)
  bounded after r (oversize l a e) = (omega (arith, ap length a), omega (arith, ap sizes_of a))
  bounded after r (headless p l n a e) = (omega (arith, ap length a), omega (arith, ap sizes_of a))
  bounded after r (reading js rest l w h ok a stop) =
      let few : length js ≤ 60000 = omega (arith, few_joins s.spelled s.header js, ap length w, length-append (written s.spelled s.header js) rest) in
      let sum : sizes_of js ≤ 60000 * 10000000 = omega (arith, sizes_bounded js h) in
      (subst (λ l. length l ≤ 60000) (sym a) few, subst (λ l. sizes_of l ≤ 60000 * 10000000) (sym a) sum)

  pub whole_summary : (kind : Kind) (joins sizes : ℕ) (after : List (Join K)) (r : Result ℕ Fault) → Outcome s text [] after r → Counted joins sizes after → ◌≡◌ {A = Summary} (record { kind = kind; joins = joins; sizes = sizes }) (summary kind after)
  whole_summary kind joins sizes after r o h =
      let b = bounded after r o in
      let x : joins ≡ length after = omega (arith, h.0, b.0) in
      let y : sizes ≡ sizes_of after = omega (arith, h.1, b.1) in
      λ i. record { kind = kind; joins = x i; sizes = y i }
