-- One join more in a census. Assumes nothing.
use Rattle.std.proofs.Common.{◌≡◌, ℕ, ◌+◌, ◌-◌, ◌^◌, min, List, [], ◌∷◌, ◌++◌, length, nat_abs, ap, ◌∙◌, arith}
use Rattle.std.proofs.lemmas.List.{length_push}
use Rattle.text.specs.declared.takers.Join.{Join}
use Rattle.survey.specs.Census.{capped, sizes_of, Counted}

sizes_more : {K : Type 0} (js : List (Join K)) (j : Join K) → sizes_of (js ++ j ∷ []) ≡ sizes_of js + nat_abs j.weight
sizes_more [] j = omega arith
sizes_more (k ∷ js) j = omega (arith, sizes_more js j)

capped_more : (n m s : ℕ) → n ≡ capped m → min (n + s) (2 ^ 64 - 1) ≡ capped (m + s)
capped_more n m s e = omega arith

pub one_more : {K : Type 0} (joins sizes : ℕ) (js : List (Join K)) (j : Join K) → Counted joins sizes js → Counted (min (joins + 1) (2 ^ 64 - 1)) (min (sizes + nat_abs j.weight) (2 ^ 64 - 1)) (js ++ j ∷ [])
one_more joins sizes js j h =
    (capped_more joins (length js) 1 h.0 ∙ ap capped (omega (arith, length_push js j)), capped_more sizes (sizes_of js) (nat_abs j.weight) h.1 ∙ ap capped (omega (arith, sizes_more js j)))
