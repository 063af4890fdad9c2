-- Joins that are handed on one after the other. Assumes nothing.
use Rattle.std.specs.Prelude.{◌≡◌, ℕ, List, [], ◌∷◌, ◌++◌, Some, None, Ok, Err, Option, Result}
use Rattle.std.specs.Fmt.{signed_decimal}
use Rattle.faults.specs.declared.refusals.JoinFault.{JoinFault}
use Rattle.faults.specs.declared.places.Place.{Place}
use Rattle.text.specs.Lines.{Words, Short}
use Rattle.text.specs.declared.takers.Join.{Join}

-- the answer to a join that is refused for this reason, if any
abbrev pub answered : {R : Type 0} → Option R → Result (Unit {0}) R
answered None = Ok tt
answered (Some e) = Err e

-- the list after an answer: one longer, or the same
abbrev pub grown : {J R : Type 0} → List J → J → Result (Unit {0}) R → List J
grown js j (Ok _) = js ++ j ∷ []
grown js j (Err e) = js

-- whatever joins were taken before, the answer to the next one goes by the rule
abbrev pub Answers : {J R : Type 0} → (List J → Type 0) → (List J → J → Option R) → J → Result (Unit {0}) R → Type 0
Answers {J} before rule j r = (js : List J) → before js → r ≡ answered (rule js j)

-- and then it is one of them, or none is
abbrev pub Grows : {J R : Type 0} → (List J → Type 0) → (List J → Type 0) → J → Result (Unit {0}) R → Type 0
Grows {J} before after j r = (js : List J) → before js → after (grown js j r)

-- the same answer, with the number of a refusal and the place of the join
abbrev pub handed : {R : Type 0} → (R → ℕ) → Place → Option R → Result (Unit {0}) JoinFault
handed numbered p None = Ok tt
handed numbered p (Some e) = Err (record { number = numbered e; place = p })

-- the joins js are taken one after the other, where others were taken before
abbrev pub Accepts : {J R : Type 0} → (List J → J → Option R) → List J → List J → Type 0
Accepts rule before [] = Unit {0}
Accepts rule before (j ∷ js) = (rule before j ≡ None) × Accepts rule (before ++ j ∷ []) js

-- the line L writes the join j
pub record Joins {K : Type 0} (spelled : K → List ℕ) (L : List ℕ) (j : Join K) : Type 0 where
  pub worded : Words L (spelled j.first) (spelled j.second) (signed_decimal j.weight)
  pub short : Short j.weight
