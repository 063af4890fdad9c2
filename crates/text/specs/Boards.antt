-- A board text by what is written: the header, and then a line for each join. Assumes nothing.
use Rattle.std.specs.Prelude.{◌≡◌, ℕ, ◌+◌, ◌<◌, ◌≤◌, List, [], ◌∷◌, ◌++◌, length, Some, Ok, Err, Option, Result, ◌≢◌}
use Rattle.std.specs.List.{flat_map, AllByRecursion}
use Rattle.std.specs.Fmt.{signed_decimal}
use Rattle.keys.specs.Words.{Lacks}
use Rattle.faults.specs.Faults.{placed, of_size, of_line, of_join}
use Rattle.faults.specs.declared.places.Fault.{Fault}
use Rattle.faults.specs.declared.places.Place.{Place}
use Rattle.faults.specs.declared.refusals.LineFault.TheVariants.{Misformed}
use Rattle.faults.specs.declared.refusals.SizeFault.TheVariants.{TooLong}
use Rattle.text.specs.Joins.{Accepts, Joins}
use Rattle.text.specs.Lines.{Short, spaced}
use Rattle.text.specs.Tokens.{Wrong}
use Rattle.text.specs.declared.takers.Join.{Join}

-- how keys are spelled, the first line of their boards, and which joins are refused, by which numbers
pub record Setting (K R : Type 0) : Type 0 where
  pub spelled : K → List ℕ
  pub header : List ℕ
  pub rule : List (Join K) → Join K → Option R
  pub numbered : R → ℕ

abbrev pub setting : {K R : Type 0} → (K → List ℕ) → List ℕ → (List (Join K) → Join K → Option R) → (R → ℕ) → Setting K R
setting spelled header rule numbered = record { spelled = spelled; header = header; rule = rule; numbered = numbered }

-- the line that writes a join, with its end
abbrev pub line_of : {K : Type 0} → (K → List ℕ) → Join K → List ℕ
line_of spelled j = spaced (spelled j.first) (spelled j.second) (signed_decimal j.weight) ++ 10 ∷ []

-- the header and the lines of the joins
abbrev pub written : {K : Type 0} → (K → List ℕ) → List ℕ → List (Join K) → List ℕ
written spelled header js = (header ++ 10 ∷ []) ++ flat_map (line_of spelled) js

-- the weight of a join can be written
abbrev pub Fine : {K : Type 0} → Join K → Type 0
Fine j = Short j.weight

-- the text writes just these joins
pub record Written {K : Type 0} (spelled : K → List ℕ) (header : List ℕ) (js : List (Join K)) (text : List ℕ) : Type 0 where
  pub whole : text ≡ written spelled header js
  pub fine : AllByRecursion Fine js

-- a text writes one list of joins
abbrev pub OneList : {K : Type 0} → (K → List ℕ) → List ℕ → List ℕ → Type 0
OneList {K} spelled header text = (js ks : List (Join K)) → Written spelled header js text → Written spelled header ks text → js ≡ ks

-- the first line of the text is this one
abbrev pub Begins : List ℕ → List ℕ → Type 0
Begins header text = (rest : List ℕ) × (text ≡ header ++ 10 ∷ rest)

-- the first line is not the header, and where it stands
pub data NoHeader (header text : List ℕ) (p : Place) : Type 0 where
  endless : Lacks 10 text → p ≡ placed 1 [] text → NoHeader header text p
  other : (L rest : List ℕ) → text ≡ L ++ 10 ∷ rest → Lacks 10 L → (L ≢ header) → p ≡ placed 1 [] L → NoHeader header text p

-- how the reading stops after the joins so far, which F writes, at the rest of the text: at its end, or at the first line that is no join or is refused
pub data Stop {K R : Type 0} (s : Setting K R) (F rest : List ℕ) (sofar : ℕ) (taken : List (Join K)) (r : Result ℕ Fault) : Type 0 where
  ended : rest ≡ [] → r ≡ Ok sofar → Stop s F rest sofar taken r
  unended : 0 < length rest → Lacks 10 rest → r ≡ Err (of_line (Misformed (placed (sofar + 2) F rest))) → Stop s F rest sofar taken r
  wrong : (L more : List ℕ) (f : Fault) → rest ≡ L ++ 10 ∷ more → Lacks 10 L → Wrong s.spelled F L (sofar + 2) f → r ≡ Err f → Stop s F rest sofar taken r
  refused : (L more : List ℕ) (j : Join K) (e : R) → rest ≡ L ++ 10 ∷ more → Lacks 10 L → Joins s.spelled L j → s.rule taken j ≡ Some e → r ≡ Err (of_join (record { number = s.numbered e; place = placed (sofar + 2) F L })) → Stop s F rest sofar taken r

-- what comes of a text: the joins of the lines before it stops are handed on, and no other
pub data Outcome {K R : Type 0} (s : Setting K R) (text : List ℕ) (before after : List (Join K)) (r : Result ℕ Fault) : Type 0 where
  oversize : 60000 < length text → after ≡ before → r ≡ Err (of_size TooLong) → Outcome s text before after r
  headless : (p : Place) → length text ≤ 60000 → NoHeader s.header text p → after ≡ before → r ≡ Err (of_line (Misformed p)) → Outcome s text before after r
  reading : (js : List (Join K)) (rest : List ℕ) → length text ≤ 60000 → text ≡ written s.spelled s.header js ++ rest → AllByRecursion Fine js → Accepts s.rule before js → after ≡ before ++ js → Stop s (written s.spelled s.header js) rest (length js) after r → Outcome s text before after r

-- whatever joins were taken before, r is the outcome, and what it hands on is taken then
abbrev pub Told : {K R : Type 0} → Setting K R → (List (Join K) → Type 0) → (List (Join K) → Type 0) → List ℕ → Result ℕ Fault → Type 0
Told {K} s taken taken_then text r = (before : List (Join K)) → taken before → (after : List (Join K)) × Outcome s text before after r × taken_then after

-- whatever joins were taken before: a text that writes joins which are taken is accepted, and they are handed on
abbrev pub Complete : {K R : Type 0} → Setting K R → (List (Join K) → Type 0) → (List (Join K) → Type 0) → List ℕ → Result ℕ Fault → Type 0
Complete {K} s taken taken_then text r =
    (before js : List (Join K)) → taken before → length text ≤ 60000 → Written s.spelled s.header js text → Accepts s.rule before js → (r ≡ Ok (length js)) × taken_then (before ++ js)

-- a text has one outcome
abbrev pub OneOutcome : {K R : Type 0} → Setting K R → List ℕ → Type 0
OneOutcome {K} s text =
    (before after after' : List (Join K)) (r r' : Result ℕ Fault) → Outcome s text before after r → Outcome s text before after' r' → (r ≡ r') × (after ≡ after')
