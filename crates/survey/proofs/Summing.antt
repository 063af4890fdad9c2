-- A text that writes joins is summed up as they are. Assumes nothing.
use Rattle.std.proofs.Common.{◌≡◌, ℕ, ◌≤◌, List, [], ◌∷◌, ◌++◌, length, Ok, Err, Result, sym, refl, ap, ◌∙◌, subst, arith}
use Rattle.std.specs.List.{flat_map}
use Rattle.std.proofs.lemmas.List.{append-nil, append_assoc}
use Rattle.keys.specs.Words.{Lacks, Word}
use Rattle.faults.specs.declared.places.Fault.{Fault}
use Rattle.text.specs.Boards.{Begins, line_of, Written, reading, ended}
use Rattle.text.specs.Joins.{Accepts}
use Rattle.text.specs.declared.takers.Join.{Join}
use Rattle.text.proofs.Cuts.{same_cut}
use Rattle.text.proofs.Only.{one_outcome}
use Rattle.text.proofs.Pieces.{named_outcome}
use Rattle.text.specs.Pieces.{Named, NamedBy}
use Rattle.survey.specs.declared.census.Never.{Never}
use Rattle.survey.specs.declared.census.Never.TheVariants.{Full}
use Rattle.survey.specs.Census.{never_number}
use Rattle.survey.specs.Summaries.{all_taken, summary, summary_of, Summed}
use Rattle.survey.specs.declared.summary.Kind.{Kind}
use Rattle.survey.specs.declared.summary.Summary.{Summary}

module _ {K : Type 0} (spelled : K → List ℕ) (header : List ℕ) where
  all_accepted : (before js : List (Join K)) → Accepts (all_taken spelled header).rule before js
  all_accepted before [] = tt
  all_accepted before (j ∷ js) = (refl, all_accepted (before ++ j ∷ []) js)

  pub sums_up : (word : (k : K) → Word (spelled k)) (apart : (a b : K) → spelled a ≡ spelled b → a ≡ b) (single : Lacks 10 header) (kind : Kind) (text : List ℕ) (r : Result Summary Fault) → Summed spelled header kind text r → (js : List (Join K)) → length text ≤ 60000 → Written spelled header js text → r ≡ Ok (summary kind js)
  sums_up word apart single kind text r h js short w =
      let p = one_outcome (all_taken spelled header) word apart single text [] h.js js h.reading (Ok (length js)) h.outcome (reading js [] short (w.whole ∙ sym (append-nil _)) w.fine (all_accepted [] js) refl (ended refl refl)) in
      h.is ∙ ap (summary_of kind h.js) p.0 ∙ ap (λ l. Ok (summary kind l)) p.1

  -- a text that writes joins begins with its header
  pub begins_written : (js : List (Join K)) (text : List ℕ) → Written spelled header js text → Begins header text
  begins_written js text w = (flat_map (line_of spelled) js, w.whole ∙ append_assoc header (10 ∷ []) (flat_map (line_of spelled) js))

-- a text begins with one line
pub one_header : (a b text : List ℕ) → Lacks 10 a → Lacks 10 b → Begins a text → Begins b text → a ≡ b
one_header a b text la lb x y = (same_cut 10 a b x.0 y.0 la lb (sym x.1 ∙ y.1)).0

module _ {K : Type 0} (spelled : K → List ℕ) (header : List ℕ) (word : (k : K) → Word (spelled k)) (apart : (a b : K) → spelled a ≡ spelled b → a ≡ b) (single : Lacks 10 header) (kind : Kind) (text : List ℕ) where
  pub summed_only : (r r' : Result Summary Fault) → Summed spelled header kind text r → Summed spelled header kind text r' → r ≡ r'
  summed_only r r' h h' =
      let p = one_outcome (all_taken spelled header) word apart single text [] h.js h'.js h.reading h'.reading h.outcome h'.outcome in
      h.is ∙ ap (summary_of kind h.js) p.0 ∙ ap (λ l. summary_of kind l h'.reading) p.1 ∙ sym h'.is

-- the number that no call answers is one of its layer
never_within : (e : Never) → (21 ≤ never_number e) × (never_number e ≤ 26)
never_within Full = (omega arith, omega arith)

-- the fault of a summary is that of the reading
module _ {K : Type 0} (spelled : K → List ℕ) (header : List ℕ) (kind : Kind) (text : List ℕ) (f : Fault) where
  same_fault : (js : List (Join K)) (o : Result ℕ Fault) → Err f ≡ summary_of kind js o → o ≡ Err f
  same_fault js (Ok n) e = let z : ◌≡◌ {A = ℕ} 0 1 = cc in absurd (omega arith)
  same_fault js (Err g) e = cc

  pub summed_named : Summed spelled header kind text (Err f) → (steps : List ℕ) → Named spelled text steps f
  summed_named h =
      subst (NamedBy spelled text) (same_fault h.js h.reading h.is) (named_outcome (all_taken spelled header) never_within text [] h.js h.reading h.outcome)
