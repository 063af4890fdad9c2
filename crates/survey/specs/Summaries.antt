-- What a board text holds. Assumes nothing.
use Rattle.std.specs.Prelude.{◌≡◌, ℕ, List, [], ◌∷◌, ◌++◌, length, None, Ok, Err, codes, decimal, Result}
use Rattle.keys.specs.declared.name.NameKey.{NameKey}
use Rattle.keys.specs.declared.number.NumberKey.{NumberKey}
use Rattle.faults.specs.declared.places.Fault.{Fault}
use Rattle.text.specs.Boards.{Begins, Setting, Outcome}
use Rattle.text.specs.Pieces.{Named}
use Rattle.text.specs.declared.takers.Join.{Join}
use Rattle.survey.specs.Census.{sizes_of, never_number}
use Rattle.survey.specs.declared.census.Never.{Never}
use Rattle.survey.specs.declared.summary.Kind.{Kind}
use Rattle.survey.specs.declared.summary.Kind.TheVariants.{Names, Numbers}
use Rattle.survey.specs.declared.summary.Summary.{Summary}

abbrev pub kind_word : Kind → List ℕ
kind_word Names = codes "names"
kind_word Numbers = codes "numbers"

-- every join is taken
abbrev pub all_taken : {K : Type 0} → (K → List ℕ) → List ℕ → Setting K Never
all_taken spelled header = record { spelled = spelled; header = header; rule = λ _ _. None; numbered = never_number }

abbrev pub summary : {K : Type 0} → Kind → List (Join K) → Summary
summary kind js = record { kind = kind; joins = length js; sizes = sizes_of js }

-- what is told of a text that hands on these joins
abbrev pub summary_of : {K : Type 0} → Kind → List (Join K) → Result ℕ Fault → Result Summary Fault
summary_of kind js (Ok n) = Ok (summary kind js)
summary_of kind js (Err f) = Err f

-- what is told of a text that is read as a board of one kind of key
pub record Summed {K : Type 0} (spelled : K → List ℕ) (header : List ℕ) (kind : Kind) (text : List ℕ) (r : Result Summary Fault) : Type 0 where
  pub js : List (Join K)
  pub reading : Result ℕ Fault
  pub outcome : Outcome (all_taken spelled header) text [] js reading
  pub is : r ≡ summary_of kind js reading

-- the first line says which keys a board has; a text with neither header is refused at that line
pub data Summarized (text : List ℕ) (r : Result Summary Fault) : Type 0 where
  numbers : Begins (codes "board numbers") text → Summed {K = NumberKey} (λ k. decimal k.value) (codes "board numbers") Numbers text r → Summarized text r
  names : (Begins (codes "board numbers") text → ⊥) → Summed {K = NameKey} (λ k. k.text) (codes "board names") Names text r → Summarized text r

-- a text has one summary or one fault
abbrev pub OneSummary : List ℕ → Type 0
OneSummary text = (r r' : Result Summary Fault) → Summarized text r → Summarized text r' → r ≡ r'

-- the piece of a fault is what was refused, of the keys that the first line names
abbrev pub NamedAs : List ℕ → Result Summary Fault → Type 0
NamedAs text (Ok s) = Unit {0}
NamedAs text (Err f) =
    (steps : List ℕ) → (Begins (codes "board numbers") text → Named {K = NumberKey} (λ k. decimal k.value) text steps f) × ((Begins (codes "board numbers") text → ⊥) → Named {K = NameKey} (λ k. k.text) text steps f)

-- the three lines that show a summary
abbrev pub summary_text : Summary → List ℕ
summary_text s = codes "board " ++ (kind_word s.kind ++ (10 ∷ codes "joins " ++ (decimal s.joins ++ (10 ∷ codes "sizes " ++ decimal s.sizes))))
