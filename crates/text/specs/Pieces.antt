-- The piece of a text that a fault names. Assumes nothing.
use Rattle.std.specs.Prelude.{◌≡◌, ℕ, ◌⊎◌, List, [], ◌∷◌, ◌++◌, Ok, Err, Result}
use Rattle.keys.specs.Keys.{NoKey}
use Rattle.keys.specs.Words.{Lacks}
use Rattle.faults.specs.Faults.{Layered, piece_of}
use Rattle.faults.specs.declared.places.Fault.{Fault}
use Rattle.faults.specs.declared.places.Layer.TheVariants.{Text, Job}
use Rattle.text.specs.Lines.{NoWeight}
use Rattle.text.specs.declared.takers.Join.{Join}

-- the piece is a line of the text, without its end
pub record LineOf (text piece : List ℕ) : Type 0 where
  pub front : List ℕ
  pub back : List ℕ
  pub whole : text ≡ front ++ (piece ++ back)
  pub starts : (front ≡ []) ⊎ ((f : List ℕ) × (front ≡ f ++ 10 ∷ []))
  pub ends : (back ≡ []) ⊎ ((b : List ℕ) × (back ≡ 10 ∷ b))
  pub one : Lacks 10 piece

-- the piece is the line that is misformed or refused, the word that is malformed, or empty; the number is one of the layer
pub record Named {K : Type 0} (spelled : K → List ℕ) (text steps : List ℕ) (f : Fault) : Type 0 where
  pub line : f.layer ≡ Text → f.number ≡ 11 → LineOf text (piece_of f text steps)
  pub key : f.layer ≡ Text → f.number ≡ 12 → NoKey spelled (piece_of f text steps)
  pub weight : f.layer ≡ Text → f.number ≡ 13 → NoWeight (piece_of f text steps)
  pub size : f.layer ≡ Text → f.number ≡ 14 → piece_of f text steps ≡ []
  pub join : f.layer ≡ Job → LineOf text (piece_of f text steps)
  pub layered : Layered f.layer f.number

abbrev pub NamedBy : {K : Type 0} → (K → List ℕ) → List ℕ → Result ℕ Fault → Type 0
NamedBy spelled text (Ok n) = Unit {0}
NamedBy spelled text (Err f) = (steps : List ℕ) → Named spelled text steps f

-- the same, where some joins were taken before
abbrev pub NamedIn : {K : Type 0} → (K → List ℕ) → (List (Join K) → Type 0) → List ℕ → Result ℕ Fault → Type 0
NamedIn {K} spelled taken text r = (before : List (Join K)) → taken before → NamedBy spelled text r
