-- The tokens of a join line, and what is wrong with a line. Assumes nothing.
use Rattle.std.specs.Prelude.{◌≡◌, ℕ, ◌+◌, List, [], ◌∷◌, ◌++◌, length, codes}
use Rattle.keys.specs.Keys.{NoKey}
use Rattle.keys.specs.declared.kinds.KeyRefusal.TheVariants.{Malformed}
use Rattle.faults.specs.Faults.{spot, placed, of_line, of_word}
use Rattle.faults.specs.declared.places.Fault.{Fault}
use Rattle.faults.specs.declared.places.Place.{Place}
use Rattle.faults.specs.declared.refusals.LineFault.TheVariants.{Misformed}
use Rattle.faults.specs.declared.refusals.WordFault.TheVariants as fault
use Rattle.text.specs.Lines.{Words, NoWords, NoWeight}
use Rattle.text.specs.declared.lines.Line.{Line}
use Rattle.text.specs.declared.tokens.Token.{Token}
use Rattle.text.specs.declared.tokens.Token.TheVariants.{Key, Weight}
use Rattle.text.specs.declared.tokens.Parts.{Parts}

abbrev pub word_of : Token → List ℕ
word_of (Key word place) = word.now
word_of (Weight word place) = word.now

abbrev pub place_of : Token → Place
place_of (Key word place) = place
place_of (Weight word place) = place

abbrev pub IsKey : Token → Type 0
IsKey (Key word place) = Unit {0}
IsKey (Weight word place) = ⊥

abbrev pub IsWeight : Token → Type 0
IsWeight (Key word place) = ⊥
IsWeight (Weight word place) = Unit {0}

-- the tokens of a line
pub record Tokens (line : Line) (t : Parts) : Type 0 where
  pub worded : Words line.bytes.now (word_of t.first) (word_of t.second) (word_of t.weight)
  pub first_key : IsKey t.first
  pub second_key : IsKey t.second
  pub third_weight : IsWeight t.weight
  pub first_at : place_of t.first ≡ spot line.number (line.offset + 5) (word_of t.first)
  pub second_at : place_of t.second ≡ spot line.number (line.offset + 5 + length (word_of t.first) + 1) (word_of t.second)
  pub third_at : place_of t.weight ≡ spot line.number (line.offset + 5 + length (word_of t.first) + 1 + length (word_of t.second) + 1) (word_of t.weight)

-- what stands in the text before each word of a line that F stands before
abbrev pub before_first_key : List ℕ → List ℕ
before_first_key F = F ++ codes "join "

abbrev pub before_second_key : List ℕ → List ℕ → List ℕ
before_second_key F a = before_first_key F ++ (a ++ 32 ∷ [])

abbrev pub before_weight : List ℕ → List ℕ → List ℕ → List ℕ
before_weight F a b = before_second_key F a ++ (b ++ 32 ∷ [])

-- f is the fault of the line L, which F stands before: its form first, then its words from left to right
pub data Wrong {K : Type 0} (spelled : K → List ℕ) (F L : List ℕ) (line : ℕ) (f : Fault) : Type 0 where
  misformed : NoWords L → f ≡ of_line (Misformed (placed line F L)) → Wrong spelled F L line f
  first_malformed : (a b w : List ℕ) → Words L a b w → NoKey spelled a → f ≡ of_word (fault.Key Malformed (placed line (before_first_key F) a)) → Wrong spelled F L line f
  second_malformed : (a : K) (b w : List ℕ) → Words L (spelled a) b w → NoKey spelled b → f ≡ of_word (fault.Key Malformed (placed line (before_second_key F (spelled a)) b)) → Wrong spelled F L line f
  weight_malformed : (a b : K) (w : List ℕ) → Words L (spelled a) (spelled b) w → NoWeight w → f ≡ of_word (fault.Weight (placed line (before_weight F (spelled a) (spelled b)) w)) → Wrong spelled F L line f

-- f is the fault of a line of the text, whatever stands before it
abbrev pub WrongLine : {K : Type 0} → (K → List ℕ) → Line → Fault → Type 0
WrongLine spelled line f = (F : List ℕ) → line.offset ≡ length F → Wrong spelled F line.bytes.now line.number f
