-- How the lines of a text are passed, one after the other. Assumes nothing.
use Rattle.std.specs.Prelude.{◌≡◌, ℕ, ◌+◌, ◌<◌, List, [], ◌∷◌, ◌++◌, length, Some, None, Option}
use Rattle.keys.specs.Words.{Lacks}
use Rattle.faults.specs.Faults.{spot}
use Rattle.faults.specs.declared.places.Place.{Place}
use Rattle.faults.specs.declared.refusals.LineFault.{LineFault}
use Rattle.faults.specs.declared.refusals.LineFault.TheVariants.{Misformed}
use Rattle.text.specs.Boards.{NoHeader}
use Rattle.text.specs.declared.lines.Line.{Line}
use Rattle.text.specs.declared.lines.Lines.{Lines}

-- the place of a line
abbrev pub spot_of : Line → Place
spot_of line = spot line.number line.offset line.bytes.now

-- the next line is passed
pub record Passes (old new : Lines) (line : Line) : Type 0 where
  pub cut : old.rest.now ≡ line.bytes.now ++ 10 ∷ new.rest.now
  pub number : line.number ≡ old.passed + 1
  pub offset : line.offset ≡ old.offset
  pub passed : new.passed ≡ old.passed + 1
  pub moved : new.offset ≡ old.offset + length line.bytes.now + 1

-- what is to come has no end of line, and is refused whole
pub record Unended (old new : Lines) (e : LineFault) : Type 0 where
  pub lacks : Lacks 10 old.rest.now
  pub fault : e ≡ Misformed (spot (old.passed + 1) old.offset old.rest.now)
  pub kept : new ≡ old

-- the next line is passed, or the text is at its end
abbrev pub Next : Lines → Lines → Option Line → Type 0
Next old new None = (old.rest.now ≡ []) × (new ≡ old)
Next old new (Some line) = Passes old new line

-- what is to come is some bytes without an end of line
abbrev pub Stuck : Lines → Lines → LineFault → Type 0
Stuck old new e = (0 < length old.rest.now) × Unended old new e

-- the first line is not the header, and where it stands
abbrev pub Headless : List ℕ → List ℕ → LineFault → Type 0
Headless header text e = (p : Place) × NoHeader header text p × (e ≡ Misformed p)

-- the header is passed
pub record AfterHeader (header text : List ℕ) (lines : Lines) : Type 0 where
  pub whole : text ≡ header ++ 10 ∷ lines.rest.now
  pub passed : lines.passed ≡ 1
  pub offset : lines.offset ≡ length header + 1
