-- The number, the layer and the place of each refusal. Assumes nothing.
use Rattle.std.specs.Prelude.{ℕ, ◌≤◌, List, ◌∷◌, ◌++◌, length, take, drop, codes, decimal}
use Rattle.keys.specs.Keys.{key_number}
use Rattle.faults.specs.declared.places.Layer.{Layer}
use Rattle.faults.specs.declared.places.Layer.TheVariants.{Text, Job, Steps}
use Rattle.faults.specs.declared.places.Place.{Place}
use Rattle.faults.specs.declared.places.Fault.{Fault}
use Rattle.faults.specs.declared.refusals.SizeFault.{SizeFault}
use Rattle.faults.specs.declared.refusals.SizeFault.TheVariants.{TooLong}
use Rattle.faults.specs.declared.refusals.LineFault.{LineFault}
use Rattle.faults.specs.declared.refusals.LineFault.TheVariants.{Misformed}
use Rattle.faults.specs.declared.refusals.WordFault.{WordFault}
use Rattle.faults.specs.declared.refusals.WordFault.TheVariants.{Key, Weight}
use Rattle.faults.specs.declared.refusals.JoinFault.{JoinFault}

abbrev pub nowhere : Place
nowhere = record { line = 0; offset = 0; length = 0 }

-- a piece of a line, by its offset
abbrev pub spot : ℕ → ℕ → List ℕ → Place
spot line at piece = record { line = line; offset = at; length = length piece }

-- a piece of a line, by what stands before it in the text
abbrev pub placed : ℕ → List ℕ → List ℕ → Place
placed line before piece = spot line (length before) piece

abbrev pub fault : Layer → ℕ → Place → Fault
fault layer number p = record { layer = layer; number = number; place = p }

-- the number of each refusal of the text; a join's is the taker's own
abbrev pub of_size : SizeFault → Fault
of_size TooLong = fault Text 14 nowhere

abbrev pub of_line : LineFault → Fault
of_line (Misformed p) = fault Text 11 p

abbrev pub of_word : WordFault → Fault
of_word (Key e p) = fault Text (key_number e) p
of_word (Weight p) = fault Text 13 p

abbrev pub of_join : JoinFault → Fault
of_join e = fault Job e.number e.place

-- the numbers of each layer
abbrev pub Layered : Layer → ℕ → Type 0
Layered Text n = (11 ≤ n) × (n ≤ 14)
Layered Job n = (21 ≤ n) × (n ≤ 26)
Layered Steps n = (31 ≤ n) × (n ≤ 36)

-- the file that a layer's faults are found in
abbrev pub file_of : Layer → List ℕ → List ℕ → List ℕ
file_of Text board steps = board
file_of Job board steps = board
file_of Steps board steps = steps

-- the bytes that a fault names
abbrev pub piece_of : Fault → List ℕ → List ℕ → List ℕ
piece_of f board steps = take f.place.length (drop f.place.offset (file_of f.layer board steps))

-- the line that shows a fault
abbrev pub layer_word : Layer → List ℕ
layer_word Text = codes "text"
layer_word Job = codes "job"
layer_word Steps = codes "steps"

abbrev pub fault_text : Fault → List ℕ
fault_text f =
    codes "fault " ++ (layer_word f.layer ++ (32 ∷ (decimal f.number ++ (32 ∷ (decimal f.place.line ++ (32 ∷ (decimal f.place.offset ++ (32 ∷ decimal f.place.length))))))))
