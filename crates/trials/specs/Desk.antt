-- A taker of two joins. Assumes nothing.
use Rattle.std.specs.Prelude.{◌≡◌, ℕ, cond, List, map, length, Some, None, Option, nat_lt}
use Rattle.std.specs.Char.{to_ascii_lowercase}
use Rattle.std.specs.Str.{bytes_eq}
use Rattle.keys.specs.declared.name.NameKey.{NameKey}
use Rattle.text.specs.declared.takers.Join.{Join}
use Rattle.trials.specs.declared.desk.Reason.{Reason}
use Rattle.trials.specs.declared.desk.Reason.TheVariants.{SameNet, Full}

abbrev pub reason_number : Reason → ℕ
reason_number SameNet = 22
reason_number Full = 24

abbrev pub Holds : ℕ → List (Join NameKey) → Type 0
Holds joins js = joins ≡ length js

abbrev pub ruled : List (Join NameKey) → Join NameKey → Option Reason
ruled js j =
    cond (bytes_eq (map to_ascii_lowercase j.first.text) (map to_ascii_lowercase j.second.text)) (Some SameNet) (cond (nat_lt (length js) 2) None (Some Full))
