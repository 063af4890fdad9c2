-- What follows from the summary of a text, for each kind of key. Assumes nothing.
use Rattle.std.proofs.Common.{◌≡◌, ℕ, ◌≤◌, List, length, Ok, Err, codes, decimal, Result, refl, ap, arith}
use Rattle.keys.specs.Words.{Lacks}
use Rattle.keys.specs.declared.name.NameKey.{NameKey}
use Rattle.keys.specs.declared.number.NumberKey.{NumberKey}
use Rattle.keys.specs.Laws.{name_word, same_name, number_word, same_number}
use Rattle.faults.specs.declared.places.Fault.{Fault}
use Rattle.text.specs.Boards.{Written}
use Rattle.text.specs.declared.takers.Join.{Join}
use Rattle.text.proofs.Cuts.{lacks_by}
use Rattle.survey.specs.Summaries.{summary, Summarized, numbers, names, OneSummary, NamedAs}
use Rattle.survey.specs.declared.summary.Kind.TheVariants.{Names, Numbers}
use Rattle.survey.specs.declared.summary.Summary.{Summary}
use Rattle.survey.proofs.Summing.{sums_up, summed_only, summed_named, begins_written, one_header}

abbrev named : NameKey → List ℕ
named k = k.text

abbrev numbered : NumberKey → List ℕ
numbered k = decimal k.value

one_name : Lacks 10 (codes "board names")
one_name = lacks_by 10 (codes "board names") refl

one_number : Lacks 10 (codes "board numbers")
one_number = lacks_by 10 (codes "board numbers") refl

other_header : codes "board names" ≡ codes "board numbers" → ⊥
other_header e = omega (arith, ap length e)

module _ (text : List ℕ) where
  pub one_summary : OneSummary text
  one_summary r r' (numbers b h) (numbers b' h') = summed_only numbered (codes "board numbers") number_word same_number one_number Numbers text r r' h h'
  one_summary r r' (numbers b h) (names none h') = absurd (none b)
  one_summary r r' (names none h) (numbers b h') = absurd (none b)
  one_summary r r' (names none h) (names none' h') = summed_only named (codes "board names") name_word same_name one_name Names text r r' h h'

  pub names_summed : (r : Result Summary Fault) → Summarized text r → (js : List (Join NameKey)) → length text ≤ 60000 → Written named (codes "board names") js text → r ≡ Ok (summary Names js)
  names_summed r (numbers b h) js short w = absurd (other_header (one_header (codes "board names") (codes "board numbers") text one_name one_number (begins_written named (codes "board names") js text w) b))
  names_summed r (names none h) js short w = sums_up named (codes "board names") name_word same_name one_name Names text r h js short w

  pub numbers_summed : (r : Result Summary Fault) → Summarized text r → (js : List (Join NumberKey)) → length text ≤ 60000 → Written numbered (codes "board numbers") js text → r ≡ Ok (summary Numbers js)
  numbers_summed r (numbers b h) js short w = sums_up numbered (codes "board numbers") number_word same_number one_number Numbers text r h js short w
  numbers_summed r (names none h) js short w = absurd (none (begins_written numbered (codes "board numbers") js text w))

  pub named_as : (r : Result Summary Fault) → Summarized text r → NamedAs text r
  named_as (Ok s) h = tt
  named_as (Err f) (numbers b h) = λ steps. (λ c. summed_named numbered (codes "board numbers") Numbers text f h steps, λ none. absurd (none b))
  named_as (Err f) (names none h) = λ steps. (λ b. absurd (none b), λ c. summed_named named (codes "board names") Names text f h steps)
