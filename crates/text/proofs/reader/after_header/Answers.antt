use Rattle.std.proofs.Common.{◌≡◌, sym, refl, ◌∙◌, arith}
use Rattle.std.proofs.lemmas.Slice.Eq.{slice_eq-Decides}
use Rattle.std.proofs.lemmas.Bool.{not-true, both_ways}
use Rattle.std.proofs.lemmas.Bool.Decides.{Decides-eqb}
use Rattle.faults.specs.Faults.{spot}
use Rattle.text.specs.Boards.{other}
use Rattle.text.proofs.reader.after_header.Goals as goal

pub returns-then-ne : goal.returns-then-ne
returns-then-ne g c =
    let first = c.in_ok-first.first in
    let start = c.of-lines.ensures in
    let p = c.in_ok-first.ensures in
    let number : first.number ≡ 1 = omega arith in
    let offset : first.offset ≡ 0 = omega arith in
    let ne = c.if-ne.ensures in
    (_, other _ _ (sym start.rest ∙ p.cut) first.endless (λ e. both_ways _ (not-true _ (sym ne)) ((slice_eq-Decides Decides-eqb _ _ _ refl).1 (e ∙ sym c.header.ensures))) (c.place.ensures ∙ (λ i. spot (number i) (offset i) first.bytes.now)), refl)
