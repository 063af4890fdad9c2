use Rattle.std.proofs.Common.{[], ◌∷◌, Some, decimal, sym, ap, ◌∙◌}
use Rattle.std.proofs.lemmas.Slice.Eq.{strip_prefix_is}
use Rattle.std.proofs.lemmas.Bool.Decides.{Decides-eqb}
use Rattle.text.proofs.Weights.{minus_none, minus_zero}
use Rattle.text.proofs.words.weight.Goals as goal

pub returns-in_err-n-in-Some : goal.returns-in_err-n-in-Some
returns-in_err-n-in-Some c =
    let w = c.args.word.now in
    let e = strip_prefix_is Decides-eqb w (45 ∷ []) (Some c.in-Some.digits) c.in-Some.ensures.cases in
    rw c.from_residual.ensures (minus_none w _ e c.in_err-n-in-Some.ensures)

pub returns-in-0 : goal.returns-in-0
returns-in-0 c =
    let w = c.args.word.now in
    let e = strip_prefix_is Decides-eqb w (45 ∷ []) (Some c.in-Some.digits) c.in-Some.ensures.cases in
    minus_zero w _ e (ap decimal (sym c.in-0.is) ∙ c.in_ok-n-in-Some.ensures.1)
