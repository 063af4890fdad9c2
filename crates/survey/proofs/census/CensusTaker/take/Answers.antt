use Rattle.std.proofs.Common.{◌≡◌, ◌+◌, ◌-◌, ◌^◌, min, nat_abs, refl, ap, ◌∙◌, w32, SFits, rules}
use Rattle.std.proofs.lemmas.Int.{to_z-of_z}
use Rattle.survey.proofs.Counts.{one_more}
use Rattle.survey.proofs.census.CensusTaker.take.Goals as goal

pub returns : goal.returns
returns g c =
    let before = c.args.self.now in
    let fits : SFits w32 c.args.join.weight = search rules in
    let size : c.from.result ≡ nat_abs c.args.join.weight = c.from.ensures ∙ c.unsigned_abs.ensures.value ∙ ap nat_abs (to_z-of_z w32 c.args.join.weight fits) in
    let sum : c.saturating_add-self-2.result ≡ min (before.sizes + c.from.result) (2 ^ 64 - 1) = c.saturating_add-self-2.ensures in
    record {
      accepts = refl;
      answers = λ js h. refl;
      grows = λ js h.
          let m = one_more before.joins before.sizes js c.args.join h in
          (c.saturating_add-self.ensures ∙ m.0, sum ∙ ap (λ s. min (before.sizes + s) (2 ^ 64 - 1)) size ∙ m.1);
    }
