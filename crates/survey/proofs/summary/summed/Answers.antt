use Rattle.std.proofs.Common.{[], Ok, Err, ap, ◌∙◌}
use Rattle.std.proofs.lemmas.Result.{err_from_is_err_and}
use Rattle.survey.specs.Summaries.{all_taken}
use Rattle.survey.proofs.Totals.{whole_summary}
use Rattle.survey.proofs.summary.summed.Goals as goal

pub returns-in_err-read : goal.returns-in_err-read
returns-in_err-read g c =
    let p = err_from_is_err_and c.from_residual.result c.from_residual.ensures.1 in
    let t = c.in_err-read.ensures.told [] (c.new-census.ensures.joins, c.new-census.ensures.sizes) in
    record { js = t.0; reading = _; outcome = t.1; is = p.1 ∙ ap Err p.2 }

pub returns : goal.returns
returns g c =
    let t = c.in_ok-read.ensures.told [] (c.new-census.ensures.joins, c.new-census.ensures.sizes) in
    record {
      js = t.0;
      reading = _;
      outcome = t.1;
      is = ap Ok (whole_summary (all_taken g.K.Spelled.spelled g.K.Headed.header) c.args.text.now c.args.kind c.read.new.taker.joins c.read.new.taker.sizes t.0 _ t.1 t.2);
    }
