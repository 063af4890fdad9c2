use Rattle.std.proofs.lemmas.Bool.{both_ways}
use Rattle.survey.specs.Summaries.{Summarized, numbers, names}
use Rattle.survey.proofs.Headings.{one_summary, names_summed, numbers_summed, named_as}
use Rattle.survey.proofs.summary.summarize.Goals as goal

pub returns-then-begins : goal.returns-then-begins
returns-then-begins c =
    let text = c.args.text.now in
    let told : Summarized text c.summed.result = numbers (c.begins.ensures.0 c.if-begins.true) c.summed.ensures in
    record { told = told; one = one_summary text; names = names_summed text _ told; numbers = numbers_summed text _ told; named = named_as text _ told }

pub returns : goal.returns
returns c =
    let text = c.args.text.now in
    let told : Summarized text c.summed-2.result = names (λ b. both_ways c.begins.result c.if-begins.false (c.begins.ensures.1 b)) c.summed-2.ensures in
    record { told = told; one = one_summary text; names = names_summed text _ told; numbers = numbers_summed text _ told; named = named_as text _ told }
