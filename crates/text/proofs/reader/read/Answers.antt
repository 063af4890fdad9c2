use Rattle.std.proofs.Common.{[], ◌++◌, sym, refl, ◌∙◌, subst}
use Rattle.std.proofs.lemmas.List.{append-nil}
use Rattle.text.specs.Boards.{reading, ended, setting, OneOutcome}
use Rattle.text.proofs.Cuts.{lacks_by}
use Rattle.text.proofs.Only.{one_list, one_outcome}
use Rattle.text.proofs.Pieces.{named_outcome}
use Rattle.text.proofs.reader.read.Goals as goal

pub returns : goal.returns
returns g c =
    let s = setting g.T.Key.Spelled.spelled g.T.Key.Headed.header g.T.Taker.rule g.T.Refusal.JobRefusal.numbered in
    let text = c.args.text.now in
    let told = c.read_through.ensures in
    let one : OneOutcome s text = one_outcome s g.met.T.Key.Spelled.word g.met.T.Key.Spelled.apart (lacks_by 10 g.T.Key.Headed.header g.met.T.Key.Headed.single) text in
    record {
      told = told;
      one = one;
      complete = λ before js h short w ok.
          let t = told before h in
          let p = one before t.0 (before ++ js) _ _ t.1 (reading js [] short (w.whole ∙ sym (append-nil _)) w.fine ok refl (ended refl refl)) in
          (p.0, subst (g.T.Taker.taken c.read_through.new.taker) p.1 t.2);
      unique = one_list g.T.Key.Spelled.spelled g.met.T.Key.Spelled.word g.met.T.Key.Spelled.apart g.T.Key.Headed.header text;
      named = λ before h. let t = told before h in named_outcome s g.met.T.Refusal.JobRefusal.within text before t.0 c.read_through.result t.1;
    }
