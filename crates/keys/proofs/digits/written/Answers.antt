use Rattle.std.proofs.Common.{rules}
use Rattle.std.proofs.lemmas.Fmt.{length-decimal-le}
use Rattle.keys.proofs.digits.written.Goals as goal

pub copied-requires : goal.copied-requires
copied-requires c = search (rules, length-decimal-le 12)
