use Rattle.cuts.proofs.Merging.{merged_weights, merged_sound, merged_exact}
use Rattle.cuts.proofs.Reducing.{merged_reduces, removed_reduces}
use Rattle.cuts.proofs.Sizes.{merged_lighter}
use Rattle.cuts.proofs.merging_laws.Goals as goal

pub returns : goal.returns
returns c = record { weights = merged_weights; sound = merged_sound; exact = merged_exact; lighter = merged_lighter; reduces = merged_reduces; removed = removed_reduces }
