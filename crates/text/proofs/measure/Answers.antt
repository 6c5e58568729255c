-- A text that is not refused is good, so that the walk over it is sound.
use mathlib.Core.Path.{sym}
use Rattle.text.proofs.Judged.{all_bytes, judged_sound}
use Rattle.text.proofs.measure.Goals as goal

pub measure_good-requires : goal.measure_good-requires
measure_good-requires c = judged_sound _ (all_bytes c.args.text.now c.type_inv.text) (sym c.in_ok-judge.ensures)
