-- The iterator's test of all is the definition's.
use mathlib.Core.Path.{sym, ◌∙◌}
use lib.Dec.{leb}
use Rattle.std.proofs.Common.{rules, tests}
use Rattle.std.proofs.lemmas.Iterator.{YieldsList-from_slice}
use Rattle.std.proofs.lemmas.Iterator.Search.{all_from_yields_List}
use Rattle.writer.proofs.Judged.{all_within}
use Rattle.writer.proofs.all_at_most.Goals as goal

pub returns : goal.returns
returns c =
    let s = c.args.s.now in
    let m = c.args.largest in
    all_from_yields_List (λ b. leb b m) _ _ c.all.result c.all.ensures.ran (YieldsList-from_slice s cc) (λ x b q k. search (rules, tests))
    ∙ sym (all_within m s)
