-- The library's search tests what the definition does.
use Rattle.std.proofs.Common.{rules, tests, ◌==◌, ◌∙◌}
use Rattle.std.proofs.lemmas.Iterator.{YieldsList-from_slice}
use Rattle.std.proofs.lemmas.Iterator.Search.{all_from_yields_List}
use Rattle.frames.proofs.Zeros.{zeros}
use Rattle.frames.proofs.all_zero.Goals as goal

pub returns : goal.returns
returns c =
    let yields = YieldsList-from_slice c.args.s.now c.iter.ensures.rest in
    all_from_yields_List (λ byte. byte == 0) _ _ c.all.result c.all.ensures.ran yields (λ x b q k. search (rules, tests)) ∙ zeros c.args.s.now
