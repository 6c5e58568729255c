-- The library's search over the slots is the definition's.
use Rattle.std.proofs.Common.{rules, tests, ◌∙◌}
use Rattle.std.proofs.lemmas.Iterator.{YieldsList-from_slice}
use Rattle.std.proofs.lemmas.Iterator.Search.{position_from_yields_List}
use Rattle.slots.specs.Slots.{passes}
use Rattle.slots.proofs.Found.{position_found}
use Rattle.slots.proofs.find.Goals as goal

pub returns : goal.returns
returns c =
    position_from_yields_List (passes c.args.q) _ _ _ c.position.ensures.ran (YieldsList-from_slice c.args.slots cc) (λ x b q k. search (rules, tests))
    ∙ position_found c.args.q c.args.slots (search rules)
