-- What stands before the phase gives what the phase's tests ask.
use borrow.Author.Rules.{rules}
use mathlib.Core.Path.{◌≡◌, sym, ◌∙◌}
use lib.ListN.{length}
use Rattle.reader.proofs.Listed.{placed_at}
use Rattle.reader.proofs.allows_state.Goals as goal

pub allows_phase-requires : goal.allows_phase-requires
allows_phase-requires c =
    let r = c.args.r in
    let full : length r.awaited ≡ 16 = search rules in
    placed_at r.phase r full (sym c.allows_at.ensures ∙ c.if-allows_at.true)
