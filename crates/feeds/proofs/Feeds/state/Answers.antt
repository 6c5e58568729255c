-- What is printed is whether the list allows it, and the answer.
use Rattle.std.specs.Prelude.{◌≡◌}
use Rattle.std.proofs.Common.{◌∷◌, [], arith, append_assoc}
use borrow.Author.Tests.{le-ltb}
use Rattle.reader.specs.Feed.{allows, status_of}
use Rattle.feeds.specs.Records.{status_fields, state_line, state_word}
use Rattle.feeds.proofs.Lines.{shown, kept}
use Rattle.feeds.proofs.Feeds.state.Goals as goal
use Rattle.feeds.proofs.Feeds.state.Goals.{then-allows_state, else-allows_state}

pub returns : goal.returns
returns c =
    let r = c.reader_in-self.result in
    let word : c.if-allows_state.word.now ≡ state_word (allows r) =
    elim c.if-allows_state.branch [ then-allows_state w ↦ grind arith | else-allows_state w ↦ grind arith ] in
    let ends = append_assoc (state_word (allows r)) (status_fields (status_of r)) (10 ∷ []) in
    let said = rw (shown _ _ c.map.ensures.cases, word, c.status_of.ensures, ← ends) at c.writeln.ensures.writes in
    rw (le-ltb _ 90 c.if-b-lt90.false, ← c.reader_in-self.ensures) (kept c.args.self.now r _ _ (state_line r) _ said)
