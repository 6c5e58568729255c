-- What is printed is the answer, and the bytes consumed behind it.
use Rattle.std.specs.Prelude.{decimal}
use Rattle.std.proofs.Common.{◌∷◌, [], append_assoc}
use Rattle.driver.specs.Printed.{field}
use Rattle.reader.specs.Answer.{answer_in, fed_in}
use Rattle.feeds.specs.Records.{status_fields, fed_line}
use Rattle.feeds.proofs.Lines.{shown, kept}
use Rattle.feeds.proofs.Feeds.piece.Goals as goal

pub returns : goal.returns
returns c =
    let fed = c.feed-fed.result in
    let ends = append_assoc (status_fields (answer_in fed.answer)) (field (decimal fed.consumed)) (10 ∷ []) in
    rw (← c.feed-fed.ensures)
    (kept c.args.self.now fed.reader _ _ (fed_line (fed_in fed)) _ (rw (shown _ _ c.map.ensures.cases, ← ends) at c.writeln.ensures.writes))
