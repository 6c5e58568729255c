-- What is printed is the answer.
use borrow.Author.Tests.{le-ltb}
use Rattle.feeds.specs.Records.{fresh_line}
use Rattle.feeds.proofs.Lines.{shown, kept}
use Rattle.feeds.proofs.Feeds.fresh.Goals as goal

pub returns : goal.returns
returns c =
    let r = c.fresh_reader-self.result in
    rw (le-ltb _ 4 c.if-b-lt4.false, ← c.field_at.ensures.number, ← c.fresh_reader-self.ensures)
    (kept c.args.self.now r _ _ (fresh_line r) _ (rw (shown _ _ c.map.ensures.cases, c.status_of.ensures) at c.writeln.ensures.writes))
