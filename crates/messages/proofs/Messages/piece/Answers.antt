-- Each feed is the next of those that are left.
use Rattle.std.proofs.Common.{◌≡◌, ◌∙◌, ◌-◌, ◌+◌, ℕ, List, sym, ap, arith}
use Rattle.frames.specs.Event.{fed_in}
use Rattle.messages.specs.declared.Messages.{Messages}
use Rattle.messages.specs.Records.{feeds_done}
use Rattle.messages.proofs.Feeds.{no_feeds, last, turn, left}
use Rattle.messages.proofs.Messages.piece.Goals as goal

pub loop-preserved : goal.loop-preserved
loop-preserved c =
    let x : Messages × List ℕ = (c.loop.self, c.loop.stdout.said) in
    let s = c.loop.rest.now in
    let f = c.feed-fed.result in
    let more = sym c.is_last.ensures ∙ c.if-is_last.false in
    ap (feeds_done (1048578 - (c.loop.counter + 1)) _) (left f.consumed c.min.result s c.min.ensures)
    ∙ turn 1048578 c.loop.counter x s _ (fed_in f) c.loop-test.true c.feed-fed.ensures c.in_ok-event_line.ensures more ∙ c.loop.invariant

pub returns-after-loop : goal.returns-after-loop
returns-after-loop c =
    let none : 1048578 - c.loop.counter ≡ 0 = omega arith in
    no_feeds (1048578 - c.loop.counter) (c.loop.self, c.loop.stdout.said) c.loop.rest.now none ∙ c.loop.invariant

pub returns-then-is_last : goal.returns-then-is_last
returns-then-is_last c =
    let x : Messages × List ℕ = (c.loop.self, c.loop.stdout.said) in
    let f = c.feed-fed.result in
    let over = sym c.is_last.ensures ∙ c.if-is_last.true in
    last 1048578 c.loop.counter x c.loop.rest.now _ (fed_in f) c.loop-test.true c.feed-fed.ensures c.in_ok-event_line.ensures over ∙ c.loop.invariant
