-- Only a frame's end changes anything.
use Rattle.std.proofs.Common.{sym, ap, ◌∙◌}
use Rattle.frames.specs.Event.{event_in, event_of, fed_in}
use Rattle.capture.specs.Capture.{with_frames}
use Rattle.capture.proofs.Answered.{settled_as, unsettled}
use Rattle.capture.proofs.Settled.{unended}
use Rattle.capture.proofs.settle.Goals as goal

pub returns-in_default : goal.returns-in_default
returns-in_default c = sym (unended c.args.l (λ p _. c.in_default.not-Text p))

pub returns-then-l-ne0 : goal.returns-then-l-ne0
returns-then-l-ne0 c = sym (unended c.args.l (λ _ z. c.if-l-ne0.true z))

pub returns-in-End : goal.returns-in-End
returns-in-End c =
    let l = c.args.l in
    let f = c.feed-fed.result in
    let e = ap event_in c.in-Ok.is ∙ ap event_of c.in-End.is in
    ap (λ n. with_frames l f.reader n l.bytes) c.one_more.ensures ∙ sym (settled_as l 0 (fed_in f) _ c.feed-fed.ensures e)

pub returns-in_default-event : goal.returns-in_default-event
returns-in_default-event c =
    let f = c.feed-fed.result in
    let e = settled_as c.args.l 0 (fed_in f) _ c.feed-fed.ensures (ap event_in c.in-Ok.is) in
    sym (e ∙ unsettled c.in-Ok.event c.args.l f.reader c.in_default-event.not-End)

pub returns-in-Err : goal.returns-in-Err
returns-in-Err c = sym (settled_as c.args.l 0 (fed_in c.feed-fed.result) _ c.feed-fed.ensures (ap event_in c.in-Err.is))
