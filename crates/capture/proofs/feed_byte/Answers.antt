-- Each arm is the definition's case of what the frame reader answered.
use Rattle.std.proofs.Common.{refl, sym, ap, ◌∙◌}
use Rattle.frames.specs.Event.{event_in, event_of, fed_in}
use Rattle.capture.proofs.Answered.{fed_as}
use Rattle.capture.proofs.feed_byte.Goals as goal

pub returns-in-Header : goal.returns-in-Header
returns-in-Header c =
    let e = ap event_in c.in-Ok.is ∙ ap event_of c.in-Header.is in
    c.header_came.ensures ∙ sym (fed_as _ _ (fed_in c.feed-fed.result) _ _ _ c.feed-fed.ensures c.one_more.ensures refl e)

pub returns-in-Text : goal.returns-in-Text
returns-in-Text c =
    let e = ap event_in c.in-Ok.is ∙ ap event_of c.in-Text.is in
    c.text_byte.ensures ∙ sym (fed_as _ _ (fed_in c.feed-fed.result) _ _ _ c.feed-fed.ensures c.one_more.ensures refl e)

pub returns-in-More : goal.returns-in-More
returns-in-More c =
    let e = ap event_in c.in-Ok.is ∙ ap event_of c.in-More.is in
    c.told_of.ensures ∙ sym (fed_as _ _ (fed_in c.feed-fed.result) _ _ _ c.feed-fed.ensures c.one_more.ensures refl e)

pub returns-in-End : goal.returns-in-End
returns-in-End c =
    let e = ap event_in c.in-Ok.is ∙ ap event_of c.in-End.is in
    c.told_of-in-End.ensures ∙ sym (fed_as _ _ (fed_in c.feed-fed.result) _ _ _ c.feed-fed.ensures c.one_more.ensures refl e)

pub returns-in-Err : goal.returns-in-Err
returns-in-Err c =
    c.refuse.ensures ∙ sym (fed_as _ _ (fed_in c.feed-fed.result) _ _ _ c.feed-fed.ensures c.one_more.ensures refl (ap event_in c.in-Err.is))
