-- A text that is not listed gives nothing; each arm is the definition's case of what the text reader answered.
use Rattle.std.proofs.Common.{refl, sym, ap, ◌∙◌}
use Rattle.reader.specs.Answer.{Fed, answer_in, fed_in}
use Rattle.capture.proofs.Texts.{went_on}
use Rattle.capture.proofs.Answered.{not_true, not_false, listed_as, unlisted_as, taken_as}
use Rattle.capture.proofs.text_byte.Goals as goal

pub returns-then-not-l : goal.returns-then-not-l
returns-then-not-l c = c.told_of.ensures ∙ sym (unlisted_as _ _ (not_true _ c.if-not-l.true))

pub item_came-requires : goal.item_came-requires
item_came-requires c = went_on _ _ _ (ap (λ (f : Fed). f.answer) (sym c.feed-fed.ensures) ∙ ap answer_in c.in-Ok.is)

pub returns-in-Ok : goal.returns-in-Ok
returns-in-Ok c =
    rw (c.told_of-in-Ok.ensures, c.item_came.ensures)
    (sym (listed_as _ _ (fed_in c.feed-fed.result) _ _ (not_false _ c.if-not-l.false) c.feed-fed.ensures refl (ap answer_in c.in-Ok.is)
    ∙ taken_as c.in-Ok.field-0 _ _))

pub returns-in-Err : goal.returns-in-Err
returns-in-Err c =
    c.refuse.ensures ∙ sym (listed_as _ _ (fed_in c.feed-fed.result) _ _ (not_false _ c.if-not-l.false) c.feed-fed.ensures refl (ap answer_in c.in-Err.is))
