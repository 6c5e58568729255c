-- The M line is first; behind it each arm is the definition's case of what the fresh text reader is.
use Rattle.std.proofs.Common.{◌≡◌, true, false, refl, sym, ap, ◌∙◌, Some}
use Rattle.reader.specs.Answer.{answer_in}
use Rattle.lines.specs.declared.Line.TheVariants.{Message}
use Rattle.capture.specs.Capture.{behind, refused_by, is_data}
use Rattle.capture.specs.declared.Told.{Told}
use Rattle.capture.proofs.Answered.{data_as, other_as, fresh_answer, taken_as}
use Rattle.capture.proofs.header_came.Goals as goal

pub returns-then-not-is_data : goal.returns-then-not-is_data
returns-then-not-is_data c =
    let d : is_data c.args.h ≡ false = sym c.is_data.ensures ∙ c.if-not-is_data.true in
    c.told_of.ensures ∙ sym (other_as _ _ _ _ d refl)

pub returns-in-Ok : goal.returns-in-Ok
returns-in-Ok c =
    let d : is_data c.args.h ≡ true = sym c.is_data.ensures ∙ c.if-not-is_data.false in
    let fresh = c.fresh_reader-text.ensures in
    let came = data_as _ _ c.args.n _ _ _ _ d fresh refl (fresh_answer c.args.n _ _ fresh c.status_of.ensures) (ap answer_in c.in-Ok.is) in
    c.told_of-in-Ok.ensures ∙ sym (came ∙ ap (λ (t : Told). behind (Some (Message c.args.h c.args.n)) t) (taken_as c.in-Ok.field-0 _ _))

pub returns-in-Err : goal.returns-in-Err
unfolding refused_by
returns-in-Err c =
    let d : is_data c.args.h ≡ true = sym c.is_data.ensures ∙ c.if-not-is_data.false in
    let fresh = c.fresh_reader-text.ensures in
    let came = data_as _ _ c.args.n _ _ _ _ d fresh refl (fresh_answer c.args.n _ _ fresh c.status_of.ensures) (ap answer_in c.in-Err.is) in
    rw (c.told_of-in-Err.ensures, c.stop.ensures, c.from.ensures) (sym came)
