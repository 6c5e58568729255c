-- Behind an X line there is nothing; else the lister settles, and the frame reader's end decides.
use Rattle.std.proofs.Common.{sym, ap, ◌∙◌, Some}
use Rattle.refusal.specs.Answer.{number_in}
use Rattle.lines.specs.declared.Line.{Line}
use Rattle.capture.proofs.Answered.{last_none, last_as, ended_clean, ended_broken}
use Rattle.capture.proofs.last_line.Goals as goal

pub returns-then-l : goal.returns-then-l
returns-then-l c = sym (last_none _ c.if-l.true)

pub returns-in-Ok : goal.returns-in-Ok
returns-in-Ok c =
    let e = sym (ap number_in c.in-Ok.is) ∙ c.end.ensures in
    sym (last_as _ _ _ c.if-l.false c.settle-s.ensures e ∙ ap (λ (x : Line). Some x) (ended_clean _))

pub returns-in-Err : goal.returns-in-Err
returns-in-Err c =
    let e = sym (ap number_in c.in-Err.is) ∙ c.end.ensures in
    rw c.from.ensures (sym (last_as _ _ _ c.if-l.false c.settle-s.ensures e ∙ ap (λ (x : Line). Some x) (ended_broken c.in-Err.refusal _)))
