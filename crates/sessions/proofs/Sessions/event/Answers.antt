-- The number is the notice's or the refusal's.
use Rattle.std.proofs.Common.{◌≡◌, ◌∙◌, sym, ap}
use Rattle.message.specs.Notice.{told_in}
use Rattle.driver.proofs.Fields.{wrote}
use Rattle.sessions.proofs.Kept.{stepped}
use Rattle.sessions.proofs.Sessions.event.Goals as goal
use Rattle.sessions.proofs.Sessions.event.Goals.{in-Ok, in-Err}

pub returns : goal.returns
returns c =
    let a = c.args in
    let t = c.step-stepped.result in
    let number : c.match-stepped.number ≡ told_in t.answer = elim c.match-stepped.branch [
      | in-Ok w ↦ w.number-is ∙ w.from-number.ensures ∙ ap told_in (sym w.in-Ok.is)
      | in-Err w ↦ w.number-is ∙ w.from-number-in-Err.ensures ∙ ap told_in (sym w.in-Err.is)
    ] in
    stepped c.write_str.result a.self.now a.stdout.now.said a.text.now _ a.e t c.step-stepped.ensures number
    (wrote c.args.stdout.now c.write.new.self _ c.in_ok-write.ensures.writes) c.in_ok-sent_fields.ensures c.write_str.ensures.ok
