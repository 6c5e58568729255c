-- What an event answers, for the definitions: the number, the new state, and what is sent.
use Rattle.std.specs.Prelude.{ℕ}
use Rattle.message.specs.Notice.{told_in}
use Rattle.message.specs.Send.{Send, send_in}
use Rattle.state.specs.declared.Session.{Session}
use Rattle.session.specs.declared.Stepped as answered

pub record Stepped : Type 0 where
  pub number : ℕ
  pub session : Session
  pub send : Send

abbrev pub stepped_in : answered.Stepped → Stepped
stepped_in r = record { number = told_in r.answer; session = r.session; send = send_in r.send }
