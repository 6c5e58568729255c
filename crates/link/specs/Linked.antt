-- What a row of the link answers, for the definitions: the number, the link then, whether the data slots are emptied, and what is sent.
use Rattle.std.specs.Prelude.{ℕ, Bool}
use Rattle.message.specs.Notice.{told_in}
use Rattle.message.specs.Send.{Send, send_in}
use Rattle.state.specs.declared.Link.{Link}
use Rattle.link.specs.declared.Linked as answered

pub record Linked : Type 0 where
  pub number : ℕ
  pub link : Link
  pub empties : Bool
  pub send : Send

abbrev pub linked_in : answered.Linked → Linked
linked_in r = record { number = told_in r.answer; link = r.link; empties = r.empties; send = send_in r.send }
