-- What a row of the device answers, for the definitions: the number, the device then, whether the fresh number was taken, and what is sent.
use Rattle.std.specs.Prelude.{ℕ, Bool}
use Rattle.message.specs.Notice.{told_in}
use Rattle.message.specs.Send.{Send, send_in}
use Rattle.state.specs.declared.Device.{Device}
use Rattle.device.specs.declared.Acted as answered

pub record Acted : Type 0 where
  pub number : ℕ
  pub device : Device
  pub took : Bool
  pub send : Send

abbrev pub acted_in : answered.Acted → Acted
acted_in r = record { number = told_in r.answer; device = r.device; took = r.took; send = send_in r.send }
