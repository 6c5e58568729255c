-- What is sent, for the definitions: at most one message, a header and a text.
use Rattle.std.specs.Prelude.{Option, None, Some}
use Rattle.frame.specs.declared.Header.{Header}
use Rattle.message.specs.declared.Message as sent
use Rattle.message.specs.declared.Text.{Text}

pub data Send : Type 0 where
  Nothing : Send
  Message : Header → Text → Send

abbrev pub send_in : Option sent.Message → Send
send_in None = Nothing
send_in (Some m) = Message m.header m.text
