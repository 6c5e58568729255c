-- A message to send, as a frame: an S9 carries one lean B item of the 10 header bytes complained of.
use Rattle.std.specs.Prelude.{ℕ, List, [], length}
use Rattle.refusal.specs.Answer.{Counted, Is}
use Rattle.item.specs.Item.{plain, lean_item}
use Rattle.frame.specs.Header.{header_bytes}
use Rattle.frame.specs.Frame.{frame_of, written_of}
use Rattle.frame.specs.declared.Header.{Header}
use Rattle.message.specs.declared.Text.{Text}
use Rattle.message.specs.declared.Text.TheVariants.{Empty, About, Wished}
use Rattle.message.specs.Send.{Send, Nothing, Message}

-- the lean B item of a header's ten bytes
unfoldable pub about_of : Header → List ℕ
about_of h = lean_item (plain 0o10 (header_bytes h))

-- a message's text, the wish's text being given
abbrev pub text_of : Text → List ℕ → List ℕ
text_of Empty wished = []
text_of (About h) wished = about_of h
text_of Wished wished = wished

-- its frame; nothing to send has no bytes
abbrev pub bytes_of : Send → List ℕ → List ℕ
bytes_of Nothing wished = []
bytes_of (Message h t) wished = frame_of h (text_of t wished)

abbrev pub sent_of : Send → List ℕ → ℕ → Counted
sent_of Nothing wished room = Is 0
sent_of (Message h t) wished room = written_of h (length (text_of t wished)) room
