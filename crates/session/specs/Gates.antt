-- The gates that an event passes before its row is asked, in document 01's order: 14, 20, 22, then in number order.
use Rattle.std.specs.Prelude.{ℕ, List, eqb, leb}
use Rattle.wire.specs.Pick.{pick}
use Rattle.slots.specs.Slots.{is_primary}
use Rattle.text.specs.Text.{judged_of}
use Rattle.state.specs.State.{connected, selected}
use Rattle.state.specs.declared.Link.{Link}
use Rattle.state.specs.declared.Session.{Session}
use Rattle.allowed.specs.States.{allows}
use Rattle.session.specs.declared.Wish.{Wish}
use Rattle.session.specs.declared.Wish.TheVariants.{Connect, Disconnect, Flag, Primary, Reply, Abort, Linktest, Separate}
use Rattle.session.specs.declared.Event.{Event}
use Rattle.session.specs.declared.Event.TheVariants.{Timer as on_timer, Wish as on_wish, Received as on_received}

-- one gate behind another: the first number that is not 0
unfoldable pub and_then : ℕ → ℕ → ℕ
and_then a b = pick (eqb a 0) b a

-- not connected, 20
unfoldable pub when_connected : Link → ℕ
when_connected l = pick (connected l) 0 20

-- not connected, 20; connected, not selected, 22
unfoldable pub when_selected : Link → ℕ
when_selected l = pick (connected l) (pick (selected l) 0 22) 20

-- not selected, as above; then a text that is not good, its number
unfoldable pub when_good : Link → List ℕ → ℕ
when_good l text = and_then (when_selected l) (judged_of text)

-- stream 0 or above 127, 23
unfoldable pub when_stream : ℕ → ℕ
when_stream m = pick (leb 1 m) (pick (leb m 127) 0 23) 23

-- stream 0 or above 127, function even or 255, 23
unfoldable pub when_primary : ℕ → ℕ → ℕ
when_primary m f = pick (is_primary m f) 0 23

-- a wish: connect and flags in any phase; a primary and a reply with a text that is good
unfoldable pub wish_gate : Link → Wish → List ℕ → ℕ
wish_gate l Connect text = 0
wish_gate l Disconnect text = when_connected l
wish_gate l (Flag m b) text = when_stream m
wish_gate l (Primary w m f) text = and_then (when_good l text) (when_primary m f)
wish_gate l (Reply k) text = when_good l text
wish_gate l (Abort k) text = when_selected l
wish_gate l Linktest text = when_connected l
wish_gate l Separate text = when_selected l

-- timers in any phase
unfoldable pub event_gate : Link → Event → List ℕ → ℕ
event_gate l (on_timer t) text = 0
event_gate l (on_wish w) text = wish_gate l w text
event_gate l (on_received r) text = when_connected l

-- the number that refuses an event, 0 where none does; a state that breaks the list, 14
unfoldable pub gate_of : Session → Event → List ℕ → ℕ
gate_of s e text = pick (allows s) (event_gate s.link e text) 14
