-- A run of a session as it is seen from outside: events, phases, numbers and what is sent.
use Rattle.std.specs.Prelude.{ℕ, List, [], ◌∷◌, ◌⊎◌, ◌≡◌, length}
use Rattle.message.specs.Send.{Send}
use Rattle.state.specs.State.{session_of}
use Rattle.state.specs.declared.Phase.{Phase}
use Rattle.state.specs.declared.Session.{Session}
use Rattle.session.specs.Table.{step_of}
use Rattle.session.specs.Stepped.{Stepped}
use Rattle.session.specs.declared.Event.{Event}
use Rattle.reached.specs.Reached.{Happened}

-- an event, the phase in which it begins, the number answered, what is sent, and the phase in which it ends
pub record Seen : Type 0 where
  pub event : Event
  pub before : Phase
  pub number : ℕ
  pub send : Send
  pub after : Phase

abbrev pub seen_as : Event → Phase → Stepped → Seen
seen_as e p r = record { event = e; before = p; number = r.number; send = r.send; after = r.session.link.phase }

-- what is seen of an event that comes to a session
abbrev pub seen_of : Session → Happened → Seen
seen_of s e = seen_as e.event s.link.phase (step_of s e.event e.text)

-- events one after another, after what was seen before; the latest comes first
unfoldable pub run_from : Session → List Seen → List Happened → List Seen
run_from s v [] = v
run_from s v (e ∷ l) = run_from (step_of s e.event e.text).session (seen_of s e ∷ v) l

-- a run from a fresh session
abbrev pub run_of : ℕ → List Happened → List Seen
run_of id l = run_from (session_of id) [] l

-- at place i of a run x is seen, after v: an event's place is how many come before it
abbrev pub At : List Seen → ℕ → Seen → List Seen → Type 0
At [] i x v = ⊥
At (y ∷ u) i x v = ((i ≡ length u) × (x ≡ y) × (v ≡ u)) ⊎ At u i x v

-- at place i something is seen of which, after what was seen earlier, this holds
pub record SeenAt (u : List Seen) (i : ℕ) (P : Seen → List Seen → Type 0) : Type 0 where
  pub seen : Seen
  pub earlier : List Seen
  pub at : At u i seen earlier
  pub is : P seen earlier
