-- Data is neither delivered nor sent unless the event began in selected: rows that do either are asked for only there, T3's since a slot is taken only there.
use Prim.Native.Nat.{ℕ}
use mathlib.Core.Bool.{false, false≢true}
use mathlib.Core.List.{List}
use mathlib.Core.Path.{◌≡◌, ap, sym, ◌∙◌}
use Rattle.state.specs.State.{selected}
use Rattle.state.specs.declared.Session.{Session}
use Rattle.session.specs.Table.{step_of}
use Rattle.session.specs.Stepped.{Stepped}
use Rattle.session.specs.declared.Event.{Event}
use Rattle.protocol.specs.Protocol.{delivers, is_data, Quiet}
use Rattle.protocol.proofs.Rows.{Does, stays, judges, links, carries, by_hearing, answers, step_does}

does_quiet : (s : Session) (e : Event) (text : List ℕ) (r : Stepped) → selected s.link ≡ false → Does s e text r → Quiet r
does_quiet s e text r out (stays n z is) =
    record { undelivered = ap (λ (x : Stepped). delivers x.number) is ∙ z; unsent = ap (λ (x : Stepped). is_data x.send) is }
does_quiet s e text r out (links a z y) = record { undelivered = z; unsent = y }
does_quiet s e text r out (judges z is) = absurd (false≢true (sym out ∙ z))
does_quiet s e text r out (carries z a y) = absurd (false≢true (sym out ∙ z))
does_quiet s e text r out (by_hearing h i is q) = absurd (false≢true (sym out ∙ q.in_selected))
does_quiet s e text r out (answers h a) = absurd (false≢true (sym out ∙ a.in_selected))

-- DATA IS NEITHER DELIVERED NOR SENT UNLESS THE EVENT BEGAN IN SELECTED, at every event and in every state (one that the list does not allow is 14).
pub quiet : (s : Session) (e : Event) (text : List ℕ) → selected s.link ≡ false → Quiet (step_of s e text)
quiet s e text out = does_quiet s e text (step_of s e text) out (step_does s e text)
