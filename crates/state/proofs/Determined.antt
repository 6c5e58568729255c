-- Two outcomes that a promise permits for the same call are equal: each is the one that the definition gives.
use mathlib.Core.Path.{◌≡◌, ap, sym, ◌∙◌}
use Rattle.refusal.proofs.Once.{one_answer}
use Rattle.state.specs.State.{Made, made_in}
use Rattle.state.specs.declared.Made as answered
use Rattle.state.proofs.new_session.Reads as new_session_reads
use Rattle.state.proofs.Session.fresh_number.Reads as fresh_number_reads
use Rattle.state.proofs.Link.is_connected.Reads as is_connected_reads
use Rattle.state.proofs.Link.is_selected.Reads as is_selected_reads
use Rattle.state.proofs.Link.with_phase.Reads as with_phase_reads
use Rattle.state.proofs.Link.with_test.Reads as with_test_reads
use Rattle.state.proofs.Link.with_next.Reads as with_next_reads
use Rattle.state.proofs.Link.numbered_by.Reads as numbered_by_reads
use Rattle.state.proofs.Link.closed.Reads as closed_reads
use Rattle.state.proofs.Device.with_received.Reads as with_received_reads
use Rattle.state.proofs.Device.with_own.Reads as with_own_reads
use Rattle.state.proofs.Device.with_flag.Reads as with_flag_reads
use Rattle.state.proofs.Device.free_received.Reads as free_received_reads
use Rattle.state.proofs.Device.free_own.Reads as free_own_reads
use Rattle.state.proofs.Device.emptied.Reads as emptied_reads
use Rattle.state.proofs.Device.received_open.Reads as received_open_reads

-- what the definitions are given tells what is made
one_made : (r r' : answered.Made) → made_in r ≡ made_in r' → r ≡ r'
one_made r r' e =
    let a : r.answer ≡ r'.answer = one_answer r.answer r'.answer (ap (λ (m : Made). m.number) e) in
    λ k. record { answer = a k; session = (e k).session }

new_session_one : (κs : _) (a : _) (r r' : _) (s s' : _) → new_session_reads.Post κs a r s → new_session_reads.Post κs a r' s' → r ≡ r'
new_session_one κs a r r' s s' p q = one_made r r' (p ∙ sym q)

fresh_number_one : (κs : _) (a : _) (r r' : _) (s s' : _) → fresh_number_reads.Post κs a r s → fresh_number_reads.Post κs a r' s' → r ≡ r'
fresh_number_one κs a r r' s s' p q = p ∙ sym q

is_connected_one : (κs : _) (a : _) (r r' : _) (s s' : _) → is_connected_reads.Post κs a r s → is_connected_reads.Post κs a r' s' → r ≡ r'
is_connected_one κs a r r' s s' p q = p ∙ sym q

is_selected_one : (κs : _) (a : _) (r r' : _) (s s' : _) → is_selected_reads.Post κs a r s → is_selected_reads.Post κs a r' s' → r ≡ r'
is_selected_one κs a r r' s s' p q = p ∙ sym q

with_phase_one : (κs : _) (a : _) (r r' : _) (s s' : _) → with_phase_reads.Post κs a r s → with_phase_reads.Post κs a r' s' → r ≡ r'
with_phase_one κs a r r' s s' p q = p ∙ sym q

with_test_one : (κs : _) (a : _) (r r' : _) (s s' : _) → with_test_reads.Post κs a r s → with_test_reads.Post κs a r' s' → r ≡ r'
with_test_one κs a r r' s s' p q = p ∙ sym q

with_next_one : (κs : _) (a : _) (r r' : _) (s s' : _) → with_next_reads.Post κs a r s → with_next_reads.Post κs a r' s' → r ≡ r'
with_next_one κs a r r' s s' p q = p ∙ sym q

numbered_by_one : (κs : _) (a : _) (r r' : _) (s s' : _) → numbered_by_reads.Post κs a r s → numbered_by_reads.Post κs a r' s' → r ≡ r'
numbered_by_one κs a r r' s s' p q = p ∙ sym q

closed_one : (κs : _) (a : _) (r r' : _) (s s' : _) → closed_reads.Post κs a r s → closed_reads.Post κs a r' s' → r ≡ r'
closed_one κs a r r' s s' p q = p ∙ sym q

with_received_one : (κs : _) (a : _) (r r' : _) (s s' : _) → with_received_reads.Post κs a r s → with_received_reads.Post κs a r' s' → r ≡ r'
with_received_one κs a r r' s s' p q = p ∙ sym q

with_own_one : (κs : _) (a : _) (r r' : _) (s s' : _) → with_own_reads.Post κs a r s → with_own_reads.Post κs a r' s' → r ≡ r'
with_own_one κs a r r' s s' p q = p ∙ sym q

with_flag_one : (κs : _) (a : _) (r r' : _) (s s' : _) → with_flag_reads.Post κs a r s → with_flag_reads.Post κs a r' s' → r ≡ r'
with_flag_one κs a r r' s s' p q = p ∙ sym q

free_received_one : (κs : _) (a : _) (r r' : _) (s s' : _) → free_received_reads.Post κs a r s → free_received_reads.Post κs a r' s' → r ≡ r'
free_received_one κs a r r' s s' p q = p ∙ sym q

free_own_one : (κs : _) (a : _) (r r' : _) (s s' : _) → free_own_reads.Post κs a r s → free_own_reads.Post κs a r' s' → r ≡ r'
free_own_one κs a r r' s s' p q = p ∙ sym q

emptied_one : (κs : _) (a : _) (r r' : _) (s s' : _) → emptied_reads.Post κs a r s → emptied_reads.Post κs a r' s' → r ≡ r'
emptied_one κs a r r' s s' p q = p ∙ sym q

received_open_one : (κs : _) (a : _) (r r' : _) (s s' : _) → received_open_reads.Post κs a r s → received_open_reads.Post κs a r' s' → r ≡ r'
received_open_one κs a r r' s s' p q = p ∙ sym q
