-- Two outcomes that a promise permits for the same call are equal: each is the one that the definition gives.
use mathlib.Core.Path.{◌≡◌, sym, ◌∙◌}
use Rattle.slots.proofs.Slot.free.Reads as free_reads
use Rattle.slots.proofs.Slot.new.Reads as new_reads
use Rattle.slots.proofs.Slot.is_match.Reads as is_match_reads
use Rattle.slots.proofs.Linktest.closed.Reads as closed_reads
use Rattle.slots.proofs.Linktest.begun.Reads as begun_reads
use Rattle.slots.proofs.Linktest.is_running.Reads as is_running_reads
use Rattle.slots.proofs.no_slots.Reads as no_slots_reads
use Rattle.slots.proofs.find.Reads as find_reads
use Rattle.slots.proofs.with_slot.Reads as with_slot_reads
use Rattle.slots.proofs.is_primary.Reads as is_primary_reads

free_one : (κs : _) (a : _) (r r' : _) (s s' : _) → free_reads.Post κs a r s → free_reads.Post κs a r' s' → r ≡ r'
free_one κs a r r' s s' p q = p ∙ sym q

new_one : (κs : _) (a : _) (r r' : _) (s s' : _) → new_reads.Post κs a r s → new_reads.Post κs a r' s' → r ≡ r'
new_one κs a r r' s s' p q = p ∙ sym q

is_match_one : (κs : _) (a : _) (r r' : _) (s s' : _) → is_match_reads.Post κs a r s → is_match_reads.Post κs a r' s' → r ≡ r'
is_match_one κs a r r' s s' p q = p ∙ sym q

closed_one : (κs : _) (a : _) (r r' : _) (s s' : _) → closed_reads.Post κs a r s → closed_reads.Post κs a r' s' → r ≡ r'
closed_one κs a r r' s s' p q = p ∙ sym q

begun_one : (κs : _) (a : _) (r r' : _) (s s' : _) → begun_reads.Post κs a r s → begun_reads.Post κs a r' s' → r ≡ r'
begun_one κs a r r' s s' p q = p ∙ sym q

is_running_one : (κs : _) (a : _) (r r' : _) (s s' : _) → is_running_reads.Post κs a r s → is_running_reads.Post κs a r' s' → r ≡ r'
is_running_one κs a r r' s s' p q = p ∙ sym q

no_slots_one : (κs : _) (a : _) (r r' : _) (s s' : _) → no_slots_reads.Post κs a r s → no_slots_reads.Post κs a r' s' → r ≡ r'
no_slots_one κs a r r' s s' p q = p ∙ sym q

find_one : (κs : _) (a : _) (r r' : _) (s s' : _) → find_reads.Post κs a r s → find_reads.Post κs a r' s' → r ≡ r'
find_one κs a r r' s s' p q = p ∙ sym q

with_slot_one : (κs : _) (a : _) (r r' : _) (s s' : _) → with_slot_reads.Post κs a r s → with_slot_reads.Post κs a r' s' → r ≡ r'
with_slot_one κs a r r' s s' p q = p ∙ sym q

is_primary_one : (κs : _) (a : _) (r r' : _) (s s' : _) → is_primary_reads.Post κs a r s → is_primary_reads.Post κs a r' s' → r ≡ r'
is_primary_one κs a r r' s s' p q = p ∙ sym q
