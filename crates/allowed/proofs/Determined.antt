-- Two outcomes that a promise permits for the same call are equal: each is the one that the definition gives.
use mathlib.Core.Path.{◌≡◌, sym, ◌∙◌}
use Rattle.allowed.proofs.allows_state.Reads as allows_state_reads

allows_state_one : (κs : _) (a : _) (r r' : _) (s s' : _) → allows_state_reads.Post κs a r s → allows_state_reads.Post κs a r' s' → r ≡ r'
allows_state_one κs a r r' s s' p q = p ∙ sym q
