-- Two outcomes that a promise permits for the same call are equal: each is the one that the definition gives.
use mathlib.Core.Path.{◌≡◌, sym, ◌∙◌}
use Rattle.fresh.proofs.is_held.Reads as is_held_reads
use Rattle.fresh.proofs.one_more.Reads as one_more_reads
use Rattle.fresh.proofs.fresh_number.Reads as fresh_number_reads

is_held_one : (κs : _) (a : _) (r r' : _) (s s' : _) → is_held_reads.Post κs a r s → is_held_reads.Post κs a r' s' → r ≡ r'
is_held_one κs a r r' s s' p q = p ∙ sym q

one_more_one : (κs : _) (a : _) (r r' : _) (s s' : _) → one_more_reads.Post κs a r s → one_more_reads.Post κs a r' s' → r ≡ r'
one_more_one κs a r r' s s' p q = p ∙ sym q

fresh_number_one : (κs : _) (a : _) (r r' : _) (s s' : _) → fresh_number_reads.Post κs a r s → fresh_number_reads.Post κs a r' s' → r ≡ r'
fresh_number_one κs a r r' s s' p q = p ∙ sym q
