-- Two outcomes that a promise permits for the same call are equal: each is the one that the definition gives.
use mathlib.Core.Path.{◌≡◌, sym, ◌∙◌}
use Rattle.refusal.proofs.Once.{one_answer}
use Rattle.frames.proofs.Once.{one_fed}
use Rattle.frames.proofs.fresh_reader.Reads as fresh_reader_reads
use Rattle.frames.proofs.allows_state.Reads as allows_state_reads
use Rattle.frames.proofs.feed.Reads as feed_reads
use Rattle.frames.proofs.end.Reads as end_reads

fresh_reader_one : (κs : _) (a : _) (r r' : _) (s s' : _) → fresh_reader_reads.Post κs a r s → fresh_reader_reads.Post κs a r' s' → r ≡ r'
fresh_reader_one κs a r r' s s' p q = p ∙ sym q

allows_state_one : (κs : _) (a : _) (r r' : _) (s s' : _) → allows_state_reads.Post κs a r s → allows_state_reads.Post κs a r' s' → r ≡ r'
allows_state_one κs a r r' s s' p q = p ∙ sym q

feed_one : (κs : _) (a : _) (r r' : _) (s s' : _) → feed_reads.Post κs a r s → feed_reads.Post κs a r' s' → r ≡ r'
feed_one κs a r r' s s' p q = one_fed r r' (p ∙ sym q)

end_one : (κs : _) (a : _) (r r' : _) (s s' : _) → end_reads.Post κs a r s → end_reads.Post κs a r' s' → r ≡ r'
end_one κs a r r' s s' p q = one_answer r r' (p ∙ sym q)
