-- Two outcomes that a promise permits for the same call are equal: each is the one that the definition gives.
use Rattle.std.proofs.Common.{◌≡◌, sym, ◌∙◌}
use Rattle.capture.proofs.fresh_lister.Reads as fresh_lister_reads
use Rattle.capture.proofs.byte_came.Reads as byte_came_reads
use Rattle.capture.proofs.last_line.Reads as last_line_reads

fresh_lister_one : (κs : _) (a : _) (r r' : _) (s s' : _) → fresh_lister_reads.Post κs a r s → fresh_lister_reads.Post κs a r' s' → r ≡ r'
fresh_lister_one κs a r r' s s' p q = p ∙ sym q

byte_came_one : (κs : _) (a : _) (r r' : _) (s s' : _) → byte_came_reads.Post κs a r s → byte_came_reads.Post κs a r' s' → r ≡ r'
byte_came_one κs a r r' s s' p q = p ∙ sym q

last_line_one : (κs : _) (a : _) (r r' : _) (s s' : _) → last_line_reads.Post κs a r s → last_line_reads.Post κs a r' s' → r ≡ r'
last_line_one κs a r r' s s' p q = p ∙ sym q
