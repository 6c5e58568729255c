-- Two outcomes that a promise permits for the same call are equal: each is the one that the definition gives.
use mathlib.Core.Path.{◌≡◌, sym, ◌∙◌}
use Rattle.records.proofs.field_at.Reads as field_at_reads
use Rattle.records.proofs.ten_in.Reads as ten_in_reads
use Rattle.records.proofs.words_in.Reads as words_in_reads
use Rattle.records.proofs.line_end.Reads as line_end_reads
use Rattle.records.proofs.room.Reads as room_reads
use Rattle.records.proofs.blank.Reads as blank_reads

field_at_one : (g : _) (t : _) (κs : _) (a : _) (r r' : _) (s s' : _) → field_at_reads.Post g t κs a r s → field_at_reads.Post g t κs a r' s' → r ≡ r'
field_at_one g t κs a r r' s s' p q = p.0 ∙ sym q.0

ten_in_one : (κs : _) (a : _) (r r' : _) (s s' : _) → ten_in_reads.Post κs a r s → ten_in_reads.Post κs a r' s' → r ≡ r'
ten_in_one κs a r r' s s' p q = p ∙ sym q

words_in_one : (κs : _) (a : _) (r r' : _) (s s' : _) → words_in_reads.Post κs a r s → words_in_reads.Post κs a r' s' → s.1.0.now ≡ s'.1.0.now
words_in_one κs a r r' s s' p q = p ∙ sym q

line_end_one : (κs : _) (a : _) (r r' : _) (s s' : _) → line_end_reads.Post κs a r s → line_end_reads.Post κs a r' s' → r ≡ r'
line_end_one κs a r r' s s' p q = p.0 ∙ sym q.0

room_one : (κs : _) (a : _) (r r' : _) (s s' : _) → room_reads.Post κs a r s → room_reads.Post κs a r' s' → r ≡ r'
room_one κs a r r' s s' p q = p.0 ∙ sym q.0

blank_one : (κs : _) (a : _) (r r' : _) (s s' : _) → blank_reads.Post κs a r s → blank_reads.Post κs a r' s' → r ≡ r'
blank_one κs a r r' s s' p q = p.0 ∙ sym q.0
