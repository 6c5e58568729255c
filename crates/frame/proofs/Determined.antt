-- Two outcomes that a promise permits for the same call are equal: each is the one that the definition gives.
use mathlib.Core.Path.{◌≡◌, sym, ap, ◌∙◌}
use Rattle.refusal.specs.Answer.{Counted, counted_in}
use Rattle.refusal.proofs.Once.{one_answer, one_count}
use Rattle.wire.specs.Lent.{out_after}
use Rattle.frame.specs.Frame.{frame_of}
use Rattle.frame.proofs.HeaderFromArrayU810.from.Reads as header_reads
use Rattle.frame.proofs.ArrayU810FromHeader.from.Reads as bytes_reads
use Rattle.frame.proofs.Header.wants_reply.Reads as wants_reply_reads
use Rattle.frame.proofs.Header.stream.Reads as stream_reads
use Rattle.frame.proofs.data_header.Reads as data_header_reads
use Rattle.frame.proofs.length_in.Reads as length_in_reads
use Rattle.frame.proofs.judge_length.Reads as judge_length_reads
use Rattle.frame.proofs.judge_kind.Reads as judge_kind_reads
use Rattle.frame.proofs.write.Reads as write_reads

header_one : (κs : _) (a : _) (r r' : _) (s s' : _) → header_reads.Post κs a r s → header_reads.Post κs a r' s' → r ≡ r'
header_one κs a r r' s s' p q = p ∙ sym q

bytes_one : (κs : _) (a : _) (r r' : _) (s s' : _) → bytes_reads.Post κs a r s → bytes_reads.Post κs a r' s' → r ≡ r'
bytes_one κs a r r' s s' p q = p ∙ sym q

wants_reply_one : (κs : _) (a : _) (r r' : _) (s s' : _) → wants_reply_reads.Post κs a r s → wants_reply_reads.Post κs a r' s' → r ≡ r'
wants_reply_one κs a r r' s s' p q = p ∙ sym q

stream_one : (κs : _) (a : _) (r r' : _) (s s' : _) → stream_reads.Post κs a r s → stream_reads.Post κs a r' s' → r ≡ r'
stream_one κs a r r' s s' p q = p ∙ sym q

data_header_one : (κs : _) (a : _) (r r' : _) (s s' : _) → data_header_reads.Post κs a r s → data_header_reads.Post κs a r' s' → r ≡ r'
data_header_one κs a r r' s s' p q = p ∙ sym q

judge_length_one : (κs : _) (a : _) (r r' : _) (s s' : _) → judge_length_reads.Post κs a r s → judge_length_reads.Post κs a r' s' → r ≡ r'
judge_length_one κs a r r' s s' p q = one_answer r r' (p ∙ sym q)

judge_kind_one : (κs : _) (a : _) (r r' : _) (s s' : _) → judge_kind_reads.Post κs a r s → judge_kind_reads.Post κs a r' s' → r ≡ r'
judge_kind_one κs a r r' s s' p q = one_answer r r' (p ∙ sym q)

write_one :
    (κs : _) (a : _) (r r' : _) (s s' : _) → write_reads.Post κs a r s → write_reads.Post κs a r' s'
    → (r ≡ r') × (s.1.1.0.now ≡ s'.1.1.0.now)
write_one κs a r r' s s' p q =
    let e : counted_in r ≡ counted_in r' = p.0 ∙ sym q.0 in
    (one_count r r' e, p.1 ∙ ap (λ (x : Counted). out_after x (frame_of a.0 a.1.0.now) a.1.1.0.now) e ∙ sym q.1)

length_in_one : (κs : _) (a : _) (r r' : _) (s s' : _) → length_in_reads.Post κs a r s → length_in_reads.Post κs a r' s' → r ≡ r'
length_in_one κs a r r' s s' p q = p.0 ∙ sym q.0
