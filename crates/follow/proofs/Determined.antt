-- Two outcomes that a promise permits for the same call are equal: each is the one that the definition gives.
use mathlib.Core.Path.{◌≡◌, sym, ◌∙◌}
use Rattle.follow.proofs.high_part.Reads as high_part_reads
use Rattle.follow.proofs.Rest.fits_items.Reads as fits_items_reads
use Rattle.follow.proofs.may_lead.Reads as may_lead_reads
use Rattle.follow.proofs.Rest.fits_lengths.Reads as fits_lengths_reads

high_part_one : (κs : _) (a : _) (r r' : _) (s s' : _) → high_part_reads.Post κs a r s → high_part_reads.Post κs a r' s' → r ≡ r'
high_part_one κs a r r' s s' p q = p ∙ sym q

fits_items_one : (κs : _) (a : _) (r r' : _) (s s' : _) → fits_items_reads.Post κs a r s → fits_items_reads.Post κs a r' s' → r ≡ r'
fits_items_one κs a r r' s s' p q = p ∙ sym q

may_lead_one : (κs : _) (a : _) (r r' : _) (s s' : _) → may_lead_reads.Post κs a r s → may_lead_reads.Post κs a r' s' → r ≡ r'
may_lead_one κs a r r' s s' p q = p ∙ sym q

fits_lengths_one : (κs : _) (a : _) (r r' : _) (s s' : _) → fits_lengths_reads.Post κs a r s → fits_lengths_reads.Post κs a r' s' → r ≡ r'
fits_lengths_one κs a r r' s s' p q = p ∙ sym q
