-- Two outcomes that a promise permits for the same call are equal: each is the one that the definition gives.
use mathlib.Core.Path.{◌≡◌, sym, ap, ◌∙◌, refl}
use mathlib.Core.List.{List}
use mathlib.Core.Bool.{Bool, true, false}
use Prim.Native.Nat.{ℕ}
use Rattle.std.specs.Prelude.{Option, Some, None, MatchOption}
use Rattle.rows.proofs.RowFromArrayU323.from.Reads as row_from_reads
use Rattle.rows.proofs.ArrayU323FromRow.from.Reads as numbers_from_reads
use Rattle.rows.proofs.Row.part_of.Reads as part_of_reads
use Rattle.rows.proofs.Row.content_size.Reads as content_size_reads
use Rattle.rows.proofs.Row.lean_size.Reads as lean_size_reads

row_from_one : (κs : _) (a : _) (r r' : _) (s s' : _) → row_from_reads.Post κs a r s → row_from_reads.Post κs a r' s' → r ≡ r'
row_from_one κs a r r' s s' p q = p ∙ sym q

numbers_from_one : (κs : _) (a : _) (r r' : _) (s s' : _) → numbers_from_reads.Post κs a r s → numbers_from_reads.Post κs a r' s' → r ≡ r'
numbers_from_one κs a r r' s s' p q = p ∙ sym q

-- what a part that may be there says
abbrev seen : {A : Type 0} → (A → List ℕ) → Option A → Option (List ℕ)
seen f None = None
seen f (Some x) = Some (f x)

same_part : {A : Type 0} (f : A → List ℕ) (b : Bool) (l : List ℕ) (r r' : Option A)
    → MatchOption r (b ≡ false) (λ x. (b ≡ true) × (f x ≡ l)) → MatchOption r' (b ≡ false) (λ x. (b ≡ true) × (f x ≡ l)) → seen f r ≡ seen f r'
same_part f b l None None p q = refl
same_part f b l None (Some y) p q = absurd cc
same_part f b l (Some x) None p q = absurd cc
same_part f b l (Some x) (Some y) p q = ap Some (p.1 ∙ sym q.1)

part_of_one : (κs : _) (a : _) (r r' : _) (s s' : _) → part_of_reads.Post κs a r s → part_of_reads.Post κs a r' s'
    → seen (λ x. x.now) r ≡ seen (λ x. x.now) r'
part_of_one κs a r r' s s' p q = same_part (λ x. x.now) _ _ r r' p q

content_size_one : (κs : _) (a : _) (r r' : _) (s s' : _) → content_size_reads.Post κs a r s → content_size_reads.Post κs a r' s' → r ≡ r'
content_size_one κs a r r' s s' p q = p ∙ sym q

lean_size_one : (κs : _) (a : _) (r r' : _) (s s' : _) → lean_size_reads.Post κs a r s → lean_size_reads.Post κs a r' s' → r ≡ r'
lean_size_one κs a r r' s s' p q = p ∙ sym q
