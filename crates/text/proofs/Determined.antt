-- Two outcomes that a promise permits for the same call are equal: each is the one that the definition gives.
use mathlib.Core.Path.{◌≡◌, sym, ap, ap₂, ◌∙◌}
use mathlib.Core.List.{List}
use Prim.Native.Nat.{ℕ}
use native.Mathlib.Omega.{arith}
use Rattle.std.specs.Prelude.{Result, Ok, Err, IfOk}
use Rattle.refusal.specs.declared.Refusal.{Refusal}
use Rattle.refusal.specs.Number.{number_of}
use Rattle.refusal.specs.Answer.{Counted, number_in}
use Rattle.refusal.proofs.Once.{some_number, one_refusal, one_answer, one_count}
use Rattle.text.specs.Text.{table_after}
use Rattle.text.specs.Measured.{measured_in}
use Rattle.text.specs.declared.Room.{Room}
use Rattle.text.proofs.judge_as.Reads as judge_as_reads
use Rattle.text.proofs.judge.Reads as judge_reads
use Rattle.text.proofs.measure.Reads as measure_reads
use Rattle.text.proofs.read.Reads as read_reads
use Rattle.text.proofs.part.Reads as part_reads

abbrev room : ℕ → ℕ → Room
room rows bytes = record { rows = rows; bytes = bytes }

one_room : (r s : Result Room Refusal) → measured_in r ≡ measured_in s → r ≡ s
one_room (Ok x) (Ok y) e = let p : x.rows ≡ y.rows = cc in let q : x.bytes ≡ y.bytes = cc in ap₂ (λ (m n : ℕ). Ok (room m n)) p q
one_room (Ok x) (Err g) e = absurd cc
one_room (Err f) (Ok y) e = absurd cc
one_room (Err f) (Err g) e = let q : number_of f ≡ number_of g = cc in ap Err (one_refusal f g q)

judge_as_one : (κs : _) (a : _) (r r' : _) (s s' : _) → judge_as_reads.Post κs a r s → judge_as_reads.Post κs a r' s' → r ≡ r'
judge_as_one κs a r r' s s' p q = one_answer r r' (p ∙ sym q)

judge_one : (κs : _) (a : _) (r r' : _) (s s' : _) → judge_reads.Post κs a r s → judge_reads.Post κs a r' s' → r ≡ r'
judge_one κs a r r' s s' p q = one_answer r r' (p ∙ sym q)

measure_one : (κs : _) (a : _) (r r' : _) (s s' : _) → measure_reads.Post κs a r s → measure_reads.Post κs a r' s' → r ≡ r'
measure_one κs a r r' s s' p q = one_room r r' (p ∙ sym q)

read_one : (κs : _) (a : _) (r r' : _) (s s' : _) → read_reads.Post κs a r s → read_reads.Post κs a r' s' → (r ≡ r') × (s.1.0.now ≡ s'.1.0.now)
read_one κs a r r' s s' p q =
    let e = p.0 ∙ sym q.0 in
    (one_count r r' e, p.1 ∙ ap (λ (x : Counted). table_after x a.0.now a.1.0.now) e ∙ sym q.1)

-- what a part that is not refused says
abbrev seen : {A : Type 0} → (A → List ℕ) → Result A Refusal → Result (List ℕ) Refusal
seen f (Ok x) = Ok (f x)
seen f (Err e) = Err e

same_part : {A : Type 0} (f : A → List ℕ) (n : ℕ) (l : List ℕ) (r r' : Result A Refusal)
    → (number_in r ≡ n) × IfOk r (λ x. f x ≡ l) → (number_in r' ≡ n) × IfOk r' (λ x. f x ≡ l) → seen f r ≡ seen f r'
same_part f n l (Ok x) (Ok y) p q = ap Ok (p.1 ∙ sym q.1)
same_part f n l (Ok x) (Err e) p q = absurd (omega (arith, some_number e, p.0, q.0))
same_part f n l (Err e) (Ok y) p q = absurd (omega (arith, some_number e, p.0, q.0))
same_part f n l (Err d) (Err e) p q = ap Err (one_refusal d e (p.0 ∙ sym q.0))

part_one : (κs : _) (a : _) (r r' : _) (s s' : _) → part_reads.Post κs a r s → part_reads.Post κs a r' s'
    → seen (λ x. x.now) r ≡ seen (λ x. x.now) r'
part_one κs a r r' s s' p q = same_part (λ x. x.now) _ _ r r' p q
