-- A frame that append takes is no longer than the bytes, and the part that is judged is the front.
use Rattle.std.proofs.Common.{◌≡◌, ℕ, ◌+◌, ◌<◌, true, false, List, length, take, Some, None, Result, is_ok, sym, ap, ◌∙◌, arith}
use borrow.Author.Tests.{eqb-true, eqb-false, eq-eqb, ne_eqb}
use Rattle.refusal.specs.Answer.{number_in}
use Rattle.refusal.specs.declared.Refusal.{Refusal}
use Rattle.frame.specs.Frame.{length_in}
use Rattle.frame.proofs.Judged.{ok_number}
use Rattle.outbox.specs.Outbox.{frame_number, front, front_size, size_there}
use Rattle.outbox.proofs.Fronts.{no_front}
use Rattle.outbox.proofs.front_size.Goals as goal
use Rattle.outbox.proofs.front_size.Goals.{else-size-s-via-then-size-s+else-is_ok, else-size-s-via-else-size-s}

-- the front is judged by r
taken : (s : List ℕ) (n : ℕ) (r : Result Unit Refusal) → n ≡ length_in s → number_in r ≡ frame_number (take (4 + n) s) → is_ok r ≡ true
    → Some (4 + n) ≡ size_there (front_size s)
unfolding front_size
taken s n r e f o =
    let z : frame_number (front s) ≡ 0 = ap (λ (k : ℕ). frame_number (take (4 + k) s)) (sym e) ∙ sym f ∙ eqb-true (number_in r) 0 (sym (ok_number r) ∙ o) in
    rw (eq-eqb _ _ z, ← e, ne_eqb (4 + n) 0 (λ q. omega (arith, q)))

refused : (s : List ℕ) (n : ℕ) (r : Result Unit Refusal) → n ≡ length_in s → number_in r ≡ frame_number (take (4 + n) s) → is_ok r ≡ false
    → None ≡ size_there (front_size s)
unfolding front_size
refused s n r e f o =
    let z = λ (q : frame_number (front s) ≡ 0). eqb-false (number_in r) 0 (sym (ok_number r) ∙ o) (f ∙ ap (λ (k : ℕ). frame_number (take (4 + k) s)) e ∙ q) in
    rw (ne_eqb _ _ z)

too_short : (s : List ℕ) (n : ℕ) → n ≡ length_in s → length s < 4 + n → None ≡ size_there (front_size s)
too_short s n e h = rw (no_front s (omega arith))

pub returns-then-is_ok : goal.returns-then-is_ok
returns-then-is_ok c =
    taken c.args.s.now _ c.judge_frame.result c.length_in-size.ensures.0 c.judge_frame.ensures (sym c.is_ok.ensures.value ∙ c.if-is_ok.true)

pub returns-else-size-s : goal.returns-else-size-s
returns-else-size-s c =
    elim c.else-size-s.branch [
      | else-size-s-via-then-size-s+else-is_ok w ↦
          refused c.args.s.now _ w.judge_frame.result c.length_in-size.ensures.0 w.judge_frame.ensures (sym w.is_ok.ensures.value ∙ w.if-is_ok.false)
      | else-size-s-via-else-size-s w ↦ too_short c.args.s.now _ c.length_in-size.ensures.0 (omega arith)
    ]
