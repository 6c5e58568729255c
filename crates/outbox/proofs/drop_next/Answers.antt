-- Where there is a next message, the outbox that it comes from holds some, and loses its first; the other stays as it is.
use Rattle.std.proofs.Common.{◌≡◌, ℕ, ◌<◌, List, refl, sym, arith}
use Rattle.std.proofs.lemmas.Result.{err_from_is_err_and}
use borrow.Author.Tests.{eq-eqb, ne_eqb}
use Rattle.refusal.proofs.Once.{some_number}
use Rattle.outbox.specs.Dropped.{Refused}
use Rattle.outbox.specs.Outbox.{next_number, drop_of}
use Rattle.outbox.proofs.Held.{next_is}
use Rattle.outbox.proofs.drop_next.Goals as goal

refused : (c : List ℕ) (m : ℕ) (d : List ℕ) (n e : ℕ) → e ≡ next_number c m d n → 0 < e → Refused e ≡ drop_of c m d n
unfolding drop_of
refused c m d n e q h = rw (← q, ne_eqb e 0 (λ z. omega arith))

pub returns-in_err-judge_next : goal.returns-in_err-judge_next
returns-in_err-judge_next c =
    let p = err_from_is_err_and c.from_residual.result c.from_residual.ensures.1 in
    rw (p.1, p.2) (refused _ _ _ _ _ c.in_err-judge_next.ensures (some_number _), refl, refl)

pub drop_first-requires : goal.drop_first-requires
drop_first-requires c =
    let t = next_is _ _ _ _ (sym c.in_ok-judge_next.ensures) in
    (t.«data», t.some c.if-cused-eq0.true)

pub drop_first-requires-else-cused-eq0 : goal.drop_first-requires-else-cused-eq0
drop_first-requires-else-cused-eq0 c = ((next_is _ _ _ _ (sym c.in_ok-judge_next.ensures)).control, omega (arith, c.if-cused-eq0.false))

pub returns-then-cused-eq0 : goal.returns-then-cused-eq0
unfolding drop_of
returns-then-cused-eq0 c = (rw (← c.in_ok-judge_next.ensures, eq-eqb _ _ c.if-cused-eq0.true, c.drop_first.ensures.0), refl, c.drop_first.ensures.1)

pub returns-else-cused-eq0 : goal.returns-else-cused-eq0
unfolding drop_of
returns-else-cused-eq0 c = (
  rw (← c.in_ok-judge_next.ensures, ne_eqb _ _ c.if-cused-eq0.false, c.drop_first-else-cused-eq0.ensures.0),
  c.drop_first-else-cused-eq0.ensures.1,
  refl,
)
