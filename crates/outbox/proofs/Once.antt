-- What the definitions are given tells what a drop answered.
use Rattle.std.specs.Prelude.{◌≡◌, ℕ, Result, Ok, Err}
use Rattle.std.proofs.Common.{refl, sym, ap, ◌∙◌, arith}
use Rattle.refusal.specs.declared.Refusal as refusal
use Rattle.refusal.proofs.Once.{some_number, one_refusal}
use Rattle.outbox.specs.declared.Dropped as answered
use Rattle.outbox.specs.declared.Dropped.TheVariants as A
use Rattle.outbox.specs.Dropped.{Dropped, Control, Data, Refused, dropped_in}

-- what was dropped, and the refusal's number; of the other kind, any
abbrev answered_at : Dropped → answered.Dropped
answered_at (Control n) = A.Control n
answered_at (Data n) = A.Data n
answered_at (Refused e) = A.Control e

abbrev refused_at : Dropped → ℕ
refused_at (Control n) = 0
refused_at (Data n) = 0
refused_at (Refused e) = e

at_answered : (x : answered.Dropped) → answered_at (dropped_in (Ok x)) ≡ x
at_answered (A.Control n) = refl
at_answered (A.Data n) = refl

none_refused : (x : answered.Dropped) → refused_at (dropped_in (Ok x)) ≡ 0
none_refused (A.Control n) = refl
none_refused (A.Data n) = refl

pub one_dropped : (r s : Result answered.Dropped refusal.Refusal) → dropped_in r ≡ dropped_in s → r ≡ s
one_dropped (Ok x) (Ok y) e = ap Ok (sym (at_answered x) ∙ ap answered_at e ∙ at_answered y)
one_dropped (Err d) (Err f) e = ap Err (one_refusal d f (ap refused_at e))
one_dropped (Ok x) (Err f) e = absurd (omega (arith, some_number f, sym (none_refused x) ∙ ap refused_at e))
one_dropped (Err d) (Ok y) e = absurd (omega (arith, some_number d, ap refused_at e ∙ none_refused y))
