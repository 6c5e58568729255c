-- The tests are the definition's; where all are passed the frame covers the part that was lent for it.
use Rattle.std.proofs.Common.{◌≡◌, ℕ, ◌+◌, ◌-◌, ◌≤◌, ◌<◌, true, List, ◌++◌, length, take, drop, refl, sym, ap, ap₂, ◌∙◌, arith}
use Rattle.std.proofs.lemmas.Result.{err_from_is_err_and}
use borrow.Author.Tests.{ne_eqb, le-leb, lt-leb}
use lib.Seq.{drop-drop}
use Rattle.refusal.specs.Answer.{Refused, Is}
use Rattle.refusal.proofs.Once.{some_number}
use Rattle.outbox.specs.Outbox.{frame_number, holds, append_of}
use Rattle.outbox.proofs.Held.{held}
use Rattle.outbox.proofs.append.Goals as goal

refused : (s : List ℕ) (used : ℕ) (f : List ℕ) (e : ℕ) → holds s used ≡ true → e ≡ frame_number f → 0 < e → Refused e ≡ append_of s used f
unfolding append_of
refused s used f e w q h = rw (w, ← q, ne_eqb e 0 (λ z. omega arith))

no_room : (s : List ℕ) (used : ℕ) (f : List ℕ) → holds s used ≡ true → 0 ≡ frame_number f → length s - used < length f → Refused 40 ≡ append_of s used f
unfolding append_of
no_room s used f w q h = rw (w, ← q, lt-leb (length f) (length s - used) h)

appended : (s : List ℕ) (used : ℕ) (f : List ℕ) → holds s used ≡ true → 0 ≡ frame_number f → length f ≤ length s - used
    → Is (used + length f) ≡ append_of s used f
unfolding append_of
appended s used f w q h = rw (w, ← q, le-leb (length f) (length s - used) h)

-- the frame behind the used bytes, when the part lent for it has come back
placed : (s f x : List ℕ) (used : ℕ) → x ≡ f
    → take used s ++ (x ++ drop (used + length f - used) (drop used s)) ≡ take used s ++ (f ++ drop (used + length f) s)
placed s f x used e =
    let z : used + (used + length f - used) ≡ used + length f = omega arith in
    ap₂ (λ (y v : List ℕ). take used s ++ (y ++ v)) e (drop-drop (used + length f - used) used s ∙ ap (λ (k : ℕ). drop k s) z)

pub returns-then-not-is_whole : goal.returns-then-not-is_whole
unfolding append_of
returns-then-not-is_whole c = (rw (sym c.is_whole.ensures ∙ c.if-not-is_whole.true), refl)

pub returns-in_err-judge_frame : goal.returns-in_err-judge_frame
returns-in_err-judge_frame c =
    let p = err_from_is_err_and c.from_residual.result c.from_residual.ensures.1 in
    let w = sym c.is_whole.ensures ∙ c.if-not-is_whole.false in
    rw (p.1, p.2) (refused _ _ _ _ w c.in_err-judge_frame.ensures (some_number _), refl)

pub overflow_sub-outbox : goal.overflow_sub-outbox
overflow_sub-outbox c = (held _ _ (sym c.is_whole.ensures ∙ c.if-not-is_whole.false)).0

pub returns-then-outbox-used : goal.returns-then-outbox-used
returns-then-outbox-used c = (no_room _ _ _ (sym c.is_whole.ensures ∙ c.if-not-is_whole.false) c.in_ok-judge_frame.ensures c.if-outbox-used.true, refl)

pub slice_bounds-copy_from_slice-end : goal.slice_bounds-copy_from_slice-end
slice_bounds-copy_from_slice-end c = omega (arith, (held _ _ (sym c.is_whole.ensures ∙ c.if-not-is_whole.false)).0, c.if-outbox-used.false)

pub returns : goal.returns
returns c = (
  appended _ _ _ (sym c.is_whole.ensures ∙ c.if-not-is_whole.false) c.in_ok-judge_frame.ensures c.if-outbox-used.false,
  placed c.args.outbox.now c.args.frame.now _ c.args.used c.copy_from_slice.ensures.after,
)
