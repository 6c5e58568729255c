-- The byte is stored behind those that are held; the fourth is judged by the length, the last with the header, and after any other the head goes on.
use Prim.Native.Nat.{ℕ}
use mathlib.Core.Path.{◌≡◌, refl, sym, ap, ◌∙◌}
use mathlib.Core.List.{[], ◌∷◌, ◌++◌}
use native.Mathlib.Omega.{arith}
use lib.ListN.{length, set}
use Rattle.std.proofs.lemmas.Result.{err_from_is_err_and}
use Rattle.refusal.proofs.Once.{some_number}
use Rattle.frame.specs.Frame.{length_in, length_number}
use Rattle.frames.specs.State.{reader_of}
use Rattle.frames.specs.Feed.{head_number, pushed}
use Rattle.frames.specs.declared.FrameReader.{FrameReader}
use Rattle.frames.proofs.Heads.{number_four, number_other, pushed_refused, pushed_more}
use Rattle.frames.proofs.Held.{bytes_in, filled_whole, Next, next}
use Rattle.frames.proofs.push.Goals as goal
use Rattle.frames.proofs.push.Goals.{then-r-eq3+in_ok-judge_length, else-r-eq3}

-- the number n of the length x that the array says with the fourth byte is the head's
fourth : {r : FrameReader} {b x n : ℕ} → Next r b → r.count ≡ 3 → x ≡ length_in (set r.held r.count b) → n ≡ length_number x
    → n ≡ head_number (bytes_in r ++ (b ∷ []))
fourth m h e f = f ∙ ap length_number (e ∙ m.length_is (omega arith)) ∙ sym (number_four _ (m.size ∙ omega arith))

pub bounds-held-r : goal.bounds-held-r
bounds-held-r c = (next _ c.args.b c.requires).few

pub whole_head-requires : goal.whole_head-requires
whole_head-requires c =
    let n = next c.args.r c.args.b c.requires in
    rw (n.length_is (omega arith)) (n.length_ok (omega arith))

pub returns-then-r-eq13 : goal.returns-then-r-eq13
returns-then-r-eq13 c =
    let n = next c.args.r c.args.b c.requires in
    c.whole_head.ensures ∙ ap pushed (n.array ∙ filled_whole _ (n.size ∙ omega arith))

pub returns-in_err-judge_length : goal.returns-in_err-judge_length
returns-in_err-judge_length c =
    let n = next c.args.r c.args.b c.requires in
    let p = err_from_is_err_and c.from_residual.result c.from_residual.ensures.1 in
    let k = fourth n c.if-r-eq3.true c.length_in.ensures.0 c.in_err-judge_length.ensures in
    rw (p.1, p.2) (pushed_refused _ _ k (λ z. omega (arith, some_number c.in_err-judge_length.field-0.0)))

pub overflow_add-reader : goal.overflow_add-reader
overflow_add-reader c = omega (arith, (next c.args.r c.args.b c.requires).few)

pub returns : goal.returns
unfolding reader_of
returns c =
    let n = next c.args.r c.args.b c.requires in
    let t = bytes_in c.args.r ++ (c.args.b ∷ []) in
    let short : length t ≡ 14 → ⊥ = λ e. c.if-r-eq13.false (omega (arith, e, n.size)) in
    let none : head_number t ≡ 0 =
    elim c.if-r-eq3.branch [
      | then-r-eq3+in_ok-judge_length w ↦ sym (fourth n w.if-r-eq3.true w.length_in.ensures.0 w.in_ok-judge_length.ensures)
      | else-r-eq3 w ↦ number_other t (λ e. w.if-r-eq3.false (omega (arith, e, n.size))) short
    ] in
    rw (n.array, ← pushed_more t none short, n.size) refl
