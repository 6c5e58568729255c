-- Each refusal is the definition's, before anything is stored; else the length, the header and the text are stored one behind the other.
use Prim.Native.Nat.{ℕ, ◌+◌, ◌-◌, ◌≤◌, ◌<◌}
use mathlib.Core.Bool.{Bool, true, false, cond}
use lib.Dec.{eqb}
use Rattle.std.proofs.lemmas.Result.{err_from_is_err_and}
use Rattle.refusal.proofs.Once.{some_number}
use mathlib.Core.Path.{◌≡◌, refl, sym, ap, ◌∙◌}
use mathlib.Core.List.{List, ◌++◌}
use native.Mathlib.Omega.{arith}
use borrow.Author.Tests.{le-leb, lt-leb}
use lib.ListN.{length, take, drop, length-append}
use lib.Seq.{sets, length-sets, length-take-le}
use Rattle.wire.specs.Number.{bytes_of}
use Rattle.wire.proofs.Numbers.{length_bytes}
use Rattle.wire.proofs.Stores.{part_sets}
use Rattle.frame.specs.declared.Header.{Header}
use Rattle.frame.specs.Header.{header_bytes}
use Rattle.frame.specs.Frame.{frame_of, written_of, kind_number}
use Rattle.frame.proofs.Laws.{bytes_length}
use Rattle.frame.proofs.Runs.{three_runs}
use Rattle.frame.proofs.write.Goals as goal

-- the output once the length and the header are stored
abbrev begun : List ℕ → List ℕ → List ℕ → List ℕ
begun o x y = take 4 (x ++ drop 4 o) ++ (y ++ drop 10 (drop 4 (x ++ drop 4 o)))

begun_sets : (o x y : List ℕ) → length x ≡ 4 → length y ≡ 10 → 14 ≤ length o → begun o x y ≡ sets (sets o 0 x) 4 y
begun_sets o x y a b h =
    let e : x ++ drop 4 o ≡ sets o 0 x = part_sets o x 0 4 a (omega (arith, h)) in
    part_sets (x ++ drop 4 o) y 4 10 b (omega (arith, h, ap length e, length-sets o 0 x)) ∙ ap (λ (s : List ℕ). sets s 4 y) e

begun_length : (o x y : List ℕ) → length x ≡ 4 → length y ≡ 10 → 14 ≤ length o → length (begun o x y) ≡ length o
begun_length o x y a b h = ap length (begun_sets o x y a b h) ∙ length-sets (sets o 0 x) 4 y ∙ length-sets o 0 x

-- and once the text is
ended : (o x y z : List ℕ) (size : ℕ) → length x ≡ 4 → length y ≡ 10 → size ≡ 14 + length z → size ≤ length o
    → take 14 (begun o x y) ++ (z ++ drop (size - 14) (drop 14 (begun o x y))) ≡ (x ++ (y ++ z)) ++ drop size o
ended o x y z size a b e h =
    let l = begun_length o x y a b (omega (arith, e, h)) in
    let m : length (x ++ (y ++ z)) ≡ size = simp length-append (omega (arith, a, b, e)) in
    part_sets (begun o x y) z 14 (size - 14) (omega (arith, e)) (omega (arith, e, h, l))
    ∙ ap (λ (s : List ℕ). sets s 14 z) (begun_sets o x y a b (omega (arith, e, h)))
    ∙ three_runs o x y z 4 14 a (omega (arith, b))
    ∙ sym (part_sets o (x ++ (y ++ z)) 0 size m (omega (arith, h)))

put : (o x y z text : List ℕ) (h : Header) (size : ℕ) → size ≡ 14 + length text → size ≤ length o
    → x ≡ bytes_of (length (take 4 o)) (10 + length text)
    → y ≡ header_bytes h
    → z ≡ text
    → take 14 (begun o x y) ++ (z ++ drop (size - 14) (drop 14 (begun o x y))) ≡ frame_of h text ++ drop size o
unfolding frame_of
put o x y z text h size e r p q last =
    let n = 10 + length text in
    let four : length (take 4 o) ≡ 4 = length-take-le 4 o (omega (arith, e, r)) in
    let first : x ≡ bytes_of 4 n = p ∙ ap (λ (j : ℕ). bytes_of j n) four in
    let a : length x ≡ 4 = ap length first ∙ length_bytes 4 n in
    let b : length y ≡ 10 = ap length q ∙ bytes_length h in
    let w : x ++ (y ++ z) ≡ bytes_of 4 n ++ (header_bytes h ++ text) = rw (first, q, last) in
    ended o x y z size a b (e ∙ ap (λ (s : List ℕ). 14 + length s) (sym last)) r ∙ ap (λ (s : List ℕ). s ++ drop size o) w

-- a kind that is not in order is 12
twelve : (stype n k : ℕ) → k ≡ kind_number stype n → 0 < k → (kind_number stype n ≡ 12) × (k ≡ 12)
unfolding kind_number
twelve stype n k e h = go (eqb stype 0) (eqb n 10) e
  where
    go : (a b : Bool) → k ≡ cond a 0 (cond b 0 12) → ◌≡◌ {A = ℕ} (cond a 0 (cond b 0 12)) 12 × (k ≡ 12)
    go true b e = absurd (omega arith)
    go false true e = absurd (omega arith)
    go false false e = (refl, e)

pub returns-then-text-gt-LONGEST : goal.returns-then-text-gt-LONGEST
unfolding written_of
returns-then-text-gt-LONGEST c = (rw (lt-leb _ _ c.if-text-gt-LONGEST.true), refl)

pub returns-in_err-judge_kind : goal.returns-in_err-judge_kind
unfolding written_of
returns-in_err-judge_kind c =
    let p = err_from_is_err_and c.from_residual.result c.from_residual.ensures.1 in
    let (q, t) = twelve c.args.h.stype (10 + length c.args.text.now) _ c.in_err-judge_kind.ensures (some_number _) in
    rw (p.1, p.2, le-leb _ _ c.if-text-gt-LONGEST.false, q, t) (refl, refl)

pub returns-then-out-size : goal.returns-then-out-size
unfolding written_of
returns-then-out-size c =
    let short = lt-leb (14 + length c.args.text.now) (length c.args.out.now) (omega (arith, c.if-out-size.true)) in
    (rw (le-leb _ _ c.if-text-gt-LONGEST.false, ← c.in_ok-judge_kind.ensures, short), refl)

pub returns : goal.returns
unfolding written_of
returns c =
    let a = c.args in
    let size = 4 + (10 + length a.text.now) in
    let e : size ≡ 14 + length a.text.now = omega arith in
    let r : size ≤ length a.out.now = omega (arith, c.if-out-size.false) in (
      rw (le-leb _ _ c.if-text-gt-LONGEST.false, ← c.in_ok-judge_kind.ensures, ← e, le-leb _ _ r),
      put a.out.now _ _ _ a.text.now a.h size e r c.put.ensures (c.copy_from_slice.ensures.after ∙ c.from.ensures) c.copy_from_slice-2.ensures.after,
    )
