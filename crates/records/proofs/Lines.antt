-- The lines from a place on: the first comes to the first line end, and the others begin behind that.
use Prim.Native.Nat.{ℕ, zero, suc, ◌+◌, ◌-◌, ◌<◌}
use mathlib.Core.Path.{◌≡◌, refl, ap, ◌∙◌}
use mathlib.Core.Bool.{Bool, true, false, cond}
use mathlib.Core.List.{List, [], ◌∷◌}
use native.Mathlib.Omega.{arith}
use lib.ListN.{length, take, drop, length-drop}
use lib.Seq.{drop-drop}
use Rattle.wire.specs.Search.{first_at}
use Rattle.records.specs.Fields.{ends, line_end}
use Rattle.records.specs.Lines.{before, lines_of}

turn :
    (b : Bool) (c : ℕ) (s : List ℕ) (k : ℕ) → before c (lines_of s) ≡ (c ∷ take k s) ∷ lines_of (drop (suc k) s)
    → cond b ([] ∷ lines_of s) (before c (lines_of s)) ≡ take (cond b zero (suc k)) (c ∷ s) ∷ lines_of (drop (suc (cond b zero (suc k))) (c ∷ s))
turn true c s k e = refl
turn false c s k e = e

first_line : (s : List ℕ) → 0 < length s → lines_of s ≡ take (first_at ends s) s ∷ lines_of (drop (suc (first_at ends s)) s)
unfolding first_at
first_line [] h = absurd (omega (arith, h))
first_line (c ∷ []) h = turn (ends c) c [] 0 refl
first_line (c ∷ d ∷ s) h = turn (ends c) c (d ∷ s) (first_at ends (d ∷ s)) (ap (before c) (first_line (d ∷ s) (omega arith)))

module _ (s : List ℕ) (at : ℕ) (h : at < length s) where
  end_at : line_end s at ≡ at + first_at ends (drop at s)
  unfolding line_end
  end_at = omega (arith, h)

  pub lines_from : lines_of (drop at s) ≡ take (line_end s at - at) (drop at s) ∷ lines_of (drop (line_end s at + 1) s)
  lines_from =
      let k = first_at ends (drop at s) in
      let rest = drop-drop (suc k) at s in
      let to : k ≡ line_end s at - at = omega (arith, end_at) in
      let on : at + suc k ≡ line_end s at + 1 = omega (arith, end_at) in
      first_line (drop at s) (omega (arith, h, length-drop at s))
      ∙ ap (λ (l : List ℕ). take k (drop at s) ∷ lines_of l) (rest ∙ ap (λ (n : ℕ). drop n s) on)
      ∙ ap (λ (n : ℕ). take n (drop at s) ∷ lines_of (drop (line_end s at + 1) s)) to
