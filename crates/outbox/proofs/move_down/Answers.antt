-- What stands behind the message is copied to the front, and 00 over what it leaves.
use Rattle.std.proofs.Common.{◌≡◌, ℕ, ◌+◌, ◌-◌, ◌≤◌, List, ◌++◌, length, take, drop, replicate, sym, ap, ◌∙◌, arith, zero-add}
use Rattle.std.proofs.lemmas.List.{drop-take}
use lib.ListN.{length-drop}
use lib.Seq.{take_at, drop_at, drop-drop, length-take-le}
use Rattle.outbox.specs.Outbox.{moved}
use Rattle.outbox.proofs.move_down.Goals as goal

-- of used bytes m stand behind the message; y is the outbox with these copied, x the part that is filled
cleared : (s y x : List ℕ) (size used m : ℕ) → m + size ≡ used → used ≤ length s → length y ≡ length s
    → y ≡ take m (drop size s) ++ drop (0 + m) s → x ≡ replicate (length (take (used - m) (drop m y))) 0
    → take m y ++ (x ++ drop (used - m) (drop m y)) ≡ moved s size used
unfolding moved
cleared s y x size used m h k l q e =
    let low : List ℕ = take m (drop size s) in
    let n : length low ≡ m = length-take-le m (drop size s) (omega (arith, length-drop size s)) in
    let whole : y ≡ low ++ drop m s = q ∙ ap (λ (j : ℕ). low ++ drop j s) (zero-add m) in
    let z : length (take (used - m) (drop m y)) ≡ size = length-take-le (used - m) (drop m y) (omega (arith, length-drop m y)) ∙ omega arith in
    let a : size + m ≡ used = omega arith in
    let b : m + (used - m) ≡ used = omega arith in
    let front : take m y ≡ drop size (take used s)
    = ap (take m) whole ∙ take_at low (drop m s) m n ∙ sym (drop-take size m s) ∙ ap (λ (j : ℕ). drop size (take j s)) a in
    let back : drop (used - m) (drop m y) ≡ drop used s =
    ap (λ (t : List ℕ). drop (used - m) (drop m t)) whole
    ∙ ap (drop (used - m)) (drop_at low (drop m s) m n)
    ∙ drop-drop (used - m) m s
    ∙ ap (λ (j : ℕ). drop j s) b in
    rw (front, back, e, z)

pub returns : goal.returns
returns c =
    let filled = c.copy_within.ensures in
    cleared c.args.s.now _ _ c.args.size c.args.used _ (omega (arith, c.requires.0)) c.requires.1 filled.len filled.after (c.fill.ensures.after (λ y e. e))
