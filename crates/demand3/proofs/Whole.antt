-- A whole text in one feed, N being its length, is complete or refused, never more: demand 3 leaves no byte to come.
use Prim.Native.Nat.{ℕ, ◌+◌, ◌*◌, ◌/◌, ◌%◌, ◌≤◌, ◌<◌}
use mathlib.Core.Path.{◌≡◌, refl, sym, ap, subst, ◌∙◌}
use mathlib.Core.Bool.{Bool, true, false, cond}
use mathlib.Core.List.{List, [], ◌∷◌, ◌++◌, append-nil}
use native.Mathlib.Omega.{arith}
use lib.Dec.{eqb, ltb}
use lib.ListN.{length, length-append}
use Rattle.wire.specs.Number.{AtMost}
use Rattle.item.specs.Code.{L, allowed}
use Rattle.item.specs.Item.{Formed}
use Rattle.item.specs.declared.Form.{Form}
use Rattle.reader.specs.State.{state_of, reader_of, fresh}
use Rattle.reader.specs.Step.{known}
use Rattle.reader.specs.Feed.{status, fed_of}
use Rattle.reader.specs.Place.{Role, format_byte, length_byte, content_byte, number_at}
use Rattle.reader.specs.Answer.{Answer, More, Complete, Refusal}
use Rattle.demand3.specs.Begins.{Begins, NumberBehind}
use Rattle.demand3.specs.Feeds.{answer_to}
use Rattle.demand3.specs.Verdict.{Verdict, goes_on, complete, before_any, at_byte, Whole, is_formed, not_formed}
use Rattle.demand3.proofs.Demand3.{demand_3, answers, refused_iff, complete_iff}

abbrev InRange : ℕ → Type 0
InRange n = (1 ≤ n) × (n ≤ 6)

either : (b : Bool) (x y : ℕ) → InRange x → InRange y → InRange (cond b x y)
either true x y h k = h
either false x y h k = k

number_range : (ρ : Role) (b : ℕ) → InRange (number_at ρ b)
unfolding number_at
number_range format_byte b =
    either (known (b / 4)) _ 1 (either (eqb (b % 4) 0) 2 5 (omega arith, omega arith) (omega arith, omega arith)) (omega arith, omega arith)
number_range (length_byte c d j v) b =
    either (ltb 0 j) 5 _ (omega arith, omega arith)
    (either (allowed c _) _ 3
    (either (eqb c L) _ 5
    (either (eqb (v * 256 + b) 0) 5 _ (omega arith, omega arith) (either (eqb d 16) 4 5 (omega arith, omega arith) (omega arith, omega arith)))
    (omega arith, omega arith))
    (omega arith, omega arith))
number_range content_byte b = (omega arith, omega arith)

behind_range : (f : Form) (n : ℕ) (q : List ℕ) (b e : ℕ) → length q < n → Begins f n q → NumberBehind f n q b e → InRange e
behind_range f n q b e h (t, (w, s), l) m = subst InRange (sym (m.says t w s l (omega (arith, length-append q t)))) (number_range _ b)

judged : (f : Form) (t w : List ℕ) (k : ℕ) (a : Answer) → w ≡ t → Verdict f (length t) w k a → Whole f t a
judged f t w k a same v =
    let u = subst (λ (x : List ℕ). Verdict f (length t) x k a) same v in
    go a u u
  where
    go : (a : Answer) → Verdict f (length t) t k a → Verdict f (length t) t k a → Whole f t a
    go a v (goes_on z l b) = absurd (omega arith)
    go a v (complete z l g) = is_formed ((complete_iff f (length t) t k (omega arith) Complete v).0 refl).0
    go a v (before_any z b) = not_formed 5 (omega arith) (omega arith) (λ g. b (t, g, refl))
    go a v (at_byte q b r e z l h p x y) =
        let i = behind_range f (length t) q b e h p y in
        not_formed e i.0 i.1
        (λ g. (refused_iff f (length t) t k (omega arith) (Refusal e) v).0 (e, refl) ([], subst (Formed f) (sym (append-nil t)) g, ap length (append-nil t)))

-- a fresh reader is complete for N=0 alone, so that the one feed is answered by the status after it
answered : (f : Form) (t : List ℕ) → AtMost 0xFF t
    → (fed_of (reader_of (fresh f (length t))) t).answer ≡ status (state_of (fed_of (reader_of (fresh f (length t))) t).reader)
answered f t b = answers f (length t) [] t tt b ∙ go (status (state_of (reader_of (fresh f (length t))))) t refl (demand_3 f (length t) [] tt)
  where
    go : (a : Answer) (u : List ℕ) → u ≡ t → Verdict f (length t) [] 0 a
        → answer_to a u (status (state_of (fed_of (reader_of (fresh f (length t))) t).reader))
        ≡ status (state_of (fed_of (reader_of (fresh f (length t))) t).reader)
    go More u e v = refl
    go Complete [] e v = refl
    go Complete (x ∷ u) e (complete z l g) = absurd (omega (arith, ap length e))
    go (Refusal x) u e v = refl

pub whole_text : (f : Form) (t : List ℕ) → AtMost 0xFF t → Whole f t (fed_of (reader_of (fresh f (length t))) t).answer
whole_text f t b =
    let e : t ++ [] ≡ t = append-nil t in
    let v = demand_3 f (length t) (t ∷ []) (subst (AtMost 0xFF) (sym e) b) in
    subst (Whole f t) (sym (answered f t b)) (judged f t (t ++ []) _ _ e v)
