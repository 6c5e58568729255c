-- A frame more is passed over, and where none stands next, all is whole frames just where nothing is left.
use Rattle.std.proofs.Common.{◌≡◌, ℕ, ◌-◌, ◌≤◌, ◌<◌, Bool, true, false, cond, eqb}
use Rattle.std.proofs.Common.{List, [], ◌∷◌, length, take, drop, Option, Some, None, refl, sym, ap, ◌∙◌, arith}
use Rattle.std.proofs.lemmas.List.{take_rest}
use lib.ListN.{length-drop}
use borrow.Author.Tests.{eqb-true, eqb-false, ne_eqb}
use Rattle.outbox.specs.Outbox.{front_size, size_there, whole_from}
use Rattle.outbox.proofs.Fronts.{sized, not_whole}
use Rattle.outbox.proofs.whole.Goals as goal

-- a frame of n bytes stands at the front
record Turn (s : List ℕ) (n : ℕ) : Type 0 where
  within : n ≤ length s
  smaller : length (take (length s - n) (drop n s)) < length s
  whole : whole_from 0 (take (length s - n) (drop n s)) ≡ whole_from 0 s

turn : (s : List ℕ) (n : ℕ) → Some n ≡ size_there (front_size s) → Turn s n
turn s n e = go (eqb (front_size s) 0) refl e
  where
    go : (b : Bool) → eqb (front_size s) 0 ≡ b → ◌≡◌ {A = Option ℕ} (Some n) (cond b None (Some (front_size s))) → Turn s n
    go true p q = absurd (cc)
    go false p q =
        let f = sized s (eqb-false (front_size s) 0 p) in
        let is : n ≡ front_size s = cc in
        let size = is ∙ f.size in
        record {
          within = omega (arith, size, f.within);
          smaller = rw (take_rest s n, length-drop n s) (omega (arith, size, f.within));
          whole = ap (whole_from 0) (take_rest s n) ∙ ap (λ (k : ℕ). whole_from 0 (drop k s)) size ∙ sym f.on;
        }

none : (s : List ℕ) → None ≡ size_there (front_size s) → front_size s ≡ 0
none s e = go (eqb (front_size s) 0) refl e
  where
    go : (b : Bool) → eqb (front_size s) 0 ≡ b → ◌≡◌ {A = Option ℕ} None (cond b None (Some (front_size s))) → front_size s ≡ 0
    go true p q = eqb-true (front_size s) 0 p
    go false p q = absurd (cc)

ended : (s : List ℕ) → front_size s ≡ 0 → eqb (length s) 0 ≡ whole_from 0 s
unfolding whole_from
ended [] e = refl
ended (b ∷ s) e = ne_eqb (length (b ∷ s)) 0 (λ z. omega arith) ∙ sym (not_whole (b ∷ s) e (omega arith))

pub slice_bounds-rest-count : goal.slice_bounds-rest-count
slice_bounds-rest-count c = (turn _ _ c.in-Some.ensures).within

pub slice_bounds-rest-start : goal.slice_bounds-rest-start
slice_bounds-rest-start c = omega (arith, (turn _ _ c.in-Some.ensures).within)

pub loop-size-smaller : goal.loop-size-smaller
loop-size-smaller c = (turn _ _ c.in-Some.ensures).smaller

pub loop-size-preserved : goal.loop-size-preserved
loop-size-preserved c = (turn _ _ c.in-Some.ensures).whole ∙ c.loop-size.invariant

pub returns : goal.returns
returns c = c.is_empty.ensures ∙ ended _ (none _ c.in_default.ensures) ∙ c.loop-size.invariant
