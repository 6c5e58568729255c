-- Laws of a search, over any elements and any test: what it comes to is the first that passes, and where it comes to the end nothing does.
use Prim.Native.Nat.{ℕ, zero, suc, ◌+◌, ◌≤◌, ◌<◌}
use mathlib.Core.List.{List, [], ◌∷◌}
use mathlib.Core.Bool.{Bool, true, false, false≢true, cond}
use mathlib.Core.Path.{◌≡◌, refl, ap, sym, ◌∙◌}
use native.Mathlib.Nat.{not-suc-le-zero, le_of_suc-le-suc}
use native.Mathlib.Decide.{dec_lt}
use native.Mathlib.Numerals.{add-one}
use native.Mathlib.Omega.{arith}
use lib.ListN.{length, get_or, drop, set, drop_of_length-le}
use lib.Seq.{drop-cons, set_out}
use Rattle.wire.specs.Search.{first_at}

-- a search comes no farther than the end
most_step : (b : Bool) (k n : ℕ) → k ≤ n → cond b 0 (suc k) ≤ suc n
most_step true k n h = omega arith
most_step false k n h = omega arith

module _ {A : Type 0} (test : A → Bool) where
  pub first_most : (l : List A) → first_at test l ≤ length l
  unfolding first_at
  first_most [] = omega arith
  first_most (x ∷ l) = most_step (test x) (first_at test l) (length l) (first_most l)

  pub first_end : (l : List A) (i : ℕ) → length l ≤ i → first_at test (drop i l) ≡ 0
  unfolding first_at
  first_end l i h = rw (drop_of_length-le l h)

-- ---- from element to element; d is what a place behind the end has

module _ {A : Type 0} (test : A → Bool) (d : A) where
  pub first_here : (l : List A) (i : ℕ) → i < length l → test (get_or l i d) ≡ true → first_at test (drop i l) ≡ 0
  unfolding first_at
  first_here l i h e = rw (drop-cons l i d h, e)

  pub first_next : (l : List A) (i : ℕ) → i < length l → test (get_or l i d) ≡ false → i + first_at test (drop i l) ≡ (i + 1) + first_at test (drop (i + 1) l)
  unfolding first_at
  first_next l i h e = rw (drop-cons l i d h, e, add-one) (omega arith)

  -- ---- the first that passes

  passes_step : (x : A) (l : List A) (b : Bool) → test x ≡ b → cond b 0 (suc (first_at test l)) < suc (length l)
      → (first_at test l < length l → test (get_or l (first_at test l) d) ≡ true)
      → test (get_or (x ∷ l) (cond b 0 (suc (first_at test l))) d) ≡ true
  passes_step x l true e h f = e
  passes_step x l false e h f = f (le_of_suc-le-suc h)

  before_step : (x : A) (l : List A) (b : Bool) (i : ℕ) → test x ≡ b → i < cond b 0 (suc (first_at test l))
      → ((j : ℕ) → j < first_at test l → test (get_or l j d) ≡ false)
      → test (get_or (x ∷ l) i d) ≡ false
  before_step x l true i e h f = absurd (not-suc-le-zero h)
  before_step x l false zero e h f = e
  before_step x l false (suc i) e h f = f i (le_of_suc-le-suc h)

  pub first_passes : (l : List A) → first_at test l < length l → test (get_or l (first_at test l) d) ≡ true
  unfolding first_at
  first_passes [] h = absurd (not-suc-le-zero h)
  first_passes (x ∷ l) h = passes_step x l (test x) refl h (λ k. first_passes l k)

  pub first_before : (l : List A) (i : ℕ) → i < first_at test l → test (get_or l i d) ≡ false
  unfolding first_at
  first_before [] i h = absurd (not-suc-le-zero h)
  first_before (x ∷ l) i h = before_step x l (test x) i refl h (λ j k. first_before l j k)

  module _ (l : List A) where
    pub first_least : (i : ℕ) → test (get_or l i d) ≡ true → first_at test l ≤ i
    first_least i e = go (dec_lt i (first_at test l))
      where
        go : Dec (i < first_at test l) → first_at test l ≤ i
        go (yes h) = absurd (false≢true (sym (first_before l i h) ∙ e))
        go (no h) = omega arith

    -- ---- none

    pub none_by : ((i : ℕ) → i < length l → test (get_or l i d) ≡ false) → first_at test l ≡ length l
    none_by f = go (dec_lt (first_at test l) (length l))
      where
        go : Dec (first_at test l < length l) → first_at test l ≡ length l
        go (yes h) = absurd (false≢true (sym (f (first_at test l) h) ∙ first_passes l h))
        go (no h) = omega (arith, first_most test l)

    pub none_at : first_at test l ≡ length l → (i : ℕ) → i < length l → test (get_or l i d) ≡ false
    none_at e i h = first_before l i (omega arith)

-- ---- another element is stored

module _ {A : Type 0} (test : A → Bool) (x : A) (e : test x ≡ false) where
  first_step : (b : Bool) (n : ℕ) → (0 ≡ cond b 0 (suc n) → ⊥) → suc n ≡ cond b 0 (suc n)
  first_step true n h = absurd (h refl)
  first_step false n h = refl

  later_step : (b : Bool) (at m n : ℕ) → (suc at ≡ cond b 0 (suc n) → ⊥) → ((at ≡ n → ⊥) → m ≡ n) → cond b 0 (suc m) ≡ cond b 0 (suc n)
  later_step true at m n h f = refl
  later_step false at m n h f = ap suc (f (λ w. h (ap suc w)))

  -- one that does not pass, stored elsewhere than at the place that is found
  pub stored_other : (l : List A) (at : ℕ) → (at ≡ first_at test l → ⊥) → first_at test (set l at x) ≡ first_at test l
  unfolding first_at
  stored_other [] at h = refl
  stored_other (y ∷ l) zero h = rw e (first_step (test y) (first_at test l) h)
  stored_other (y ∷ l) (suc at) h = later_step (test y) at (first_at test (set l at x)) (first_at test l) h (λ w. stored_other l at w)

  pub stored_none : (l : List A) (at : ℕ) → first_at test l ≡ length l → first_at test (set l at x) ≡ length l
  stored_none l at none = go (dec_lt at (length l))
    where
      go : Dec (at < length l) → first_at test (set l at x) ≡ length l
      go (yes h) = stored_other l at (λ w. omega arith) ∙ none
      go (no h) = ap (first_at test) (set_out l at x (omega arith)) ∙ none

-- one that passes, stored where none did
module _ {A : Type 0} (test : A → Bool) (x : A) (e : test x ≡ true) where
  here_step : (b : Bool) (k m n at : ℕ) → cond b 0 (suc n) ≡ suc m → (n ≡ m → k ≡ at) → cond b 0 (suc k) ≡ suc at
  here_step true k m n at none f = absurd (omega arith)
  here_step false k m n at none f = ap suc (f (omega arith))

  pub stored_here : (l : List A) (at : ℕ) → at < length l → first_at test l ≡ length l → first_at test (set l at x) ≡ at
  unfolding first_at
  stored_here [] at h none = absurd (not-suc-le-zero h)
  stored_here (y ∷ l) zero h none = rw e
  stored_here (y ∷ l) (suc at) h none =
      here_step (test y) (first_at test (set l at x)) (length l) (first_at test l) at none (λ w. stored_here l at (le_of_suc-le-suc h) w)
