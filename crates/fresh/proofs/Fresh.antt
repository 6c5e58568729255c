-- The fresh number is not held, since 32 slots and a linktest hold at most 33 of 34 numbers in a row, and every number before it is held.
use Prim.Native.Nat.{ℕ, zero, suc, ◌+◌, ◌-◌, ◌%◌, ◌^◌, ◌≤◌, ◌<◌}
use mathlib.Core.List.{List}
use mathlib.Core.Bool.{Bool, true, false, false≢true, cond}
use mathlib.Core.Path.{◌≡◌, refl, ap, sym, ◌∙◌}
use native.Mathlib.Nat.{zero-add, suc-add, not-suc-le-zero, le_of_suc-le-suc}
use native.Mathlib.Decide.{ℕ_discrete, dec_lt}
use native.Mathlib.Omega.{arith}
use borrow.Author.Tests.{eq-eqb, ne_eqb, eqb-true, le-ltb, ltb-false}
use lib.Dec.{eqb}
use lib.ListN.{length, get_or}
use Rattle.wire.proofs.Choice.{both}
use Rattle.slots.specs.Slots.{free, passes, found_at, is_there, runs}
use Rattle.fresh.specs.Fresh.{is_held, one_more, on, first_of, fresh_of}
use Rattle.slots.specs.declared.Slot.{Slot}
use Rattle.slots.specs.declared.Linktest.{Linktest}
use Rattle.slots.specs.declared.Query.TheVariants.{Named}
use Rattle.slots.proofs.Found.{named_system}
use Rattle.wire.proofs.Search.{first_most, first_passes}
use Rattle.fresh.proofs.Pigeon.{no_one_to_one}

-- ---- numbers in a row

pub one_more_is : (n : ℕ) → n < 2 ^ 32 → one_more n ≡ (n + 1) % 2 ^ 32
unfolding one_more
one_more_is n h = go (ℕ_discrete n (2 ^ 32 - 1))
  where
    go : Dec (n ≡ (2 ^ 32 - 1)) → cond (eqb n (2 ^ 32 - 1)) 0 (n + 1) ≡ (n + 1) % 2 ^ 32
    go (yes e) = rw (eq-eqb n (2 ^ 32 - 1) e) (omega arith)
    go (no e) = rw (ne_eqb n (2 ^ 32 - 1) e) (omega arith)

pub on_is : (k n : ℕ) → n < 2 ^ 32 → on k n ≡ (n + k) % 2 ^ 32
unfolding on
on_is zero n h = omega arith
on_is (suc k) n h =
    let e : one_more n ≡ (n + 1) % 2 ^ 32 = one_more_is n h in
    let r : on k (one_more n) ≡ (one_more n + k) % 2 ^ 32 = on_is k (one_more n) (omega arith) in
    omega arith

-- ---- the first of so many

-- first_of comes to one of the numbers: those before it are held, and it is not, if it is not the last
pub record First (held : ℕ → Bool) (j n : ℕ) : Type 0 where
  pub count : ℕ
  pub few : count ≤ j
  pub is : first_of held j n ≡ on count n
  pub before : (i : ℕ) → i < count → held (on i n) ≡ true
  pub not_held : count < j → held (on count n) ≡ false

module _ (held : ℕ → Bool) where
  here : (j n : ℕ) → first_of held j n ≡ n → (0 < j → held n ≡ false) → First held j n
  unfolding on
  here j n e f =
      record { count = 0; few = omega arith; is = e; before = λ i h. absurd (not-suc-le-zero h); not_held = f }

  first_step : (j n : ℕ) (b : Bool) → held n ≡ b → First held j (one_more n) → First held (suc j) n
  unfolding first_of on
  first_step j n false w r = here (suc j) n (rw w) (λ h. w)
  first_step j n true w r =
      record {
        count = suc r.count;
        few = omega (arith, r.few);
        is = rw w r.is;
        before = λ i h. before i h;
        not_held = λ h. r.not_held (le_of_suc-le-suc h);
      }
    where
      before : (i : ℕ) → i < suc r.count → held (on i n) ≡ true
      before zero h = w
      before (suc i) h = r.before i (le_of_suc-le-suc h)

  pub first : (j n : ℕ) → First held j n
  unfolding first_of
  first zero n = here zero n refl (λ h. absurd (not-suc-le-zero h))
  first (suc j) n = first_step j n (held n) refl (first j (one_more n))

  pub first_here : (j n : ℕ) → held n ≡ false → first_of held j n ≡ n
  unfolding first_of
  first_here zero n e = refl
  first_here (suc j) n e = rw e

  pub first_next : (j k n : ℕ) → j ≡ suc k → held n ≡ true → first_of held j n ≡ first_of held k (one_more n)
  unfolding first_of
  first_next j k n d e = rw (d, e)

  pub first_last : (n : ℕ) → first_of held 0 n ≡ n
  unfolding first_of
  first_last n = refl

  -- more tries come to the same number
  more_step : (j m n : ℕ) (b : Bool) → held n ≡ b → held (cond b (first_of held j (one_more n)) n) ≡ false
      → (held (first_of held j (one_more n)) ≡ false → first_of held (j + m) (one_more n) ≡ first_of held j (one_more n))
      → cond b (first_of held (j + m) (one_more n)) n ≡ cond b (first_of held j (one_more n)) n
  more_step j m n true w e f = f e
  more_step j m n false w e f = refl

  pub first_more : (j m n : ℕ) → held (first_of held j n) ≡ false → first_of held (j + m) n ≡ first_of held j n
  unfolding first_of
  first_more zero m n e = rw zero-add (first_here m n e)
  first_more (suc j) m n e = rw suc-add (more_step j m n (held n) refl e (λ w. first_more j m (one_more n) w))

-- ---- 34 numbers in a row are not all held

runs_system : (t : Linktest) (n : ℕ) → runs t n ≡ true → t.system ≡ n
runs_system t n e = eqb-true t.system n (both t.running (eqb t.system n) e).1

module _ (own : List Slot) (t : Linktest) (size : length own ≡ 32) where
  -- two numbers that are held at one place are equal
  one_holder : (a b : ℕ) → is_held own t a ≡ true → is_held own t b ≡ true → found_at (Named a) own ≡ found_at (Named b) own → a ≡ b
  unfolding is_held
  one_holder a b ha hb e = go (dec_lt (found_at (Named a) own) 32)
    where
      go : Dec (found_at (Named a) own < 32) → a ≡ b
      go (yes h) =
          let s : ℕ → Slot = λ i. get_or own i free in
          let named : (n : ℕ) → found_at (Named n) own < length own → (s (found_at (Named n) own)).system ≡ n =
          λ n k. named_system n (s (found_at (Named n) own)) (first_passes (passes (Named n)) free own k) in
          sym (named a (omega arith)) ∙ ap (λ (i : ℕ). (s i).system) e ∙ named b (omega arith)
      go (no h) =
          let p : runs t a ≡ true = rw (le-ltb (found_at (Named a) own) 32 (omega arith)) at ha in
          let q : runs t b ≡ true = rw (le-ltb (found_at (Named b) own) 32 (omega arith)) at hb in
          sym (runs_system t a p) ∙ runs_system t b q

  not_all : (n : ℕ) → n < 2 ^ 32 → ((i : ℕ) → i ≤ 33 → is_held own t (on i n) ≡ true) → ⊥
  not_all n h f =
      no_one_to_one 33 (λ i. found_at (Named (on i n)) own)
      (λ i hi. omega (arith, first_most (passes (Named (on i n))) own))
      (λ i j hi hj e.
      let z : on i n ≡ on j n = one_holder (on i n) (on j n) (f i hi) (f j hj) e in
      omega (arith, on_is i n h, on_is j n h))

  tries_free : (n : ℕ) → n < 2 ^ 32 → is_held own t (first_of (is_held own t) 33 n) ≡ false
  tries_free n h = ap (is_held own t) r.is ∙ go (dec_lt r.count 33) (is_held own t (on r.count n)) refl
    where
      r : First (is_held own t) 33 n
      r = first (is_held own t) 33 n

      all : is_held own t (on r.count n) ≡ true → (r.count < 33 → ⊥) → (i : ℕ) → i ≤ 33 → Dec (i < r.count) → is_held own t (on i n) ≡ true
      all e k i hi (yes d) = r.before i d
      all e k i hi (no d) =
          let z : i ≡ r.count = omega (arith, r.few) in
          ap (λ (j : ℕ). is_held own t (on j n)) z ∙ e

      go : Dec (r.count < 33) → (b : Bool) → is_held own t (on r.count n) ≡ b → is_held own t (on r.count n) ≡ false
      go (yes k) b e = r.not_held k
      go (no k) false e = e
      go (no k) true e = absurd (not_all n h (λ i hi. all e k i hi (dec_lt i r.count)))

  -- ---- the fresh number

  module _ (next : ℕ) (fits : next < 2 ^ 32) where
    pub fresh_tries : fresh_of own t next ≡ first_of (is_held own t) 33 next
    unfolding fresh_of
    fresh_tries =
        let z : 2 ^ 32 ≡ 33 + (2 ^ 32 - 33) = omega arith in
        ap (λ (j : ℕ). first_of (is_held own t) j next) z ∙ first_more (is_held own t) 33 (2 ^ 32 - 33) next (tries_free next fits)

    pub fresh_free : is_held own t (fresh_of own t next) ≡ false
    fresh_free = ap (is_held own t) fresh_tries ∙ tries_free next fits

    pub fresh_first :
        (k : ℕ) × (k ≤ 33) × (fresh_of own t next ≡ on k next)
        × ((i : ℕ) → i < k → is_held own t (on i next) ≡ true)
    fresh_first =
        let r = first (is_held own t) 33 next in
        (r.count, r.few, fresh_tries ∙ r.is, r.before)

    pub fresh_small : fresh_of own t next < 2 ^ 32
    fresh_small =
        let r = first (is_held own t) 33 next in
        rw (fresh_tries ∙ r.is ∙ on_is r.count next fits) (omega arith)

-- a number that is not held is in no own slot, and not the linktest's
module _ (own : List Slot) (t : Linktest) (n : ℕ) (e : is_held own t n ≡ false) where
  apart : (b : Bool) → cond b true (runs t n) ≡ false → (b ≡ false) × (runs t n ≡ false)
  apart true w = absurd (false≢true (sym w))
  apart false w = (refl, w)

  pub not_in_own : length own ≡ 32 → found_at (Named n) own ≡ 32
  unfolding is_held
  not_in_own size =
      omega (arith, size, first_most (passes (Named n)) own, ltb-false (found_at (Named n) own) 32 (apart (is_there (Named n) own) e).0)

  pub not_in_test : runs t n ≡ false
  unfolding is_held
  not_in_test = (apart (is_there (Named n) own) e).1
