-- Of n + 1 places in n two are the same: the place n, where it is taken, is given to the last, which leaves n places in n - 1.
use Prim.Native.Nat.{ℕ, zero, suc, ◌≤◌, ◌<◌}
use mathlib.Core.Bool.{cond}
use mathlib.Core.Path.{◌≡◌, sym, ◌∙◌}
use native.Mathlib.Nat.{not-suc-le-zero}
use native.Mathlib.Decide.{ℕ_discrete}
use native.Mathlib.Omega.{arith}
use borrow.Author.Tests.{eq-eqb, ne_eqb}
use lib.Dec.{eqb}

module _ (n : ℕ) (f : ℕ → ℕ) where
  swap : ℕ → ℕ
  swap i = cond (eqb (f i) n) (f (suc n)) (f i)

  swap_yes : (i : ℕ) → f i ≡ n → swap i ≡ f (suc n)
  unfolding swap
  swap_yes i e = rw (eq-eqb (f i) n e)

  swap_no : (i : ℕ) → (f i ≡ n → ⊥) → swap i ≡ f i
  unfolding swap
  swap_no i e = rw (ne_eqb (f i) n e)

pub no_one_to_one : (n : ℕ) (f : ℕ → ℕ) → ((i : ℕ) → i ≤ n → f i < n) → ((i j : ℕ) → i ≤ n → j ≤ n → f i ≡ f j → i ≡ j) → ⊥
no_one_to_one zero f b inj = not-suc-le-zero (b 0 (omega arith))
no_one_to_one (suc n) f b inj = no_one_to_one n (swap n f) below one
  where
    below_go : (i : ℕ) → i ≤ n → Dec (f i ≡ n) → swap n f i < n
    below_go i h (yes e) =
        let g : f (suc n) ≡ n → ⊥ = λ q. (let z : i ≡ suc n = inj i (suc n) (omega arith) (omega arith) (e ∙ sym q) in omega arith) in
        rw (swap_yes n f i e) (omega (arith, b (suc n) (omega arith), g))
    below_go i h (no e) = rw (swap_no n f i e) (omega (arith, b i (omega arith), e))

    below : (i : ℕ) → i ≤ n → swap n f i < n
    below i h = below_go i h (ℕ_discrete (f i) n)

    one_go : (i j : ℕ) → i ≤ n → j ≤ n → swap n f i ≡ swap n f j → Dec (f i ≡ n) → Dec (f j ≡ n) → i ≡ j
    one_go i j hi hj e (yes p) (yes q) = inj i j (omega arith) (omega arith) (p ∙ sym q)
    one_go i j hi hj e (yes p) (no q) =
        let z : suc n ≡ j = inj (suc n) j (omega arith) (omega arith) (sym (swap_yes n f i p) ∙ e ∙ swap_no n f j q) in
        omega arith
    one_go i j hi hj e (no p) (yes q) =
        let z : i ≡ suc n = inj i (suc n) (omega arith) (omega arith) (sym (swap_no n f i p) ∙ e ∙ swap_yes n f j q) in
        omega arith
    one_go i j hi hj e (no p) (no q) = inj i j (omega arith) (omega arith) (sym (swap_no n f i p) ∙ e ∙ swap_no n f j q)

    one : (i j : ℕ) → i ≤ n → j ≤ n → swap n f i ≡ swap n f j → i ≡ j
    one i j hi hj e = one_go i j hi hj e (ℕ_discrete (f i) n) (ℕ_discrete (f j) n)
