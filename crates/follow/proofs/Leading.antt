-- Length bytes one behind another: in lean form the first of several is not 00, which makes them the fewest that say their number.
use Prim.Native.Nat.{ℕ, zero, suc, ◌+◌, ◌*◌, ◌-◌, ◌/◌, ◌%◌, ◌^◌, ◌≤◌, ◌<◌}
use mathlib.Core.Path.{◌≡◌, refl, subst, ◌∙◌}
use mathlib.Core.Bool.{Bool, true, false, cond}
use mathlib.Core.List.{List, [], ◌∷◌}
use native.Mathlib.Nat.{lt_of_lt_of_le, pow-suc, pow-le-pow_right, zero-lt-suc, mod-eq_of_lt}
use native.Mathlib.Nat.{div-lt_iff_lt-mul, le-div_iff_mul-le, mul-le-mul_right, pos_of_ne-zero}
use native.Mathlib.Omega.{arith}
use lib.Dec.{eqb, leb}
use lib.ListN.{length}
use borrow.Author.Tests.{lt-leb, eqb-true, eqb-false, leb-true, leb-false, ltb-true, ltb-false}
use Rattle.wire.specs.Number.{number_of, bytes_of, AtMost}
use Rattle.wire.proofs.Numbers.{power_pos, number_lt}
use Rattle.item.specs.Item.{fewest, Fewest, Lengths}
use Rattle.item.specs.declared.Form.{Form}
use Rattle.item.specs.declared.Form.TheVariants.{Good as good, Lean as lean}
use Rattle.item.proofs.Fewest.{counted, fewest_least}
use Rattle.follow.specs.Fits.{leads, lowest}
use Rattle.follow.proofs.Follow.{Leads}

-- a number, with the bytes behind it, as one number
abbrev pub grown : ℕ → List ℕ → ℕ
grown v ls = v * 256 ^ length ls + number_of ls

-- these length bytes may stand behind those that say v
abbrev pub Led : Form → ℕ → List ℕ → Type 0
Led f v [] = Unit {0}
Led f v (b ∷ ls) = Leads f (length ls) (v * 256 + b) × Led f (v * 256 + b) ls

-- behind bytes that do not say 0 any may
some_leads : (f : Form) (j v : ℕ) → 0 < v → Leads f j v
some_leads good j v h = tt
some_leads lean zero v h = tt
some_leads lean (suc j) v h = h

some_led : (f : Form) (v : ℕ) (ls : List ℕ) → 0 < v → Led f v ls
some_led f v [] h = tt
some_led f v (b ∷ ls) h = (some_leads f (length ls) (v * 256 + b) (omega arith), some_led f (v * 256 + b) ls (omega arith))

good_led : (v : ℕ) (ls : List ℕ) → Led good v ls
good_led v [] = tt
good_led v (b ∷ ls) = (tt, good_led (v * 256 + b) ls)

-- the test is exact, where some are to come; the last one may always stand
pub leads_true : (f : Form) (j v : ℕ) → leads f v ≡ true → Leads f (suc j) v
unfolding leads
leads_true good j v e = tt
leads_true lean j v e = ltb-true 0 v e

pub leads_false : (f : Form) (j v : ℕ) → leads f v ≡ false → Leads f (suc j) v → ⊥
unfolding leads
leads_false good j v e h = let z : ◌≡◌ {A = ℕ} 0 1 = cc in omega arith
leads_false lean j v e h = omega (arith, ltb-false 0 v e)

pub last_leads : (f : Form) (v : ℕ) → Leads f 0 v
last_leads good v = tt
last_leads lean v = tt

-- what may lead none is 0
leads_none : (f : Form) (v : ℕ) → leads f v ≡ false → v ≡ 0
unfolding leads
leads_none good v e = let z : ◌≡◌ {A = ℕ} 0 1 = cc in absurd (omega arith)
leads_none lean v e = omega (arith, ltb-false 0 v e)

-- and the first of several behind it is not 00
leads_first : (f : Form) (j v b : ℕ) → leads f v ≡ false → Leads f (suc j) (v * 256 + b) → 0 < b
unfolding leads
leads_first good j v b e l = let z : ◌≡◌ {A = ℕ} 0 1 = cc in absurd (omega arith)
leads_first lean j v b e l = omega (arith, ltb-false 0 v e)

leads_any : (f : Form) (v : ℕ) (ls : List ℕ) → leads f v ≡ true → Led f v ls
unfolding leads
leads_any good v ls e = good_led v ls
leads_any lean v ls e = some_led lean v ls (ltb-true 0 v e)

-- ---- the fewest bytes

-- several bytes, of which the first is not 00, say no less than the power; with a first 00 they say less
first_some : (b : ℕ) (ls : List ℕ) → 0 < b → 256 ^ length ls ≤ number_of (b ∷ ls)
unfolding number_of
first_some b ls h = omega (arith, mul-le-mul_right (256 ^ length ls) h)

first_none : (b : ℕ) (ls : List ℕ) → b ≡ 0 → AtMost 0xFF ls → number_of (b ∷ ls) < 256 ^ length ls
unfolding number_of
first_none b ls e a = rw e (omega (arith, number_lt ls a))

-- a number that fills k bytes takes more than k
no_fewer : (n k : ℕ) → n < 2 ^ 32 → 256 ^ k ≤ n → k < fewest n
no_fewer n k h l = go (leb (fewest n) k) refl
  where
    go : (x : Bool) → leb (fewest n) k ≡ x → k < fewest n
    go true e = absurd (omega (arith, (counted n).holds h, pow-le-pow_right {n = 256} (zero-lt-suc 255) (leb-true (fewest n) k e)))
    go false e = leb-false (fewest n) k e

one_byte : {x : ℕ} → x ≤ 1 → 1 ≤ x → 1 ≡ x
one_byte h k = omega arith

-- what is led is said in the fewest bytes, and the other way round
pub led_fewest : (f : Form) (ls : List ℕ) → 1 ≤ length ls → length ls ≤ 3 → AtMost 0xFF ls → Led f 0 ls → Fewest f ls (number_of ls)
led_fewest good ls some few a l = tt
led_fewest lean [] some few a l = absurd (omega arith)
led_fewest lean (b ∷ []) some few a l =
    let n = number_of (b ∷ []) in
    one_byte (fewest_least 1 n (omega arith) (number_lt (b ∷ []) a)) (counted n).some
led_fewest lean (b ∷ b₁ ∷ ls) some few a (l, _) =
    let n = number_of (b ∷ b₁ ∷ ls) in
    let less = number_lt (b ∷ b₁ ∷ ls) a in
    let up = fewest_least (length (b ∷ b₁ ∷ ls)) n some less in
    let small : n < 2 ^ 32 = lt_of_lt_of_le less (pow-le-pow_right {n = 256} (zero-lt-suc 255) {j = 4} (omega arith)) in
    let low = no_fewer n (length (b₁ ∷ ls)) small (first_some b (b₁ ∷ ls) (omega arith)) in
    omega arith

pub fewest_led : (f : Form) (ls : List ℕ) (n : ℕ) → Lengths f ls n → Led f 0 ls
fewest_led good ls n lens = good_led 0 ls
fewest_led lean [] n lens = tt
fewest_led lean (b ∷ []) n lens = (tt, tt)
fewest_led lean (b ∷ b₁ ∷ ls) n lens = go (eqb b 0) refl
  where
    go : (x : Bool) → eqb b 0 ≡ x → Led lean 0 (b ∷ b₁ ∷ ls)
    go true e =
        let h = first_none b (b₁ ∷ ls) (eqb-true b 0 e) lens.bytes.1 in
        let less = subst (λ (x : ℕ). x < 256 ^ length (b₁ ∷ ls)) lens.says h in
        absurd (omega (arith, lens.form, fewest_least (length (b₁ ∷ ls)) n (omega arith) less))
    go false e =
        let q : 0 < 0 * 256 + b = omega (arith, pos_of_ne-zero (eqb-false b 0 e)) in
        (q, some_led lean (0 * 256 + b) (b₁ ∷ ls) q)

-- ---- the lowest length

-- bytes that are led behind v say no less
pub lowest_said : (f : Form) (v : ℕ) (ls : List ℕ) → Led f v ls → lowest f (length ls) v ≤ grown v ls
unfolding lowest
lowest_said f v ls l = go (leads f v) refl ls l
  where
    go : (x : Bool) → leads f v ≡ x → (ls : List ℕ) → Led f v ls
        → cond x (v * 256 ^ length ls) (cond (leb (length ls) 1) 0 (256 ^ (length ls - 1))) ≤ grown v ls
    go true e ls l = omega arith
    go false e [] l = omega arith
    go false e (b ∷ []) l = omega arith
    go false e (b ∷ b₁ ∷ ls) (l, _) =
        let z = leads_none f v e in
        let k : suc (suc (length ls)) - 1 ≡ suc (length ls) = omega arith in
        let some = leads_first f (length ls) v b e l in
        rw (lt-leb (suc (suc (length ls))) 1 (omega arith), k) (omega (arith, first_some b (b₁ ∷ ls) some))

-- and any length from there on can be said so
module _ (v x : ℕ) (none : v ≡ 0) where
  none_led : (f : Form) (j : ℕ) → leads f v ≡ false → lowest f j v ≤ x → x < v * 256 ^ j + 256 ^ j → Led f v (bytes_of j (x - v * 256 ^ j))
  unfolding bytes_of lowest
  none_led f zero e h hi = tt
  none_led f (suc zero) e h hi = (last_leads f _, tt)
  none_led f (suc (suc j)) e h hi =
      let p = 256 ^ suc j in
      let k : suc (suc j) - 1 ≡ suc j = omega arith in
      let low : p ≤ x = rw (e, lt-leb (suc (suc j)) 1 (omega arith), k) at h in
      let y : x - v * 256 ^ suc (suc j) ≡ x = rw none (omega arith) in
      let top : x < 256 * p = omega (arith, rw none at hi, pow-suc 256 (suc j)) in
      let one : 1 ≤ x / p = (le-div_iff_mul-le {k = p} {x = 1} {y = x} (power_pos (suc j))).1 (omega arith) in
      let less : x / p < 256 = (div-lt_iff_lt-mul {k = p} {x = x} {y = 256} (power_pos (suc j))).1 top in
      let some : 0 < v * 256 + (x - v * 256 ^ suc (suc j)) / p % 256 = rw (y, mod-eq_of_lt less) (omega arith) in
      (some_leads f _ _ some, some_led f _ (bytes_of (suc j) (x - v * 256 ^ suc (suc j))) some)

pub bytes_led : (f : Form) (j v x : ℕ) → lowest f j v ≤ x → x < v * 256 ^ j + 256 ^ j → Led f v (bytes_of j (x - v * 256 ^ j))
bytes_led f j v x h hi = go (leads f v) refl
  where
    go : (y : Bool) → leads f v ≡ y → Led f v (bytes_of j (x - v * 256 ^ j))
    go true e = leads_any f v (bytes_of j (x - v * 256 ^ j)) e
    go false e = none_led v x (leads_none f v e) f j e h hi

-- it is no less than v followed by zeros, leaves 255 lengths more above it, and is a multiple of 8, so that every code allows it
pub record Lowest (f : Form) (j v : ℕ) : Type 0 where
  pub low : v * 256 ^ j ≤ lowest f j v
  pub high : lowest f j v + 255 < v * 256 ^ j + 256 ^ j
  pub eights : ℕ
  pub product : lowest f j v ≡ eights * 8

wide : (j : ℕ) → 0 < j → 256 ≤ 256 ^ j
wide zero h = absurd (omega arith)
wide (suc j) h = omega (arith, pow-suc 256 j, power_pos j)

eights_in : (v j : ℕ) → 0 < j → (k : ℕ) × (v * 256 ^ j ≡ k * 8)
eights_in v zero h = absurd (omega arith)
eights_in v (suc j) h = (v * 256 ^ j * 32, rw (pow-suc 256 j) (omega arith))

-- where it is v followed by zeros
plain_lowest : (f : Form) (j v : ℕ) → 0 < j → lowest f j v ≡ v * 256 ^ j → Lowest f j v
plain_lowest f j v h e =
    let (k, q) = eights_in v j h in
    record { low = omega arith; high = omega (arith, wide j h); eights = k; product = e ∙ q }

pub the_lowest : (f : Form) (j v : ℕ) → 0 < j → Lowest f j v
unfolding lowest
the_lowest f j v h = go (leads f v) refl j h
  where
    go : (b : Bool) → leads f v ≡ b → (j : ℕ) → 0 < j → Lowest f j v
    go true e j h = plain_lowest f j v h (rw e)
    go false e zero h = absurd (omega arith)
    go false e (suc zero) h =
        let z : lowest f 1 v ≡ 0 = rw e in
        plain_lowest f 1 v h (omega (arith, leads_none f v e))
    go false e (suc (suc j)) h =
        let k : suc (suc j) - 1 ≡ suc j = omega arith in
        let z : lowest f (suc (suc j)) v ≡ 1 * 256 ^ suc j = rw (e, lt-leb (suc (suc j)) 1 (omega arith), k) (omega arith) in
        let q : v * 256 ^ suc (suc j) ≡ 0 = rw (leads_none f v e) (omega arith) in
        let (m, w) = eights_in 1 (suc j) (omega arith) in
        record { low = omega arith; high = omega (arith, pow-suc 256 (suc j), wide (suc j) (omega arith)); eights = m; product = z ∙ w }
