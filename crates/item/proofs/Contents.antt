-- Which bytes are a content: none above FF, of B any, of C2 any but a single one.
use Prim.Native.Nat.{ℕ, ◌%◌, ◌≤◌}
use mathlib.Core.Path.{◌≡◌, refl, sym, ◌∙◌}
use mathlib.Core.Bool.{Bool, true, false, cond, not}
use mathlib.Core.List.{List}
use native.Mathlib.Nat.{mod-one}
use native.Mathlib.Omega.{arith}
use lib.Dec.{eqb}
use lib.ListN.{length}
use borrow.Author.Tests.{eqb-false, eq-eqb, ne_eqb, not-true}
use Rattle.wire.specs.Number.{AtMost}
use Rattle.item.specs.Code.{BOOLEAN, A, C2, sizes, kind_of, is_plain, allowed, largest}
use Rattle.item.specs.Item.{Form, good, lean, limit, Content}
use Rattle.item.proofs.Codes.{allowed_multiples, allowed_c2, largest_le}

-- no limit is above a byte
pub limit_le : (f : Form) (c : ℕ) → limit f c ≤ 0xFF
limit_le good c = largest_le c
limit_le lean c = go (eqb c BOOLEAN)
  where
    go : (b : Bool) → cond b 0x01 (largest c) ≤ 0xFF
    go true = omega arith
    go false = largest_le c

-- of codes but A and BOOLEAN any bytes are a content, as many as the code allows
any_bytes : (f : Form) (c : ℕ) (x : List ℕ) → is_plain (kind_of c) ≡ true → (c ≡ A → ⊥) → (c ≡ BOOLEAN → ⊥) → allowed c (length x) ≡ true → AtMost 0xFF x
    → Content f c x
unfolding largest
any_bytes f c x p not_a not_boolean whole a = record { known = p; whole = whole; bytes = go f }
  where
    go : (f : Form) → AtMost (limit f c) x
    go good = rw (ne_eqb c A not_a) a
    go lean = rw (ne_eqb c BOOLEAN not_boolean, ne_eqb c A not_a) a

-- of B as many as one likes
pub bytes_content : (f : Form) (x : List ℕ) → AtMost 0xFF x → Content f 0o10 x
unfolding kind_of
bytes_content f x =
    any_bytes f 0o10 x refl (λ z. omega arith) (λ z. omega arith)
    (allowed_multiples 0o10 (length x) (sizes 1 1) refl (λ z. omega arith) ∙ eq-eqb (length x % 1) 0 (mod-one (length x)))

-- of C2 none or at least two, the first two as any others; and no other content is a C2's
pub wide_content : (f : Form) (x : List ℕ) → (length x ≡ 1 → ⊥) → AtMost 0xFF x → Content f C2 x
unfolding kind_of
wide_content f x h = any_bytes f C2 x refl (λ z. omega arith) (λ z. omega arith) (rw (allowed_c2 (length x), ne_eqb (length x) 1 h))

pub content_wide : (f : Form) (x : List ℕ) → Content f C2 x → length x ≡ 1 → ⊥
content_wide f x con e =
    let z : not (eqb (length x) 1) ≡ true = sym (allowed_c2 (length x)) ∙ con.whole in
    eqb-false (length x) 1 (not-true (eqb (length x) 1) z) e
