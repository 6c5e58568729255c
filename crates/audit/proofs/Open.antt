-- The primary that a run leaves open: the last that was delivered, where nothing has gone out for it since and every event since has ended in selected.
use Prim.Native.Nat.{ℕ, ◌<◌}
use mathlib.Core.Bool.{Bool, true, false, cond}
use mathlib.Core.List.{List, [], ◌∷◌}
use mathlib.Core.Logic.{inl, inr}
use mathlib.Core.Option.{Option, none, some, some-injective, none-ne-some}
use mathlib.Core.Path.{◌≡◌, refl, sym}
use native.Mathlib.Omega.{arith}
use borrow.Author.Tests.{eq-eqb}
use lib.Dec.{eqb}
use lib.ListN.{length}
use Rattle.frame.specs.declared.Header.{Header}
use Rattle.message.specs.Send.{Send}
use Rattle.state.specs.State.{is_selected}
use Rattle.protocol.specs.Protocol.{is_data}
use Rattle.audit.specs.Run.{Seen, At, SeenAt}
use Rattle.audit.specs.Audit.{Entry, primary, reply, neither, entry_of, delivered, last_delivered, answers_at, answered}
use Rattle.audit.proofs.Places.{at_below, seen_still}

pub some_one : {a b : ℕ} → some a ≡ some b → a ≡ b
some_one {a} {b} e = some-injective a b e

pub none_some : {A : Type 0} {a : ℕ} → none ≡ some a → A
none_some {a = a} e = absurd (none-ne-some a e)

-- ---- what ends it

-- data goes out at a reply or an abort to these system bytes
abbrev pub closes_as : Entry → Send → ℕ → Bool
closes_as (primary h) x n = false
closes_as (reply k) x n = cond (is_data x) (eqb k n) false
closes_as neither x n = false

abbrev pub closes : Seen → ℕ → Bool
closes x n = closes_as (entry_of x.event) x.send n

-- or the event does not end in selected
abbrev pub ends : Seen → ℕ → Bool
ends x n = cond (is_selected x.after) (closes x n) true

-- the place of the primary with these system bytes that is open
unfoldable pub open_at : List Seen → ℕ → Option ℕ
open_at [] n = none
open_at (y ∷ v) n = cond (delivered y n) (some (length v)) (cond (ends y n) none (open_at v n))

pub closes_ends : (x : Seen) (n : ℕ) → closes x n ≡ true → ends x n ≡ true
closes_ends x n c = go (is_selected x.after)
  where
    go : (b : Bool) → cond b (closes x n) true ≡ true
    go true = c
    go false = refl

-- ---- what one more event does to it

module _ (x : Seen) (v : List Seen) (n : ℕ) where
  pub open_new : delivered x n ≡ true → open_at (x ∷ v) n ≡ some (length v)
  unfolding open_at
  open_new d = rw d

  pub open_gone : delivered x n ≡ false → ends x n ≡ true → open_at (x ∷ v) n ≡ none
  unfolding open_at
  open_gone d e = rw (d, e)

  pub open_same : delivered x n ≡ false → ends x n ≡ false → open_at (x ∷ v) n ≡ open_at v n
  unfolding open_at
  open_same d e = rw (d, e)

-- ---- one that is open is the last delivered

last_step : (b c : Bool) (k i : ℕ) (x y : Option ℕ) → (x ≡ some i → y ≡ some i)
    → cond b (some k) (cond c none x) ≡ some i → cond b (some k) y ≡ some i
last_step true c k i x y f e = e
last_step false true k i x y f e = none_some e
last_step false false k i x y f e = f e

pub open_last : (v : List Seen) (n i : ℕ) → open_at v n ≡ some i → last_delivered v n ≡ some i
unfolding open_at last_delivered
open_last [] n i e = e
open_last (y ∷ v) n i e = last_step (delivered y n) (ends y n) (length v) i (open_at v n) (last_delivered v n) (λ w. open_last v n i w) e

-- ---- the last delivered is one that was

abbrev pub IsDelivered : ℕ → Seen → List Seen → Type 0
IsDelivered n x v = delivered x n ≡ true

came_step : (y : Seen) (v : List Seen) (n i : ℕ) (b : Bool) → delivered y n ≡ b → cond b (some (length v)) (last_delivered v n) ≡ some i
    → (last_delivered v n ≡ some i → SeenAt v i (IsDelivered n)) → SeenAt (y ∷ v) i (IsDelivered n)
came_step y v n i true d e f = record { seen = y; earlier = v; at = inl (sym (some_one e), refl, refl); is = d }
came_step y v n i false d e f = seen_still (IsDelivered n) i y v (f e)

pub last_came : (v : List Seen) (n i : ℕ) → last_delivered v n ≡ some i → SeenAt v i (IsDelivered n)
unfolding last_delivered
last_came [] n i e = none_some e
last_came (y ∷ v) n i e = came_step y v n i (delivered y n) refl e (λ w. last_came v n i w)

-- ---- since an open one was delivered nothing ended it

module _ (n i j : ℕ) (x : Seen) (w : List Seen) (h : i < j) where
  since_step : (y : Seen) (v : List Seen) (b c : Bool) → delivered y n ≡ b → ends y n ≡ c
      → cond b (some (length v)) (cond c none (open_at v n)) ≡ some i → At (y ∷ v) j x w
      → (open_at v n ≡ some i → At v j x w → ends x n ≡ false) → ends x n ≡ false
  since_step y v true c d q e (inl (p, z, r)) f = let o : length v ≡ i = some_one e in absurd (omega arith)
  since_step y v true c d q e (inr a) f = let o : length v ≡ i = some_one e in absurd (omega (arith, at_below x w v j a))
  since_step y v false true d q e a f = none_some e
  since_step y v false false d q e (inl (p, z, r)) f = rw z q
  since_step y v false false d q e (inr a) f = f e a

  pub open_since : (v : List Seen) → open_at v n ≡ some i → At v j x w → ends x n ≡ false
  unfolding open_at
  open_since [] e a = absurd a
  open_since (y ∷ v) e a = since_step y v (delivered y n) (ends y n) refl refl e a (λ p q. open_since v p q)

-- ---- how a message answers a primary: at the primary's own event, or, at a reply or an abort, the last delivered

pub data How (x : Seen) (v : List Seen) (i : ℕ) : Type 0 where
  at_once : (h : Header) → entry_of x.event ≡ primary h → is_data x.send ≡ true → i ≡ length v → How x v i
  later : (n : ℕ) → closes x n ≡ true → last_delivered v n ≡ some i → How x v i

module _ (x : Seen) (v : List Seen) (i : ℕ) where
  how_by : (b : Bool) → is_data x.send ≡ b → (k : Entry) → entry_of x.event ≡ k → cond b (answers_at k v) none ≡ some i → How x v i
  how_by false d k p e = none_some e
  how_by true d (primary h) p e = at_once h p d (sym (some_one e))
  how_by true d (reply n) p e = later n (rw (p, d) (eq-eqb n n refl)) e
  how_by true d neither p e = none_some e

  pub how : answered x v ≡ some i → How x v i
  how e = how_by (is_data x.send) refl (entry_of x.event) refl e
