-- Places of a run: one thing is seen at a place, and what is seen at a place was seen earlier than what is seen at a later one.
use Prim.Native.Nat.{ℕ, ◌<◌}
use mathlib.Core.List.{List, [], ◌∷◌}
use mathlib.Core.Logic.{inl, inr}
use mathlib.Core.Path.{◌≡◌, ap, sym, ◌∙◌}
use native.Mathlib.Omega.{arith}
use lib.ListN.{length}
use Rattle.audit.specs.Run.{Seen, At, SeenAt}

module _ (x : Seen) (v : List Seen) where
  pub at_place : (u : List Seen) (i : ℕ) → At u i x v → i ≡ length v
  at_place [] i a = absurd a
  at_place (y ∷ u) i (inl (p, q, r)) = p ∙ sym (ap length r)
  at_place (y ∷ u) i (inr a) = at_place u i a

  pub at_below : (u : List Seen) (i : ℕ) → At u i x v → i < length u
  at_below [] i a = absurd a
  at_below (y ∷ u) i (inl (p, q, r)) = omega arith
  at_below (y ∷ u) i (inr a) = omega (arith, at_below u i a)

  -- what is seen in a part of a run is seen in the run
  pub at_whole : (u : List Seen) (j : ℕ) → At u j x v → (i : ℕ) (y : Seen) (w : List Seen) → At (x ∷ v) i y w → At u i y w
  at_whole [] j q i y w p = absurd q
  at_whole (t ∷ u) j (inl (q, q', q'')) i y w (inl (p, p', p'')) = inl (p ∙ ap length q'', p' ∙ q', p'' ∙ q'')
  at_whole (t ∷ u) j (inl (q, q', q'')) i y w (inr p) = inr (rw q'' at p)
  at_whole (t ∷ u) j (inr q) i y w p = inr (at_whole u j q i y w p)

module _ (x y : Seen) (v w : List Seen) where
  pub at_earlier : (u : List Seen) (j k : ℕ) → At u j x v → At u k y w → j < k → At w j x v
  at_earlier [] j k a b h = absurd a
  at_earlier (z ∷ u) j k (inl (p, q, r)) (inl (p', q', r')) h = absurd (omega arith)
  at_earlier (z ∷ u) j k (inl (p, q, r)) (inr b) h = absurd (omega (arith, at_below y w u k b))
  at_earlier (z ∷ u) j k (inr a) (inl (p, q, r)) h = rw r a
  at_earlier (z ∷ u) j k (inr a) (inr b) h = at_earlier u j k a b h

  pub at_one : (u : List Seen) (i j : ℕ) → i ≡ j → At u i x v → At u j y w → x ≡ y
  at_one [] i j e a b = absurd a
  at_one (z ∷ u) i j e (inl (p, q, r)) (inl (p', q', r')) = q ∙ sym q'
  at_one (z ∷ u) i j e (inl (p, q, r)) (inr b) = absurd (omega (arith, at_below y w u j b))
  at_one (z ∷ u) i j e (inr a) (inl (p, q, r)) = absurd (omega (arith, at_below x v u i a))
  at_one (z ∷ u) i j e (inr a) (inr b) = at_one u i j e a b

-- ---- something that is seen

module _ (P : Seen → List Seen → Type 0) (i : ℕ) where
  pub seen_still : (x : Seen) (v : List Seen) → SeenAt v i P → SeenAt (x ∷ v) i P
  seen_still x v r = record { seen = r.seen; earlier = r.earlier; at = inr r.at; is = r.is }

  pub seen_whole : (u : List Seen) (j : ℕ) (x : Seen) (v : List Seen) → At u j x v → SeenAt (x ∷ v) i P → SeenAt u i P
  seen_whole u j x v a r = record { seen = r.seen; earlier = r.earlier; at = at_whole x v u j a i r.seen r.earlier r.at; is = r.is }
