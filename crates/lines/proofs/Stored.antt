-- Bytes stored one behind another are one store.
use Prim.Native.Nat.{ℕ, ◌+◌}
use mathlib.Core.List.{List, ◌++◌}
use mathlib.Core.Path.{◌≡◌, ap, ◌∙◌}
use native.Mathlib.Omega.{arith}
use lib.ListN.{length, length-append}
use lib.Seq.{sets, length-sets}
use Rattle.wire.proofs.Stores.{sets_append}

-- v was stored at a place of s, which gave t, and end is the place behind it
pub record Stored (s : List ℕ) (at : ℕ) (v t : List ℕ) (end : ℕ) : Type 0 where
  pub is : t ≡ sets s at v
  pub behind : end ≡ at + length v

pub stored : {s v t : List ℕ} {at end : ℕ} → (end ≡ at + length v) × (t ≡ sets s at v) → Stored s at v t end
stored (e, p) = record { is = p; behind = e }

pub kept : {s v t : List ℕ} {at end : ℕ} → Stored s at v t end → length t ≡ length s
kept {s = s} {v = v} {at = at} h = ap length h.is ∙ length-sets s at v

pub then : {s v t w u : List ℕ} {at a b : ℕ} → Stored s at v t a → Stored t a w u b → Stored s at (v ++ w) u b
then {s = s} {v = v} {w = w} {at = at} g h =
    record {
      is = rw (h.is, g.is, g.behind) (sets_append s at v w);
      behind = omega (arith, g.behind, h.behind, length-append v w);
    }

-- at the start of an output, by another name of what is stored
pub first_as : {s u v' : List ℕ} {a : ℕ} (v : List ℕ) → v ≡ v' → Stored s 0 v' u a → (a ≡ length v) × (u ≡ sets s 0 v)
first_as v e h = rw e (omega (arith, h.behind), h.is)
