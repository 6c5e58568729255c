-- A fresh reader is one that the list allows, and holds the fresh state: something may follow in it, or it is refused with 5.
use Prim.Native.Nat.{ℕ, ◌≤◌}
use mathlib.Core.Path.{◌≡◌, refl, ap, ◌∙◌}
use mathlib.Core.Bool.{Bool, true, false, cond}
use mathlib.Core.List.{[], ◌∷◌}
use native.Mathlib.Omega.{arith}
use borrow.Author.Tests.{eqb-true, eqb-false, ltb-false}
use lib.Dec.{eqb, ltb}
use lib.ListN.{length}
use Rattle.wire.specs.Longest.{longest}
use Rattle.item.specs.declared.Form.{Form}
use Rattle.levels.specs.Levels.{total}
use Rattle.follow.proofs.Sizes.{Fill}
use Rattle.follow.proofs.Exist.{two_at_least, shallow_fill, awaited_of}
use Rattle.reader.specs.State.{State, state, reader_of, refused, fresh}
use Rattle.reader.specs.Feed.{allows, status, status_of}
use Rattle.reader.specs.declared.Phase.TheVariants.{Format}
use Rattle.reader.proofs.Rest.{Live}
use Rattle.reader.proofs.Allowed.{state_reader, live_allows, refused_allows}

-- nothing is awaited, or one item
pub none_live : (f : Form) (n : ℕ) → n ≡ 0 → Live (state f n 0 [] Format)
none_live f n z = record { bounded = omega arith; within = omega arith; shallow = omega arith; at = tt; follows = ([], (omega arith, refl)) }

pub one_live : (f : Form) (n : ℕ) → 2 ≤ n → n ≤ longest → Live (state f n 0 (1 ∷ []) Format)
unfolding total
one_live f n h m =
    let fill : Fill f n (1 ∷ []) = shallow_fill f n (1 ∷ []) (omega arith) (omega arith) (λ z. absurd (omega arith)) in
    let (t, w, q) = awaited_of f (1 ∷ []) n fill m (omega arith) in
    record { bounded = m; within = omega arith; shallow = omega arith; at = omega arith; follows = (t, (q ∙ omega arith, w)) }

-- the reader of a state that is allowed, and the state's levels
record Begun (s : State) : Type 0 where
  allowed : allows (reader_of s) ≡ true
  shallow : length s.stack ≤ 16

live_begun : (s : State) → Live s → Begun s
live_begun s l = record { allowed = live_allows s l; shallow = l.shallow }

refused_begun : (f : Form) (n : ℕ) → Begun (refused f n 5)
refused_begun f n = record { allowed = refused_allows f n 5 (omega arith) (omega arith); shallow = omega arith }

fresh_begun : (f : Form) (n : ℕ) → Begun (fresh f n)
unfolding fresh
fresh_begun f n = go (eqb n 0) refl (eqb n 1) refl (ltb longest n) refl
  where
    go : (x : Bool) → eqb n 0 ≡ x → (y : Bool) → eqb n 1 ≡ y → (z : Bool) → ltb longest n ≡ z
        → Begun (cond x (state f n 0 [] Format) (cond y (refused f n 5) (cond z (refused f n 5) (state f n 0 (1 ∷ []) Format))))
    go true a y b z c = live_begun _ (none_live f n (eqb-true n 0 a))
    go false a true b z c = refused_begun f n
    go false a false b true c = refused_begun f n
    go false a false b false c = live_begun _ (one_live f n (two_at_least n (eqb-false n 0 a) (eqb-false n 1 b)) (ltb-false longest n c))

-- What a fresh reader answers is the status of the fresh state.
pub fresh_status : (f : Form) (n : ℕ) → status_of (reader_of (fresh f n)) ≡ status (fresh f n)
unfolding status_of
fresh_status f n =
    let b = fresh_begun f n in
    rw b.allowed (ap status (state_reader (fresh f n) b.shallow))
