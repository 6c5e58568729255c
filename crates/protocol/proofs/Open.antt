-- Where the phase is not selected the list behind 14 leaves no slot open.
use Prim.Native.Nat.{ℕ, ◌<◌}
use mathlib.Core.Bool.{Bool, true, false, false≢true, not, cond}
use mathlib.Core.Path.{◌≡◌, refl, sym, ◌∙◌}
use native.Mathlib.Omega.{arith}
use borrow.Author.Tests.{ltb-true, lt-ltb, not-true}
use Rattle.slots.specs.Slots.{found_at, is_there}
use Rattle.slots.specs.declared.Query.TheVariants.{Taken, Named}
use Rattle.slots.proofs.Found.{taken_first}
use Rattle.state.specs.State.{selected, received_open}
use Rattle.state.specs.declared.Session.{Session}
use Rattle.allowed.specs.States.{allows_open, allows}
use Rattle.allowed.proofs.States.{holds}
use Rattle.protocol.specs.Protocol.{NoneOpen}

pub none_open : (s : Session) → allows s ≡ true → selected s.link ≡ false → NoneOpen s
unfolding allows_open
none_open s ok out = go (received_open s.device) refl (rw out at (holds s ok).phase)
  where
    go : (a : Bool) → received_open s.device ≡ a → cond a false (not (is_there Taken s.device.own)) ≡ true → NoneOpen s
    go true p e = absurd (false≢true e)
    go false p e = record { received = p; own = not-true (is_there Taken s.device.own) e }

-- an own slot with system bytes is there only in selected
pub own_selected : (s : Session) → allows s ≡ true → (n : ℕ) → is_there (Named n) s.device.own ≡ true → selected s.link ≡ true
own_selected s ok n e = go (selected s.link) refl
  where
    taken : is_there Taken s.device.own ≡ true
    taken =
        let h : found_at (Named n) s.device.own < 32 = ltb-true (found_at (Named n) s.device.own) 32 e in
        lt-ltb (found_at Taken s.device.own) 32 (omega (arith, taken_first n s.device.own))

    go : (b : Bool) → selected s.link ≡ b → b ≡ true
    go true w = refl
    go false w = absurd (false≢true (sym (none_open s ok w).own ∙ taken))
