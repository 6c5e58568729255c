-- What each half leaves to the other: a row of the link changes neither flags nor the device ID, and a row of the device not the phase.
use Prim.Native.Nat.{ℕ}
use mathlib.Core.Bool.{Bool, true, false, cond}
use mathlib.Core.Path.{◌≡◌, refl}
use Rattle.state.specs.State.{numbered, emptied}
use Rattle.state.specs.declared.Link.{Link}
use Rattle.state.specs.declared.Device.{Device}

pub emptied_id : (b : Bool) (d : Device) → (cond b (emptied d) d).id ≡ d.id
emptied_id true d = refl
emptied_id false d = refl

pub emptied_flags : (b : Bool) (d : Device) → (cond b (emptied d) d).flags ≡ d.flags
emptied_flags true d = refl
emptied_flags false d = refl

pub numbered_phase : (b : Bool) (l : Link) (n : ℕ) → (cond b (numbered l n) l).phase ≡ l.phase
numbered_phase true l n = refl
numbered_phase false l n = refl
