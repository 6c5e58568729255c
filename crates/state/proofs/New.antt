-- A made session's flags are clear at every stream.
use Prim.Native.Nat.{ℕ, ◌<◌}
use mathlib.Core.Bool.{false}
use mathlib.Core.Path.{◌≡◌}
use lib.ListN.{get_or, get_or-replicate}
use Rattle.state.specs.State.{session_of}

pub flags_clear : (id m : ℕ) → m < 128 → get_or (session_of id).device.flags m false ≡ false
unfolding session_of
flags_clear id m h = get_or-replicate 128 m false false h
