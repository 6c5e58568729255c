-- The list behind 14 allows a made session exactly where its number is 0.
use Prim.Native.Nat.{ℕ, ◌≤◌, ◌<◌}
use mathlib.Core.Bool.{true, false}
use mathlib.Core.Path.{◌≡◌}
use borrow.Author.Tests.{le-leb, lt-leb}
use Rattle.slots.specs.declared.Query.TheVariants.{Taken}
use Rattle.slots.proofs.Found.{no_slots_none, free_not_taken}
use Rattle.state.specs.State.{session_of}
use Rattle.allowed.specs.States.{allows_link, allows_device, allows_open, allows_test, allows}
use Rattle.allowed.proofs.Slots.{no_slots_allowed, facts_allow}

pub made_allowed : (id : ℕ) → id ≤ 32767 → allows (session_of id) ≡ true
unfolding session_of allows_link allows_device allows_open allows_test allows
made_allowed id h = rw (le-leb id 32767 h, facts_allow no_slots_allowed, no_slots_none Taken free_not_taken)

pub made_refused : (id : ℕ) → 32767 < id → allows (session_of id) ≡ false
unfolding session_of allows_link allows_device allows
made_refused id h = rw (lt-leb id 32767 h)
