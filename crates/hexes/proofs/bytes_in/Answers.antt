-- The line is judged and measured before anything is stored; what is stored then covers the front of the output.
use Prim.Native.Nat.{ℕ, ◌<◌, ◌≤◌}
use mathlib.Core.Path.{◌≡◌, refl, sym, ◌∙◌}
use mathlib.Core.Bool.{Bool, true, false, cond}
use mathlib.Core.List.{List}
use native.Mathlib.Omega.{arith}
use borrow.Author.Tests.{lt-ltb, le-ltb}
use lib.ListN.{length}
use Rattle.std.proofs.Common.{Ok, Err}
use Rattle.std.proofs.lemmas.Result.{err_from_is_err_and}
use Rattle.wire.proofs.Stores.{part_sets}
use Rattle.hexes.specs.Hex.{is_hex, bytes_in, said_of}
use Rattle.hexes.specs.declared.HexError.{HexError}
use Rattle.hexes.specs.declared.HexError.TheVariants.{Wrong, Long}
use Rattle.hexes.proofs.bytes_in.Goals as goal

-- what was measured
ok_told : (b : Bool) (n m : ℕ) → Ok n ≡ cond b (Ok m) (Err Wrong) → (b ≡ true) × (n ≡ m)
ok_told true n m e = (refl, cc)
ok_told false n m e = cc

err_told : (b : Bool) (m : ℕ) (x : HexError) → Err x ≡ cond b (Ok m) (Err Wrong) → (b ≡ false) × (x ≡ Wrong)
err_told true m x e = cc
err_told false m x e = (refl, cc)

module _ (s : List ℕ) (room : ℕ) where
  is_wrong : is_hex s ≡ false → Err Wrong ≡ said_of s room
  unfolding said_of
  is_wrong e = rw e

  is_long : is_hex s ≡ true → room < length (bytes_in s) → Err Long ≡ said_of s room
  unfolding said_of
  is_long e h = rw (e, lt-ltb room (length (bytes_in s)) h)

  are_bytes : is_hex s ≡ true → length (bytes_in s) ≤ room → Ok (length (bytes_in s)) ≡ said_of s room
  unfolding said_of
  are_bytes e h = rw (e, le-ltb room (length (bytes_in s)) h)

pub returns-in_err-n-clause-said : goal.returns-in_err-n-clause-said
returns-in_err-n-clause-said c =
    let a = c.args in
    let t = err_told (is_hex a.s.now) _ _ c.in_err-n.ensures in
    let p = err_from_is_err_and c.from_residual.result c.from_residual.ensures.1 in
    rw (p.1, p.2, t.1) (is_wrong a.s.now (length a.out.now) t.0)

pub returns-then-out-n-clause-said : goal.returns-then-out-n-clause-said
returns-then-out-n-clause-said c =
    let a = c.args in
    let t = ok_told (is_hex a.s.now) _ _ c.in_ok-n.ensures in
    is_long a.s.now (length a.out.now) t.0 (omega (arith, t.1, c.if-out-n.true))

pub put_bytes-requires : goal.put_bytes-requires
put_bytes-requires c =
    let t = ok_told (is_hex c.args.s.now) _ _ c.in_ok-n.ensures in
    record { s_value = t.0; s_in_bounds = omega (arith, t.1, c.if-out-n.false) }

pub returns-clause-said : goal.returns-clause-said
returns-clause-said c =
    let a = c.args in
    let t = ok_told (is_hex a.s.now) _ _ c.in_ok-n.ensures in
    let h : length (bytes_in a.s.now) ≤ length a.out.now = omega (arith, t.1, c.if-out-n.false) in
    rw t.1 (are_bytes a.s.now (length a.out.now) t.0 h)

pub returns-clause-output : goal.returns-clause-output
returns-clause-output c =
    let a = c.args in
    let t = ok_told (is_hex a.s.now) _ _ c.in_ok-n.ensures in
    let h : length (bytes_in a.s.now) ≤ length a.out.now = omega (arith, t.1, c.if-out-n.false) in
    c.put_bytes.ensures ∙ sym (part_sets a.out.now (bytes_in a.s.now) 0 _ (sym t.1) (omega (arith, t.1, h)))
