-- The room is tested before anything is stored; what is stored then covers the front of the output.
use Prim.Native.Nat.{◌*◌, ◌≤◌}
use mathlib.Core.Path.{sym, ◌∙◌}
use native.Mathlib.Omega.{arith}
use borrow.Author.Tests.{lt-ltb, le-ltb}
use lib.ListN.{length}
use Rattle.wire.proofs.Stores.{part_sets}
use Rattle.hexes.specs.Hex.{hex_of, printed_of}
use Rattle.hexes.proofs.Laws.{hex_length}
use Rattle.hexes.proofs.hex_of.Goals as goal

pub returns-then-out-n-clause-number : goal.returns-then-out-n-clause-number
unfolding printed_of
returns-then-out-n-clause-number c =
    let a = c.args in
    rw (lt-ltb (length a.out.now) (2 * length a.s.now) (omega (arith, c.if-out-n.true)))

pub returns-clause-number : goal.returns-clause-number
unfolding printed_of
returns-clause-number c =
    let a = c.args in
    let h : 2 * length a.s.now ≤ length a.out.now = omega (arith, c.if-out-n.false) in
    rw (le-ltb (length a.out.now) (2 * length a.s.now) h)

pub returns-clause-output : goal.returns-clause-output
returns-clause-output c =
    let a = c.args in
    let h : 2 * length a.s.now ≤ length a.out.now = omega (arith, c.if-out-n.false) in
    c.put_digits.ensures ∙ sym (part_sets a.out.now (hex_of a.s.now) 0 _ (hex_length a.s.now) (omega (arith, h)))
