-- The place lies inside the content; the part that was lent and written is a run of stores into the whole.
use Prim.Native.Nat.{ℕ, ◌+◌, ◌-◌}
use mathlib.Core.Path.{◌≡◌, sym, ap, ◌∙◌}
use native.Mathlib.Omega.{arith}
use lib.ListN.{length}
use lib.Seq.{sets}
use Rattle.wire.specs.Number.{bytes_of}
use Rattle.wire.proofs.Numbers.{length_bytes}
use Rattle.wire.proofs.Stores.{part_sets}
use Rattle.element.specs.Element.{set_of}
use Rattle.element.proofs.Places.{placed, part_length}
use Rattle.element.proofs.set.Goals as goal

pub overflow_add-place : goal.overflow_add-place
overflow_add-place c = omega (arith, (placed _ _ _ _ _ (sym c.in_ok-place.ensures)).inside)

pub slice_bounds-put-end : goal.slice_bounds-put-end
slice_bounds-put-end c = (placed _ _ _ _ _ (sym c.in_ok-place.ensures)).inside

pub returns-clause-content : goal.returns-clause-content
unfolding set_of
returns-clause-content c =
    let s = c.args.content.now in
    let at = c.in_ok-place.place.at in
    let w = c.in_ok-place.place.width in
    let p = placed _ _ _ at w (sym c.in_ok-place.ensures) in
    let n = part_length s at w (at + w - at) (omega arith) p.inside in
    let written : c.put.new.s ≡ bytes_of w c.in_ok-n.n = c.put.ensures ∙ ap (λ (k : ℕ). bytes_of k c.in_ok-n.n) n in
    let long : length c.put.new.s ≡ at + w - at = omega (arith, ap length written, length_bytes w c.in_ok-n.n) in
    rw (← c.in_ok-place.ensures, ← c.in_ok-n.ensures) (part_sets s c.put.new.s at (at + w - at) long (omega (arith, p.inside)) ∙ ap (sets s at) written)
