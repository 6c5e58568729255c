-- The place is refused, or lies inside the content; there the part's number is the definition's.
use Prim.Native.Nat.{ℕ, ◌+◌, ◌-◌, ◌<◌, ◌^◌}
use mathlib.Core.Path.{◌≡◌, sym, ap, subst, ◌∙◌}
use native.Mathlib.Omega.{arith}
use lib.ListN.{take, drop}
use lib.Seq.{take_all}
use Rattle.wire.specs.Number.{number_of}
use Rattle.item.proofs.Codes.{plain_sizes}
use Rattle.element.specs.Element.{place_of, read_as, got_of}
use Rattle.element.specs.Place as P
use Rattle.element.proofs.Places.{placed, part_length}
use Rattle.element.proofs.get.Goals as goal

pub overflow_add-place : goal.overflow_add-place
overflow_add-place c = omega (arith, (placed _ _ _ _ _ (sym c.in_ok-place.ensures)).inside)

pub slice_bounds-number-end : goal.slice_bounds-number-end
slice_bounds-number-end c = (placed _ _ _ _ _ (sym c.in_ok-place.ensures)).inside

pub read_as-requires : goal.read_as-requires
read_as-requires c =
    let s = c.in_ok-place.place in
    let p = placed _ _ _ s.at s.width (sym c.in_ok-place.ensures) in
    let n = part_length c.args.content.now s.at s.width (s.at + s.width - s.at) (omega arith) p.inside in
    record { least = p.least; known = p.known; small = subst (λ (k : ℕ). c.number-n.result < 256 ^ k) n c.number-n.ensures.1 }

pub returns : goal.returns
unfolding got_of
returns c =
    let t = c.args.content.now in
    let at = c.in_ok-place.place.at in
    let w = c.in_ok-place.place.width in
    let e : place_of _ _ _ ≡ P.At at w = sym c.in_ok-place.ensures in
    let p = placed _ _ _ at w e in
    let m : at + w - at ≡ w = omega arith in
    let few = (plain_sizes _ _ p.known).few in
    let n = part_length t at w (at + w - at) m p.inside in
    let all = take_all 8 (take (at + w - at) (drop at t)) (omega arith) in
    rw e (c.read_as.ensures ∙ ap (read_as c.args.code w) (c.number-n.ensures.0 ∙ ap number_of (all ∙ ap (λ (k : ℕ). take k (drop at t)) m)))
