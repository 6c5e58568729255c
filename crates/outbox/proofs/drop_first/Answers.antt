-- The first message lies within the used bytes, so what follows it can move down.
use Rattle.std.proofs.Common.{ℕ, ◌-◌, sym, ap, ◌∙◌, arith}
use lib.Seq.{length-take-le}
use Rattle.outbox.specs.Outbox.{moved}
use Rattle.outbox.proofs.Held.{held, first_is}
use Rattle.outbox.proofs.drop_first.Goals as goal

pub slice_bounds-length_in-end : goal.slice_bounds-length_in-end
slice_bounds-length_in-end c = (held _ _ c.requires.0).0

pub slice_bounds-length_in-end-2 : goal.slice_bounds-length_in-end-2
slice_bounds-length_in-end-2 c = sym (length-take-le c.args.used c.args.s.now (held _ _ c.requires.0).0)

pub move_down-requires : goal.move_down-requires
move_down-requires c =
    let f = first_is _ _ _ c.requires.0 c.requires.1 c.length_in-size.ensures.0 in
    (omega (arith, f.within), f.there)

pub overflow_sub-result : goal.overflow_sub-result
overflow_sub-result c = (first_is _ _ _ c.requires.0 c.requires.1 c.length_in-size.ensures.0).within

pub returns : goal.returns
returns c =
    let f = first_is _ _ _ c.requires.0 c.requires.1 c.length_in-size.ensures.0 in
    (ap (λ (k : ℕ). c.args.used - k) f.is, c.move_down.ensures ∙ ap (λ (k : ℕ). moved c.args.s.now k c.args.used) f.is)
