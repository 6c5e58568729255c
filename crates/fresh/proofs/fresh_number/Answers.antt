-- The invariant: the fresh number is the first from n on that is not held, of the tries that are left. At first 33 are enough.
use Rattle.std.proofs.Common.{sym, ap, ◌∙◌, arith}
use Rattle.fresh.specs.Fresh.{is_held, first_of}
use Rattle.fresh.proofs.Fresh.{first_here, first_next, first_last, fresh_tries}
use Rattle.fresh.proofs.fresh_number.Goals as goal

pub loop-init : goal.loop-init
loop-init c = fresh_tries c.args.own c.args.t (omega arith) c.args.next (omega arith)

pub returns-then-not-is_held : goal.returns-then-not-is_held
returns-then-not-is_held c = sym (c.loop.invariant ∙ first_here (is_held c.args.own c.args.t) _ c.loop.n cc)

pub loop-preserved : goal.loop-preserved
loop-preserved c = rw c.one_more-n.ensures (c.loop.invariant ∙ first_next (is_held c.args.own c.args.t) _ _ c.loop.n (omega arith) cc)

pub returns : goal.returns
returns c =
    let held = is_held c.args.own c.args.t in
    sym (c.loop.invariant ∙ ap (λ j. first_of held j c.loop.n) (omega arith) ∙ first_last held c.loop.n)
