-- The invariant: the fresh number is the first from n on that is not held, of the tries that are left. At first 33 are enough.
use Rattle.std.proofs.Common.{◌≡◌, ◌-◌}
use Rattle.fresh.specs.Fresh.{is_held, first_of, fresh_of}
use Rattle.fresh.proofs.fresh_number.Given as goal

abbrev pub invariant-loop : goal.invariant-loop
invariant-loop l = fresh_of l.own l.t l.next ≡ first_of (is_held l.own l.t) (33 - l.counter) l.n
