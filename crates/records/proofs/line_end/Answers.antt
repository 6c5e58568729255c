-- The search goes through the bytes from the place on.
use Prim.Native.Nat.{ℕ, ◌+◌, ◌-◌, ◌<◌, min}
use mathlib.Core.Path.{◌≡◌, sym, ap, ◌∙◌}
use mathlib.Core.List.{List}
use native.Mathlib.Decide.{dec_lt}
use native.Mathlib.Omega.{arith}
use lib.ListN.{length, take, drop, length-drop, drop_of_length-le}
use lib.Seq.{take_all}
use Rattle.wire.specs.Search.{first_at}
use Rattle.records.specs.Fields.{ends, line_end}
use Rattle.records.proofs.line_end.Goals as goal

-- behind the end there is no place more
no_more : (s : List ℕ) (at i : ℕ) → i ≡ min at (length s) → drop at s ≡ drop i s
no_more s at i e = go (dec_lt at (length s))
  where
    go : Dec (at < length s) → drop at s ≡ drop i s
    go (yes h) = ap (λ (k : ℕ). drop k s) (omega arith)
    go (no h) = drop_of_length-le s {i = at} (omega arith) ∙ sym (drop_of_length-le s {i = i} (omega arith))

from_place : (s : List ℕ) (at i n : ℕ) → i ≡ min at (length s) → n ≡ first_at ends (take (length s - i) (drop i s)) → i + n ≡ line_end s at
unfolding line_end
from_place s at i n e p =
    let all = take_all (length s - i) (drop i s) (omega (arith, length-drop i s)) in
    omega (arith, e, p, ap (first_at ends) all, ap (first_at ends) (no_more s at i e))

pub returns-clause-found : goal.returns-clause-found
returns-clause-found c = from_place c.args.s.now c.args.at _ _ c.min-from.ensures c.first_end.ensures.place
