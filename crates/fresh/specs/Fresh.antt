-- The fresh number: the first from the next own number on, wrapping from 2^32-1 to 0, that no own slot nor the linktest holds.
use Rattle.std.specs.Prelude.{ℕ, zero, suc, ◌+◌, ◌-◌, ◌^◌, Bool, true, cond, List, eqb}
use Rattle.slots.specs.Slots.{is_there, runs}
use Rattle.slots.specs.declared.Slot.{Slot}
use Rattle.slots.specs.declared.Linktest.{Linktest}
use Rattle.slots.specs.declared.Query.TheVariants.{Named}

-- an own slot or the linktest holds n
unfoldable pub is_held : List Slot → Linktest → ℕ → Bool
is_held own t n = cond (is_there (Named n) own) true (runs t n)

-- one more, wrapping
unfoldable pub one_more : ℕ → ℕ
one_more n = cond (eqb n (2 ^ 32 - 1)) 0 (n + 1)

-- one more, so many times
unfoldable pub on : ℕ → ℕ → ℕ
on zero n = n
on (suc k) n = on k (one_more n)

-- the first from n on that is not held, of so many numbers
unfoldable pub first_of : (ℕ → Bool) → ℕ → ℕ → ℕ
first_of held zero n = n
first_of held (suc k) n = cond (held n) (first_of held k (one_more n)) n

-- of all numbers
unfoldable pub fresh_of : List Slot → Linktest → ℕ → ℕ
fresh_of own t next = first_of (is_held own t) (2 ^ 32) next
