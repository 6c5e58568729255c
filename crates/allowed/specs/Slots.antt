-- Which slots the list behind 14 allows, 32 of a kind.
use Rattle.std.specs.Prelude.{ℕ, zero, suc, Bool, true, false, cond, List, eqb, get_or}
use Rattle.slots.specs.Slots.{free, found_at, is_primary}
use Rattle.slots.specs.declared.Slot.{Slot}
use Rattle.slots.specs.declared.Query.TheVariants.{Named}

-- a free slot is all zero; a taken one is the first with its system bytes, and holds a primary's stream and function
abbrev pub allows_slot : List Slot → ℕ → Slot → Bool
allows_slot l i s =
    cond s.taken
    (cond (eqb (found_at (Named s.system) l) i) (is_primary s.stream s.function) false)
    (cond (eqb s.system 0) (cond (eqb s.stream 0) (eqb s.function 0) false) false)

-- each of the first k slots is allowed
unfoldable pub allows_first : List Slot → ℕ → Bool
allows_first l zero = true
allows_first l (suc k) = cond (allows_slot l k (get_or l k free)) (allows_first l k) false

unfoldable pub allows_slots : List Slot → Bool
allows_slots l = allows_first l 32
