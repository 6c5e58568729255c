-- Slots, 32 of a kind, one for each open message, and the own linktest: what is looked for in them, and where it is found.
use Rattle.std.specs.Prelude.{ℕ, ◌+◌, ◌%◌, Bool, true, false, not, cond, List, eqb, leb, ltb, replicate, Option, Some, None}
use Rattle.wire.specs.Search.{first_at}
use Rattle.slots.specs.declared.Slot.{Slot}
use Rattle.slots.specs.declared.Linktest.{Linktest}
use Rattle.slots.specs.declared.Query.{Query}
use Rattle.slots.specs.declared.Query.TheVariants.{Free, Taken, Named, Answered}

-- a free slot is all zero; a taken one has the message's system bytes, stream and function
abbrev pub free : Slot
free = record { taken = false; system = 0; stream = 0; function = 0 }

abbrev pub slot_of : ℕ → ℕ → ℕ → Slot
slot_of n m f = record { taken = true; system = n; stream = m; function = f }

abbrev pub no_slots : List Slot
no_slots = replicate 32 free

-- a closed linktest is all zero
abbrev pub no_test : Linktest
no_test = record { running = false; system = 0 }

abbrev pub test_of : ℕ → Linktest
test_of n = record { running = true; system = n }

-- ---- one search for every question

-- a free slot; a taken one; one with these system bytes; one with these system bytes, this stream, and function one less or this function 0
unfoldable pub passes : Query → Slot → Bool
passes Free s = not s.taken
passes Taken s = s.taken
passes (Named n) s = cond s.taken (eqb s.system n) false
passes (Answered n m f) s =
    cond s.taken
    (cond (eqb s.system n)
    (cond (eqb s.stream m) (cond (eqb f 0) true (eqb (s.function + 1) f)) false) false) false

-- the place of the first slot that is looked for; where there is none, how many there are, 32
abbrev pub found_at : Query → List Slot → ℕ
found_at q l = first_at (passes q) l

-- a place among the 32, or none
abbrev pub place_of : ℕ → Option ℕ
place_of n = cond (ltb n 32) (Some n) None

-- whether there is one
abbrev pub is_there : Query → List Slot → Bool
is_there q l = ltb (found_at q l) 32

-- the linktest with these system bytes runs
abbrev pub runs : Linktest → ℕ → Bool
runs t n = cond t.running (eqb t.system n) false

-- a message may be a primary: a stream of 1 to 127, and an odd function but 255
abbrev pub is_primary : ℕ → ℕ → Bool
is_primary m f = cond (leb 1 m) (cond (leb m 127) (cond (eqb (f % 2) 1) (leb f 253) false) false) false
