-- Laws of the search among slots, beside those of any search: a slot that is free, taken or named, and slots of which none is taken.
use Prim.Native.Nat.{ℕ, ◌≤◌, ◌<◌}
use mathlib.Core.List.{List}
use mathlib.Core.Bool.{Bool, true, false, cond}
use Rattle.std.specs.Prelude.{Some, None}
use Rattle.std.specs.List.{position_or_len}
use Rattle.std.proofs.lemmas.List.Recursion.{is_position_or_len}
use native.Mathlib.Numerals.{one-add}
use mathlib.Core.Path.{◌≡◌, refl, ap, sym}
use native.Mathlib.Decide.{dec_lt}
use native.Mathlib.Omega.{arith}
use borrow.Author.Tests.{not-true, eq-eqb, eqb-true, ne_eqb, lt-ltb, le-ltb, ltb-false, ltb-true}
use lib.Dec.{eqb, ltb}
use lib.ListN.{length, get_or}
use Rattle.wire.specs.Search.{first_at}
use Rattle.wire.proofs.Choice.{both}
use Rattle.wire.proofs.Search.{first_most, first_passes, first_least}
use Rattle.slots.specs.Slots.{free, slot_of, no_slots, passes, found_at, place_of, is_there}
use Rattle.slots.specs.declared.Slot.{Slot}
use Rattle.slots.specs.declared.Query.{Query}
use Rattle.slots.specs.declared.Query.TheVariants.{Free, Taken, Named}

-- ---- the library's search

position_first : {A : Type 0} (test : A → Bool) (l : List A) → first_at test l ≡ position_or_len test l
unfolding first_at
position_first test l = is_position_or_len (first_at test) test refl (λ x k. ap (cond (test x) 0) (sym (one-add (first_at test k)))) l

pub position_found : (q : Query) (l : List Slot) → length l ≡ 32
    → cond (ltb (position_or_len (passes q) l) (length l)) (Some (position_or_len (passes q) l)) None ≡ place_of (found_at q l)
position_found q l size = rw (position_first (passes q) l, size)

-- ---- a search that found a slot, or none

pub within : (n at : ℕ) → Some at ≡ place_of n → at < 32
within n at = go (ltb n 32) refl
  where
    go : (b : Bool) → ltb n 32 ≡ b → Some at ≡ cond b (Some n) None → at < 32
    go true t e = let same : at ≡ n = cc in omega (arith, ltb-true n 32 t)
    go false t e = absurd cc

pub there : (q : Query) (l : List Slot) (at : ℕ) → at ≡ found_at q l → at < 32 → is_there q l ≡ true
there q l at e h = rw (← e) (lt-ltb at 32 h)

pub absent : (q : Query) (l : List Slot) (at : ℕ) → at ≡ found_at q l → 32 ≤ at → is_there q l ≡ false
absent q l at e h = rw (← e) (le-ltb at 32 h)

pub none_there : (q : Query) (l : List Slot) → length l ≡ 32 → is_there q l ≡ false → found_at q l ≡ 32
none_there q l size e = omega (arith, first_most (passes q) l, ltb-false (found_at q l) 32 e)

-- ---- a slot that is free, and one that is named

pub passes_free : (s : Slot) → passes Free s ≡ true → s.taken ≡ false
unfolding passes
passes_free s e = not-true s.taken e

pub named_taken : (n : ℕ) (s : Slot) → passes (Named n) s ≡ true → s.taken ≡ true
unfolding passes
named_taken n s e = (both s.taken (eqb s.system n) e).0

pub named_system : (n : ℕ) (s : Slot) → passes (Named n) s ≡ true → s.system ≡ n
unfolding passes
named_system n s e = eqb-true s.system n (both s.taken (eqb s.system n) e).1

pub taken_named : (n : ℕ) (s : Slot) → s.taken ≡ true → s.system ≡ n → passes (Named n) s ≡ true
unfolding passes
taken_named n s e w = rw (e, eq-eqb s.system n w)

pub other_named : (k m f n : ℕ) → (k ≡ n → ⊥) → passes (Named n) (slot_of k m f) ≡ false
unfolding passes
other_named k m f n e = ne_eqb k n e

-- a taken slot is found no later than one that is named
pub taken_first : (n : ℕ) (l : List Slot) → found_at Taken l ≤ found_at (Named n) l
unfolding passes
taken_first n l = go (dec_lt (found_at (Named n) l) (length l))
  where
    go : Dec (found_at (Named n) l < length l) → found_at Taken l ≤ found_at (Named n) l
    go (yes h) =
        first_least (passes Taken) free l (found_at (Named n) l)
        (named_taken n (get_or l (found_at (Named n) l) free) (first_passes (passes (Named n)) free l h))
    go (no h) = omega (arith, first_most (passes Taken) l, first_most (passes (Named n)) l)

-- ---- no slot is taken

pub free_not_taken : passes Taken free ≡ false
unfolding passes
free_not_taken = refl

pub free_not_named : (n : ℕ) → passes (Named n) free ≡ false
unfolding passes
free_not_named n = refl

pub no_slots_none : (q : Query) → passes q free ≡ false → found_at q no_slots ≡ 32
unfolding first_at
no_slots_none q e = rw e

pub no_slots_there : (q : Query) → passes q free ≡ false → is_there q no_slots ≡ false
no_slots_there q e = ap (λ (i : ℕ). ltb i 32) (no_slots_none q e)
