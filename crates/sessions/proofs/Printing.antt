-- The slots and the flags that are printed, one more at a time.
use Rattle.std.proofs.Common.{◌≡◌, ℕ, ◌+◌, true, false, get_or, List, [], ◌∷◌, Bool, ◌++◌, append_assoc, append-nil, add-one, sym, ap}
use Rattle.std.specs.Prelude.{decimal}
use Rattle.slots.specs.declared.Slot.{Slot}
use Rattle.slots.specs.Slots.{free}
use Rattle.driver.specs.Printed.{field, line}
use Rattle.sessions.specs.Records.{slots_first, flags_first}

-- fields, each written behind a tab
nested : (a b c d e : List ℕ) → field (a ++ field (b ++ field (c ++ field (d ++ field e)))) ≡ field a ++ field b ++ field c ++ field d ++ field e
nested a b c d e = simp append_assoc

module _ (word : List ℕ) (l : List Slot) (k : ℕ) where
  abbrev at : Slot
  at = get_or l k free

  -- the slot at the place, as it is written
  abbrev pub slot_written : List ℕ
  slot_written = field (word ++ field (decimal k ++ field (decimal at.system ++ field (decimal at.stream ++ field (decimal at.function)))))

  pub slot_more : at.taken ≡ true → slots_first word l k ++ slot_written ≡ slots_first word l (k + 1)
  unfolding slots_first
  slot_more e =
      rw (add-one, e)
      (ap (λ (s : List ℕ). slots_first word l k ++ s) (nested word (decimal k) (decimal at.system) (decimal at.stream) (decimal at.function)))

  pub slot_none : at.taken ≡ false → slots_first word l k ≡ slots_first word l (k + 1)
  unfolding slots_first
  slot_none e = rw (add-one, e) (sym (append-nil (slots_first word l k)))

module _ (before : List ℕ) (l : List Bool) (k : ℕ) where
  pub flag_more : get_or l k false ≡ true → (before ++ flags_first l k) ++ field (decimal k) ≡ before ++ flags_first l (k + 1)
  unfolding flags_first
  flag_more e = rw (add-one, e) (append_assoc before (flags_first l k) (field (decimal k)))

  pub flag_none : get_or l k false ≡ false → before ++ flags_first l k ≡ before ++ flags_first l (k + 1)
  unfolding flags_first
  flag_none e = rw (add-one, e) (ap (λ (s : List ℕ). before ++ s) (sym (append-nil (flags_first l k))))

-- a line, printed in its parts
module _ (word a b : List ℕ) where
  pub at_once : word ++ field (a ++ (b ++ 10 ∷ [])) ≡ line word (field a ++ b)
  at_once = simp append_assoc

  pub in_three : (old c : List ℕ) → ((old ++ (word ++ (field a ++ b))) ++ c) ++ 10 ∷ [] ≡ old ++ line word (field a ++ b ++ c)
  in_three old c = simp append_assoc
