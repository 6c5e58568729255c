-- The ways in which received data ends, each with what the tests before it say: what is proved of received data goes by these.
use Prim.Native.Nat.{ℕ, ◌%◌}
use mathlib.Core.Bool.{true, false}
use mathlib.Core.List.{List}
use mathlib.Core.Path.{◌≡◌}
use borrow.Author.Tests.{eqb-true, eqb-false}
use lib.Dec.{eqb}
use lib.ListN.{get_or, set}
use Rattle.wire.proofs.Pick.{by_pick}
use Rattle.frame.specs.Header.{w_of, stream_of}
use Rattle.frame.specs.declared.Header.{Header}
use Rattle.slots.specs.Slots.{slot_of, found_at, is_there}
use Rattle.slots.specs.declared.Query.TheVariants.{Free, Named, Answered}
use Rattle.text.specs.Text.{judged_of}
use Rattle.message.specs.declared.Text.TheVariants.{Empty, About}
use Rattle.state.specs.State.{with_received, own_freed}
use Rattle.state.specs.declared.Device.{Device}
use Rattle.device.specs.Rows.{answer, told, takes, sent, complain_of, secondary_of, opened_of, primary_of, data_of}
use Rattle.device.specs.Acted.{Acted}

-- a primary to this device
pub record Primary (d : Device) (h : Header) : Type 0 where
  pub mine : h.session ≡ d.id
  pub odd : eqb (h.byte3 % 2) 0 ≡ false

-- with its flag set, a function that is not 255, and a good text
pub record GoodPrimary (d : Device) (h : Header) (text : List ℕ) : Type 0 where
  pub primary : Primary d h
  pub flag : get_or d.flags (stream_of h) false ≡ true
  pub not_255 : eqb h.byte3 255 ≡ false
  pub good : judged_of text ≡ 0

-- what is complained of: any data, S9F1; a primary, S9F3, F5, F7
pub data Wrong (h : Header) : ℕ → Type 0 where
  wrong_1 : Wrong h 1
  wrong_3 : eqb (h.byte3 % 2) 0 ≡ false → Wrong h 3
  wrong_5 : eqb (h.byte3 % 2) 0 ≡ false → Wrong h 5
  wrong_7 : eqb (h.byte3 % 2) 0 ≡ false → Wrong h 7

-- which numbers say that it is dropped
pub data Dropped : ℕ → Type 0 where
  dropped_32 : Dropped 32
  dropped_33 : Dropped 33

pub data Ends (d : Device) (n : ℕ) (h : Header) (text : List ℕ) : Acted → Type 0 where
  drops : {k : ℕ} → Dropped k → Ends d n h text (told k d)
  complains : {f : ℕ} → Wrong h f → (stream_of h ≡ 9 → ⊥) → Ends d n h text (takes d (sent d false 9 f n (About h)))
  closes : w_of h ≡ false → is_there (Answered h.system (stream_of h) h.byte3) d.own ≡ true
      → Ends d n h text (told 31 (own_freed d (found_at (Answered h.system (stream_of h) h.byte3) d.own)))
  aborts : GoodPrimary d h text → w_of h ≡ true → Ends d n h text (answer 0 d (sent d false (stream_of h) 0 h.system Empty))
  opens : GoodPrimary d h text → w_of h ≡ true → is_there (Named h.system) d.received ≡ false → is_there Free d.received ≡ true
      → Ends d n h text (told 30 (with_received d (set d.received (found_at Free d.received) (slot_of h.system (stream_of h) h.byte3))))
  hears : GoodPrimary d h text → w_of h ≡ false → Ends d n h text (told 30 d)

module _ (d : Device) (n : ℕ) (h : Header) (text : List ℕ) where
  abbrev E : Acted → Type 0
  E = Ends d n h text

  complain_ends : (f : ℕ) → Wrong h f → E (complain_of d n h f)
  unfolding complain_of
  complain_ends f w = by_pick E _ _ _ (λ _. drops dropped_32) (λ e. complains w (eqb-false (stream_of h) 9 e))

  secondary_ends : E (secondary_of d h)
  unfolding secondary_of
  secondary_ends = by_pick E _ _ _ (λ _. drops dropped_32) (λ w. by_pick E _ _ _ (λ t. closes w t) (λ _. drops dropped_32))

  opened_ends : GoodPrimary d h text → w_of h ≡ true → E (opened_of d h)
  unfolding opened_of
  opened_ends g w = by_pick E _ _ _ (λ _. drops dropped_33) (λ u. by_pick E _ _ _ (λ room. opens g w u room) (λ _. aborts g w))

  primary_ends : Primary d h → E (primary_of d n h text)
  unfolding primary_of
  primary_ends p =
      by_pick E _ _ _
      (λ flag. by_pick E _ _ _ (λ _. complain_ends 5 (wrong_5 p.odd))
      (λ not. by_pick E _ _ _
      (λ j.
      let g : GoodPrimary d h text = record { primary = p; flag = flag; not_255 = not; good = eqb-true (judged_of text) 0 j } in
      by_pick E _ _ _ (λ w. opened_ends g w) (λ w. hears g w))
      (λ _. complain_ends 7 (wrong_7 p.odd))))
      (λ _. complain_ends 3 (wrong_3 p.odd))

  pub data_ends : E (data_of d n h text)
  unfolding data_of
  data_ends =
      by_pick E _ _ _
      (λ mine. by_pick E _ _ _
      (λ _. secondary_ends)
      (λ odd. primary_ends (record { mine = eqb-true h.session d.id mine; odd = odd })))
      (λ _. complain_ends 1 wrong_1)
