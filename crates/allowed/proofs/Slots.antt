-- The test of 32 slots and the facts that it stands for give each other, and stores keep the facts.
use Prim.Native.Nat.{ℕ, zero, suc, ◌+◌, ◌%◌, ◌≤◌, ◌<◌}
use mathlib.Core.List.{List}
use mathlib.Core.Bool.{Bool, true, false, false≢true, cond}
use mathlib.Core.Path.{◌≡◌, refl, ap, sym, subst, ◌∙◌}
use native.Mathlib.Nat.{not-suc-le-zero}
use native.Mathlib.Decide.{ℕ_discrete, dec_lt}
use native.Mathlib.Numerals.{add-one}
use native.Mathlib.Omega.{arith}
use borrow.Author.Tests.{eq-eqb, eqb-true, leb-true}
use lib.Dec.{eqb, leb, ltb}
use lib.ListN.{length, get_or, set, length-set}
use lib.Seq.{get_or-set_same, get_or-set_other}
use Rattle.wire.proofs.Choice.{both}
use Rattle.slots.specs.Slots.{free, slot_of, no_slots, passes, found_at, is_there, is_primary}
use Rattle.allowed.specs.Slots.{allows_slot, allows_first, allows_slots}
use Rattle.slots.specs.declared.Slot.{Slot}
use Rattle.slots.specs.declared.Query.TheVariants.{Named}
use Rattle.slots.proofs.Found.{free_not_named, named_system, named_taken, taken_named}
use Rattle.wire.proofs.Search.{first_least, first_passes, none_at, none_by}

-- ---- slot by slot

module _ (l : List Slot) where
  abbrev pub allowed_at : ℕ → Bool
  allowed_at i = allows_slot l i (get_or l i free)

  pub allows_more : (i : ℕ) → allows_first l i ≡ true → allowed_at i ≡ true → allows_first l (i + 1) ≡ true
  unfolding allows_first
  allows_more i h e = rw add-one (ap (λ (b : Bool). cond b (allows_first l i) false) e ∙ h)

  each_step : (n i : ℕ) → i < suc n → (b : Bool) → allowed_at n ≡ b → cond b (allows_first l n) false ≡ true
      → (allows_first l n ≡ true → i < n → allowed_at i ≡ true) → Dec (i < n) → allowed_at i ≡ true
  each_step n i h false w e f d = absurd (false≢true e)
  each_step n i h true w e f (yes k) = f e k
  each_step n i h true w e f (no k) = let z : i ≡ n = omega arith in ap allowed_at z ∙ w

  pub allows_each : (n : ℕ) → allows_first l n ≡ true → (i : ℕ) → i < n → allowed_at i ≡ true
  unfolding allows_first
  allows_each zero e i h = absurd (not-suc-le-zero h)
  allows_each (suc n) e i h = each_step n i h (allowed_at n) refl e (λ w k. allows_each n w i k) (dec_lt i n)

  pub each_allows : (n : ℕ) → ((i : ℕ) → i < n → allowed_at i ≡ true) → allows_first l n ≡ true
  unfolding allows_first
  each_allows zero f = refl
  each_allows (suc n) f = ap (λ (b : Bool). cond b (allows_first l n) false) (f n (omega arith)) ∙ each_allows n (λ i h. f i (omega arith))

  pub allows_fails : (n i : ℕ) → i < n → allowed_at i ≡ false → allows_first l n ≡ false
  allows_fails n i h e = go (allows_first l n) refl
    where
      go : (b : Bool) → allows_first l n ≡ b → b ≡ false
      go true w = absurd (false≢true (sym e ∙ allows_each n w i h))
      go false w = refl

-- ---- slots that are allowed

pub record Allowed (l : List Slot) : Type 0 where
  pub size : length l ≡ 32
  pub clear : (i : ℕ) → i < 32 → (get_or l i free).taken ≡ false → get_or l i free ≡ free
  pub primary : (i : ℕ) → i < 32 → (get_or l i free).taken ≡ true → is_primary (get_or l i free).stream (get_or l i free).function ≡ true
  pub apart : (i j : ℕ) → i < 32 → j < 32 → (get_or l i free).taken ≡ true → (get_or l j free).taken ≡ true
      → (get_or l i free).system ≡ (get_or l j free).system → i ≡ j

-- one slot's test, where it is taken and where it is free
taken_test : (l : List Slot) (i : ℕ) (s : Slot) → s.taken ≡ true → allows_slot l i s ≡ true
    → (found_at (Named s.system) l ≡ i) × (is_primary s.stream s.function ≡ true)
taken_test l i s e h =
    let w : cond (eqb (found_at (Named s.system) l) i) (is_primary s.stream s.function) false ≡ true = rw e at h in
    let v = both (eqb (found_at (Named s.system) l) i) (is_primary s.stream s.function) w in
    (eqb-true (found_at (Named s.system) l) i v.0, v.1)

free_test : (l : List Slot) (i : ℕ) (s : Slot) → s.taken ≡ false → allows_slot l i s ≡ true → s ≡ free
free_test l i s e h =
    let w : cond (eqb s.system 0) (cond (eqb s.stream 0) (eqb s.function 0) false) false ≡ true = rw e at h in
    let v = both (eqb s.system 0) (cond (eqb s.stream 0) (eqb s.function 0) false) w in
    let u = both (eqb s.stream 0) (eqb s.function 0) v.1 in
    λ k.
    record {
      taken = e k;
      system = eqb-true s.system 0 v.0 k;
      stream = eqb-true s.stream 0 u.0 k;
      function = eqb-true s.function 0 u.1 k;
    }

pub allows_facts : (l : List Slot) → length l ≡ 32 → allows_slots l ≡ true → Allowed l
unfolding allows_slots
allows_facts l size e =
    record {
      size = size;
      clear = λ i h w. free_test l i (get_or l i free) w (at i h);
      primary = λ i h w. (taken_test l i (get_or l i free) w (at i h)).1;
      apart = λ i j hi hj wi wj same. sym (place i hi wi) ∙ ap (λ (n : ℕ). found_at (Named n) l) same ∙ place j hj wj;
    }
  where
    at : (i : ℕ) → i < 32 → allows_slot l i (get_or l i free) ≡ true
    at i h = allows_each l 32 e i h

    place : (i : ℕ) → i < 32 → (get_or l i free).taken ≡ true → found_at (Named (get_or l i free).system) l ≡ i
    place i h w = (taken_test l i (get_or l i free) w (at i h)).0

module _ {l : List Slot} (a : Allowed l) where
  -- a taken slot is the first with its system bytes
  pub taken_place : (i : ℕ) → i < 32 → (get_or l i free).taken ≡ true → found_at (Named (get_or l i free).system) l ≡ i
  taken_place i h w =
      let n : ℕ = (get_or l i free).system in
      let le : found_at (Named n) l ≤ i = first_least (passes (Named n)) free l i (taken_named n (get_or l i free) w refl) in
      let p = first_passes (passes (Named n)) free l (omega (arith, a.size)) in
      let s : Slot = get_or l (found_at (Named n) l) free in
      a.apart (found_at (Named n) l) i (omega arith) h (named_taken n s p) w (named_system n s p)

  at_allowed : (i : ℕ) → i < 32 → (b : Bool) → (get_or l i free).taken ≡ b → allows_slot l i (get_or l i free) ≡ true
  at_allowed i h true w = rw (w, eq-eqb (found_at (Named (get_or l i free).system) l) i (taken_place i h w)) (a.primary i h w)
  at_allowed i h false w = ap (allows_slot l i) (a.clear i h w)

  pub facts_allow : allows_slots l ≡ true
  unfolding allows_slots
  facts_allow = each_allows l 32 (λ i h. at_allowed i h (get_or l i free).taken refl)

-- ---- no slot taken, and one stored

pub no_slots_allowed : Allowed no_slots
unfolding allows_slots allows_first
no_slots_allowed = allows_facts no_slots refl refl

module _ {l : List Slot} (a : Allowed l) (at : ℕ) (x : Slot) where
  abbrev after : ℕ → Slot
  after i = get_or (set l at x) i free

  same : (i : ℕ) → i < 32 → i ≡ at → after i ≡ x
  same i h e = ap after e ∙ get_or-set_same l at x free (omega (arith, a.size))

  other : (i : ℕ) → (i ≡ at → ⊥) → after i ≡ get_or l i free
  other i e = get_or-set_other l at i x free e

  each : (P : Slot → Type 0) → P x → (i : ℕ) → i < 32 → P (get_or l i free) → P (after i)
  each P here i h there = go (ℕ_discrete i at)
    where
      go : Dec (i ≡ at) → P (after i)
      go (yes e) = subst P (sym (same i h e)) here
      go (no e) = subst P (sym (other i e)) there

  module _ (none : x.taken ≡ true → found_at (Named x.system) l ≡ 32) where
    -- no other slot has the number of the stored one
    alone : (i j : ℕ) → i < 32 → j < 32 → i ≡ at → (j ≡ at → ⊥)
        → (after i).taken ≡ true → (after j).taken ≡ true → (after i).system ≡ (after j).system → ⊥
    alone i j hi hj p q ti tj e =
        let n : found_at (Named x.system) l ≡ 32 = none (rw (same i hi p) at ti) in
        let t : (get_or l j free).taken ≡ true = rw (other j q) at tj in
        let w : x.system ≡ (get_or l j free).system = rw (same i hi p, other j q) at e in
        let unnamed : passes (Named x.system) (get_or l j free) ≡ false =
        none_at (passes (Named x.system)) free l (n ∙ sym a.size) j (rw a.size hj) in
        false≢true (sym unnamed ∙ taken_named x.system (get_or l j free) t (sym w))

    apart_go : (i j : ℕ) → i < 32 → j < 32 → (after i).taken ≡ true → (after j).taken ≡ true → (after i).system ≡ (after j).system
        → Dec (i ≡ at) → Dec (j ≡ at) → i ≡ j
    apart_go i j hi hj ti tj e (yes p) (yes q) = p ∙ sym q
    apart_go i j hi hj ti tj e (yes p) (no q) = absurd (alone i j hi hj p q ti tj e)
    apart_go i j hi hj ti tj e (no p) (yes q) = absurd (alone j i hj hi q p tj ti (sym e))
    apart_go i j hi hj ti tj e (no p) (no q) =
        a.apart i j hi hj (rw (other i p) at ti) (rw (other j q) at tj) (rw (other i p, other j q) at e)

    stored : (x.taken ≡ false → x ≡ free) → (x.taken ≡ true → is_primary x.stream x.function ≡ true) → Allowed (set l at x)
    stored is_clear is_primary_by_gate =
        record {
          size = length-set l at x ∙ a.size;
          clear = λ i h. each (λ s. s.taken ≡ false → s ≡ free) is_clear i h (a.clear i h);
          primary = λ i h. each (λ s. s.taken ≡ true → is_primary s.stream s.function ≡ true) is_primary_by_gate i h (a.primary i h);
          apart = λ i j hi hj ti tj e. apart_go i j hi hj ti tj e (ℕ_discrete i at) (ℕ_discrete j at);
        }

module _ {l : List Slot} (a : Allowed l) (at : ℕ) where
  pub closed_allowed : Allowed (set l at free)
  closed_allowed = stored a at free (λ e. absurd (false≢true e)) (λ e. refl) (λ e. absurd (false≢true e))

  pub opened_allowed : (n m f : ℕ) → is_primary m f ≡ true → found_at (Named n) l ≡ 32 → Allowed (set l at (slot_of n m f))
  opened_allowed n m f p none = stored a at (slot_of n m f) (λ e. none) (λ e. absurd (false≢true (sym e))) (λ e. p)

-- system bytes are in no slot once their slot is free
module _ {l : List Slot} (a : Allowed l) (n : ℕ) where
  named_place : (i : ℕ) → i < 32 → passes (Named n) (get_or l i free) ≡ true → i ≡ found_at (Named n) l
  named_place i h e =
      let s : Slot = get_or l i free in
      sym (taken_place a i h (named_taken n s e)) ∙ ap (λ (k : ℕ). found_at (Named k) l) (named_system n s e)

  pub closed_none : found_at (Named n) (set l (found_at (Named n) l) free) ≡ 32
  closed_none = none_by (passes (Named n)) free (set l at free) (λ i h. go i (rw size at h) (ℕ_discrete i at)) ∙ size
    where
      at : ℕ
      at = found_at (Named n) l

      size : length (set l at free) ≡ 32
      size = length-set l at free ∙ a.size

      unnamed : (i : ℕ) → i < 32 → (i ≡ at → ⊥) → (b : Bool) → passes (Named n) (get_or l i free) ≡ b → b ≡ false
      unnamed i h e true w = absurd (e (named_place i h w))
      unnamed i h e false w = refl

      go : (i : ℕ) → i < 32 → Dec (i ≡ at) → passes (Named n) (get_or (set l at free) i free) ≡ false
      go i h (yes e) = ap (passes (Named n)) (same a at free i h e) ∙ free_not_named n
      go i h (no e) = ap (passes (Named n)) (other a at free i e) ∙ unnamed i h e (passes (Named n) (get_or l i free)) refl

pub closed_not_there : {l : List Slot} → Allowed l → (n : ℕ) → is_there (Named n) (set l (found_at (Named n) l) free) ≡ false
closed_not_there a n = ap (λ (i : ℕ). ltb i 32) (closed_none a n)

-- a primary's stream is at most 127, its function at most 253
pub primary_range : (m f : ℕ) → is_primary m f ≡ true → (m ≤ 127) × (f ≤ 253)
primary_range m f e =
    let last : Bool = cond (eqb (f % 2) 1) (leb f 253) false in
    let v = both (leb m 127) last (both (leb 1 m) (cond (leb m 127) last false) e).1 in
    (leb-true m 127 v.0, leb-true f 253 (both (eqb (f % 2) 1) (leb f 253) v.1).1)

-- so each of slots that are allowed has a function of at most 253
pub function_small : (l : List Slot) (i : ℕ) → allows_slots l ≡ true → i < 32 → (get_or l i free).function ≤ 253
unfolding allows_slots
function_small l i e h = go (get_or l i free).taken refl
  where
    one : allows_slot l i (get_or l i free) ≡ true
    one = allows_each l 32 e i h

    go : (b : Bool) → (get_or l i free).taken ≡ b → (get_or l i free).function ≤ 253
    go true w = (primary_range (get_or l i free).stream (get_or l i free).function (taken_test l i (get_or l i free) w one).1).1
    go false w = rw (free_test l i (get_or l i free) w one) (omega arith)
