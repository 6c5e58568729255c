-- The list behind 14 by the phase, its tests joined as the code joins them.
use Prim.Native.Nat.{ℕ, zero, suc, ◌-◌, ◌/◌, ◌^◌, ◌≤◌}
use mathlib.Core.Path.{◌≡◌, refl, sym, ap}
use mathlib.Core.Bool.{Bool, true, false, cond}
use native.Mathlib.Omega.{arith}
use borrow.Author.Tests.{eqb-true, eqb-false, lt-ltb}
use lib.Dec.{eqb, leb, ltb}
use lib.ListN.{length}
use Rattle.wire.specs.Longest.{longest}
use Rattle.wire.proofs.Choice.{both}
use Rattle.item.specs.Code.{kind_of, is_plain}
use Rattle.item.specs.declared.Form.{Form}
use Rattle.levels.specs.Levels.{stack_of, stack, top_of, clean_of, Clean}
use Rattle.levels.specs.declared.Levels.{Levels}
use Rattle.levels.proofs.Laws.{clean_levels}
use Rattle.follow.proofs.Tests.{few_bytes, more_bytes}
use Rattle.follow.specs.Fits.{fits_items, fits_lengths}
use Rattle.reader.specs.Step.{known}
use Rattle.reader.specs.Feed.{awaits_one, some_open, levels_in, allows_phase, allows_frame, allows_end, allows_at}
use Rattle.reader.specs.Asked.{Placed}
use Rattle.reader.specs.declared.Phase.{Phase}
use Rattle.reader.specs.declared.Phase.TheVariants.{Format, Length, Content, Refused}
use Rattle.reader.specs.declared.Reader.{Reader}
use Rattle.reader.proofs.Tests.{awaits_none, awaits_top}
use Rattle.reader.proofs.Allowed.{framed}

awaits_is : (l : Levels) → l.level ≤ 16 → awaits_one (stack l) ≡ cond (eqb l.level 0) true (ltb 0 (top_of l))
awaits_is l few = go (eqb l.level 0) refl
  where
    go : (b : Bool) → eqb l.level 0 ≡ b → awaits_one (stack l) ≡ cond (eqb l.level 0) true (ltb 0 (top_of l))
    go true e = rw e (awaits_none l (eqb-true l.level 0 e))
    go false e = rw e (awaits_top l (eqb-false l.level 0 e) few)

some_open_is : (l : Levels) → some_open (stack l) ≡ ltb 0 l.level
unfolding stack_of
some_open_is l = go l.level
  where
    go : (d : ℕ) → some_open (stack_of l.awaited d) ≡ ltb 0 d
    go zero = refl
    go (suc d) = sym (lt-ltb 0 (suc d) (omega arith))

-- ---- a phase

pub format_allowed : (r : Reader) → Placed r → r.phase ≡ Format
    → let l = levels_in r in
    let n = r.size - r.read in
    allows_phase r.form r.phase n (stack l) ≡ cond (cond (eqb l.level 0) true (ltb 0 (top_of l))) (fits_items r.form n (stack l)) false
unfolding allows_phase
format_allowed r h e = rw (e, awaits_is (levels_in r) h.clean.few)

small_is : (v k : ℕ) → ltb v (256 ^ k) ≡ eqb (v / 256 ^ k) 0
small_is v k = go (eqb (v / 256 ^ k) 0) refl
  where
    go : (b : Bool) → eqb (v / 256 ^ k) 0 ≡ b → ltb v (256 ^ k) ≡ eqb (v / 256 ^ k) 0
    go true e = rw e (few_bytes v k (eqb-true (v / 256 ^ k) 0 e))
    go false e = rw e (more_bytes v k (eqb-false (v / 256 ^ k) 0 e))

pub length_allowed : (f : Form) (c j v n : ℕ) (l : Levels)
    → allows_phase f (Length c j v) n (stack l)
    ≡ cond (ltb 0 l.level)
    (cond (known c)
    (cond (ltb 0 j)
    (cond (leb j 3)
    (cond (eqb (v / 256 ^ (3 - j)) 0) (fits_lengths f c n (stack l) j v) false) false) false) false) false
unfolding allows_phase
length_allowed f c j v n l = rw (some_open_is l, small_is v (3 - j))

pub content_allowed : (f : Form) (c k n : ℕ) (l : Levels)
    → allows_phase f (Content c k) n (stack l)
    ≡ cond (ltb 0 l.level)
    (cond (is_plain (kind_of c))
    (cond (ltb 0 k)
    (cond (leb k n) (fits_items f (n - k) (stack l)) false) false) false) false
unfolding allows_phase
content_allowed f c k n l = rw (some_open_is l)

pub refused_allowed : (f : Form) (x n : ℕ) (l : Levels) → allows_phase f (Refused x) n (stack l) ≡ cond (ltb 0 x) (leb x 6) false
unfolding allows_phase
refused_allowed f x n l = refl

pub ruleset phase_allowed = (format_allowed, length_allowed, content_allowed, refused_allowed)

-- ---- what stands before the phase

going_at : (p : Phase) (r : Reader) → ((x : ℕ) → p ≡ Refused x → ⊥) → allows_at p r ≡ allows_frame r
going_at Format r h = refl
going_at (Length c j v) r h = refl
going_at (Content c k) r h = refl
going_at (Refused x) r h = absurd (h x refl)

pub at_going : (r : Reader) → ((x : ℕ) → r.phase ≡ Refused x → ⊥)
    → allows_at r.phase r ≡ cond (leb r.size longest) (cond (leb r.read r.size) (clean_of (levels_in r)) false) false
unfolding allows_frame
at_going r h = going_at r.phase r h

pub at_refused : (r : Reader) {x : ℕ} → r.phase ≡ Refused x
    → allows_at r.phase r ≡ cond (eqb r.read 0) (cond (eqb r.level 0) (clean_of (levels_in r)) false) false
unfolding allows_end
at_refused r e = ap (λ (p : Phase). allows_at p r) e

at_clean : (r : Reader) → length r.awaited ≡ 16 → clean_of (levels_in r) ≡ true → Clean (levels_in r)
at_clean r full e =
    let c = clean_levels (levels_in r) full e in
    record { is = c.0; few = c.1 }

frame_placed : (r : Reader) → length r.awaited ≡ 16 → allows_frame r ≡ true → Placed r
frame_placed r full e =
    let f = framed r full e in
    record { within = f.within; clean = f.clean }

pub placed_at : (p : Phase) (r : Reader) → length r.awaited ≡ 16 → allows_at p r ≡ true → Placed r
unfolding allows_end
placed_at Format r full e = frame_placed r full e
placed_at (Length c j v) r full e = frame_placed r full e
placed_at (Content c k) r full e = frame_placed r full e
placed_at (Refused x) r full e =
    let b = both (eqb r.read 0) _ e in
    let d = both (eqb r.level 0) _ b.1 in
    record { within = omega (arith, eqb-true r.read 0 b.0); clean = at_clean r full d.1 }
