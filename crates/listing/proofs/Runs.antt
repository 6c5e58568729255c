-- A run over the rest of a piece is the run over all of it, with what is behind taken off: a turn is a step of the definition.
use Prim.Native.Nat.{ℕ, suc, ◌+◌, ◌-◌, ◌≤◌, ◌<◌}
use mathlib.Core.List.{List}
use mathlib.Core.Path.{◌≡◌, refl, sym, ap, ◌∙◌}
use native.Mathlib.Omega.{arith}
use native.Mathlib.Numerals.{add-one}
use borrow.Author.Tests.{le-leb, lt-leb}
use lib.ListN.{length, drop, get_or, length-append}
use lib.Seq.{sets, drop-cons, drop-length}
use Rattle.wire.proofs.Stores.{sets_append}
use Rattle.capture.specs.Capture.{byte_told}
use Rattle.capture.specs.declared.Told.{Told}
use Rattle.lines.proofs.Stored.{Stored}
use Rattle.listing.specs.Listing.{lines_of, byte_printed}
use Rattle.listing.specs.Piece.{Run, one, none, run, listed_by}
use Rattle.capture.specs.declared.Lister.{Lister}

-- what r still prints behind a place of out is what r₀ prints of all, into s
pub record Joined (r₀ : Run) (s : List ℕ) (r : Run) (out : List ℕ) (i at : ℕ) : Type 0 where
  pub lister : r.lister ≡ r₀.lister
  pub consumed : i + r.consumed ≡ r₀.consumed
  pub used : at + length r.lines ≡ length r₀.lines
  pub stored : sets out at r.lines ≡ sets s 0 r₀.lines

pub joined_first : (l : Lister) (s p : List ℕ) → Joined (run l (length s) p) s (run l (length s - 0) (drop 0 p)) s 0 0
joined_first l s p =
    let z : length s - 0 ≡ length s = omega arith in
    rw z (record { lister = refl; consumed = omega arith; used = omega arith; stored = refl })

-- a byte more
module _ (l : Lister) (room : ℕ) (p : List ℕ) (i : ℕ) (h : i < length p) where
  run_more : 320 ≤ room → run l room (drop i p)
      ≡ one (byte_printed l (get_or p i 0)) (run (byte_printed l (get_or p i 0)).lister (room - length (byte_printed l (get_or p i 0)).lines) (drop (suc i) p))
  unfolding run
  run_more k = ap (run l room) (drop-cons p i 0 h) ∙ rw (le-leb 320 room k)

  pub run_full : room < 320 → run l room (drop i p) ≡ none l
  unfolding run
  run_full k = ap (run l room) (drop-cons p i 0 h) ∙ rw (lt-leb 320 room k)

pub run_end : (l : Lister) (room : ℕ) (p : List ℕ) (i : ℕ) → i ≡ length p → run l room (drop i p) ≡ none l
unfolding run
run_end l room p i e = ap (λ (k : ℕ). run l room (drop k p)) e ∙ ap (run l room) (drop-length p)

-- the rest behind that byte
module _ (r₀ : Run) (s p out : List ℕ) (l : Lister) (i at : ℕ) (h : i < length p) (k : 320 ≤ length s - at) (t : Told)
    (e : t ≡ byte_told l (get_or p i 0)) where
  as_printed : (t.lister ≡ (byte_printed l (get_or p i 0)).lister) × (lines_of t ≡ (byte_printed l (get_or p i 0)).lines)
  unfolding byte_printed
  as_printed = (ap (λ (x : Told). x.lister) e, ap lines_of e)

  pub joined_next : (end : ℕ) (out' : List ℕ) → Joined r₀ s (run l (length s - at) (drop i p)) out i at → Stored out at (lines_of t) out' end
      → Joined r₀ s (run t.lister (length s - end) (drop (i + 1) p)) out' (i + 1) end
  joined_next end out' j w =
      let b = byte_printed l (get_or p i 0) in
      let r = run b.lister (length s - at - length b.lines) (drop (suc i) p) in
      let m = run_more l (length s - at) p i h k in
      let lines : lines_of t ≡ b.lines = as_printed.1 in
      let behind : end ≡ at + length b.lines = w.behind ∙ ap (λ (x : List ℕ). at + length x) lines in
      let room : length s - (at + length b.lines) ≡ length s - at - length b.lines = omega arith in
      let next : i + 1 ≡ suc i = add-one i in
      let same : run t.lister (length s - end) (drop (i + 1) p) ≡ r = rw (as_printed.0, behind, room, next) in
      rw same
      (record {
        lister = sym (ap (λ (x : Run). x.lister) m) ∙ j.lister;
        consumed = omega (arith, ap (λ (x : Run). x.consumed) m, j.consumed);
        used = omega (arith, behind, ap (λ (x : Run). length x.lines) m, length-append b.lines r.lines, j.used);
        stored =
            ap (λ (x : List ℕ). sets x end r.lines) (w.is ∙ ap (sets out at) lines)
            ∙ ap (λ (x : ℕ). sets (sets out at b.lines) x r.lines) behind
            ∙ sets_append out at b.lines r.lines
            ∙ ap (λ (x : Run). sets out at x.lines) (sym m)
            ∙ j.stored;
      })

-- nothing is left of the piece, or of the room
pub joined_last : (r₀ r : Run) (s out : List ℕ) (l : Lister) (i at : ℕ) → Joined r₀ s r out i at → r ≡ none l
    → (record { lister = l; consumed = i; used = at } ≡ listed_by r₀) × (out ≡ sets s 0 r₀.lines)
joined_last r₀ r s out l i at j e =
    let a : l ≡ r₀.lister = ap (λ (x : Run). x.lister) (sym e) ∙ j.lister in
    let b : i ≡ r₀.consumed = omega (arith, ap (λ (x : Run). x.consumed) e, j.consumed) in
    let c : at ≡ length r₀.lines = omega (arith, ap (λ (x : Run). length x.lines) e, j.used) in
    (rw (a, b, c), ap (λ (x : Run). sets out at x.lines) (sym e) ∙ j.stored)
