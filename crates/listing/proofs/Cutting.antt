-- However a stream is cut into pieces and its output into buffers, its listing is printed: each call prints of the bytes that it consumes what the
-- definition says.
use Prim.Native.Nat.{ℕ, suc, ◌+◌, ◌-◌, ◌≤◌, ◌<◌}
use mathlib.Core.Bool.{Bool, true, false, cond}
use mathlib.Core.List.{List, [], ◌∷◌, ◌++◌, append_assoc}
use mathlib.Core.Path.{◌≡◌, refl, sym, ap, ◌∙◌}
use native.Mathlib.Omega.{arith}
use borrow.Author.Tests.{le-leb, leb-true}
use lib.Dec.{leb}
use lib.ListN.{length, take, drop, length-append, length-take, length-drop}
use lib.Seq.{sets, length-sets}
use Rattle.lines.specs.Text.{line_text}
use Rattle.capture.specs.Capture.{fresh_lister, last_line}
use Rattle.listing.specs.Listing.{Printed, printed, behind, byte_printed, bytes_printed, listing_of}
use Rattle.listing.specs.Piece.{Run, one, none, run, listed_by}
use Rattle.listing.specs.Calls.{Call, run_of, called, eaten}
use Rattle.capture.specs.declared.Lister.{Lister}
use Rattle.listing.specs.declared.Listed.{Listed}
use Rattle.listing.proofs.Short.{byte_short}

behind_behind : (s t : List ℕ) (x : Printed) → behind s (behind t x) ≡ behind (s ++ t) x
behind_behind s t x = ap (λ (v : List ℕ). printed x.lister v) (sym (append_assoc s t x.lines))

-- bytes behind bytes
pub printed_append : (l : Lister) (p q : List ℕ) → bytes_printed l (p ++ q) ≡ behind (bytes_printed l p).lines (bytes_printed (bytes_printed l p).lister q)
unfolding bytes_printed
printed_append l [] q = refl
printed_append l (b ∷ p) q =
    let t = byte_printed l b in
    ap (behind t.lines) (printed_append t.lister p q)
    ∙ behind_behind t.lines (bytes_printed t.lister p).lines (bytes_printed (bytes_printed t.lister p).lister q)

-- ---- one call

abbrev printed_by : Run → Printed
printed_by r = printed r.lister r.lines

-- of the bytes that it consumes a call prints all, and no others
pub run_printed : (l : Lister) (room : ℕ) (p : List ℕ) → bytes_printed l (take (run l room p).consumed p) ≡ printed_by (run l room p)
unfolding run bytes_printed
run_printed l room [] = refl
run_printed l room (b ∷ p) = go (leb 320 room) (run_printed (byte_printed l b).lister (room - length (byte_printed l b).lines) p)
  where
    go : (t : Bool)
        → bytes_printed (byte_printed l b).lister (take (run (byte_printed l b).lister (room - length (byte_printed l b).lines) p).consumed p)
        ≡ printed_by (run (byte_printed l b).lister (room - length (byte_printed l b).lines) p)
        → bytes_printed l
        (take (cond t (one (byte_printed l b) (run (byte_printed l b).lister (room - length (byte_printed l b).lines) p)) (none l)).consumed (b ∷ p))
        ≡ printed_by (cond t (one (byte_printed l b) (run (byte_printed l b).lister (room - length (byte_printed l b).lines) p)) (none l))
    go true h = ap (behind (byte_printed l b).lines) h
    go false h = refl

pub run_within : (l : Lister) (room : ℕ) (p : List ℕ) → (run l room p).consumed ≤ length p
unfolding run
run_within l room [] = omega arith
run_within l room (b ∷ p) = go (leb 320 room) (run_within (byte_printed l b).lister (room - length (byte_printed l b).lines) p)
  where
    go : (t : Bool)
        → (run (byte_printed l b).lister (room - length (byte_printed l b).lines) p).consumed ≤ length p
        → (cond t (one (byte_printed l b) (run (byte_printed l b).lister (room - length (byte_printed l b).lines) p)) (none l)).consumed ≤ suc (length p)
    go true h = omega (arith, h)
    go false h = omega arith

-- with room for a byte's lines a call consumes one at least
pub run_moves : (l : Lister) (room : ℕ) (p : List ℕ) → 320 ≤ room → 0 < length p → 0 < (run l room p).consumed
unfolding run
run_moves l room [] h k = k
run_moves l room (b ∷ p) h k = rw (le-leb 320 room h) (omega arith)

-- ---- calls one behind another

pub calls_printed : (l : Lister) (cs : List Call) → bytes_printed l (eaten l cs) ≡ called l cs
unfolding called eaten bytes_printed
calls_printed l [] = refl
calls_printed l (c ∷ cs) =
    let r = run_of l c in
    printed_append l (take r.consumed c.piece) (eaten r.lister cs)
    ∙ ap (λ (t : Printed). behind t.lines (bytes_printed t.lister (eaten r.lister cs))) (run_printed l c.room c.piece)
    ∙ ap (behind r.lines) (calls_printed r.lister cs)

-- the listing of a stream, however it was cut
pub listed_so : (cs : List Call) (s : List ℕ) → eaten fresh_lister cs ≡ s
    → (called fresh_lister cs).lines ++ line_text (last_line (called fresh_lister cs).lister) ≡ listing_of s
unfolding listing_of
listed_so cs s e =
    ap (λ (t : Printed). t.lines ++ line_text (last_line t.lister)) (sym (calls_printed fresh_lister cs))
    ∙ ap (λ (x : List ℕ). (bytes_printed fresh_lister x).lines ++ line_text (last_line (bytes_printed fresh_lister x).lister)) e

-- what a call prints has room
pub run_fits : (l : Lister) (room : ℕ) (p : List ℕ) → length (run l room p).lines ≤ room
unfolding run
run_fits l room [] = omega arith
run_fits l room (b ∷ p) = go (leb 320 room) refl (run_fits (byte_printed l b).lister (room - length (byte_printed l b).lines) p)
  where
    go : (t : Bool) → leb 320 room ≡ t
        → length (run (byte_printed l b).lister (room - length (byte_printed l b).lines) p).lines ≤ room - length (byte_printed l b).lines
        → length (cond t (one (byte_printed l b) (run (byte_printed l b).lister (room - length (byte_printed l b).lines) p)) (none l)).lines ≤ room
    go true e h =
        omega (
          arith,
          length-append (byte_printed l b).lines (run (byte_printed l b).lister (room - length (byte_printed l b).lines) p).lines,
          byte_short l b,
          leb-true 320 room e,
          h,
        )
    go false e h = omega arith

-- the same of a call's answer, for a block from a place on
module _ (l : Lister) (room : ℕ) (block : List ℕ) (from : ℕ) (r : Listed) (h : from < length block)
    (e : r ≡ listed_by (run l room (take (length block - from) (drop from block)))) where
  pub rest_within : from + r.consumed ≤ length block
  rest_within =
      let p = take (length block - from) (drop from block) in
      rw e (omega (arith, run_within l room p, length-take (length block - from) (drop from block), h))

  pub rest_moves : 320 ≤ room → 0 < r.consumed
  rest_moves k =
      let p = take (length block - from) (drop from block) in
      rw e (run_moves l room p k (omega (arith, length-take (length block - from) (drop from block), length-drop from block, h)))

  pub rest_fits : r.used ≤ room
  rest_fits = rw e (run_fits l room (take (length block - from) (drop from block)))

  pub rest_kept : (s t : List ℕ) → t ≡ sets s 0 (run l room (take (length block - from) (drop from block))).lines → length t ≡ length s
  rest_kept s t q = ap length q ∙ length-sets s 0 (run l room (take (length block - from) (drop from block))).lines
