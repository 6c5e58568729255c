-- A header is ten bytes and ten bytes are a header; a data header says what it was made of; a frame's length is in order from 10 to 32,010.
use Prim.Native.Nat.{ℕ, ◌+◌, ◌%◌, ◌≤◌}
use mathlib.Core.Path.{◌≡◌, refl, sym, ap, ap₂, ◌∙◌}
use mathlib.Core.Bool.{Bool, true, false, cond}
use mathlib.Core.List.{List}
use native.Mathlib.Nat.{mod-eq_of_lt}
use native.Mathlib.Omega.{arith}
use borrow.Author.Tests.{le-ltb, ltb-false, le-leb, lt-leb}
use lib.Dec.{ltb}
use lib.ListN.{length, take, drop, length-append, length-drop, take-append-drop}
use lib.Seq.{length-take-le, drop-cons}
use Rattle.wire.specs.Longest.{longest}
use Rattle.wire.specs.Number.{number_of, bytes_of, AtMost}
use Rattle.wire.proofs.Numbers.{length_bytes, number_bytes, bytes_number, at_most_take, at_most_drop}
use Rattle.frame.specs.declared.Header.{Header}
use Rattle.frame.specs.Header.{InRange, header_bytes, header_of, w_of, stream_of, data_header}
use Rattle.frame.specs.Frame.{length_number, frame_of}

pub bytes_length : (h : Header) → length (header_bytes h) ≡ 10
unfolding header_bytes bytes_of
bytes_length h = refl

-- header, then bytes, then header
pub header_back : (h : Header) → InRange h → header_of (header_bytes h) ≡ h
unfolding header_bytes header_of bytes_of
header_back h r =
    ap₂ (λ (x y : ℕ). record { session = x; byte2 = h.byte2; byte3 = h.byte3; ptype = h.ptype; stype = h.stype; system = y })
    (number_bytes 2 h.session ∙ mod-eq_of_lt r.session)
    (number_bytes 4 h.system ∙ mod-eq_of_lt r.system)

written_back : (bs : List ℕ) (k : ℕ) → length bs ≡ k → AtMost 0xFF bs → bytes_of k (number_of bs) ≡ bs
written_back bs k e h = ap (λ (j : ℕ). bytes_of j (number_of bs)) (sym e) ∙ bytes_number bs h

-- bytes, then header, then bytes
pub bytes_back : (t : List ℕ) → length t ≡ 10 → AtMost 0xFF t → header_bytes (header_of t) ≡ t
unfolding header_bytes header_of
bytes_back t e h =
    let front = written_back (take 2 t) 2 (length-take-le 2 t (omega (arith, e))) (at_most_take 0xFF 2 t h) in
    let back = written_back (drop 6 t) 4 (simp length-drop (omega (arith, e))) (at_most_drop 0xFF 6 t h) in
    rw (front, back, ← drop-cons t 5 0 (omega arith), ← drop-cons t 4 0 (omega arith), ← drop-cons t 3 0 (omega arith), ← drop-cons t 2 0 (omega arith))
    (take-append-drop 2 t)

pub frame_length : (h : Header) (text : List ℕ) → length (frame_of h text) ≡ 14 + length text
unfolding frame_of
frame_length h text = simp (length-append, length_bytes, bytes_length) (omega arith)

-- a data header's W bit and stream
pub data_w : (session : ℕ) (w : Bool) (stream function system : ℕ) → w_of (data_header session w stream function system) ≡ w
unfolding data_header
data_w session true stream function system = le-leb 0x80 (0x80 + stream % 0x80) (omega arith)
data_w session false stream function system = lt-leb 0x80 (0x00 + stream % 0x80) (omega arith)

pub data_stream : (session : ℕ) (w : Bool) (stream function system : ℕ) → stream_of (data_header session w stream function system) ≡ stream % 0x80
unfolding data_header
data_stream session true stream function system = omega arith
data_stream session false stream function system = omega arith

-- the lengths in order
pub length_range : (n : ℕ) → length_number n ≡ 0 → (10 ≤ n) × (n ≤ (10 + longest))
unfolding length_number
length_range n e = go (ltb n 10) (ltb (10 + longest) n) refl refl e
  where
    go : (a b : Bool) → ltb n 10 ≡ a → ltb (10 + longest) n ≡ b → ◌≡◌ {A = ℕ} (cond a 10 (cond b 11 0)) 0 → (10 ≤ n) × (n ≤ (10 + longest))
    go true b p q z = absurd (omega (arith, z))
    go false true p q z = absurd (omega (arith, z))
    go false false p q z = (ltb-false n 10 p, ltb-false (10 + longest) n q)

pub range_length : (n : ℕ) → (10 ≤ n) × (n ≤ (10 + longest)) → length_number n ≡ 0
unfolding length_number
range_length n (h, k) = rw (le-ltb n 10 h, le-ltb (10 + longest) n k)
