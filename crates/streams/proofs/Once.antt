-- A stream has one list of frames and one rest: the first four bytes of a frame say where it ends.
use Prim.Native.Nat.{ℕ, ◌+◌, ◌≤◌}
use mathlib.Core.Path.{◌≡◌, refl, sym, ap, ap₂, ◌∙◌}
use mathlib.Core.List.{List, [], ◌∷◌, ◌++◌, append_assoc}
use native.Mathlib.Nat.{mod-eq_of_lt}
use native.Mathlib.Omega.{arith}
use lib.ListN.{length, take}
use lib.Seq.{take_at}
use Rattle.wire.specs.Longest.{longest}
use Rattle.wire.specs.Number.{number_of, bytes_of}
use Rattle.wire.proofs.Stores.{parts}
use Rattle.wire.proofs.Numbers.{length_bytes, number_bytes}
use Rattle.frame.specs.Header.{InRange, header_bytes, header_of}
use Rattle.frame.specs.Frame.{length_in, frame_of}
use Rattle.frame.specs.declared.Header.{Header}
use Rattle.frame.proofs.Laws.{bytes_length, header_back, frame_length}
use Rattle.streams.specs.Stream.{Frame, frame, Taken, AllTaken, all, Unfinished, Split}

-- the first four bytes of a frame say its length
pub frame_says : (h : Header) (x v : List ℕ) → length x ≤ longest → length_in (frame_of h x ++ v) ≡ 10 + length x
unfolding frame_of
frame_says h x v few =
    let n = length_bytes 4 (10 + length x) in
    let four = bytes_of 4 (10 + length x) in
    ap number_of (ap (take 4) (append_assoc four (header_bytes h ++ x) v) ∙ take_at four ((header_bytes h ++ x) ++ v) 4 n)
    ∙ number_bytes 4 (10 + length x) ∙ mod-eq_of_lt (omega arith)

frame_parts : (h h' : Header) (x x' : List ℕ) → InRange h → InRange h' → length x ≡ length x' → frame_of h x ≡ frame_of h' x' → (h ≡ h') × (x ≡ x')
unfolding frame_of
frame_parts h h' x x' r r' n e =
    let same = length_bytes 4 (10 + length x) ∙ sym (length_bytes 4 (10 + length x')) in
    let p = parts (bytes_of 4 (10 + length x)) (bytes_of 4 (10 + length x')) (header_bytes h ++ x) (header_bytes h' ++ x') same e in
    let q = parts (header_bytes h) (header_bytes h') x x' (bytes_length h ∙ sym (bytes_length h')) p.1 in
    (sym (header_back h r) ∙ ap header_of q.0 ∙ header_back h' r', q.1)

-- one frame at the front of the same bytes, and what follows it
front_once : (f f' : Frame) (v v' : List ℕ) → Taken f → Taken f' → frame_of f.header f.text ++ v ≡ frame_of f'.header f'.text ++ v'
    → (f ≡ f') × (v ≡ v')
front_once f f' v v' a a' e =
    let n : length f.text ≡ length f'.text
    = omega (arith, frame_says f.header f.text v a.few, frame_says f'.header f'.text v' a'.few, ap length_in e) in
    let m : length (frame_of f.header f.text) ≡ length (frame_of f'.header f'.text)
    = omega (arith, frame_length f.header f.text, frame_length f'.header f'.text) in
    let p = parts (frame_of f.header f.text) (frame_of f'.header f'.text) v v' m e in
    let q = frame_parts f.header f'.header f.text f'.text a.range a'.range n p.0 in
    (ap₂ frame q.0 q.1, p.1)

frames_once : (fs fs' : List Frame) (v v' : List ℕ) → AllTaken fs → AllTaken fs' → Unfinished v → Unfinished v'
    → all fs ++ v ≡ all fs' ++ v' → (fs ≡ fs') × (v ≡ v')
unfolding all
frames_once [] [] v v' a a' u u' e = (refl, e)
frames_once [] (f ∷ fs') v v' a (t, a') u u' e = absurd (u f (all fs' ++ v') t (e ∙ append_assoc (frame_of f.header f.text) (all fs') v'))
frames_once (f ∷ fs) [] v v' (t, a) a' u u' e = absurd (u' f (all fs ++ v) t (sym e ∙ append_assoc (frame_of f.header f.text) (all fs) v))
frames_once (f ∷ fs) (f' ∷ fs') v v' (t, a) (t', a') u u' e =
    let z : frame_of f.header f.text ++ (all fs ++ v) ≡ frame_of f'.header f'.text ++ (all fs' ++ v')
    = sym (append_assoc (frame_of f.header f.text) (all fs) v) ∙ e ∙ append_assoc (frame_of f'.header f'.text) (all fs') v' in
    let p = front_once f f' (all fs ++ v) (all fs' ++ v') t t' z in
    let q = frames_once fs fs' v v' a a' u u' p.1 in
    (ap₂ (λ (x : Frame) (xs : List Frame). x ∷ xs) p.0 q.0, q.1)

-- Bytes have one list of frames and one rest.
pub split_once : (bytes : List ℕ) (fs fs' : List Frame) (rest rest' : List ℕ) → Split bytes fs rest → Split bytes fs' rest' → (fs ≡ fs') × (rest ≡ rest')
split_once bytes fs fs' rest rest' s s' = frames_once fs fs' rest rest' s.taken s'.taken s.unfinished s'.unfinished (sym s.is ∙ s'.is)
