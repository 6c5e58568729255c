-- What a reader holds: its array is the bytes of a head that came and 00 behind them, a byte more keeps it so,
-- and a state that the list allows is the reader of a state.
use Prim.Native.Nat.{ℕ, suc, ◌+◌, ◌-◌, ◌≤◌, ◌<◌}
use mathlib.Core.Path.{◌≡◌, refl, sym, ap, ap₂, subst, ◌∙◌}
use mathlib.Core.Bool.{Bool, true, false, cond}
use mathlib.Core.List.{List, [], ◌∷◌, ◌++◌, append-nil}
use mathlib.Core.Logic.{◌⊎◌, inl, inr}
use native.Mathlib.Nat.{eq-or-lt_of_le}
use native.Mathlib.Omega.{arith}
use borrow.Author.Tests.{eqb-true, eqb-false, ltb-true, le-ltb, leb-true}
use lib.Dec.{eqb, ltb, leb}
use lib.ListN.{length, take, drop, set, replicate, length-append, length-drop, take-append-drop}
use lib.Seq.{take-append_seam, set-append_seam, append_snoc, length-take-le}
use Rattle.wire.proofs.Choice.{both}
use Rattle.frame.specs.Frame.{length_in, length_number}
use Rattle.frames.specs.State.{State, head, text, refused, holding, reader_of, state_in, state_of}
use Rattle.frames.specs.Feed.{all_zero, allows_head, allows_bare, allows_at, allows, head_number, after, event_at}
use Rattle.frames.specs.Event.{More}
use Rattle.frames.specs.Asked.{Begun, Held}
use Rattle.frames.specs.declared.Phase.{Phase}
use Rattle.frames.specs.declared.Phase.TheVariants as P
use Rattle.frames.specs.declared.FrameReader.{FrameReader}
use Rattle.frames.proofs.Heads.{length_front, number_four}

-- the bytes of a head that a reader holds
abbrev pub bytes_in : FrameReader → List ℕ
bytes_in r = take r.count r.held

-- bytes of a head in the array: 00 behind them
abbrev pub filled : List ℕ → List ℕ
filled bs = bs ++ replicate (14 - length bs) 0

pub filled_whole : (t : List ℕ) → length t ≡ 14 → filled t ≡ t
filled_whole t n =
    let z : 14 - length t ≡ 0 = omega arith in
    rw z (append-nil t)

set_next : (bs : List ℕ) (b : ℕ) → length bs < 14 → set (filled bs) (length bs) b ≡ filled (bs ++ (b ∷ []))
set_next bs b h =
    let z : 14 - length bs ≡ suc (13 - length bs) = omega arith in
    let y : 14 - length (bs ++ (b ∷ [])) ≡ 13 - length bs = rw (length-append bs (b ∷ [])) (omega arith) in
    rw (z, y) (set-append_seam bs 0 (replicate (13 - length bs) 0) b ∙ sym (append_snoc bs b (replicate (13 - length bs) 0)))

-- ---- a byte more

-- what the array and the length are with the next byte
pub record Next (r : FrameReader) (b : ℕ) : Type 0 where
  pub few : r.count < 14
  pub size : length (bytes_in r ++ (b ∷ [])) ≡ r.count + 1
  pub array : set r.held r.count b ≡ filled (bytes_in r ++ (b ∷ []))
  pub length_is : 3 ≤ r.count → length_in (set r.held r.count b) ≡ length_in (bytes_in r ++ (b ∷ []))
  pub length_ok : 4 ≤ r.count → length_number (length_in (bytes_in r ++ (b ∷ []))) ≡ 0

pub next : (r : FrameReader) (b : ℕ) → Held r → Next r b
unfolding reader_of
next r b h =
    let bs = bytes_in r in
    let t = bs ++ (b ∷ []) in
    let c : r.count ≡ length bs = ap (λ (x : FrameReader). x.count) h.is in
    let a : r.held ≡ filled bs = ap (λ (x : FrameReader). x.held) h.is in
    let n : length t ≡ r.count + 1 = length-append bs (b ∷ []) ∙ ap (λ (k : ℕ). k + 1) (sym c) in
    let e : set r.held r.count b ≡ filled t = ap₂ (λ (l : List ℕ) (k : ℕ). set l k b) a c ∙ set_next bs b h.begun.few in
    record {
      few = omega (arith, c, h.begun.few);
      size = n;
      array = e;
      length_is = λ k. ap length_in e ∙ length_front t _ (omega (arith, n, k));
      length_ok = λ k. rw (length_front bs (b ∷ []) (omega (arith, c, k))) (h.begun.length_ok (omega (arith, c, k)));
    }

-- ---- the bytes and the state of a reader

pub bytes_held : (bs : List ℕ) → bytes_in (reader_of (head bs)) ≡ bs
unfolding reader_of
bytes_held bs = take-append_seam bs (replicate (14 - length bs) 0)

pub head_held : (bs : List ℕ) → Begun bs → Held (reader_of (head bs))
head_held bs b =
    let e = bytes_held bs in
    record { is = ap (λ (x : List ℕ). reader_of (head x)) (sym e); begun = subst Begun (sym e) b }

pub state_reader : (s : State) → state_of (reader_of s) ≡ s
unfolding reader_of state_of
state_reader (head bs) = ap head (bytes_held bs)
state_reader (text n) = refl
state_reader (refused e) = refl

pub state_in_phase : (r : FrameReader) (p : Phase) → r.phase ≡ p → state_of r ≡ state_in p r
unfolding state_of
state_in_phase r p e = ap (λ (q : Phase). state_in q r) e

-- ---- a head that goes on

more_head : (s : State) (t : List ℕ) → event_at s t ≡ More → (bs : List ℕ) × (s ≡ head bs)
more_head (head bs) t e = (bs, refl)
more_head (text n) t e = absurd (cc)
more_head (refused x) t e = absurd (cc)

picked : (a b : Bool) (n e : ℕ) (t bs : List ℕ) → cond a (cond b (text n) (head t)) (refused e) ≡ head bs → (a ≡ true) × (b ≡ false)
picked true true n e t bs q = let z : ◌≡◌ {A = ℕ} 0 1 = cc in absurd (omega arith)
picked true false n e t bs q = (refl, refl)
picked false b n e t bs q = let z : ◌≡◌ {A = ℕ} 0 1 = cc in absurd (omega arith)

-- the head goes on behind t: neither its number nor its length ends it
pub record Goes (t : List ℕ) : Type 0 where
  pub number : head_number t ≡ 0
  pub unfinished : length t ≡ 14 → ⊥

pub goes : (t : List ℕ) → event_at (after t) t ≡ More → Goes t
unfolding after
goes t e =
    let h = more_head (after t) t e in
    let q = picked (eqb (head_number t) 0) (eqb (length t) 14) (length_in t - 10) (head_number t) t h.0 h.1 in
    record { number = eqb-true (head_number t) 0 q.0; unfinished = eqb-false (length t) 14 q.1 }

pub begun_next : (r : FrameReader) (b : ℕ) → Held r → Goes (bytes_in r ++ (b ∷ [])) → Begun (bytes_in r ++ (b ∷ []))
begun_next r b h g = record { few = omega (arith, n.few, n.size, g.unfinished); length_ok = λ k. four (eq-or-lt_of_le k) }
  where
    n : Next r b
    n = next r b h

    four : (4 ≡ length (bytes_in r ++ (b ∷ []))) ⊎ (4 < length (bytes_in r ++ (b ∷ []))) → length_number (length_in (bytes_in r ++ (b ∷ []))) ≡ 0
    four (inl e) = sym (number_four (bytes_in r ++ (b ∷ [])) (sym e)) ∙ g.number
    four (inr k) = n.length_ok (omega (arith, n.size))

-- ---- what the list allows

zeros : (l : List ℕ) → all_zero l ≡ true → l ≡ replicate (length l) 0
zeros [] e = refl
zeros (b ∷ l) e =
    let q = both (eqb b 0) (all_zero l) e in
    ap₂ (λ (x : ℕ) (xs : List ℕ). x ∷ xs) (eqb-true b 0 q.0) (zeros l q.1)

-- a reader is known by its parts
parts : (r : FrameReader) (h : List ℕ) (c n : ℕ) (p : Phase) → r.held ≡ h → r.count ≡ c → r.left ≡ n → r.phase ≡ p
    → r ≡ record { held = h; count = c; left = n; phase = p }
parts r h c n p e f g q = rw (← e, ← f, ← g, ← q)

pub allows_in : (r : FrameReader) (p : Phase) → r.phase ≡ p → allows r ≡ allows_at p r
unfolding allows
allows_in r p e = ap (λ (q : Phase). allows_at q r) e

module _ (r : FrameReader) (full : length r.held ≡ 14) where
  filled_is : r.count < 14 → all_zero (drop r.count r.held) ≡ true → (length (bytes_in r) ≡ r.count) × (r.held ≡ filled (bytes_in r))
  filled_is h e =
      let n : length (bytes_in r) ≡ r.count = length-take-le r.count r.held (omega arith) in
      let z : length (drop r.count r.held) ≡ 14 - length (bytes_in r) = length-drop r.count r.held ∙ omega arith in
      let d : drop r.count r.held ≡ replicate (14 - length (bytes_in r)) 0 = zeros (drop r.count r.held) e ∙ ap (λ (k : ℕ). replicate k 0) z in
      (n, sym (take-append-drop r.count r.held) ∙ ap (λ (x : List ℕ). bytes_in r ++ x) d)

  long_tests : length (bytes_in r) ≡ r.count → r.held ≡ filled (bytes_in r) → cond (ltb r.count 4) true (eqb (length_number (length_in r.held)) 0) ≡ true
      → 4 ≤ length (bytes_in r) → length_number (length_in (bytes_in r)) ≡ 0
  long_tests n a e k =
      let q : ltb r.count 4 ≡ false = le-ltb r.count 4 (omega arith) in
      let l : length_in r.held ≡ length_in (bytes_in r) = ap length_in a ∙ length_front (bytes_in r) _ k in
      ap length_number (sym l) ∙ eqb-true _ _ (rw q at e)

  head_tests : r.phase ≡ P.Head → allows_head r ≡ true → Held r
  unfolding reader_of
  head_tests p e =
      let b₁ = both (ltb r.count 14) _ e in
      let b₂ = both (all_zero (drop r.count r.held)) _ b₁.1 in
      let b₃ = both (eqb r.left 0) _ b₂.1 in
      let few = ltb-true r.count 14 b₁.0 in
      let f = filled_is few b₂.0 in
      record {
        is = parts r _ _ 0 P.Head f.1 (sym f.0) (eqb-true r.left 0 b₃.0) p;
        begun = record { few = omega (arith, few, f.0); length_ok = long_tests f.0 f.1 b₃.1 };
      }

  bare_is : (n : ℕ) (p : Phase) → r.left ≡ n → r.phase ≡ p → allows_bare r ≡ true → r ≡ holding [] n p
  bare_is n p e f t =
      let b = both (eqb r.count 0) _ t in
      parts r _ _ n p (zeros r.held b.1 ∙ ap (λ (k : ℕ). replicate k 0) full) (eqb-true r.count 0 b.0) e f

  pub allows_held : r.phase ≡ P.Head → allows r ≡ true → Held r
  allows_held p e = head_tests p (sym (allows_in r P.Head p) ∙ e)

  -- a refused reader that the list allows has a frame's number
  pub refused_range : (n : ℕ) → allows r ≡ true → r.phase ≡ P.Refused n → (10 ≤ n) × (n ≤ 12)
  refused_range n e q =
      let b = both (allows_bare r) _ (sym (allows_in r (P.Refused n) q) ∙ e) in
      let z = both (eqb r.left 0) _ b.1 in
      let a = both (leb 10 n) _ z.1 in
      (leb-true 10 n a.0, leb-true n 12 a.1)

  -- a state that the list allows is the reader of the state that it holds
  pub reader_state : allows r ≡ true → reader_of (state_of r) ≡ r
  unfolding reader_of
  reader_state e = go r.phase refl
    where
      go : (p : Phase) → r.phase ≡ p → reader_of (state_of r) ≡ r
      go P.Head q = ap reader_of (state_in_phase r P.Head q) ∙ sym (allows_held q e).is
      go P.Text q =
          let b = both (allows_bare r) _ (sym (allows_in r P.Text q) ∙ e) in
          ap reader_of (state_in_phase r P.Text q) ∙ sym (bare_is r.left P.Text refl q b.0)
      go (P.Refused x) q =
          let b = both (allows_bare r) _ (sym (allows_in r (P.Refused x) q) ∙ e) in
          let z = both (eqb r.left 0) _ b.1 in
          ap reader_of (state_in_phase r (P.Refused x) q) ∙ sym (bare_is 0 (P.Refused x) (eqb-true r.left 0 z.0) q b.0)
