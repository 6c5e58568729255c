-- Of a run whose events keep to what it leaves open: no primary is answered twice, nor after it was emptied out, nor where it was dropped.
use Prim.Native.Nat.{ℕ, ◌≤◌, ◌<◌}
use mathlib.Core.Bool.{true, false, false≢true}
use mathlib.Core.List.{List}
use mathlib.Core.Logic.{inr}
use mathlib.Core.Option.{some}
use mathlib.Core.Path.{◌≡◌, refl, ap, sym, ◌∙◌}
use native.Mathlib.Decide.{dec_lt}
use native.Mathlib.Omega.{arith}
use borrow.Author.Tests.{eqb-true}
use lib.Dec.{eqb}
use lib.ListN.{length}
use Rattle.wire.proofs.Choice.{both}
use Rattle.frame.specs.Header.{w_of}
use Rattle.state.specs.State.{is_selected}
use Rattle.protocol.specs.Protocol.{is_data}
use Rattle.audit.specs.Run.{Seen, At}
use Rattle.audit.specs.Audit.{Entry, primary, reply, neither, entry_of, asks, delivered, last_delivered, Answers, SuitsAt, dropped}
use Rattle.audit.proofs.Places.{at_place, at_below, at_whole, at_earlier, at_one, seen_whole}
use Rattle.audit.proofs.Open.{some_one, closes, open_at, closes_ends, open_last, last_came, open_since}
use Rattle.audit.proofs.Open.{How, at_once, later, how}
use Rattle.audit.proofs.Sound.{Sound, AllSound, sound_at}

-- ---- what is delivered has number 30, and no two system bytes

delivered_30 : (x : Seen) (n : ℕ) → delivered x n ≡ true → x.number ≡ 30
delivered_30 x n d = eqb-true x.number 30 (both (eqb x.number 30) (asks (entry_of x.event) n) d).0

asks_one : (k : Entry) (m n : ℕ) → asks k m ≡ true → asks k n ≡ true → m ≡ n
asks_one (reply k) m n d e = absurd (false≢true d)
asks_one neither m n d e = absurd (false≢true d)
asks_one (primary h) m n d e = sym (key m d) ∙ key n e
  where
    key : (n : ℕ) → asks (primary h) n ≡ true → h.system ≡ n
    key n d = eqb-true h.system n (both (w_of h) (eqb h.system n) d).1

delivered_one : (x : Seen) (m n : ℕ) → delivered x m ≡ true → delivered x n ≡ true → m ≡ n
delivered_one x m n d e =
    asks_one (entry_of x.event) m n (both (eqb x.number 30) (asks (entry_of x.event) m) d).1
    (both (eqb x.number 30) (asks (entry_of x.event) n) e).1

-- ---- which primary is answered

module _ (x : Seen) (v : List Seen) (i : ℕ) where
  -- never one that comes later
  how_before : How x v i → i ≤ length v
  how_before (at_once h p d q) = omega arith
  how_before (later n c q) = let m = last_came v n i q in omega (arith, at_below m.seen m.earlier v i m.at)

  -- a reply answers one that is open
  how_open : Sound x v → (n : ℕ) → closes x n ≡ true → last_delivered v n ≡ some i → open_at v n ≡ some i
  how_open s n c q =
      let (k, o) = s.speaks.replied n c in
      let same : k ≡ i = some_one (sym (open_last v n k o) ∙ q) in
      o ∙ ap some same

module _ (u : List Seen) (sound : AllSound u) (i : ℕ) where
  sound_of : (j : ℕ) (a : Answers u j i) → Sound a.seen a.earlier
  sound_of j a = sound_at u j a.seen a.earlier sound a.at

  how_of : (j : ℕ) (a : Answers u j i) → How a.seen a.earlier i
  how_of j a = how a.seen a.earlier i a.is

  place_of : (j : ℕ) (a : Answers u j i) → j ≡ length a.earlier
  place_of j a = at_place a.seen a.earlier u j a.at

  -- ---- not twice

  -- the later of two is a reply to a primary that the earlier one ended
  module _ (j k : ℕ) (a : Answers u j i) (b : Answers u k i) (h : j < k) where
    abbrev x : Seen
    x = a.seen

    first : At b.earlier j x a.earlier
    first = at_earlier x b.seen a.earlier b.earlier u j k a.at b.at h

    ended : (n : ℕ) → open_at b.earlier n ≡ some i → How x a.earlier i → ⊥
    ended n o (at_once h p d q) =
        let c = last_came b.earlier n i (open_last b.earlier n i o) in
        let here : i ≡ j = q ∙ sym (place_of j a) in
        let same : c.seen ≡ x = at_one c.seen x c.earlier a.earlier b.earlier i j here c.at first in
        false≢true (sym ((sound_of j a).speaks.silent n (rw same at c.is)) ∙ d)
    ended n o (later m c q) =
        let one = last_came a.earlier m i q in
        let two = last_came b.earlier n i (open_last b.earlier n i o) in
        let before : i < j = omega (arith, at_below one.seen one.earlier a.earlier i one.at, place_of j a) in
        let there = at_whole x a.earlier b.earlier j first i one.seen one.earlier (inr one.at) in
        let same : two.seen ≡ one.seen = at_one two.seen one.seen two.earlier one.earlier b.earlier i i refl two.at there in
        let same_bytes : m ≡ n = delivered_one one.seen m n one.is (rw same at two.is) in
        false≢true (sym (open_since n i j x a.earlier before b.earlier o first) ∙ closes_ends x n (rw same_bytes at c))

    not_again : ⊥
    not_again = go (how_of k b)
      where
        go : How b.seen b.earlier i → ⊥
        go (at_once h' p d q) = omega (arith, how_before x a.earlier i (how_of j a), place_of j a, place_of k b)
        go (later n c q) = ended n (how_open b.seen b.earlier i (sound_of k b) n c q) (how_of j a)

  pub one_answer : (j k : ℕ) → Answers u j i → Answers u k i → j ≡ k
  one_answer j k a b = go (dec_lt j k) (dec_lt k j)
    where
      go : Dec (j < k) → Dec (k < j) → j ≡ k
      go (yes h) d = absurd (not_again j k a b h)
      go (no h) (yes g) = absurd (not_again k j b a g)
      go (no h) (no g) = omega arith

  -- ---- not after an event that does not end in selected

  pub not_after : (k : ℕ) (y : Seen) (w : List Seen) → At u k y w → is_selected y.after ≡ false → i < k → (j : ℕ) → Answers u j i → k < j → ⊥
  not_after k y w p out h j a late = go (how_of j a)
    where
      go : How a.seen a.earlier i → ⊥
      go (at_once h' p' d q) = omega (arith, place_of j a)
      go (later n c q) =
          let o = how_open a.seen a.earlier i (sound_of j a) n c q in
          let between = at_earlier y a.seen w a.earlier u k j p a.at late in
          false≢true (sym (open_since n i k y w h a.earlier o between) ∙ rw out)

  -- ---- not where it was dropped

  pub not_dropped : (x : Seen) (v : List Seen) → At u i x v → dropped x.number ≡ true → (j : ℕ) → Answers u j i → ⊥
  not_dropped x v p drop j a = go (how_of j a)
    where
      go : How a.seen a.earlier i → ⊥
      go (at_once h p' d q) =
          let here : i ≡ j = q ∙ sym (place_of j a) in
          let same : x ≡ a.seen = at_one x a.seen v a.earlier u i j here p a.at in
          false≢true (sym ((sound_at u i x v sound p).unsent drop) ∙ ap (λ (z : Seen). is_data z.send) same ∙ d)
      go (later n c q) =
          let z = last_came a.earlier n i q in
          let there = at_whole a.seen a.earlier u j a.at i z.seen z.earlier (inr z.at) in
          let same : x ≡ z.seen = at_one x z.seen v z.earlier u i i refl p there in
          let number : x.number ≡ 30 = ap (λ (y : Seen). y.number) same ∙ delivered_30 z.seen n z.is in
          false≢true (sym (ap dropped number) ∙ drop)

  -- ---- what answers it

  pub what_answers : (j : ℕ) (a : Answers u j i) → SuitsAt u i a.seen
  what_answers j a =
      let z = (sound_of j a).speaks.says i a.is in
      record { header = z.header; received = seen_whole _ i u j a.seen a.earlier a.at z.received; suits = z.suits }
