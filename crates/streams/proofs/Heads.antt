-- A head is eaten byte by byte until it ends: 10 or 11 behind the fourth byte, 12 or a whole header behind the fourteenth. So long it may begin a frame.
use Prim.Native.Nat.{ℕ, ◌+◌, ◌-◌, ◌≤◌}
use mathlib.Core.Path.{◌≡◌, refl, sym, ap, ap₂, subst, ◌∙◌}
use mathlib.Core.Bool.{Bool, true, false, cond}
use mathlib.Core.List.{List, [], ◌∷◌, ◌++◌, append_assoc, append-nil}
use mathlib.Core.Logic.{◌⊎◌, inl, inr}
use native.Mathlib.Omega.{arith}
use borrow.Author.Tests.{eqb-true, eqb-false, ltb-true}
use lib.Dec.{eqb, ltb}
use lib.ListN.{length, get_or, length-append}
use Rattle.wire.specs.Longest.{longest}
use Rattle.frame.specs.Frame.{length_in, length_number, kind_number}
use Rattle.frame.proofs.Laws.{length_range}
use Rattle.frames.specs.State.{head, text, refused}
use Rattle.frames.specs.Feed.{head_number, after, fed, event_at, reached, eat}
use Rattle.frames.specs.Asked.{Begun}
use Rattle.frames.proofs.Heads.{length_front, number_four, number_whole, number_other, after_refused, after_whole, after_more}
use Rattle.frames.specs.Event.{More, Fed}
use Rattle.streams.specs.Stream.{Wrong, too_short, too_long, other_length}

-- a length that has a number, and a kind that has one, are its cause
length_wrong : (t : List ℕ) → length t ≡ 4 → (length_number (length_in t) ≡ 0 → ⊥) → Wrong t (length_number (length_in t))
unfolding length_number
length_wrong t n = go (ltb (length_in t) 10) refl (ltb (10 + longest) (length_in t)) refl
  where
    number : Bool → Bool → ℕ
    number a b = cond a 10 (cond b 11 0)

    go : (a : Bool) → ltb (length_in t) 10 ≡ a → (b : Bool) → ltb (10 + longest) (length_in t) ≡ b → (number a b ≡ 0 → ⊥) → Wrong t (number a b)
    go true e b f some = too_short n (ltb-true (length_in t) 10 e)
    go false e true f some = too_long n (ltb-true (10 + longest) (length_in t) f)
    go false e false f some = absurd (some refl)

kind_wrong : (t : List ℕ) → length t ≡ 14 → length_number (length_in t) ≡ 0 → (kind_number (get_or t 9 0) (length_in t) ≡ 0 → ⊥)
    → Wrong t (kind_number (get_or t 9 0) (length_in t))
unfolding kind_number
kind_wrong t n z = go (eqb (get_or t 9 0) 0) refl (eqb (length_in t) 10) refl
  where
    number : Bool → Bool → ℕ
    number a b = cond a 0 (cond b 0 12)

    go : (a : Bool) → eqb (get_or t 9 0) 0 ≡ a → (b : Bool) → eqb (length_in t) 10 ≡ b → (number a b ≡ 0 → ⊥) → Wrong t (number a b)
    go true e b f some = absurd (some refl)
    go false e true f some = absurd (some refl)
    go false e false f some =
        let range = length_range (length_in t) z in
        other_length n range.0 range.1 (eqb-false (get_or t 9 0) 0 e) (eqb-false (length_in t) 10 f)

-- what the bytes of a head come to
pub data Ended (t : List ℕ) : Type 0 where
  whole : length t ≡ 14 → length_number (length_in t) ≡ 0 → kind_number (get_or t 9 0) (length_in t) ≡ 0 → after t ≡ text (length_in t - 10) → Ended t
  bad : (e : ℕ) → Wrong t e → after t ≡ refused e → Ended t

module _ (bs : List ℕ) (b : ℕ) (begun : Begun bs) where
  abbrev t : List ℕ
  t = bs ++ (b ∷ [])

  one_more : length t ≡ length bs + 1
  one_more = length-append bs (b ∷ [])

  says : 4 ≤ length bs → length_number (length_in t) ≡ 0
  says h = ap length_number (length_front bs (b ∷ []) h) ∙ begun.length_ok h

  refused_with : {e : ℕ} → head_number t ≡ e → (e ≡ 0 → ⊥) → after t ≡ refused e
  refused_with z n = after_refused t (λ y. n (sym z ∙ y)) ∙ ap refused z

  -- one byte more goes on, or ends the head
  pub classified : ((after t ≡ head t) × Begun t) ⊎ Ended t
  classified = go (eqb (length t) 4) refl (eqb (length t) 14) refl
    where
      at_four : length t ≡ 4 → (c : Bool) → eqb (length_number (length_in t)) 0 ≡ c → ((after t ≡ head t) × Begun t) ⊎ Ended t
      at_four e true q =
          let z = eqb-true (length_number (length_in t)) 0 q in
          inl (after_more t (number_four t e ∙ z) (λ k. omega arith), record { few = omega arith; length_ok = λ _. z })
      at_four e false q =
          let n = eqb-false (length_number (length_in t)) 0 q in
          inr (bad (length_number (length_in t)) (length_wrong t e n) (refused_with (number_four t e) n))

      at_all : length t ≡ 14 → (c : Bool) → eqb (kind_number (get_or t 9 0) (length_in t)) 0 ≡ c → ((after t ≡ head t) × Begun t) ⊎ Ended t
      at_all e true q =
          let z = eqb-true (kind_number (get_or t 9 0) (length_in t)) 0 q in
          inr (whole e (says (omega (arith, one_more))) z (after_whole t (number_whole t e ∙ z) e))
      at_all e false q =
          let n = eqb-false (kind_number (get_or t 9 0) (length_in t)) 0 q in
          let z = says (omega (arith, one_more)) in
          inr (bad (kind_number (get_or t 9 0) (length_in t)) (kind_wrong t e z n) (refused_with (number_whole t e) n))

      go : (c : Bool) → eqb (length t) 4 ≡ c → (d : Bool) → eqb (length t) 14 ≡ d → ((after t ≡ head t) × Begun t) ⊎ Ended t
      go true e d f = at_four (eqb-true (length t) 4 e) (eqb (length_number (length_in t)) 0) refl
      go false e true f = at_all (eqb-true (length t) 14 f) (eqb (kind_number (get_or t 9 0) (length_in t)) 0) refl
      go false e false f =
          let n : length t ≡ 4 → ⊥ = eqb-false (length t) 4 e in
          let m : length t ≡ 14 → ⊥ = eqb-false (length t) 14 f in
          inl (after_more t (number_other t n m) m, record { few = omega (arith, one_more, begun.few); length_ok = λ h. says (omega (arith, one_more)) })

-- no byte yet
pub begun_nothing : Begun []
begun_nothing = record { few = omega arith; length_ok = λ h. absurd (omega arith) }

-- a piece of a head: it is eaten whole, or ends the head somewhere in it
pub data Ate (bs : List ℕ) (k : ℕ) (p : List ℕ) (f : Fed) : Type 0 where
  on : f ≡ fed More (k + length p) (head (bs ++ p)) → Begun (bs ++ p) → Ate bs k p f
  off : (u v : List ℕ) → p ≡ u ++ v → f ≡ fed (event_at (after (bs ++ u)) (bs ++ u)) (k + length u) (after (bs ++ u)) → Ended (bs ++ u) → Ate bs k p f

-- an ended head is what the feed reaches
reached_end : (t : List ℕ) (k : ℕ) (next : Fed) → Ended t → reached (after t) t k next ≡ fed (event_at (after t) t) k (after t)
reached_end t k next (whole a b c e) = rw e
reached_end t k next (bad x b e) = rw e

pub eat_ate : (p bs : List ℕ) (k : ℕ) → Begun bs → Ate bs k p (eat bs k p)
unfolding eat
eat_ate [] bs k begun =
    let e : k ≡ k + 0 = omega arith in
    on (ap₂ (fed More) e (ap head (sym (append-nil bs)))) (subst Begun (sym (append-nil bs)) begun)
eat_ate (b ∷ p) bs k begun = go (classified bs b begun) (λ g. eat_ate p (bs ++ (b ∷ [])) (k + 1) g)
  where
    t : List ℕ
    t = bs ++ (b ∷ [])

    behind : Ate t (k + 1) p (eat t (k + 1) p) → after t ≡ head t → Ate bs k (b ∷ p) (reached (after t) t (k + 1) (eat t (k + 1) p))
    behind (on f g) e =
        let z : t ++ p ≡ bs ++ (b ∷ p) = append_assoc bs (b ∷ []) p in
        let n : k + 1 + length p ≡ k + length (b ∷ p) = omega arith in
        on (rw e (f ∙ ap₂ (fed More) n (ap head z))) (subst Begun z g)
    behind (off u v q f g) e =
        let z : t ++ u ≡ bs ++ (b ∷ u) = append_assoc bs (b ∷ []) u in
        let n : k + 1 + length u ≡ k + length (b ∷ u) = omega arith in
        off (b ∷ u) v (ap (λ (y : List ℕ). b ∷ y) q) (rw e (f ∙ ap₂ (λ (y : List ℕ) (j : ℕ). fed (event_at (after y) y) j (after y)) z n)) (subst Ended z g)

    go : ((after t ≡ head t) × Begun t) ⊎ Ended t → (Begun t → Ate t (k + 1) p (eat t (k + 1) p))
        → Ate bs k (b ∷ p) (reached (after t) t (k + 1) (eat t (k + 1) p))
    go (inl (e, g)) rec = behind (rec g) e
    go (inr d) rec = off (b ∷ []) p refl (reached_end t (k + 1) (eat t (k + 1) p) d) d
