-- Feeding pieces goes along the bytes of all of them, as far as the reader goes on: a piece is eaten byte by byte, and an ended reader stays as it is.
use Prim.Native.Nat.{ℕ, suc, ◌+◌, ◌≤◌}
use mathlib.Core.Path.{◌≡◌, refl, sym, ap, subst, ◌∙◌}
use mathlib.Core.Bool.{true}
use mathlib.Core.List.{List, [], ◌∷◌, ◌++◌, append_assoc, append-nil}
use native.Mathlib.Omega.{arith}
use lib.ListN.{length, length-append}
use Rattle.wire.specs.Lists.{joined}
use Rattle.wire.specs.Number.{AtMost}
use Rattle.item.specs.declared.Form.{Form}
use Rattle.reader.specs.State.{State, state, state_of, reader_of, refused}
use Rattle.reader.specs.Step.{step}
use Rattle.reader.specs.Feed.{allows, status, fed, after, eat, start, fed_of}
use Rattle.reader.specs.declared.Phase.TheVariants.{Format}
use Rattle.reader.specs.declared.Reader.{Reader}
use Rattle.reader.specs.Answer.{Answer, More, Complete, Refusal, Fed}
use Rattle.reader.proofs.Allowed.{state_reader, live_allows, refused_allows}
use Rattle.reader.proofs.Fresh.{none_live}
use Rattle.demand3.specs.Feeds.{feeds, answer_to}
use Rattle.demand3.proofs.Along.{Stands, Along, nothing, never, stands, falls, along_step}

-- the reader that holds a state along the way is allowed by the list, and holds that state
pub record Holds (s : State) : Type 0 where
  pub is : state_of (reader_of s) ≡ s
  pub allowed : allows (reader_of s) ≡ true

refused_holds : (f : Form) (n e : ℕ) (s : State) → 1 ≤ e → e ≤ 6 → s ≡ refused f n e → Holds s
refused_holds f n e s h k q = rw q (record { is = state_reader (refused f n e) (omega arith); allowed = refused_allows f n e h k })

pub along_holds : (f : Form) (n : ℕ) (q : List ℕ) (s : State) → Along f n q s → Holds s
along_holds f n q s (nothing z e h₀) =
    let s₀ = state f n 0 [] Format in
    rw h₀ (record { is = state_reader s₀ (omega arith); allowed = live_allows s₀ (none_live f n z) })
along_holds f n q s (never e h₀ g) = refused_holds f n 5 s (omega arith) (omega arith) h₀
along_holds f n q s (stands st) = record { is = state_reader s st.live.shallow; allowed = live_allows s st.live }
along_holds f n q s (falls q₁ b e x l y z w h k h₀) = refused_holds f n e s h k h₀

-- complete and a refusal are not more
pub complete_ends : Complete ≡ More → ⊥
complete_ends e = let x : ◌≡◌ {A = ℕ} 0 1 = cc in omega arith

pub refusal_ends : (k : ℕ) → Refusal k ≡ More → ⊥
refusal_ends k e = let x : ◌≡◌ {A = ℕ} 0 1 = cc in omega arith

-- along the way only a state that stands goes on
more_stands : (f : Form) (n : ℕ) (q : List ℕ) (s : State) → Along f n q s → status s ≡ More → Stands f n q s
unfolding status
more_stands f n q s (nothing z e h₀) m = absurd (complete_ends (sym (ap status h₀) ∙ m))
more_stands f n q s (never e h₀ g) m = absurd (refusal_ends 5 (sym (ap status h₀) ∙ m))
more_stands f n q s (stands st) m = st
more_stands f n q s (falls q₁ b e x l y z w h k h₀) m = absurd (refusal_ends e (sym (ap status h₀) ∙ m))

-- as far as the reader goes along w, from where it stands after q: through q', with r left over, and with nothing left over where it goes on
pub record Went (f : Form) (n : ℕ) (q w : List ℕ) : Type 0 where
  pub through : List ℕ
  pub over : List ℕ
  pub all : w ≡ through ++ over
  pub to : State
  pub along : Along f n (q ++ through) to
  pub last : status to ≡ More → over ≡ []

-- ---- a piece

eat_goes : (p : List ℕ) (f : Form) (n : ℕ) (q : List ℕ) (s : State) (k : ℕ) → Along f n q s → status s ≡ More → AtMost 0xFF p
    → (w : Went f n q p) × (eat s k p ≡ fed (status w.to) (k + length w.through) (reader_of w.to))
unfolding eat
eat_goes [] f n q s k a m b = (
  record { through = []; over = []; all = refl; to = s; along = subst (λ (x : List ℕ). Along f n x s) (sym (append-nil q)) a; last = λ _. refl },
  let e : k ≡ k + 0 = omega arith in
      rw (← e, m),
)
eat_goes (b ∷ p) f n q s k a m (byte, bytes) = go (status (step s b)) refl (eat_goes p f n (q ++ (b ∷ [])) (step s b) (k + 1) next)
  where
    next : Along f n (q ++ (b ∷ [])) (step s b)
    next = along_step f n q s b (more_stands f n q s a m) m byte

    stop : (status (step s b) ≡ More → ⊥) → Went f n q (b ∷ p)
    stop h = record { through = b ∷ []; over = p; all = refl; to = step s b; along = next; last = λ e. absurd (h e) }

    Rec : Type 0
    Rec = (w : Went f n (q ++ (b ∷ [])) p) × (eat (step s b) (k + 1) p ≡ fed (status w.to) (k + 1 + length w.through) (reader_of w.to))

    eaten : Fed
    eaten = after (status (step s b)) (step s b) (k + 1) (eat (step s b) (k + 1) p)

    Goal : Type 0
    Goal = (w : Went f n q (b ∷ p)) × (eaten ≡ fed (status w.to) (k + length w.through) (reader_of w.to))

    go : (x : Answer) → status (step s b) ≡ x → (status (step s b) ≡ More → AtMost 0xFF p → Rec) → Goal
    go More e rec =
        let (w, h₁) = rec e bytes in (
          record {
            through = b ∷ w.through;
            over = w.over;
            all = ap (λ (x : List ℕ). b ∷ x) w.all;
            to = w.to;
            along = subst (λ (x : List ℕ). Along f n x w.to) (append_assoc q (b ∷ []) w.through) w.along;
            last = w.last;
          },
          let z : k + 1 + length w.through ≡ k + suc (length w.through) = omega arith in
              rw (e, ← z) h₁,
        )
    go Complete e rec = (stop (λ m. complete_ends (sym e ∙ m)), rw e)
    go (Refusal x) e rec = (stop (λ m. refusal_ends x (sym e ∙ m)), rw e)

-- ---- a feed, and a sequence of feeds

pub data Ended (s : State) : Type 0 where
  complete : status s ≡ Complete → Ended s
  refusal : (e : ℕ) → status s ≡ Refusal e → Ended s

-- a reader goes on or has ended
pub data Going (s : State) : Type 0 where
  on : status s ≡ More → Going s
  off : Ended s → (status s ≡ More → ⊥) → Going s

pub going : (s : State) → Going s
going s = go (status s) refl
  where
    go : (x : Answer) → status s ≡ x → Going s
    go More e = on e
    go Complete e = off (complete e) (λ m. complete_ends (sym e ∙ m))
    go (Refusal k) e = off (refusal k e) (λ m. refusal_ends k (sym e ∙ m))

-- a feed of a state along the way starts from it
fed_starts : (s : State) (p : List ℕ) (x : Answer) → Holds s → status s ≡ x → fed_of (reader_of s) p ≡ start x (reader_of s) p
unfolding fed_of
fed_starts s p x h e =
    let q : status (state_of (reader_of s)) ≡ x = ap status h.is ∙ e in
    rw (h.allowed, q)

-- an ended reader consumes nothing and stays as it is
pub ended_stays : (s : State) (p : List ℕ) → Holds s → Ended s → ((fed_of (reader_of s) p).consumed ≡ 0) × ((fed_of (reader_of s) p).reader ≡ reader_of s)
ended_stays s [] h (complete e) = rw (fed_starts s [] Complete h e) (refl, refl)
ended_stays s (b ∷ p) h (complete e) = rw (fed_starts s (b ∷ p) Complete h e) (refl, refl)
ended_stays s p h (refusal k e) = rw (fed_starts s p (Refusal k) h e) (refl, refl)

ended_all : (ps : List (List ℕ)) (s : State) → Holds s → Ended s → feeds (reader_of s) ps ≡ (0, reader_of s)
ended_all [] s h d = refl
ended_all (p ∷ ps) s h d =
    let r = ended_stays s p h d in
    rw (r.0, r.1, ended_all ps s h d)

-- a piece that is fed to a reader that goes on is eaten
pub on_eats : (s : State) (p : List ℕ) → Holds s → status s ≡ More → fed_of (reader_of s) p ≡ eat s 0 p
on_eats s p h m = fed_starts s p More h m ∙ ap (λ (x : State). eat x 0 p) h.is

pub feed_answers : (f : Form) (n : ℕ) (q : List ℕ) (s : State) (p : List ℕ) → Along f n q s → AtMost 0xFF p
    → (fed_of (reader_of s) p).answer ≡ answer_to (status s) p (status (state_of (fed_of (reader_of s) p).reader))
feed_answers f n q s p a b = go (status s) refl p b
  where
    h : Holds s
    h = along_holds f n q s a

    go : (x : Answer) → status s ≡ x → (p : List ℕ) → AtMost 0xFF p
        → (fed_of (reader_of s) p).answer ≡ answer_to (status s) p (status (state_of (fed_of (reader_of s) p).reader))
    go More m p b =
        let (w, h₁) = eat_goes p f n q s 0 a m b in
        rw (on_eats s p h m ∙ h₁, m, (along_holds f n (q ++ w.through) w.to w.along).is)
    go Complete e [] b = rw (fed_starts s [] Complete h e, h.is, e)
    go Complete e (x ∷ p) b = rw (fed_starts s (x ∷ p) Complete h e, e)
    go (Refusal k) e p b = rw (fed_starts s p (Refusal k) h e, h.is, e)

at_most_left : (m : ℕ) (x y : List ℕ) → AtMost m (x ++ y) → AtMost m x
at_most_left m [] y a = tt
at_most_left m (b ∷ x) y (a, as') = (a, at_most_left m x y as')

at_most_right : (m : ℕ) (x y : List ℕ) → AtMost m (x ++ y) → AtMost m y
at_most_right m [] y a = a
at_most_right m (b ∷ x) y (a, as') = at_most_right m x y as'

abbrev stay : (f : Form) (n : ℕ) (q w : List ℕ) (s : State) → Along f n q s → (status s ≡ More → ⊥) → Went f n q w
stay f n q w s a h =
    record { through = []; over = w; all = refl; to = s; along = subst (λ (x : List ℕ). Along f n x s) (sym (append-nil q)) a; last = λ e. absurd (h e) }

-- two ways, one behind the other
abbrev after_all : (f : Form) (n : ℕ) (q x y : List ℕ) (w : Went f n q x) → w.over ≡ [] → Went f n (q ++ w.through) y → Went f n q (x ++ y)
after_all f n q x y w none v =
    record {
      through = w.through ++ v.through;
      over = v.over;
      all =
          ap (λ (z : List ℕ). z ++ y) (w.all ∙ ap (λ (z : List ℕ). w.through ++ z) none ∙ append-nil w.through)
          ∙ ap (λ (z : List ℕ). w.through ++ z) v.all
          ∙ sym (append_assoc w.through v.through v.over);
      to = v.to;
      along = subst (λ (z : List ℕ). Along f n z v.to) (append_assoc q w.through v.through) v.along;
      last = v.last;
    }

abbrev before_end : (f : Form) (n : ℕ) (q x y : List ℕ) (w : Went f n q x) → (status w.to ≡ More → ⊥) → Went f n q (x ++ y)
before_end f n q x y w h =
    record {
      through = w.through;
      over = w.over ++ y;
      all = ap (λ (z : List ℕ). z ++ y) w.all ∙ append_assoc w.through w.over y;
      to = w.to;
      along = w.along;
      last = λ e. absurd (h e);
    }

-- feeds behind a first one
feeds_behind : (r r' : Reader) (p : List ℕ) (ps : List (List ℕ)) (x : Answer) (k m : ℕ) (r'' : Reader)
    → fed_of r p ≡ fed x k r' → feeds r' ps ≡ (m, r'') → feeds r (p ∷ ps) ≡ (k + m, r'')
feeds_behind r r' p ps x k m r'' e f = rw (e, f)

pub feeds_go : (ps : List (List ℕ)) (f : Form) (n : ℕ) (q : List ℕ) (s : State) → Along f n q s → AtMost 0xFF (joined ps)
    → (w : Went f n q (joined ps)) × (feeds (reader_of s) ps ≡ (length w.through, reader_of w.to))
feeds_go [] f n q s a b =
    (record { through = []; over = []; all = refl; to = s; along = subst (λ (x : List ℕ). Along f n x s) (sym (append-nil q)) a; last = λ _. refl }, refl)
feeds_go (p ∷ ps) f n q s a b = go (going s) (λ q' s' a'. feeds_go ps f n q' s' a' (at_most_right 0xFF p (joined ps) b))
  where
    Rec : Type 0
    Rec = (q' : List ℕ) (s' : State) → Along f n q' s' → (w : Went f n q' (joined ps)) × (feeds (reader_of s') ps ≡ (length w.through, reader_of w.to))

    Goal : Type 0
    Goal = (w : Went f n q (p ++ joined ps)) × (feeds (reader_of s) (p ∷ ps) ≡ (length w.through, reader_of w.to))

    next : (w : Went f n q p) → fed_of (reader_of s) p ≡ fed (status w.to) (0 + length w.through) (reader_of w.to) → Going w.to → Rec → Goal
    next w h₁ (on m) rec =
        let (v, g) = rec (q ++ w.through) w.to w.along in
        let e : 0 + length w.through + length v.through ≡ length (w.through ++ v.through)
        = omega (arith, length-append w.through v.through) in (
          after_all f n q p (joined ps) w (w.last m) v,
          feeds_behind (reader_of s) (reader_of w.to) p ps _ _ _ _ h₁ g ∙ ap (λ (x : ℕ). (x, reader_of v.to)) e,
        )
    next w h₁ (off d h) rec =
        let e : 0 + length w.through + 0 ≡ length w.through = omega arith in (
          before_end f n q p (joined ps) w h,
          feeds_behind (reader_of s) (reader_of w.to) p ps _ _ _ _ h₁ (ended_all ps w.to (along_holds f n (q ++ w.through) w.to w.along) d)
              ∙ ap (λ (x : ℕ). (x, reader_of w.to)) e,
        )

    go : Going s → Rec → Goal
    go (off d h) rec = (stay f n q (p ++ joined ps) s a h, ended_all (p ∷ ps) s (along_holds f n q s a) d)
    go (on m) rec =
        let (w, h₁) = eat_goes p f n q s 0 a m (at_most_left 0xFF p (joined ps) b) in
        next w (on_eats s p (along_holds f n q s a) m ∙ h₁) (going w.to) rec
