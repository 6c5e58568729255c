-- A turn of the loops: one byte, or content bytes at once. The bulk law: content bytes within the limit lead, however many, to one state, and the answer
-- before the last is more.
use Prim.Native.Nat.{ℕ, zero, suc, ◌+◌, ◌-◌, ◌≤◌, ◌<◌}
use mathlib.Core.Path.{◌≡◌, refl, sym, ap, subst, ◌∙◌}
use mathlib.Core.List.{List, [], ◌∷◌}
use native.Mathlib.Numerals.{add-one}
use native.Mathlib.Omega.{arith}
use borrow.Author.Tests.{le-leb, ne_eqb}
use lib.ListN.{length, drop, get_or, drop_of_length-le}
use lib.Seq.{drop-cons}
use Rattle.item.specs.Item.{limit}
use Rattle.item.specs.declared.Form.{Form}
use Rattle.levels.specs.Levels.{stack_of}
use Rattle.follow.proofs.Follow.{AfterContent}
use Rattle.follow.proofs.Sizes.{content_fill}
use Rattle.reader.specs.State.{State, state, state_of, reader_of}
use Rattle.reader.specs.Step.{content_from, at_content, step_at, step}
use Rattle.reader.specs.Feed.{status, after, eat}
use Rattle.reader.specs.Items.{shown, reached, met, seek}
use Rattle.reader.proofs.Rest.{RestAt, Live}
use Rattle.reader.specs.Asked.{On, Low, Turned}
use Rattle.reader.specs.declared.Phase.{Phase}
use Rattle.reader.specs.declared.Phase.TheVariants.{Content}
use Rattle.reader.specs.declared.Reader.{Reader}
use Rattle.reader.specs.Answer.{Answer, More, Found, Nothing}
use Rattle.reader.proofs.Right.{step_right}
use Rattle.reader.proofs.Eats.{more_left, held, Kept, kept, eat_step}

pub seek_step : (s : State) (k i : ℕ) (p : List ℕ) → i < length p
    → let b = get_or p i 0 in
    seek s k (drop i p) ≡ met (status (step s b)) (shown s b) (step s b) (k + 1) (seek (step s b) (k + 1) (drop (i + 1) p))
unfolding seek
seek_step s k i p h = rw (add-one i, drop-cons p i 0 h)

pub seek_end : (s : State) (k i : ℕ) (p : List ℕ) → length p ≤ i → seek s k (drop i p) ≡ reached Nothing More k (reader_of s)
unfolding seek
seek_end s k i p h = rw (drop_of_length-le p h)

-- from s the m bytes at i lead to s': before the last the answer is more and no item is shown; the last shows x
pub record Ran (p : List ℕ) (i m : ℕ) (s : State) (x : Found) (s' : State) : Type 0 where
  pub eats : (k : ℕ) → eat s k (drop i p) ≡ after (status s') s' (k + m) (eat s' (k + m) (drop (i + m) p))
  pub seeks : (k : ℕ) → seek s k (drop i p) ≡ met (status s') x s' (k + m) (seek s' (k + m) (drop (i + m) p))
  pub keeps : Kept s'

-- one byte
pub one_ran : (p : List ℕ) (i : ℕ) (s : State) → i < length p → get_or p i 0 ≤ 255 → Live s → status s ≡ More
    → Ran p i 1 s (shown s (get_or p i 0)) (step s (get_or p i 0))
one_ran p i s h byte live more =
    record {
      eats = λ k. eat_step s k i p h;
      seeks = λ k. seek_step s k i p h;
      keeps = kept _ _ _ _ (step s (get_or p i 0)) (step_right s (get_or p i 0) live (more_left s live more) byte).out;
    }

-- a byte that leads to s₁, which goes on and shows nothing, and then m more
then_ran : (p : List ℕ) (i m : ℕ) (s s₁ : State) (x : Found) (s' : State) → i < length p
    → step s (get_or p i 0) ≡ s₁ → status s₁ ≡ More → shown s (get_or p i 0) ≡ Nothing
    → Ran p (i + 1) m s₁ x s' → Ran p i (suc m) s x s'
then_ran p i m s s₁ x s' h stepped more none r =
    record {
      eats = λ k.
          let e : k + 1 + m ≡ k + suc m = omega arith in
          let d : i + 1 + m ≡ i + suc m = omega arith in
          eat_step s k i p h
          ∙ ap (λ (y : State). after (status y) y (k + 1) (eat y (k + 1) (drop (i + 1) p))) stepped
          ∙ ap (λ (a : Answer). after a s₁ (k + 1) (eat s₁ (k + 1) (drop (i + 1) p))) more
          ∙ r.eats (k + 1)
          ∙ rw (e, d);
      seeks = λ k.
          let e : k + 1 + m ≡ k + suc m = omega arith in
          let d : i + 1 + m ≡ i + suc m = omega arith in
          seek_step s k i p h
          ∙ ap (λ (z : Found).
          met (status (step s (get_or p i 0))) z (step s (get_or p i 0)) (k + 1) (seek (step s (get_or p i 0)) (k + 1) (drop (i + 1) p))) none
          ∙ ap (λ (y : State). met (status y) Nothing y (k + 1) (seek y (k + 1) (drop (i + 1) p))) stepped
          ∙ ap (λ (a : Answer). met a Nothing s₁ (k + 1) (seek s₁ (k + 1) (drop (i + 1) p))) more
          ∙ r.seeks (k + 1)
          ∙ rw (e, d);
      keeps = r.keeps;
    }

module _ (p : List ℕ) (f : Form) (n : ℕ) (st : List ℕ) (c : ℕ) where
  -- the state in a content with l bytes to come
  abbrev inside : ℕ → ℕ → State
  inside k l = state f n k st (Content c l)

  -- a content byte within the limit
  one_content : (k l b : ℕ) → b ≤ limit f c → step (inside k l) b ≡ content_from f n (k + 1) st c (l - 1)
  unfolding step step_at at_content
  one_content k l b h = rw (le-leb b (limit f c) h)

  goes_on : (k l b : ℕ) → b ≤ limit f c → step (inside k (suc (suc l))) b ≡ inside (k + 1) (suc l)
  goes_on k l b h =
      let e : suc (suc l) - 1 ≡ suc l = omega arith in
      one_content k (suc (suc l)) b h ∙ rw (e, ne_eqb (suc l) 0 (λ z. omega arith))

  more_content : (k l : ℕ) → status (inside k l) ≡ More
  unfolding status
  more_content k l = refl

  shows_none : (k l b : ℕ) → shown (inside k l) b ≡ Nothing
  unfolding shown
  shows_none k l b = refl

  -- what may follow a content byte
  next_live : (k l : ℕ) → Live (inside k (suc (suc l))) → Live (inside (k + 1) (suc l))
  next_live k l live = go live.follows.0 live.follows.1.0 live.follows.1.1
    where
      go : (t : List ℕ) → length t ≡ n - k → AfterContent f st c (suc (suc l)) t → Live (inside (k + 1) (suc l))
      go [] q w = absurd w
      go (b ∷ t) q w =
          record {
            bounded = live.bounded;
            within = omega arith;
            shallow = live.shallow;
            at = record { inside = live.at.inside; known = live.at.known; some = omega arith };
            follows = (t, (omega arith, w.1));
          }

  -- the bulk law
  pub content_ran : (m i k l : ℕ) → Live (inside k l) → suc m ≤ l → i + suc m ≤ length p → ((j : ℕ) → get_or p j 0 ≤ 255) → Low (limit f c) p i (suc m)
      → Ran p i (suc m) (inside k l) Nothing (content_from f n (k + suc m) st c (l - suc m))
  content_ran zero i k l live few within bytes low =
      let z : i + 0 ≡ i = omega arith in
      let b : get_or p i 0 ≤ limit f c = subst (λ (j : ℕ). get_or p j 0 ≤ limit f c) z (low 0 (omega arith)) in
      subst (λ (x : Found). Ran p i 1 (inside k l) x (content_from f n (k + 1) st c (l - 1))) (shows_none k l (get_or p i 0))
      (subst (Ran p i 1 (inside k l) (shown (inside k l) (get_or p i 0))) (one_content k l (get_or p i 0) b)
      (one_ran p i (inside k l) (omega arith) (bytes i) live (more_content k l)))
  content_ran (suc m) i k zero live few within bytes low = absurd (omega arith)
  content_ran (suc m) i k (suc zero) live few within bytes low = absurd (omega arith)
  content_ran (suc m) i k (suc (suc l)) live few within bytes low =
      let z : i + 0 ≡ i = omega arith in
      let b : get_or p i 0 ≤ limit f c = subst (λ (j : ℕ). get_or p j 0 ≤ limit f c) z (low 0 (omega arith)) in
      let r = content_ran m (i + 1) (k + 1) (suc l) (next_live k l live) (omega arith) (omega arith) bytes
      (λ j h. subst (λ (y : ℕ). get_or p y 0 ≤ limit f c) {y = i + 1 + j} (omega arith) (low (suc j) (omega arith))) in
      let a : k + 1 + suc m ≡ k + suc (suc m) = omega arith in
      let d : suc l - suc m ≡ suc (suc l) - suc (suc m) = omega arith in
      then_ran p i (suc m) (inside k (suc (suc l))) (inside (k + 1) (suc l)) Nothing (content_from f n (k + suc (suc m)) st c (suc (suc l) - suc (suc m)))
      (omega arith) (goes_on k l (get_or p i 0) b) (more_content (k + 1) (suc l)) (shows_none k (suc (suc l)) (get_or p i 0))
      (subst (λ (y : ℕ). Ran p (i + 1) (suc m) (inside (k + 1) (suc l)) Nothing (content_from f n (k + suc (suc m)) st c y)) d
      (subst (λ (y : ℕ). Ran p (i + 1) (suc m) (inside (k + 1) (suc l)) Nothing (content_from f n y st c (suc l - suc m))) a r))

-- ---- the turn

-- the reader behind a run is the one that holds the state behind it
pub ran_turned : (r : Reader) (p : List ℕ) (i m : ℕ) (x : Found) (s' : State) (r' : Reader) → 0 < m → i + m ≤ length p → x ≡ shown (state_of r) (get_or p i 0)
    → Ran p i m (state_of r) x s' → r' ≡ reader_of s' → Turned r p i r' m
ran_turned r p i m x s' r' some within shows ran is =
    let e : state_of r' ≡ s' = ap state_of is ∙ ran.keeps.state_is in
    record {
      some = some;
      within = within;
      allowed = rw is ran.keeps.allowed;
      on = λ a. record { full = rw is ran.keeps.full; allowed = rw is ran.keeps.allowed; more = a };
      holds = ap reader_of e ∙ sym is;
      eats = λ k. ran.eats k ∙ ap (λ (y : State). after (status y) y (k + m) (eat y (k + m) (drop (i + m) p))) (sym e);
      seeks = λ k.
          ran.seeks k
          ∙ ap (λ (z : Found). met (status s') z s' (k + m) (seek s' (k + m) (drop (i + m) p))) shows
          ∙ ap (λ (y : State). met (status y) (shown (state_of r) (get_or p i 0)) y (k + m) (seek y (k + m) (drop (i + m) p))) (sym e);
    }

-- one byte
pub byte_turned : (r : Reader) (p : List ℕ) (i : ℕ) (r' : Reader) → On r → i < length p → get_or p i 0 ≤ 255
    → r' ≡ reader_of (step (state_of r) (get_or p i 0)) → Turned r p i r' 1
byte_turned r p i r' o h byte is =
    ran_turned r p i 1 (shown (state_of r) (get_or p i 0)) (step (state_of r) (get_or p i 0)) r' (omega arith) (omega arith) refl
    (one_ran p i (state_of r) h byte (held r o).live o.more) is

-- m content bytes
pub run_turned : (r : Reader) (c l : ℕ) (p : List ℕ) (i m : ℕ) (r' : Reader) → On r → r.phase ≡ Content c l → 0 < m → m ≤ l → i + m ≤ length p
    → ((j : ℕ) → get_or p j 0 ≤ 255) → Low (limit r.form c) p i m
    → r' ≡ reader_of (content_from r.form r.size (r.read + m) (stack_of r.awaited r.level) c (l - m)) → Turned r p i r' m
run_turned r c l p i zero r' o e some few within bytes low is = absurd (omega arith)
run_turned r c l p i (suc m) r' o e some few within bytes low is =
    let st = stack_of r.awaited r.level in
    let to = content_from r.form r.size (r.read + suc m) st c (l - suc m) in
    let s : state_of r ≡ state r.form r.size r.read st (Content c l) = rw e in
    let ran = content_ran p r.form r.size st c m i r.read l (subst Live s (held r o).live) few within bytes low in
    let none = ap (λ (y : State). shown y (get_or p i 0)) s ∙ shows_none p r.form r.size st c r.read l (get_or p i 0) in
    ran_turned r p i (suc m) Nothing to r' some within (sym none) (subst (λ (y : State). Ran p i (suc m) y Nothing to) (sym s) ran) is

-- so many content bytes are still to be read
pub content_room : (r : Reader) (c l : ℕ) → On r → r.phase ≡ Content c l → r.read + l ≤ r.size
content_room r c l o e =
    let st = stack_of r.awaited r.level in
    let (t, (q, w)) = (held r o).live.follows in
    let w' = subst (λ (x : Phase). RestAt r.form x st t) e w in
    omega (arith, q, (content_fill r.form st c l t w').0, (held r o).live.within)
