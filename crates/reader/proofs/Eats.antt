-- How a piece is eaten: a reader that goes on is ready for a byte, the byte keeps it on the list, and a turn of the loop is a step of the definition.
use Prim.Native.Nat.{ℕ, zero, suc, ◌+◌, ◌-◌, ◌≤◌, ◌<◌}
use mathlib.Core.Path.{◌≡◌, refl, sym, ap, subst, ◌∙◌}
use mathlib.Core.Bool.{true}
use mathlib.Core.List.{List, [], ◌∷◌}
use native.Mathlib.Decide.{ℕ_discrete}
use native.Mathlib.Numerals.{add-one}
use native.Mathlib.Omega.{arith}
use lib.ListN.{length, drop, get_or, drop_of_length-le}
use lib.Seq.{drop-cons}
use Rattle.item.specs.declared.Form.{Form}
use Rattle.levels.proofs.Laws.{levels_length, stack_length}
use Rattle.levels.specs.Levels.{total, stack_of}
use Rattle.levels.specs.declared.Levels.{Levels}
use Rattle.follow.proofs.Sizes.{awaited_fill}
use Rattle.reader.specs.State.{State, state_of, reader_in, reader_of, refused}
use Rattle.reader.specs.Step.{step}
use Rattle.reader.specs.Feed.{allows, status_at, status, fed, after, eat}
use Rattle.reader.proofs.Rest.{RestAt, LiveAt, Live}
use Rattle.reader.specs.Asked.{ReadyAt, Ready, On}
use Rattle.reader.specs.declared.Phase.{Phase}
use Rattle.reader.specs.declared.Phase.TheVariants.{Format, Length, Content, Refused}
use Rattle.reader.specs.declared.Reader.{Reader}
use Rattle.reader.specs.Answer.{Answer, More, Complete, Refusal, Fed}
use Rattle.reader.proofs.Right.{Out, goes, ends, step_right}
use Rattle.reader.proofs.Allowed.{Going, Held, allows_held, live_allows, refused_allows, state_reader}

more_going : (p : Phase) (st : List ℕ) → status_at p st ≡ More → Going p
more_going Format st e = tt
more_going (Length c j v) st e = tt
more_going (Content c l) st e = tt
more_going (Refused x) st e = let z : ◌≡◌ {A = ℕ} 0 1 = cc in absurd (omega arith)

total_cons : (m : ℕ) (st : List ℕ) → total (m ∷ st) ≡ m + total st
unfolding total
total_cons m st = refl

-- with nothing left to follow a live state is complete
pub end_complete : (f : Form) (p : Phase) (st : List ℕ) → LiveAt p st → RestAt f p st [] → status_at p st ≡ Complete
end_complete f Format [] at w = refl
end_complete f Format (zero ∷ st) at w = absurd (omega arith)
end_complete f Format (suc x ∷ st) at w = absurd (omega (arith, (awaited_fill f (suc x ∷ st) [] w).enough, total_cons (suc x) st))
end_complete f (Length c zero v) st at w = absurd (omega (arith, at.some))
end_complete f (Length c (suc j) v) st at w = absurd w
end_complete f (Content c zero) st at w = absurd (omega (arith, at.some))
end_complete f (Content c (suc l)) st at w = absurd w
end_complete f (Refused e) st at w = absurd at

no_bytes : (t : List ℕ) → length t ≡ 0 → t ≡ []
no_bytes [] q = refl
no_bytes (b ∷ t) q = absurd (omega arith)

pub more_left : (s : State) → Live s → status s ≡ More → s.read < s.size
unfolding status
more_left s live e = go (ℕ_discrete (s.size - s.read) 0)
  where
    go : Dec (s.size - s.read ≡ 0) → s.read < s.size
    go (yes z) =
        let (t, (q, w)) = live.follows in
        let n : t ≡ [] = no_bytes t (q ∙ z) in
        let c = end_complete s.form s.phase s.stack live.at (subst (RestAt s.form s.phase s.stack) n w) in
        let y : ◌≡◌ {A = ℕ} 0 1 = cc in
        absurd (omega arith)
    go (no z) = omega arith

pub held : (r : Reader) → On r → Held r
unfolding status
held r o = allows_held r o.full (more_going r.phase (stack_of r.awaited r.level) o.more) o.allowed

open_level : (p : Phase) (st : List ℕ) (d : ℕ) → length st ≡ d → LiveAt p st → status_at p st ≡ More → 0 < d
open_level Format [] d q at e = let z : ◌≡◌ {A = ℕ} 0 1 = cc in absurd (omega arith)
open_level Format (m ∷ st) d q at e = omega arith
open_level (Length c j v) [] d q at e = absurd at.inside
open_level (Length c j v) (m ∷ st) d q at e = omega arith
open_level (Content c l) [] d q at e = absurd at.inside
open_level (Content c l) (m ∷ st) d q at e = omega arith
open_level (Refused x) st d q at e = absurd at

ready_at : (p : Phase) (st : List ℕ) → LiveAt p st → ReadyAt p
ready_at Format st at = tt
ready_at (Length c j v) st at = (at.some, at.few, at.small)
ready_at (Content c l) st at = at.some
ready_at (Refused e) st at = at

pub ready : (r : Reader) → On r → Ready r
unfolding status
ready r o =
    let h = held r o in
    let less = more_left (state_of r) h.live o.more in
    record {
      spot =
          record {
            within = omega arith;
            bounded = h.live.bounded;
            clean = h.clean;
            inside = open_level r.phase (stack_of r.awaited r.level) r.level (stack_length r.awaited r.level) h.live.at o.more;
          };
      phase = ready_at r.phase (stack_of r.awaited r.level) h.live.at;
    }

-- the reader after a byte holds the state after it, and the list allows it
pub record Kept (s : State) : Type 0 where
  pub state_is : state_of (reader_of s) ≡ s
  pub full : length (reader_of s).awaited ≡ 16
  pub allowed : allows (reader_of s) ≡ true

pub kept : (f : Form) (n k m : ℕ) (s : State) → Out f n k m s → Kept s
kept f n k m s (goes live x y z) =
    record { state_is = state_reader s live.shallow; full = levels_length s.stack live.shallow; allowed = live_allows s live }
kept f n k m s (ends h l e) =
    rw e (record { state_is = state_reader (refused f n m) (omega arith); full = levels_length [] (omega arith); allowed = refused_allows f n m h l })

pub step_kept : (r : Reader) (b : ℕ) → b ≤ 255 → On r → Kept (step (state_of r) b)
step_kept r b byte o =
    let h = held r o in
    kept _ _ _ _ (step (state_of r) b) (step_right (state_of r) b h.live (more_left (state_of r) h.live o.more) byte).out

-- a state that goes on behind a byte is live
out_live : (f : Form) (n k m : ℕ) (s : State) → Out f n k m s → status s ≡ More → Live s
unfolding status
out_live f n k m s (goes l x y z) e = l
out_live f n k m s (ends x y q) e =
    let e' = subst (λ (z : State). status z ≡ More) q e in
    let z : ◌≡◌ {A = ℕ} 0 1 = cc in
    absurd (omega arith)

pub step_live : (s : State) (b : ℕ) → Live s → status s ≡ More → b ≤ 255 → status (step s b) ≡ More → Live (step s b)
step_live s b live more byte e = out_live _ _ _ _ (step s b) (step_right s b live (more_left s live more) byte).out e

-- ---- the loop

pub eat_step : (s : State) (k i : ℕ) (p : List ℕ) → i < length p
    → eat s k (drop i p) ≡ after (status (step s (get_or p i 0))) (step s (get_or p i 0)) (k + 1) (eat (step s (get_or p i 0)) (k + 1) (drop (i + 1) p))
unfolding eat
eat_step s k i p h = rw (add-one i, drop-cons p i 0 h)

pub eat_end : (s : State) (k i : ℕ) (p : List ℕ) → length p ≤ i → eat s k (drop i p) ≡ fed More k (reader_of s)
unfolding eat
eat_end s k i p h = rw (drop_of_length-le p h)

-- a reader that goes on is the one that holds its state
pub on_holds : (r : Reader) → On r → reader_of (state_of r) ≡ r
on_holds r o = ap (λ (l : Levels). reader_in r.form r.size r.read l r.phase) (sym (held r o).clean.is)

module _ (s : State) (k : ℕ) (next : Fed) (a : Answer) where
  pub after_more : a ≡ More → after a s k next ≡ next
  after_more e = rw e

  pub after_done : (a ≡ More → ⊥) → after a s k next ≡ fed a k (reader_of s)
  after_done h = done a h
    where
      done : (x : Answer) → (x ≡ More → ⊥) → after x s k next ≡ fed x k (reader_of s)
      done More n = absurd (n refl)
      done Complete n = refl
      done (Refusal e) n = refl

-- a turn of the loop: after the byte at i the reader is r', and a its answer
pub record Turned (p : List ℕ) (s₀ : State) (i : ℕ) (r' : Reader) (a : Answer) : Type 0 where
  pub on : a ≡ More → On r'
  pub eats : eat s₀ 0 p ≡ after a (state_of r') (i + 1) (eat (state_of r') (i + 1) (drop (i + 1) p))
  pub holds : reader_of (state_of r') ≡ r'

-- the list allows a reader behind a byte
pub step_allowed : (r : Reader) (b : ℕ) (r' : Reader) → b ≤ 255 → On r → r' ≡ reader_of (step (state_of r) b) → allows r' ≡ true
step_allowed r b r' byte o is = rw is (step_kept r b byte o).allowed

pub turned : (p : List ℕ) (s₀ : State) (r : Reader) (i : ℕ) (r' : Reader) (a : Answer) → i < length p → get_or p i 0 ≤ 255 → On r
    → eat s₀ 0 p ≡ eat (state_of r) i (drop i p) → r' ≡ reader_of (step (state_of r) (get_or p i 0)) → a ≡ status (state_of r') → Turned p s₀ i r' a
turned p s₀ r i r' a h byte o e stepped answered =
    let k = step_kept r (get_or p i 0) byte o in
    let is : state_of r' ≡ step (state_of r) (get_or p i 0) = ap state_of stepped ∙ k.state_is in
    record {
      on = λ m. record { full = rw stepped k.full; allowed = rw stepped k.allowed; more = sym answered ∙ m };
      eats = e ∙ eat_step (state_of r) i i p h ∙ rw (answered, is);
      holds = ap reader_of is ∙ sym stepped;
    }
