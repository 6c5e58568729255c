-- The list behind 14: no state reached from a fresh reader breaks it, and it is exact, since one that it allows and that is not refused can still be
-- completed.
use Prim.Native.Nat.{ℕ, zero, suc, ◌+◌, ◌-◌, ◌≤◌, ◌<◌}
use mathlib.Core.Path.{◌≡◌, refl, sym, ap, subst, ◌∙◌}
use mathlib.Core.Bool.{true}
use mathlib.Core.List.{List, [], ◌∷◌}
use native.Mathlib.Omega.{arith}
use lib.ListN.{length}
use Rattle.wire.specs.Lists.{joined}
use Rattle.wire.specs.Number.{AtMost}
use Rattle.item.specs.declared.Form.{Form}
use Rattle.item.proofs.Codes.{plain_small}
use Rattle.item.proofs.Contents.{limit_le}
use Rattle.levels.specs.Levels.{stack_of}
use Rattle.follow.proofs.Follow.{Known, a_list, a_plain}
use Rattle.follow.proofs.Grammar.{begin}
use Rattle.reader.specs.State.{State, state_of, reader_of, fresh}
use Rattle.reader.specs.Step.{step}
use Rattle.reader.specs.Feed.{allows, status_at, status, status_of, after, eat, fed_of}
use Rattle.reader.proofs.Rest.{RestAt, Rest, LiveAt, Live}
use Rattle.reader.specs.declared.Phase.{Phase}
use Rattle.reader.specs.declared.Phase.TheVariants.{Format, Length, Content, Refused}
use Rattle.reader.specs.declared.Reader.{Reader}
use Rattle.reader.specs.Answer.{Answer, More, Complete, Refusal}
use Rattle.reader.proofs.Right.{Out, goes, ends, step_right, after_known}
use Rattle.reader.proofs.Allowed.{Going, allows_held}
use Rattle.reader.proofs.Eats.{end_complete, more_left}
use Rattle.demand3.specs.Feeds.{feeds, NotRefused}
use Rattle.demand3.proofs.Along.{along_fresh}
use Rattle.demand3.proofs.Feeding.{along_holds, feeds_go}
use Rattle.demand3.proofs.Demand3.{complete_end, never_refused}

-- No state that feeds reach from a fresh reader breaks the list.
pub reached_allowed : (f : Form) (n : ℕ) (ps : List (List ℕ)) → AtMost 0xFF (joined ps) → allows (feeds (reader_of (fresh f n)) ps).1 ≡ true
reached_allowed f n ps b =
    let (w, e) = feeds_go ps f n [] (fresh f n) (along_fresh f n) b in
    rw e (along_holds f n w.through w.to w.along).allowed

-- So what such a reader answers to `status_of` is the status that demand 3 speaks of.
pub status_answered : (f : Form) (n : ℕ) (ps : List (List ℕ)) → AtMost 0xFF (joined ps)
    → status_of (feeds (reader_of (fresh f n)) ps).1 ≡ status (state_of (feeds (reader_of (fresh f n)) ps).1)
unfolding status_of
status_answered f n ps b = rw (reached_allowed f n ps b)

-- ---- what may follow is bytes

code_small : (c : ℕ) → Known c → c < 64
code_small c (a_list e) = omega arith
code_small c (a_plain k) = omega (arith, plain_small c k)

first_byte : (f : Form) (p : Phase) (st : List ℕ) (b : ℕ) (t : List ℕ) → LiveAt p st → RestAt f p st (b ∷ t) → b ≤ 255
first_byte f Format [] b t at w = absurd (omega (arith, ap length w))
first_byte f Format (zero ∷ st) b t at w = absurd (omega arith)
first_byte f Format (suc m ∷ st) b t at w =
    let g = begin f st m b t w in
    omega (arith, g.byte, g.few, code_small g.code (after_known f (m ∷ st) g.code g.lengths 0 t g.goes))
first_byte f (Length c zero v) st b t at w = absurd (omega (arith, at.some))
first_byte f (Length c (suc j) v) st b t at w = w.0
first_byte f (Content c zero) st b t at w = absurd (omega (arith, at.some))
first_byte f (Content c (suc l)) st b t at w = omega (arith, w.0, limit_le f c)
first_byte f (Refused e) st b t at w = absurd at

-- ---- the list is exact

-- a live state is fed what may follow in it, and is live behind the first byte
follow_step : (s : State) (b : ℕ) (t : List ℕ) → Live s → Rest s (b ∷ t) → (b ≤ 255) × Live (step s b) × Rest (step s b) t
follow_step s b t live (q, w) =
    let byte = first_byte s.form s.phase s.stack b t live.at w in
    let r = step_right s b live (omega arith) byte in
    let x = r.into t (omega arith) w in
    (byte, goes_on r.out x, x)
  where
    goes_on : {f : Form} {n k m : ℕ} → Out f n k m (step s b) → Rest (step s b) t → Live (step s b)
    goes_on (goes l y z k) x = l
    goes_on (ends h k e) x = absurd (subst (λ (y : State). RestAt y.form y.phase y.stack t) e x.1)

-- and so to the end
eats_up : (t : List ℕ) (s : State) (b k : ℕ) → Live s → Rest s (b ∷ t) → ((eat s k (b ∷ t)).answer ≡ Complete) × AtMost 0xFF (b ∷ t)
unfolding eat status
eats_up [] s b k live w =
    let (byte, l, x) = follow_step s b [] live w in
    let e = end_complete (step s b).form (step s b).phase (step s b).stack l.at x.1 in
    (rw e, (byte, tt))
eats_up (b' ∷ t) s b k live w = go (follow_step s b (b' ∷ t) live w) (λ l x. eats_up t (step s b) b' (k + 1) l x)
  where
    go : (b ≤ 255) × Live (step s b) × Rest (step s b) (b' ∷ t)
        → (Live (step s b) → Rest (step s b) (b' ∷ t) → ((eat (step s b) (k + 1) (b' ∷ t)).answer ≡ Complete) × AtMost 0xFF (b' ∷ t))
        → ((after (status (step s b)) (step s b) (k + 1) (eat (step s b) (k + 1) (b' ∷ t))).answer ≡ Complete) × AtMost 0xFF (b ∷ b' ∷ t)
    go (byte, l, x) rec = by (status (step s b)) refl (rec l x)
      where
        by : (a : Answer) → status (step s b) ≡ a → ((eat (step s b) (k + 1) (b' ∷ t)).answer ≡ Complete) × AtMost 0xFF (b' ∷ t)
            → ((after (status (step s b)) (step s b) (k + 1) (eat (step s b) (k + 1) (b' ∷ t))).answer ≡ Complete) × AtMost 0xFF (b ∷ b' ∷ t)
        by More e (f, m) = (rw e f, (byte, m))
        by Complete e (f, m) = absurd (omega (arith, ap length (complete_end (step s b).form (step s b).phase (step s b).stack (b' ∷ t) l.at e x.1)))
        by (Refusal y) e (f, m) = absurd (never_refused (step s b).phase (step s b).stack y l.at e)

going : (p : Phase) → ((e : ℕ) → p ≡ Refused e → ⊥) → Going p
going Format h = tt
going (Length c j v) h = tt
going (Content c l) h = tt
going (Refused e) h = h e refl

-- In a state that the list allows, and that answers more, fewer than N bytes are read.
pub more_within : (r : Reader) → length r.awaited ≡ 16 → allows r ≡ true → status (state_of r) ≡ More → r.read < r.size
unfolding status
more_within r full a e = more_left (state_of r) (allows_held r full (going r.phase by_phase) a).live e
  where
    by_phase : (x : ℕ) → r.phase ≡ Refused x → ⊥
    by_phase x q = let z : ◌≡◌ {A = ℕ} 0 1 = cc (sym (ap (λ (p : Phase). status_at p (stack_of r.awaited r.level)) q) ∙ e) in omega arith

-- A state that the list allows, and that is not refused, is one that N less the bytes read more bytes complete.
pub allowed_completes : (r : Reader) → length r.awaited ≡ 16 → allows r ≡ true → NotRefused r
    → (t : List ℕ) × (length t ≡ r.size - r.read) × AtMost 0xFF t × ((fed_of r t).answer ≡ Complete)
unfolding fed_of status
allowed_completes r full a g =
    let h = allows_held r full (going r.phase g) a in
    let (t, w) = h.live.follows in
    go t w h.live
  where
    go : (t : List ℕ) → Rest (state_of r) t → Live (state_of r) → (t : List ℕ) × (length t ≡ r.size - r.read) × AtMost 0xFF t × ((fed_of r t).answer ≡ Complete)
    go [] w l =
        let e : status (state_of r) ≡ Complete = end_complete r.form r.phase (stack_of r.awaited r.level) l.at w.1 in
        ([], w.0, tt, rw (a, e))
    go (b ∷ t) w l =
        let (e, m) = eats_up t (state_of r) b 0 l w in
        (b ∷ t, w.0, m, by (status (state_of r)) refl e)
      where
        by : (x : Answer) → status (state_of r) ≡ x → (eat (state_of r) 0 (b ∷ t)).answer ≡ Complete → (fed_of r (b ∷ t)).answer ≡ Complete
        by More q e = rw (a, q) e
        by Complete q e = absurd (omega (arith, ap length (complete_end r.form r.phase (stack_of r.awaited r.level) (b ∷ t) l.at q w.1)))
        by (Refusal y) q e = absurd (never_refused r.phase (stack_of r.awaited r.level) y l.at q)
