-- Demand 3, over every sequence of feeds from a fresh reader: the way that the reader goes along the bytes, read off at its end.
use Prim.Native.Nat.{ℕ, ◌≤◌}
use mathlib.Core.Path.{◌≡◌, refl, sym, ap, subst, ◌∙◌}
use mathlib.Core.List.{List, [], ◌∷◌, ◌++◌, append_assoc, append-nil}
use mathlib.Core.Logic.{◌↔◌}
use native.Mathlib.Omega.{arith}
use lib.ListN.{length, take, length-append}
use lib.Seq.{take_at, take_all}
use Rattle.wire.specs.Lists.{joined}
use Rattle.wire.specs.Number.{AtMost}
use Rattle.item.specs.Item.{empty, Formed}
use Rattle.item.specs.declared.Form.{Form}
use Rattle.item.specs.declared.Form.TheVariants.{Good as good, Lean as lean}
use Rattle.item.proofs.Laws.{lean_is_good}
use Rattle.reader.specs.State.{State, state_of, reader_of, fresh}
use Rattle.reader.specs.Feed.{status_at, status, fed_of}
use Rattle.reader.proofs.Rest.{RestAt, LiveAt}
use Rattle.reader.specs.declared.Phase.{Phase}
use Rattle.reader.specs.declared.Phase.TheVariants.{Format, Length, Content, Refused}
use Rattle.reader.specs.Answer.{Answer, More, Complete, Refusal}
use Rattle.reader.proofs.Eats.{more_left}
use Rattle.demand3.specs.Begins.{Begins}
use Rattle.demand3.specs.Feeds.{feeds, answer_to}
use Rattle.demand3.specs.Verdict.{Verdict, goes_on, complete, before_any, at_byte}
use Rattle.demand3.proofs.Along.{Stands, Along, nothing, never, stands, falls, along_fresh}
use Rattle.demand3.proofs.Feeding.{along_holds, feed_answers, feeds_go}

-- a live state that is complete has nothing left to follow
pub complete_end : (f : Form) (p : Phase) (st t : List ℕ) → LiveAt p st → status_at p st ≡ Complete → RestAt f p st t → t ≡ []
complete_end f Format [] t at e w = w
complete_end f Format (m ∷ st) t at e w = absurd (let z : ◌≡◌ {A = ℕ} 0 1 = cc in omega arith)
complete_end f (Length c j v) st t at e w = absurd (let z : ◌≡◌ {A = ℕ} 0 1 = cc in omega arith)
complete_end f (Content c l) st t at e w = absurd (let z : ◌≡◌ {A = ℕ} 0 1 = cc in omega arith)
complete_end f (Refused x) st t at e w = absurd at

pub never_refused : (p : Phase) (st : List ℕ) (e : ℕ) → LiveAt p st → status_at p st ≡ Refusal e → ⊥
never_refused Format [] e at q = let z : ◌≡◌ {A = ℕ} 0 1 = cc in omega arith
never_refused Format (m ∷ st) e at q = let z : ◌≡◌ {A = ℕ} 0 1 = cc in omega arith
never_refused (Length c j v) st e at q = let z : ◌≡◌ {A = ℕ} 0 1 = cc in omega arith
never_refused (Content c l) st e at q = let z : ◌≡◌ {A = ℕ} 0 1 = cc in omega arith
never_refused (Refused x) st e at q = at

module _ (f : Form) (n : ℕ) (w through over : List ℕ) (all : w ≡ through ++ over) where
  stands_verdict : (s : State) → Stands f n through s → (status s ≡ More → over ≡ []) → (a : Answer) → status s ≡ a → Verdict f n w (length through) a
  unfolding status
  stands_verdict s st last More e =
      let z : w ≡ through = all ∙ ap (λ (x : List ℕ). through ++ x) (last e) ∙ append-nil through in
      let (t, r) = st.live.follows in
      let g = st.from t r in
      rw z (goes_on refl (omega (arith, more_left s st.live e, st.size, st.read)) (t, g.0, g.1))
  stands_verdict s st last Complete e =
      let (t, r) = st.live.follows in
      let z : t ≡ [] = complete_end s.form s.phase s.stack t st.live.at e r.1 in
      let g = st.from t r in
      let x : through ++ t ≡ through = ap (λ (y : List ℕ). through ++ y) z ∙ append-nil through in
      let l : length through ≡ n = ap length (sym x) ∙ g.1 in
      let y : take n w ≡ through = ap (take n) all ∙ take_at through over n l in
      complete l (omega (arith, ap length all, length-append through over)) (subst (Formed f) (x ∙ sym y) g.0)
  stands_verdict s st last (Refusal x) e = absurd (never_refused s.phase s.stack x st.live.at e)

  -- a state's own answer is the one that is asked for
  answered : (k : ℕ) (a b : Answer) → a ≡ b → Verdict f n w k a → Verdict f n w k b
  answered k a b e v = subst (Verdict f n w k) e v

  verdict : (s : State) → Along f n through s → (status s ≡ More → over ≡ []) → Verdict f n w (length through) (status s)
  unfolding status
  verdict s (nothing z e h₀) last =
      answered _ Complete (status s) (sym (ap status h₀))
      (rw e (complete (sym z) (omega arith) (subst (Formed f) (ap (λ (x : ℕ). take x w) (sym z)) (empty, refl))))
  verdict s (never e h₀ g) last = answered _ (Refusal 5) (status s) (sym (ap status h₀)) (rw e (before_any refl g))
  verdict s (stands st) last = stands_verdict s st last (status s) refl
  verdict s (falls q b e x l y z m h k h₀) last =
      answered _ (Refusal e) (status s) (sym (ap status h₀))
      (at_byte q b over e (all ∙ ap (λ (u : List ℕ). u ++ over) x ∙ append_assoc q (b ∷ []) over) (ap length x ∙ omega (arith, length-append q (b ∷ []))) l y
      (λ v. z (subst (Begins f n) (sym x) v)) m)

-- DEMAND 3, for good texts and for lean ones. For every form, every N, every list of bytes and every way to cut it into pieces, the reader's state after
-- the pieces, and the bytes consumed in all, are right.
pub demand_3 : (f : Form) (n : ℕ) (ps : List (List ℕ)) → AtMost 0xFF (joined ps)
    → Verdict f n (joined ps) (feeds (reader_of (fresh f n)) ps).0 (status (state_of (feeds (reader_of (fresh f n)) ps).1))
demand_3 f n ps b =
    let (w, e) = feeds_go ps f n [] (fresh f n) (along_fresh f n) b in
    let h = along_holds f n w.through w.to w.along in
    rw (e, h.is) (verdict f n (joined ps) w.through w.over w.all w.to w.along w.last)

-- After any feeds, what the next answers is the status that demand 3 speaks of, save 7.
pub answers : (f : Form) (n : ℕ) (ps : List (List ℕ)) (p : List ℕ) → AtMost 0xFF (joined ps) → AtMost 0xFF p
    → (fed_of (feeds (reader_of (fresh f n)) ps).1 p).answer
    ≡ answer_to (status (state_of (feeds (reader_of (fresh f n)) ps).1)) p (status (state_of (fed_of (feeds (reader_of (fresh f n)) ps).1 p).reader))
answers f n ps p b c =
    let (w, e) = feeds_go ps f n [] (fresh f n) (along_fresh f n) b in
    rw (e, (along_holds f n w.through w.to w.along).is) (feed_answers f n w.through w.to p w.along c)

-- a shorter prefix begins every text that a longer one begins
pub shorter_begins : (f : Form) (n : ℕ) (x y : List ℕ) → Begins f n (x ++ y) → Begins f n x
shorter_begins f n x y (t, g, l) = (y ++ t, subst (Formed f) (append_assoc x y t) g, ap length (sym (append_assoc x y t)) ∙ l)

module _ (f : Form) (n : ℕ) (w : List ℕ) (k : ℕ) where
  none_such : (q : List ℕ) (b : ℕ) (r : List ℕ) → w ≡ q ++ (b ∷ r) → (Begins f n (q ++ (b ∷ [])) → ⊥) → Begins f n w → ⊥
  none_such q b r e h v = h (shorter_begins f n (q ++ (b ∷ [])) r (subst (Begins f n) (e ∙ sym (append_assoc q (b ∷ []) r)) v))

  whole_begins : n ≤ length w → length w ≤ n → Formed f (take n w) → Begins f n w
  whole_begins h l g =
      let e : take n w ≡ w = take_all n w l in
      ([], subst (Formed f) (sym (append-nil w ∙ sym e)) g, ap length (append-nil w) ∙ omega arith)

  -- Refused after a prefix of at most N bytes ⇔ no text of the form, of N bytes, begins with it.
  pub refused_iff : length w ≤ n → (a : Answer) → Verdict f n w k a → ((e : ℕ) × (a ≡ Refusal e)) ↔ (Begins f n w → ⊥)
  refused_iff h a (goes_on z l v) = ((λ x. absurd (let y : ◌≡◌ {A = ℕ} 0 1 = cc x.1 in omega arith)), λ x. absurd (x v))
  refused_iff h a (complete z l g) = ((λ x. absurd (let y : ◌≡◌ {A = ℕ} 0 1 = cc x.1 in omega arith)), λ x. absurd (x (whole_begins l h g)))
  refused_iff h a (before_any z v) = ((λ x y. v (shorter_begins f n [] w y)), λ x. (5, refl))
  refused_iff h a (at_byte q b r e z l m v x y) = ((λ _. none_such q b r z x), λ _. (e, refl))

  -- Complete ⇔ N bytes that are a text of the form.
  pub complete_iff : length w ≤ n → (a : Answer) → Verdict f n w k a → (a ≡ Complete) ↔ (Formed f w × (length w ≡ n))
  complete_iff h a (goes_on z l v) = ((λ x. absurd (let y : ◌≡◌ {A = ℕ} 0 1 = cc x in omega arith)), λ x. absurd (omega (arith, x.1)))
  complete_iff h a (complete z l g) = ((λ _. (subst (Formed f) (take_all n w h) g, omega arith)), λ _. refl)
  complete_iff h a (before_any z v) = (
    (λ x. absurd (let y : ◌≡◌ {A = ℕ} 0 1 = cc x in omega arith)),
    λ x. absurd (v (shorter_begins f n [] w (whole_begins (omega (arith, x.1)) h (subst (Formed f) (sym (take_all n w h)) x.0)))),
  )
  complete_iff h a (at_byte q b r e z l m v x y) = (
    (λ u. absurd (let t : ◌≡◌ {A = ℕ} 0 1 = cc u in omega arith)),
    λ u. absurd (none_such q b r z x (whole_begins (omega (arith, u.1)) h (subst (Formed f) (sym (take_all n w h)) u.0))),
  )

-- a lean text is good
lean_begins : (n : ℕ) (w : List ℕ) → Begins lean n w → Begins good n w
lean_begins n w (t, (i, s), l) = (t, (i, lean_is_good (w ++ t) i s), l)

-- After the same bytes, where the reader for good texts is refused the one for lean texts is too: it refuses at that byte or before it.
pub lean_refuses : (n : ℕ) (w : List ℕ) (k k' : ℕ) → length w ≤ n → (a b : Answer) → Verdict good n w k a → Verdict lean n w k' b
    → (e : ℕ) × (a ≡ Refusal e) → (e : ℕ) × (b ≡ Refusal e)
lean_refuses n w k k' h a b v v' r = (refused_iff lean n w k' h b v').1 (λ g. (refused_iff good n w k h a v).0 r (lean_begins n w g))
