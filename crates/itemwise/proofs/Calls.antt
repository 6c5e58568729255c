-- One answer of the next item, and what is left behind it, are the feed of the piece and the items that it shows; so are the calls, again and again.
use Prim.Native.Nat.{ℕ, zero, suc, ◌+◌, ◌-◌, ◌≤◌, ◌<◌}
use mathlib.Core.Path.{◌≡◌, refl, sym, ap, ◌∙◌}
use mathlib.Core.Bool.{Bool, true, false, cond}
use mathlib.Core.List.{List, [], ◌∷◌, ◌++◌, append_assoc, append-nil}
use native.Mathlib.Omega.{arith}
use lib.ListN.{length, drop, length-drop}
use Rattle.wire.specs.Number.{AtMost}
use Rattle.wire.proofs.Numbers.{at_most_drop}
use Rattle.reader.specs.State.{State, state_of, reader_of}
use Rattle.reader.specs.Step.{step}
use Rattle.reader.specs.Feed.{allows, status, status_of, fed, after, eat, start, fed_of}
use Rattle.reader.specs.Items.{shown, reached, met, seek, begin, next_of}
use Rattle.reader.specs.Asked.{On}
use Rattle.reader.specs.Answer.{Answer, More, Complete, Refusal, Fed, Found, Nothing, Item, Reached}
use Rattle.reader.specs.declared.Reader.{Reader}
use Rattle.reader.proofs.Rest.{Live}
use Rattle.reader.proofs.Right.{goes, step_right}
use Rattle.reader.proofs.Allowed.{state_reader}
use Rattle.reader.proofs.Eats.{more_left, held, Kept, kept, step_live}
use Rattle.demand3.specs.Feeds.{more_consumed}
use Rattle.demand3.proofs.Feeding.{complete_ends, refusal_ends}
use Rattle.demand3.proofs.Cutting.{eat_shift, fed_on, eaten}
use Rattle.itemwise.specs.Told.{Entry, noted, showing, entries_in, goes_on_after, onward, fed_by, fed_again, behind, calls, Agrees}

-- ---- readers and states that go on

-- the reader that holds a state that goes on
kept_on : (s : State) → Kept s → status s ≡ More → On (reader_of s)
kept_on s keeps e = record { full = keeps.full; allowed = keeps.allowed; more = ap status keeps.state_is ∙ e }

pub live_on : (s : State) → Live s → status s ≡ More → On (reader_of s)
live_on s live e = kept_on s (kept s.form s.size s.read 0 s (goes live refl refl refl)) e

-- by the status of a reader
pub on_status : (r : Reader) → On r → status_of r ≡ More
unfolding status_of
on_status r o = rw o.allowed o.more

status_on : (r : Reader) → length r.awaited ≡ 16 → status_of r ≡ More → On r
unfolding status_of
status_on r full m = go (allows r) refl m
  where
    go : (b : Bool) → allows r ≡ b → cond b (status (state_of r)) (Refusal 14) ≡ More → On r
    go true e m = record { full = full; allowed = e; more = m }
    go false e m = absurd (refusal_ends 14 m)

more_onward : (x : Found) (a : Answer) → goes_on_after x a ≡ true → a ≡ More
more_onward Nothing a e = let z : ◌≡◌ {A = ℕ} 0 1 = cc in absurd (omega arith)
more_onward (Item d c v) More e = refl
more_onward (Item d c v) Complete e = let z : ◌≡◌ {A = ℕ} 0 1 = cc in absurd (omega arith)
more_onward (Item d c v) (Refusal n) e = let z : ◌≡◌ {A = ℕ} 0 1 = cc in absurd (omega arith)

-- ---- the search

-- an answer f of the search of bs, k bytes being consumed before, and what is left behind it: the whole feed and all entries
pub record Covers (whole : Fed) (all : List Entry) (k : ℕ) (bs : List ℕ) (f : Reached) : Type 0 where
  pub least : k ≤ f.consumed
  pub most : f.consumed ≤ k + length bs
  pub some : onward f ≡ true → k < f.consumed
  pub goes_on : f.answer ≡ More → On f.reader
  pub feeds : whole ≡ cond (onward f) (eat (state_of f.reader) f.consumed (drop (f.consumed - k) bs)) (fed_by f)
  pub entries : all ≡ noted f.found ++ cond (onward f) (entries_in (state_of f.reader) (drop (f.consumed - k) bs)) []

-- the feed and the entries of bs from s
abbrev pub Tells : State → ℕ → List ℕ → Reached → Type 0
Tells s k bs f = Covers (eat s k bs) (entries_in s bs) k bs f

module _ (k b : ℕ) (bs : List ℕ) (s₁ : State) (keeps : Kept s₁) where
  -- by the answer behind the byte and what it shows
  one_tells : (a : Answer) (x : Found) → status s₁ ≡ a → (a ≡ More → Tells s₁ (k + 1) bs (seek s₁ (k + 1) bs))
      → Covers (after a s₁ (k + 1) (eat s₁ (k + 1) bs)) (showing a x (entries_in s₁ bs)) k (b ∷ bs) (met a x s₁ (k + 1) (seek s₁ (k + 1) bs))
  one_tells More Nothing e rest =
      let t = rest refl in
      let f = seek s₁ (k + 1) bs in
      let q : f.consumed - k ≡ suc (f.consumed - (k + 1)) = omega (arith, t.least) in
      record {
        least = omega (arith, t.least);
        most = omega (arith, t.most);
        some = λ h. omega (arith, t.some h);
        goes_on = t.goes_on;
        feeds = t.feeds ∙ ap (λ (j : ℕ). cond (onward f) (eat (state_of f.reader) f.consumed (drop j (b ∷ bs))) (fed_by f)) (sym q);
        entries = t.entries ∙ ap (λ (j : ℕ). noted f.found ++ cond (onward f) (entries_in (state_of f.reader) (drop j (b ∷ bs))) []) (sym q);
      }
  one_tells More (Item d c v) e rest =
      let q : k + 1 - k ≡ 1 = omega arith in
      record {
        least = omega arith;
        most = omega arith;
        some = λ h. omega arith;
        goes_on = λ h. kept_on s₁ keeps e;
        feeds = rw (q, keeps.state_is);
        entries = rw (q, keeps.state_is);
      }
  one_tells Complete Nothing e rest =
      record { least = omega arith; most = omega arith; some = λ h. omega arith; goes_on = λ h. absurd (complete_ends h); feeds = refl; entries = refl }
  one_tells Complete (Item d c v) e rest =
      record { least = omega arith; most = omega arith; some = λ h. omega arith; goes_on = λ h. absurd (complete_ends h); feeds = refl; entries = refl }
  one_tells (Refusal n) x e rest =
      record { least = omega arith; most = omega arith; some = λ h. omega arith; goes_on = λ h. absurd (refusal_ends n h); feeds = refl; entries = refl }

-- what a search from a live state tells, in the form that a caller's loop needs
pub seek_tells : (bs : List ℕ) (s : State) (k : ℕ) → AtMost 0xFF bs → Live s → status s ≡ More → Tells s k bs (seek s k bs)
unfolding seek eat entries_in
seek_tells [] s k bytes live more =
    record {
      least = omega arith;
      most = omega arith;
      some = λ h. let z : ◌≡◌ {A = ℕ} 0 1 = cc in absurd (omega arith);
      goes_on = λ h. live_on s live more;
      feeds = refl;
      entries = refl;
    }
seek_tells (b ∷ bs) s k bytes live more =
    let keeps = kept _ _ _ _ (step s b) (step_right s b live (more_left s live more) bytes.0).out in
    one_tells k b bs (step s b) keeps (status (step s b)) (shown s b) refl
    (λ e. seek_tells bs (step s b) (k + 1) bytes.1 (step_live s b live more bytes.0 e) e)

-- ---- one call

-- of a reader that goes on
pub next_tells : (r : Reader) (bs : List ℕ) → On r → AtMost 0xFF bs → Tells (state_of r) 0 bs (next_of r bs)
unfolding next_of
next_tells r bs o bytes = rw (o.allowed, o.more) (seek_tells bs (state_of r) 0 bytes (held r o).live o.more)

from_reader : (r : Reader) (k : ℕ) (bs : List ℕ) → On r → eat (state_of r) k bs ≡ more_consumed k (fed_of r bs)
from_reader r k bs o =
    let e : k ≡ k + 0 = omega arith in
    ap (λ (x : ℕ). eat (state_of r) x bs) e ∙ eat_shift bs (state_of r) k 0 ∙ ap (more_consumed k) (sym (eaten r bs o))

tells_again : (whole : Fed) (all : List Entry) (bs : List ℕ) (f : Reached) → Covers whole all 0 bs f → whole ≡ fed_again f bs
tells_again whole all bs f t = t.feeds ∙ go (onward f) refl
  where
    go : (b : Bool) → onward f ≡ b
        → cond b (eat (state_of f.reader) f.consumed (drop (f.consumed - 0) bs)) (fed_by f)
        ≡ cond b (more_consumed f.consumed (fed_of f.reader (drop f.consumed bs))) (fed_by f)
    go true e =
        let z : f.consumed - 0 ≡ f.consumed = omega arith in
        rw z (from_reader f.reader f.consumed (drop f.consumed bs) (t.goes_on (more_onward f.found f.answer e)))
    go false e = refl

-- THE FEED of any piece from any reader is one answer of the next item and, where an item was met and the answer is more, the feed of what is left
pub next_feeds : (r : Reader) (bs : List ℕ) → length r.awaited ≡ 16 → AtMost 0xFF bs → fed_of r bs ≡ fed_again (next_of r bs) bs
unfolding fed_of next_of
next_feeds r bs full bytes = go (allows r) refl (status (state_of r)) refl bs bytes
  where
    go : (b : Bool) → allows r ≡ b → (a : Answer) → status (state_of r) ≡ a → (p : List ℕ) → AtMost 0xFF p
        → cond b (start a r p) (fed (Refusal 14) 0 r) ≡ fed_again (cond b (begin a r p) (reached Nothing (Refusal 14) 0 r)) p
    go false e a q p y = refl
    go true e Complete q [] y = refl
    go true e Complete q (x ∷ p) y = refl
    go true e (Refusal n) q p y = refl
    go true e More q p y =
        let o : On r = record { full = full; allowed = e; more = q } in
        tells_again (eat (state_of r) 0 p) (entries_in (state_of r) p) p (seek (state_of r) 0 p) (seek_tells p (state_of r) 0 y (held r o).live q)

-- ---- again and again

-- only a reader that goes on meets an item and answers more
onward_on : (r : Reader) (bs : List ℕ) → length r.awaited ≡ 16 → onward (next_of r bs) ≡ true → On r
unfolding next_of
onward_on r bs full h = go (allows r) refl (status (state_of r)) refl bs h
  where
    go : (b : Bool) → allows r ≡ b → (a : Answer) → status (state_of r) ≡ a → (p : List ℕ)
        → onward (cond b (begin a r p) (reached Nothing (Refusal 14) 0 r)) ≡ true → On r
    go true e More q p h = record { full = full; allowed = e; more = q }
    go true e Complete q [] h = let z : ◌≡◌ {A = ℕ} 0 1 = cc in absurd (omega arith)
    go true e Complete q (x ∷ p) h = let z : ◌≡◌ {A = ℕ} 0 1 = cc in absurd (omega arith)
    go true e (Refusal n) q p h = let z : ◌≡◌ {A = ℕ} 0 1 = cc in absurd (omega arith)
    go false e a q p h = let z : ◌≡◌ {A = ℕ} 0 1 = cc in absurd (omega arith)

-- THE NEXT ITEM AGAIN AND AGAIN, on what is left while an item is met and the answer is more, is the feed: one call more than the piece has bytes is
-- enough, the last answer, the bytes consumed in all and the last reader are the feed's, and the items told are those that the bytes show
pub again : (m : ℕ) (r : Reader) (bs : List ℕ) → length r.awaited ≡ 16 → AtMost 0xFF bs → length bs < m → Agrees r bs (calls m r bs)
unfolding calls
again zero r bs full bytes few = absurd (omega arith)
again (suc m) r bs full bytes few = go (onward f) refl (again m f.reader (drop f.consumed bs))
  where
    f : Reached
    f = next_of r bs

    Rec : Type 0
    Rec = length f.reader.awaited ≡ 16 → AtMost 0xFF (drop f.consumed bs) → length (drop f.consumed bs) < m
        → Agrees f.reader (drop f.consumed bs) (calls m f.reader (drop f.consumed bs))

    go : (b : Bool) → onward f ≡ b → Rec → Agrees r bs (behind f (calls m f.reader (drop f.consumed bs)))
    go true e rec =
        let o = onward_on r bs full e in
        let t = next_tells r bs o bytes in
        let o' = t.goes_on (more_onward f.found f.answer e) in
        let n = length-drop f.consumed bs in
        let a = rec o'.full (at_most_drop 0xFF f.consumed bs bytes) (omega (arith, n, t.some e, t.most)) in
        let z : f.consumed - 0 ≡ f.consumed = omega arith in
        let whole = next_feeds r bs full bytes in
        let all = t.entries in
        record {
          feeds = rw e (ap (more_consumed f.consumed) a.feeds ∙ sym (rw e at whole));
          tells = λ h. rw e (ap (λ (es : List Entry). noted f.found ++ es) (a.tells (on_status f.reader o')) ∙ sym (rw (e, z) at all));
        }
    go false e rec =
        let whole = next_feeds r bs full bytes in
        record {
          feeds = rw e (sym (rw e at whole));
          tells = λ h.
              let all = (next_tells r bs (status_on r full h) bytes).entries in
              rw e (sym (append-nil (noted f.found)) ∙ sym (rw e at all));
        }

-- ---- pieces

-- from a live state
pub state_cut : (p q : List ℕ) (s : State) (k : ℕ) → AtMost 0xFF p → Live s → status s ≡ More → (eat s k p).answer ≡ More
    → entries_in s (p ++ q) ≡ entries_in s p ++ entries_in (state_of (eat s k p).reader) q
unfolding entries_in eat
state_cut [] q s k bytes live more e = ap (λ (x : State). entries_in x q) (sym (state_reader s live.shallow))
state_cut (b ∷ p) q s k bytes live more e =
    go (status (step s b)) refl e (λ m f. state_cut p q (step s b) (k + 1) bytes.1 (step_live s b live more bytes.0 m) m f)
  where
    s₁ : State
    s₁ = step s b

    go : (a : Answer) → status s₁ ≡ a → (after a s₁ (k + 1) (eat s₁ (k + 1) p)).answer ≡ More
        → (status s₁ ≡ More → (eat s₁ (k + 1) p).answer ≡ More → entries_in s₁ (p ++ q) ≡ entries_in s₁ p ++ entries_in (state_of (eat s₁ (k + 1) p).reader) q)
        → showing a (shown s b) (entries_in s₁ (p ++ q))
        ≡ showing a (shown s b) (entries_in s₁ p) ++ entries_in (state_of (after a s₁ (k + 1) (eat s₁ (k + 1) p)).reader) q
    go More m f rec =
        ap (λ (es : List Entry). noted (shown s b) ++ es) (rec m f)
        ∙ sym (append_assoc (noted (shown s b)) (entries_in s₁ p) (entries_in (state_of (eat s₁ (k + 1) p).reader) q))
    go Complete m f rec = absurd (complete_ends f)
    go (Refusal n) m f rec = absurd (refusal_ends n f)

-- HOWEVER A TEXT IS CUT: behind a piece that did not end the reader the items are those of the piece and then, from there, those of what follows
pub entries_cut : (r : Reader) (p q : List ℕ) → length r.awaited ≡ 16 → AtMost 0xFF p → (fed_of r p).answer ≡ More
    → entries_in (state_of r) (p ++ q) ≡ entries_in (state_of r) p ++ entries_in (state_of (fed_of r p).reader) q
entries_cut r p q full bytes m =
    let o = fed_on r p full m in
    let e = eaten r p o in
    rw e (state_cut p q (state_of r) 0 bytes (held r o).live o.more (ap (λ (f : Fed). f.answer) (sym e) ∙ m))
