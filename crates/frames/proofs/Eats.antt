-- How a piece is eaten while a head goes on: a byte that does not end it leaves a reader that holds the bytes,
-- and a turn of the loop is a step of the definition.
use Prim.Native.Nat.{ℕ, ◌+◌, ◌≤◌, ◌<◌}
use mathlib.Core.Path.{◌≡◌, refl, sym, ap, ◌∙◌}
use mathlib.Core.List.{List, [], ◌∷◌, ◌++◌}
use native.Mathlib.Numerals.{add-one}
use lib.ListN.{length, drop, get_or, drop_of_length-le}
use lib.Seq.{drop-cons}
use Rattle.frames.specs.State.{State, head, text, refused, reader_of}
use Rattle.frames.specs.Feed.{after, event_at, fed, pushed, reached, eat}
use Rattle.frames.specs.Asked.{Held}
use Rattle.frames.specs.Event.{Fed, More}
use Rattle.frames.specs.declared.FrameReader.{FrameReader}
use Rattle.frames.proofs.Heads.{after_more}
use Rattle.frames.proofs.Held.{bytes_in, bytes_held, Goes, goes, begun_next, head_held}

eat_step : (bs : List ℕ) (k i : ℕ) (p : List ℕ) → i < length p
    → eat bs k (drop i p)
    ≡ reached (after (bs ++ (get_or p i 0 ∷ []))) (bs ++ (get_or p i 0 ∷ [])) (k + 1) (eat (bs ++ (get_or p i 0 ∷ [])) (k + 1) (drop (i + 1) p))
unfolding eat
eat_step bs k i p h = rw (add-one i, drop-cons p i 0 h)

pub eat_end : (bs : List ℕ) (k i : ℕ) (p : List ℕ) → length p ≤ i → eat bs k (drop i p) ≡ fed More k (head bs)
unfolding eat
eat_end bs k i p h = rw (drop_of_length-le p h)

reached_over : (s : State) (t : List ℕ) (k : ℕ) (more : Fed) → (event_at s t ≡ More → ⊥) → reached s t k more ≡ fed (event_at s t) k s
reached_over (head bs) t k more o = absurd (o refl)
reached_over (text n) t k more o = refl
reached_over (refused e) t k more o = refl

-- a turn of the loop: what the byte at i reached is f
pub record Turned (p bs₀ : List ℕ) (i : ℕ) (f : Fed) : Type 0 where
  pub held : f.event ≡ More → Held f.reader
  pub again : f.event ≡ More → eat bs₀ 0 p ≡ eat (bytes_in f.reader) (i + 1) (drop (i + 1) p)
  pub over : (f.event ≡ More → ⊥) → eat bs₀ 0 p ≡ record { event = f.event; consumed = i + 1; reader = f.reader }

pub turned : (p bs₀ : List ℕ) (r : FrameReader) (i : ℕ) (f : Fed) → i < length p → Held r
    → eat bs₀ 0 p ≡ eat (bytes_in r) i (drop i p) → f ≡ pushed (bytes_in r ++ (get_or p i 0 ∷ [])) → Turned p bs₀ i f
turned p bs₀ r i f h held e is =
    let t = bytes_in r ++ (get_or p i 0 ∷ []) in
    let s = e ∙ eat_step (bytes_in r) i i p h in
    let told : f.event ≡ event_at (after t) t = ap (λ (x : Fed). x.event) is in
    let at : f.reader ≡ reader_of (after t) = ap (λ (x : Fed). x.reader) is in
    let g : f.event ≡ More → Goes t = λ q. goes t (sym told ∙ q) in
    let on : f.event ≡ More → f.reader ≡ reader_of (head t) = λ q. at ∙ ap reader_of (after_more t (g q).number (g q).unfinished) in
    record {
      held = λ q. rw (on q) (head_held t (begun_next r (get_or p i 0) held (g q)));
      again = λ q. s ∙ rw (on q, bytes_held t, after_more t (g q).number (g q).unfinished);
      over = λ o. s ∙ reached_over (after t) t (i + 1) _ (λ q. o (told ∙ q)) ∙ rw is;
    }
