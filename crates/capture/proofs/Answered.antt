-- What a byte gives, where it is known what the readers answered: each is its definition with that answer put in.
use Rattle.std.proofs.Common.{◌≡◌, ℕ, Bool, true, false, not, cond, [], ◌∷◌, Option, Some, None, refl, sym, ap, ◌∙◌, arith, ne_eqb}
use Rattle.frame.specs.declared.Header.{Header}
use Rattle.frames.specs.Feed.{end_of, fed_of as frame_fed}
use Rattle.frames.specs.Event.{Event, event_of}
use Rattle.frames.specs.declared.Event.{Event as Reached}
use Rattle.frames.specs.declared.Event.TheVariants as N
use Rattle.frames.specs.declared.FrameReader.{FrameReader}
use Rattle.frames.specs.Event.{Fed as FrameFed}
use Rattle.item.specs.declared.Form.TheVariants.{Good as good}
use Rattle.reader.specs.State.{fresh, reader_of}
use Rattle.reader.proofs.Fresh.{fresh_status}
use Rattle.reader.specs.Feed.{status, status_of, fed_of}
use Rattle.reader.specs.Answer.{Answer, Fed, progress_in}
use Rattle.reader.specs.declared.Progress.{Progress}
use Rattle.reader.specs.declared.Progress.TheVariants as R
use Rattle.refusal.specs.Number.{number_of}
use Rattle.refusal.specs.declared.Refusal.{Refusal as Cause}
use Rattle.refusal.proofs.Once.{some_number}
use Rattle.lines.specs.declared.Line.{Line}
use Rattle.reader.specs.declared.Reader.{Reader}
use Rattle.lines.specs.declared.Line.TheVariants.{Message, Refusal, End}
use Rattle.capture.specs.Capture.{told, behind, one_more, with_frames, with_text, by_answer, by_event, settled_by}
use Rattle.capture.specs.Capture.{item_at, is_data, text_byte, header_came, settled, fed_byte, ended_by, last_line}
use Rattle.capture.specs.declared.Lister.{Lister}

-- what a test with ! says
pub not_true : (b : Bool) → not b ≡ true → b ≡ false
not_true true e = cc
not_true false e = refl

pub not_false : (b : Bool) → not b ≡ false → b ≡ true
not_false true e = refl
not_false false e = cc

-- ---- the frame reader's answer

-- only a frame's end settles
pub unsettled : (e : Reached) (l : Lister) (r : FrameReader) → (e ≡ N.End → ⊥) → settled_by (event_of e) l r ≡ l
unsettled N.More l r h = refl
unsettled (N.Header x n) l r h = refl
unsettled (N.Text n) l r h = refl
unsettled N.End l r h = absurd (h refl)

module _ (l : Lister) (b : ℕ) (f : FrameFed) (e : Event) where
  pub settled_as : f ≡ frame_fed l.frames [] → f.event ≡ e → settled l ≡ settled_by e l f.reader
  unfolding settled
  settled_as p q = rw (← p, q)

  pub fed_as : (n : ℕ) (t : Lister) → f ≡ frame_fed l.frames (b ∷ []) → n ≡ one_more l.bytes → t ≡ with_frames l f.reader l.count n → f.event ≡ e
      → fed_byte l b ≡ by_event e b t
  unfolding fed_byte
  fed_as n t p m q r = rw (← p, r, q, m)

-- ---- the text reader's answer

module _ (l : Lister) (b : ℕ) where
  pub listed_as : (f : Fed) (t : Lister) (a : Answer) → l.listed ≡ true → f ≡ fed_of l.text (b ∷ []) → t ≡ with_text l f.reader true → f.answer ≡ a
      → text_byte l b ≡ by_answer a (item_at l.text.phase l.text.level b) t
  unfolding text_byte
  listed_as f t a h p q r = rw (h, ← p, r, q)

  pub unlisted_as : l.listed ≡ false → text_byte l b ≡ told l None None
  unfolding text_byte
  unlisted_as h = rw h

module _ (l : Lister) (h : Header) (n : ℕ) (t : Lister) where
  pub data_as : (r : Reader) (s a : Answer) → is_data h ≡ true → r ≡ reader_of (fresh good n) → t ≡ with_text l r true → s ≡ status (fresh good n) → s ≡ a
      → header_came l h n ≡ behind (Some (Message h n)) (by_answer a None t)
  unfolding header_came
  data_as r s a d p q m k = rw (d, ← m, k, q, p)

  pub other_as : is_data h ≡ false → t ≡ with_text l l.text false → header_came l h n ≡ behind (Some (Message h n)) (told t None None)
  unfolding header_came
  other_as d q = rw (d, q)

-- a fresh reader answers the fresh state's status
pub fresh_answer : (n : ℕ) (r : Reader) (a : Answer) → r ≡ reader_of (fresh good n) → a ≡ status_of r → a ≡ status (fresh good n)
fresh_answer n r a e q = q ∙ ap status_of e ∙ fresh_status good n

-- where it is not refused
pub taken_as : (p : Progress) (x : Option Line) (l : Lister) → by_answer (progress_in p) x l ≡ told l x None
taken_as R.More x l = refl
taken_as R.Complete x l = refl

-- ---- the end of the stream

pub last_none : (l : Lister) → l.stopped ≡ true → last_line l ≡ None
unfolding last_line
last_none l h = ap (λ (x : Bool). cond x None (Some (ended_by (end_of (settled l).frames) (settled l)))) h

pub last_as : (l s : Lister) (n : ℕ) → l.stopped ≡ false → s ≡ settled l → n ≡ end_of s.frames → last_line l ≡ Some (ended_by n s)
unfolding last_line
last_as l s n h e m =
    ap (λ (x : Bool). cond x None (Some (ended_by (end_of (settled l).frames) (settled l)))) h
    ∙ ap (λ (x : Lister). Some (ended_by (end_of x.frames) x)) (sym e)
    ∙ ap (λ (k : ℕ). Some (ended_by k s)) (sym m)

pub ended_clean : (s : Lister) → ended_by 0 s ≡ End s.count s.bytes
unfolding ended_by
ended_clean s = refl

pub ended_broken : (e : Cause) (s : Lister) → ended_by (number_of e) s ≡ Refusal (number_of e) s.bytes
unfolding ended_by
ended_broken e s = rw (ne_eqb (number_of e) 0 (λ z. omega (arith, z, some_number e)))
