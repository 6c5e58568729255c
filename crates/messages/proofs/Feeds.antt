-- A feed of a piece, and the feeds of what it leaves.
use Rattle.std.proofs.Common.{◌≡◌, ◌<◌, ◌+◌, ◌-◌, ◌∙◌, ℕ, suc, min, true, false, List, ◌++◌, length, take, drop, arith}
use Rattle.std.proofs.lemmas.List.{take_rest, drop_min}
use Rattle.frames.specs.Event.{Fed}
use Rattle.frames.specs.Feed.{fed_of}
use Rattle.messages.specs.declared.Messages.{Messages}
use Rattle.messages.specs.Records.{with_reader, event_line, is_last, feeds_done}

pub no_feeds : (k : ℕ) (x : Messages × List ℕ) (s : List ℕ) → k ≡ 0 → x ≡ feeds_done k x s
unfolding feeds_done
no_feeds k x s e = rw e

-- the feed behind i of n, from these kept and of what is left of the piece
module _
    (n i : ℕ) (x : Messages × List ℕ) (s t : List ℕ) (f : Fed) (less : i < n) (fed : f ≡ fed_of x.0.reader s)
    (told : t ≡ x.1 ++ event_line f.event f.consumed) where
  more : n - i ≡ suc (n - (i + 1))
  more = omega arith

  pub last : is_last f.event ≡ true → (with_reader f.reader x.0, t) ≡ feeds_done (n - i) x s
  unfolding feeds_done
  last h = rw (more, ← fed, h, told)

  pub turn : is_last f.event ≡ false → feeds_done (n - (i + 1)) (with_reader f.reader x.0, t) (drop f.consumed s) ≡ feeds_done (n - i) x s
  unfolding feeds_done
  turn h = rw (more, ← fed, h, told)

-- what a feed leaves
pub left : (k m : ℕ) (s : List ℕ) → m ≡ min k (length s) → take (length s - m) (drop m s) ≡ drop k s
left k m s e = take_rest s m ∙ rw e (drop_min k s)
