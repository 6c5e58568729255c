-- The next item: a piece is fed through the first byte that is an item's last length byte and is not refused.
use Rattle.std.specs.Prelude.{ℕ, ◌+◌, ◌*◌, ◌-◌, Bool, true, false, cond, List, [], ◌∷◌, ltb, length}
use Rattle.reader.specs.State.{State, state_of, reader_of}
use Rattle.reader.specs.Step.{step}
use Rattle.reader.specs.Feed.{allows, status}
use Rattle.reader.specs.declared.Phase.{Phase}
use Rattle.reader.specs.declared.Phase.TheVariants.{Format, Length, Content, Refused}
use Rattle.reader.specs.declared.Reader.{Reader}
use Rattle.reader.specs.Answer.{Answer, More, Complete, Refusal, Found, Nothing, Item, Reached}

abbrev pub is_item : Found → Bool
is_item Nothing = false
is_item (Item d c v) = true

-- the item that a byte shows at a depth: as the last of the length bytes it says the length
abbrev pub shown_at : Phase → ℕ → ℕ → Found
shown_at Format d b = Nothing
shown_at (Length c j v) d b = cond (ltb 0 (j - 1)) Nothing (Item d c (v * 256 + b))
shown_at (Content c l) d b = Nothing
shown_at (Refused e) d b = Nothing

unfoldable pub shown : State → ℕ → Found
shown s b = shown_at s.phase (length s.stack) b

abbrev pub reached : Found → Answer → ℕ → Reader → Reached
reached x a k r = record { found = x; answer = a; consumed = k; reader = r }

-- the search goes on while the answer is more and the byte shows no item; a byte that is refused shows none
abbrev pub met_more : Found → State → ℕ → Reached → Reached
met_more Nothing s k next = next
met_more (Item d c v) s k next = reached (Item d c v) More k (reader_of s)

abbrev pub met : Answer → Found → State → ℕ → Reached → Reached
met More x s k next = met_more x s k next
met Complete x s k next = reached x Complete k (reader_of s)
met (Refusal e) x s k next = reached Nothing (Refusal e) k (reader_of s)

unfoldable pub seek : State → ℕ → List ℕ → Reached
seek s k [] = reached Nothing More k (reader_of s)
seek s k (b ∷ bs) = met (status (step s b)) (shown s b) (step s b) (k + 1) (seek (step s b) (k + 1) bs)

-- as a feed: once complete, a non-empty piece is 7, an empty one complete; a refused reader repeats its number; none is consumed
abbrev pub begin : Answer → Reader → List ℕ → Reached
begin More r bs = seek (state_of r) 0 bs
begin Complete r [] = reached Nothing Complete 0 r
begin Complete r (b ∷ bs) = reached Nothing (Refusal 7) 0 r
begin (Refusal e) r bs = reached Nothing (Refusal e) 0 r

-- 14 first
unfoldable pub next_of : Reader → List ℕ → Reached
next_of r bs = cond (allows r) (begin (status (state_of r)) r bs) (reached Nothing (Refusal 14) 0 r)
