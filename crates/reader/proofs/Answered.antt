-- What a reader answers and what a byte shows, by the phase, and what stands before a piece.
use Prim.Native.Nat.{ℕ, zero, suc, ◌+◌, ◌*◌, ◌-◌, ◌≤◌, ◌<◌}
use mathlib.Core.Path.{◌≡◌, refl, sym, ap, subst, ◌∙◌}
use mathlib.Core.Bool.{Bool, true, false, cond}
use mathlib.Core.List.{List, [], ◌∷◌}
use native.Mathlib.Omega.{arith}
use Rattle.std.specs.Prelude.{Result, Ok, Err}
use borrow.Author.Tests.{lt-ltb, le-ltb, leb-true}
use lib.Dec.{leb, ltb}
use lib.ListN.{length}
use Rattle.levels.specs.Levels.{stack_of}
use Rattle.levels.proofs.Laws.{stack_length}
use Rattle.wire.proofs.Choice.{both}
use Rattle.reader.specs.Answer.{Answer, More, Complete, Refusal, Nothing, Item, answer_in}
use Rattle.reader.specs.declared.Progress.{Progress}
use Rattle.reader.specs.declared.Progress.TheVariants as P
use Rattle.refusal.specs.Number.{number_of}
use Rattle.refusal.specs.declared.Refusal.{Refusal as Cause}
use Rattle.refusal.specs.declared.Refusal.TheVariants.{UnknownCode, NoLengthBytes, WrongLength, TooDeep, NoSuchText, WrongByte}
use Rattle.reader.specs.State.{State, state_of}
use Rattle.reader.specs.Feed.{refusal_number, allows_phase, allows_at, allows, status_at, status, status_of, eat, fed, start, fed_of}
use Rattle.reader.specs.Items.{shown_at, shown, seek, reached, begin, next_of}
use Rattle.reader.specs.Asked.{On, opening_at}
use Rattle.reader.specs.declared.Phase.{Phase}
use Rattle.reader.specs.declared.Phase.TheVariants.{Format, Length, Content, Refused}
use Rattle.reader.specs.declared.Reader.{Reader}
use Rattle.reader.proofs.Tests.{stack_none, stack_some}

at_phase : (s : State) (p : Phase) → s.phase ≡ p → status s ≡ status_at p s.stack
unfolding status
at_phase s p e = ap (λ (q : Phase). status_at q s.stack) e

-- whether a level is open decides where a format byte is next
pub status_complete : (r : Reader) → r.phase ≡ Format → r.level ≡ 0 → status (state_of r) ≡ Complete
status_complete r e z = at_phase (state_of r) Format e ∙ rw (stack_none _ _ z)

pub status_open : (r : Reader) → r.phase ≡ Format → (r.level ≡ 0 → ⊥) → status (state_of r) ≡ More
status_open r e z = at_phase (state_of r) Format e ∙ rw (stack_some _ _ z)

pub status_length : (r : Reader) {c j v : ℕ} → r.phase ≡ Length c j v → status (state_of r) ≡ More
status_length r e = at_phase (state_of r) _ e

pub status_content : (r : Reader) {c k : ℕ} → r.phase ≡ Content c k → status (state_of r) ≡ More
status_content r e = at_phase (state_of r) _ e

pub status_refused : (r : Reader) {x : ℕ} → r.phase ≡ Refused x → status (state_of r) ≡ Refusal x
status_refused r e = at_phase (state_of r) _ e

-- a refused reader that the list allows keeps a refusal's number
pub number_kept : (r : Reader) {x : ℕ} → r.phase ≡ Refused x → allows r ≡ true → refusal_number x ≡ true
unfolding allows allows_phase
number_kept r e a =
    let b = both (allows_at r.phase r) (allows_phase r.form r.phase (r.size - r.read) (stack_of r.awaited r.level)) a in
    subst (λ (p : Phase). allows_phase r.form p (r.size - r.read) (stack_of r.awaited r.level) ≡ true) e b.1

pub ruleset by_phase = (status_complete, status_open, status_length, status_content, status_refused, number_kept)

-- and each of these numbers is a refusal's
pub no_number : (n : ℕ) → refusal_number n ≡ true → ((r : Cause) → number_of r ≡ n → ⊥) → ⊥
no_number zero e h = cc
no_number (suc zero) e h = h UnknownCode refl
no_number (suc (suc zero)) e h = h NoLengthBytes refl
no_number (suc (suc (suc zero))) e h = h WrongLength refl
no_number (suc (suc (suc (suc zero)))) e h = h TooDeep refl
no_number (suc (suc (suc (suc (suc zero))))) e h = h NoSuchText refl
no_number (suc (suc (suc (suc (suc (suc zero)))))) e h = h WrongByte refl
no_number (suc (suc (suc (suc (suc (suc (suc n))))))) e h =
    let m = suc (suc (suc (suc (suc (suc (suc n)))))) in
    absurd (omega (arith, leb-true m 6 (both (ltb 0 m) (leb m 6) e).1))

shown_phase : (r : Reader) (p : Phase) (b : ℕ) → r.phase ≡ p → shown (state_of r) b ≡ shown_at p r.level b
unfolding shown
shown_phase r p b e =
    ap (λ (q : Phase). shown_at q (length (stack_of r.awaited r.level)) b) e
    ∙ ap (λ (d : ℕ). shown_at p d b) (stack_length r.awaited r.level)

pub shown_early : (r : Reader) {c j v : ℕ} (b : ℕ) → r.phase ≡ Length c j v → 1 < j → shown (state_of r) b ≡ Nothing
shown_early r {j} b e h = shown_phase r _ b e ∙ rw (lt-ltb 0 (j - 1) (omega arith))

pub shown_last : (r : Reader) {c j v : ℕ} (b : ℕ) → r.phase ≡ Length c j v → j ≤ 1 → shown (state_of r) b ≡ Item r.level c (v * 256 + b)
shown_last r {j} b e h = shown_phase r _ b e ∙ rw (le-ltb 0 (j - 1) (omega arith))

other_phase : (p : Phase) (d b : ℕ) → ((c j v : ℕ) → p ≡ Length c j v → ⊥) → shown_at p d b ≡ Nothing
other_phase Format d b h = refl
other_phase (Length c j v) d b h = absurd (h c j v refl)
other_phase (Content c k) d b h = refl
other_phase (Refused x) d b h = refl

pub shown_none : (r : Reader) (b : ℕ) → ((c j v : ℕ) → r.phase ≡ Length c j v → ⊥) → shown (state_of r) b ≡ Nothing
shown_none r b h = shown_phase r r.phase b refl ∙ other_phase r.phase r.level b h

-- ---- what a reader answers before it reads a piece

more_of : (a : Answer) (p : List ℕ) → opening_at a p ≡ More → a ≡ More
more_of More p e = refl
more_of Complete [] e = cc
more_of Complete (b ∷ p) e = cc
more_of (Refusal x) p e = cc

-- a reader that answers more goes on
pub opening_on : (r : Reader) (p : List ℕ) → length r.awaited ≡ 16 → opening_at (status_of r) p ≡ More → On r
unfolding status_of
opening_on r p full e = go (allows r) refl e
  where
    go : (b : Bool) → allows r ≡ b → opening_at (cond b (status (state_of r)) (Refusal 14)) p ≡ More → On r
    go true a o = record { full = full; allowed = a; more = more_of (status (state_of r)) p o }
    go false a o = cc

-- a feed goes on where that answer is more, and else repeats it
start_on : (r : Reader) (p : List ℕ) (a : Answer) → opening_at a p ≡ More → start a r p ≡ eat (state_of r) 0 p
start_on r p More e = refl
start_on r [] Complete e = cc
start_on r (b ∷ p) Complete e = cc
start_on r p (Refusal x) e = cc

start_not : (r : Reader) (p : List ℕ) (a x : Answer) → opening_at a p ≡ x → (x ≡ More → ⊥) → start a r p ≡ fed x 0 r
start_not r p More x e h = absurd (h (sym e))
start_not r [] Complete x e h = ap (λ (y : Answer). fed y 0 r) e
start_not r (b ∷ p) Complete x e h = ap (λ (y : Answer). fed y 0 r) e
start_not r p (Refusal n) x e h = ap (λ (y : Answer). fed y 0 r) e

pub fed_on : (r : Reader) (p : List ℕ) → opening_at (status_of r) p ≡ More → fed_of r p ≡ eat (state_of r) 0 p
unfolding fed_of status_of
fed_on r p e = go (allows r) e
  where
    go : (b : Bool) → opening_at (cond b (status (state_of r)) (Refusal 14)) p ≡ More
        → cond b (start (status (state_of r)) r p) (fed (Refusal 14) 0 r) ≡ eat (state_of r) 0 p
    go true o = start_on r p (status (state_of r)) o
    go false o = cc

pub fed_not : (r : Reader) (p : List ℕ) (x : Answer) → opening_at (status_of r) p ≡ x → (x ≡ More → ⊥) → fed_of r p ≡ fed x 0 r
unfolding fed_of status_of
fed_not r p x e h = go (allows r) e
  where
    go : (b : Bool) → opening_at (cond b (status (state_of r)) (Refusal 14)) p ≡ x → cond b (start (status (state_of r)) r p) (fed (Refusal 14) 0 r) ≡ fed x 0 r
    go true o = start_not r p (status (state_of r)) x o h
    go false o = ap (λ (y : Answer). fed y 0 r) o

-- and so does the search of an item
begin_on : (r : Reader) (p : List ℕ) (a : Answer) → opening_at a p ≡ More → begin a r p ≡ seek (state_of r) 0 p
begin_on r p More e = refl
begin_on r [] Complete e = cc
begin_on r (b ∷ p) Complete e = cc
begin_on r p (Refusal x) e = cc

begin_not : (r : Reader) (p : List ℕ) (a x : Answer) → opening_at a p ≡ x → (x ≡ More → ⊥) → begin a r p ≡ reached Nothing x 0 r
begin_not r p More x e h = absurd (h (sym e))
begin_not r [] Complete x e h = ap (λ (y : Answer). reached Nothing y 0 r) e
begin_not r (b ∷ p) Complete x e h = ap (λ (y : Answer). reached Nothing y 0 r) e
begin_not r p (Refusal n) x e h = ap (λ (y : Answer). reached Nothing y 0 r) e

pub next_on : (r : Reader) (p : List ℕ) → opening_at (status_of r) p ≡ More → next_of r p ≡ seek (state_of r) 0 p
unfolding next_of status_of
next_on r p e = go (allows r) e
  where
    go : (b : Bool) → opening_at (cond b (status (state_of r)) (Refusal 14)) p ≡ More
        → cond b (begin (status (state_of r)) r p) (reached Nothing (Refusal 14) 0 r) ≡ seek (state_of r) 0 p
    go true o = begin_on r p (status (state_of r)) o
    go false o = cc

pub next_not : (r : Reader) (p : List ℕ) (x : Answer) → opening_at (status_of r) p ≡ x → (x ≡ More → ⊥) → next_of r p ≡ reached Nothing x 0 r
unfolding next_of status_of
next_not r p x e h = go (allows r) e
  where
    go : (b : Bool) → opening_at (cond b (status (state_of r)) (Refusal 14)) p ≡ x
        → cond b (begin (status (state_of r)) r p) (reached Nothing (Refusal 14) 0 r) ≡ reached Nothing x 0 r
    go true o = begin_not r p (status (state_of r)) x o h
    go false o = ap (λ (y : Answer). reached Nothing y 0 r) o

-- ---- an answer of a call that is more

pub says_more : (a : Result Progress Cause) → a ≡ Ok P.More → answer_in a ≡ More
says_more a e = ap answer_in e

pub says_other : (a : Result Progress Cause) → (a ≡ Ok P.More → ⊥) → answer_in a ≡ More → ⊥
says_other (Ok P.More) h e = h refl
says_other (Ok P.Complete) h e = cc
says_other (Err x) h e = cc
