-- What the gates let through, and with which numbers they refuse.
use Prim.Native.Nat.{ℕ, ◌≤◌}
use mathlib.Core.Bool.{Bool, true, false}
use mathlib.Core.List.{List}
use mathlib.Core.Path.{◌≡◌, refl, ◌∙◌}
use native.Mathlib.Omega.{arith}
use borrow.Author.Tests.{eq-eqb, eqb-true, eqb-false, le-leb, leb-true}
use lib.Dec.{eqb, leb}
use Rattle.wire.specs.Pick.{pick}
use Rattle.wire.proofs.Pick.{pick_true, by_pick}
use Rattle.slots.specs.Slots.{is_primary}
use Rattle.text.specs.Text.{judged_of}
use Rattle.state.specs.State.{fresh, connected, selected}
use Rattle.state.specs.declared.Link.{Link}
use Rattle.state.specs.declared.Session.{Session}
use Rattle.state.proofs.Phases.{selected_connected}
use Rattle.allowed.specs.States.{allows}
use Rattle.session.specs.Gates.{and_then, when_connected, when_selected, when_good, when_stream, when_primary, wish_gate, event_gate, gate_of}
use Rattle.session.specs.Table.{told, event_of, step_of}
use Rattle.session.specs.Stepped.{Stepped}
use Rattle.session.specs.declared.Wish.{Wish}
use Rattle.session.specs.declared.Wish.TheVariants.{Connect, Disconnect, Flag, Primary, Reply, Abort, Linktest, Separate}
use Rattle.session.specs.declared.Event.{Event}
use Rattle.session.specs.declared.Event.TheVariants.{Timer as on_timer, Wish as on_wish, Received as on_received}

-- ---- a gate that lets through

-- a choice between two numbers that is 0
chosen : (b : Bool) (x y : ℕ) → pick b x y ≡ 0 → (y ≡ 0 → ⊥) → (b ≡ true) × (x ≡ 0)
unfolding pick
chosen true x y e other = (refl, e)
chosen false x y e other = absurd (other e)

and_then_zero : (a b : ℕ) → and_then a b ≡ 0 → (a ≡ 0) × (b ≡ 0)
unfolding and_then pick
and_then_zero a b e = go (eqb a 0) refl e
  where
    go : (c : Bool) → eqb a 0 ≡ c → pick c b a ≡ 0 → (a ≡ 0) × (b ≡ 0)
    go true w e = (eqb-true a 0 w, e)
    go false w e = absurd (eqb-false a 0 w e)

is_connected : (l : Link) → when_connected l ≡ 0 → connected l ≡ true
unfolding when_connected
is_connected l e = (chosen (connected l) 0 20 e (λ z. omega arith)).0

is_selected : (l : Link) → when_selected l ≡ 0 → selected l ≡ true
unfolding when_selected
is_selected l e =
    let (c, w) = chosen (connected l) (pick (selected l) 0 22) 20 e (λ z. omega arith) in
    (chosen (selected l) 0 22 w (λ z. omega arith)).0

-- a text that is good, in selected
pub record GoodWish (l : Link) (text : List ℕ) : Type 0 where
  pub phase : selected l ≡ true
  pub good : judged_of text ≡ 0

is_good : (l : Link) (text : List ℕ) → when_good l text ≡ 0 → GoodWish l text
unfolding when_good
is_good l text e = let (p, q) = and_then_zero (when_selected l) (judged_of text) e in record { phase = is_selected l p; good = q }

is_stream : (m : ℕ) → when_stream m ≡ 0 → (1 ≤ m) × (m ≤ 127)
unfolding when_stream
is_stream m e =
    let (c, w) = chosen (leb 1 m) (pick (leb m 127) 0 23) 23 e (λ z. omega arith) in
    (leb-true 1 m c, leb-true m 127 (chosen (leb m 127) 0 23 w (λ z. omega arith)).0)

is_primary_by_gate : (m f : ℕ) → when_primary m f ≡ 0 → is_primary m f ≡ true
unfolding when_primary
is_primary_by_gate m f e = (chosen (is_primary m f) 0 23 e (λ z. omega arith)).0

-- what holds of a wish, and of an event, that is let through
abbrev pub WishPassed : Link → Wish → List ℕ → Type 0
WishPassed l Connect text = Unit {0}
WishPassed l Disconnect text = connected l ≡ true
WishPassed l (Flag m b) text = (1 ≤ m) × (m ≤ 127)
WishPassed l (Primary w m f) text = GoodWish l text × (is_primary m f ≡ true)
WishPassed l (Reply k) text = GoodWish l text
WishPassed l (Abort k) text = selected l ≡ true
WishPassed l Linktest text = connected l ≡ true
WishPassed l Separate text = selected l ≡ true

abbrev pub Passed : Link → Event → List ℕ → Type 0
Passed l (on_timer t) text = Unit {0}
Passed l (on_wish w) text = WishPassed l w text
Passed l (on_received r) text = connected l ≡ true

wish_passed : (l : Link) (w : Wish) (text : List ℕ) → wish_gate l w text ≡ 0 → WishPassed l w text
unfolding wish_gate
wish_passed l Connect text e = tt
wish_passed l Disconnect text e = is_connected l e
wish_passed l (Flag m b) text e = is_stream m e
wish_passed l (Primary w m f) text e =
    let (p, q) = and_then_zero (when_good l text) (when_primary m f) e in (is_good l text p, is_primary_by_gate m f q)
wish_passed l (Reply k) text e = is_good l text e
wish_passed l (Abort k) text e = is_selected l e
wish_passed l Linktest text e = is_connected l e
wish_passed l Separate text e = is_selected l e

event_passed : (l : Link) (e : Event) (text : List ℕ) → event_gate l e text ≡ 0 → Passed l e text
unfolding event_gate
event_passed l (on_timer t) text z = tt
event_passed l (on_wish w) text z = wish_passed l w text z
event_passed l (on_received r) text z = is_connected l z

pub passed : (s : Session) (e : Event) (text : List ℕ) → gate_of s e text ≡ 0 → (allows s ≡ true) × Passed s.link e text
unfolding gate_of
passed s e text z = let (ok, w) = chosen (allows s) (event_gate s.link e text) 14 z (λ z. omega arith) in (ok, event_passed s.link e text w)

-- ---- and all that holds lets it through

both_let : (a b : ℕ) → a ≡ 0 → b ≡ 0 → and_then a b ≡ 0
unfolding and_then
both_let a b p q = pick_true (eqb a 0) b a (eq-eqb a 0 p) ∙ q

let_connected : (l : Link) → connected l ≡ true → when_connected l ≡ 0
unfolding when_connected
let_connected l c = pick_true (connected l) 0 20 c

let_selected : (l : Link) → selected l ≡ true → when_selected l ≡ 0
unfolding when_selected
let_selected l z =
    pick_true (connected l) (pick (selected l) 0 22) 20 (selected_connected l.phase z) ∙ pick_true (selected l) 0 22 z

let_good : (l : Link) (text : List ℕ) → GoodWish l text → when_good l text ≡ 0
unfolding when_good
let_good l text g = both_let (when_selected l) _ (let_selected l g.phase) g.good

let_wish : (l : Link) (w : Wish) (text : List ℕ) → WishPassed l w text → wish_gate l w text ≡ 0
unfolding wish_gate when_stream when_primary
let_wish l Connect text p = refl
let_wish l Disconnect text p = let_connected l p
let_wish l (Flag m b) text (p, q) = pick_true (leb 1 m) (pick (leb m 127) 0 23) 23 (le-leb 1 m p) ∙ pick_true (leb m 127) 0 23 (le-leb m 127 q)
let_wish l (Primary w m f) text (g, p) = both_let (when_good l text) _ (let_good l text g) (pick_true (is_primary m f) 0 23 p)
let_wish l (Reply k) text g = let_good l text g
let_wish l (Abort k) text z = let_selected l z
let_wish l Linktest text c = let_connected l c
let_wish l Separate text z = let_selected l z

let_event : (l : Link) (e : Event) (text : List ℕ) → Passed l e text → event_gate l e text ≡ 0
unfolding event_gate
let_event l (on_timer t) text p = refl
let_event l (on_wish w) text p = let_wish l w text p
let_event l (on_received r) text p = let_connected l p

pub let_gate : (s : Session) (e : Event) (text : List ℕ) → allows s ≡ true → Passed s.link e text → gate_of s e text ≡ 0
unfolding gate_of
let_gate s e text ok p = pick_true (allows s) (event_gate s.link e text) 14 ok ∙ let_event s.link e text p

pub let_through : (s : Session) (e : Event) (text : List ℕ) → allows s ≡ true → Passed s.link e text → step_of s e text ≡ event_of s (fresh s) e text
unfolding step_of
let_through s e text ok p = pick_true (eqb (gate_of s e text) 0) _ _ (eq-eqb (gate_of s e text) 0 (let_gate s e text ok p))

-- ---- a gate that refuses

-- 0; a number from 14 to 23; or, in selected, the number of a wished text
pub data Gated (l : Link) (e : Event) (text : List ℕ) (n : ℕ) : Type 0 where
  passes : n ≡ 0 → Gated l e text n
  refuses : 14 ≤ n → n ≤ 23 → Gated l e text n
  judges : (w : Wish) → e ≡ on_wish w → selected l ≡ true → n ≡ judged_of text → Gated l e text n

module _ (l : Link) (text : List ℕ) where
  module _ {e : Event} where
    either : (b : Bool) (x y : ℕ) → Gated l e text x → Gated l e text y → Gated l e text (pick b x y)
    either b x y p q = by_pick (Gated l e text) b x y (λ _. p) (λ _. q)

    lets : Gated l e text 0
    lets = passes refl

    number : (n : ℕ) → 14 ≤ n → n ≤ 23 → Gated l e text n
    number n p q = refuses p q

    connected_gated : Gated l e text (when_connected l)
    unfolding when_connected
    connected_gated = either _ _ _ lets (number 20 (omega arith) (omega arith))

    selected_gated : Gated l e text (when_selected l)
    unfolding when_selected
    selected_gated = either _ _ _ (either _ _ _ lets (number 22 (omega arith) (omega arith))) (number 20 (omega arith) (omega arith))

    primary_gated : (m f : ℕ) → Gated l e text (when_primary m f)
    unfolding when_primary
    primary_gated m f = either _ _ _ lets (number 23 (omega arith) (omega arith))

    stream_gated : (m : ℕ) → Gated l e text (when_stream m)
    unfolding when_stream
    stream_gated m = either _ _ _ (either _ _ _ lets (number 23 (omega arith) (omega arith))) (number 23 (omega arith) (omega arith))

    -- one gate behind another
    behind : (a b : ℕ) → Gated l e text a → (a ≡ 0 → Gated l e text b) → Gated l e text (and_then a b)
    unfolding and_then
    behind a b p q = by_pick (Gated l e text) (eqb a 0) b a (λ z. q (eqb-true a 0 z)) (λ _. p)

  good_gated : (w : Wish) → Gated l (on_wish w) text (when_good l text)
  unfolding when_good
  good_gated w = behind _ _ selected_gated (λ z. judges w refl (is_selected l z) refl)

  wish_gated : (w : Wish) → Gated l (on_wish w) text (wish_gate l w text)
  unfolding wish_gate
  wish_gated Connect = lets
  wish_gated Disconnect = connected_gated
  wish_gated (Flag m b) = stream_gated m
  wish_gated (Primary w m f) = behind _ _ (good_gated (Primary w m f)) (λ _. primary_gated m f)
  wish_gated (Reply k) = good_gated (Reply k)
  wish_gated (Abort k) = selected_gated
  wish_gated Linktest = connected_gated
  wish_gated Separate = selected_gated

  event_gated : (e : Event) → Gated l e text (event_gate l e text)
  unfolding event_gate
  event_gated (on_timer t) = lets
  event_gated (on_wish w) = wish_gated w
  event_gated (on_received r) = connected_gated

pub gated : (s : Session) (e : Event) (text : List ℕ) → Gated s.link e text (gate_of s e text)
unfolding gate_of
gated s e text = either s.link text _ _ _ (event_gated s.link text e) (number s.link text 14 (omega arith) (omega arith))

-- ---- a step: its row, where the gates let the event through, or a number alone

pub by_gate : (P : Stepped → Type 0) (s : Session) (e : Event) (text : List ℕ)
    → (allows s ≡ true → Passed s.link e text → P (event_of s (fresh s) e text))
    → (eqb (gate_of s e text) 0 ≡ false → Gated s.link e text (gate_of s e text) → P (told (gate_of s e text) s))
    → P (step_of s e text)
unfolding step_of
by_gate P s e text go stop =
    by_pick P (eqb (gate_of s e text) 0) (event_of s (fresh s) e text) (told (gate_of s e text) s)
    (λ z. let (ok, p) = passed s e text (eqb-true (gate_of s e text) 0 z) in go ok p)
    (λ z. stop z (gated s e text))
