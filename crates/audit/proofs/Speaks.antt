-- What goes out at each event answers a primary that the run leaves open, or the event's own, or is accounted for otherwise.
use Prim.Native.Nat.{ℕ, ◌+◌}
use mathlib.Core.Bool.{true, false, false≢true, cond}
use mathlib.Core.List.{List, ◌∷◌}
use mathlib.Core.Logic.{inl}
use mathlib.Core.Option.{none, some}
use mathlib.Core.Path.{◌≡◌, refl, ap, sym, ◌∙◌}
use native.Mathlib.Omega.{arith}
use borrow.Author.Tests.{eqb-true}
use lib.Dec.{eqb}
use lib.ListN.{length}
use Rattle.frame.specs.Header.{stream_of, data_header}
use Rattle.frame.specs.declared.Header.{Header}
use Rattle.message.specs.declared.Text.{Text}
use Rattle.message.specs.Send.{Message}
use Rattle.state.specs.declared.Session.{Session}
use Rattle.session.specs.Stepped.{Stepped}
use Rattle.session.specs.declared.Wish.TheVariants.{Reply, Abort}
use Rattle.session.specs.declared.Event.{Event}
use Rattle.session.specs.declared.Event.TheVariants.{Wish as on_wish}
use Rattle.protocol.specs.Protocol.{is_data, primary_at}
use Rattle.audit.specs.Run.{Seen, seen_as}
use Rattle.audit.specs.Audit.{reply, entry_of, asks, delivered, last_delivered, answered}
use Rattle.audit.specs.Audit.{SxFy, Replies, Suits, secondary, aborted, ReceivedAt, SuitsAt, Unasked}
use Rattle.audit.proofs.Places.{seen_still}
use Rattle.audit.proofs.Open.{none_some, some_one, closes, open_at, open_last, How, at_once, later, how}
use Rattle.audit.proofs.Moves.{Goes, no_data, to_primary, unasked, Idle, As, replies, aborts, Closes, sent_is}
use Rattle.audit.proofs.Moves.{Moves, opens, closes as closing, stays, leaves}
use Rattle.audit.proofs.Stands.{Slotted, Stands, in_neither, in_both, no_reply}

pub record Speaks (x : Seen) (v : List Seen) : Type 0 where
  -- a reply goes out only for a primary that is open
  pub replied : (n : ℕ) → closes x n ≡ true → (i : ℕ) × (open_at v n ≡ some i)
  -- nothing goes out where a primary with W is delivered
  pub silent : (n : ℕ) → delivered x n ≡ true → is_data x.send ≡ false
  pub says : (i : ℕ) → answered x v ≡ some i → SuitsAt (x ∷ v) i x
  pub accounts : is_data x.send ≡ true → answered x v ≡ none → Unasked x.event x.send

module _ (v : List Seen) (s : Session) (e : Event) (r : Stepped) where
  abbrev x : Seen
  x = seen_as e s.link.phase r

  abbrev me : ℕ
  me = s.device.id

  -- ---- a reply or an abort goes out: it answers the primary in its slot

  module _ (m f : ℕ) (t : Text) (p : entry_of e ≡ reply m) (o : Closes s e m f t r) where
    abbrev header : Header
    header = data_header me false (primary_at s m).stream f m

    last : answered x v ≡ last_delivered v m
    unfolding data_header
    last = rw (o.sends, p)

    key : (n : ℕ) → closes x n ≡ true → m ≡ n
    unfolding data_header
    key n c = eqb-true m n (rw (o.sends, p) at c)

    module _ (i : ℕ) (h : Header) (c : open_at v m ≡ some i) (a : ReceivedAt v i h) (d : Slotted me m h (primary_at s m)) where
      like : (y : ℕ) → f ≡ y → Replies h header y
      unfolding data_header
      like y q = record { asked = d.asked; is = is; session = sym d.session; system = sym d.system }
        where
          is : SxFy header false (stream_of h) y
          is = rw (← q, ← d.stream) (sent_is me false (primary_at s m).stream f m (omega (arith, d.stream)))

      suits : As e m (primary_at s m).function f t → Suits h e r.send
      suits (replies w q u) =
          secondary header (w ∙ ap (λ (n : ℕ). on_wish (Reply n)) (sym d.system)) (o.sends ∙ ap (λ (t : Text). Message header t) u)
          (like (h.byte3 + 1) (q ∙ ap (λ (k : ℕ). k + 1) d.function))
      suits (aborts w q u) =
          aborted header (w ∙ ap (λ (n : ℕ). on_wish (Abort n)) (sym d.system)) (o.sends ∙ ap (λ (t : Text). Message header t) u) (like 0 q)

      closes_speaks : Speaks x v
      closes_speaks =
          record {
            replied = λ n z. (i, ap (open_at v) (sym (key n z)) ∙ c);
            silent = λ n z. absurd (false≢true (sym (ap (λ (k : ℕ). cond (eqb k 30) (asks (entry_of e) n) false) o.number) ∙ z));
            says = λ j q. says_at j (some_one (sym (open_last v m i c) ∙ sym last ∙ q));
            accounts = λ z q. none_some (sym q ∙ last ∙ open_last v m i c);
          }
        where
          says_at : (j : ℕ) → i ≡ j → SuitsAt (x ∷ v) j x
          says_at j w = rw (← w) (record { header = h; received = seen_still _ i x v a; suits = suits o.kind })

    stands_speaks : Stands v me s.device.received m → Speaks x v
    stands_speaks (in_neither c z) = absurd (false≢true (sym z ∙ o.named))
    stands_speaks (in_both i h c a z d) = closes_speaks i h c a d

  -- ---- any other step: what goes out answers its own primary, or is accounted for otherwise

  module _ (g : Goes e r.send) where
    unclosed : {A : Type 0} (n : ℕ) → closes x n ≡ true → A
    unclosed n c = absurd (false≢true (sym (no_reply e r.send g n) ∙ c))

    goes_says : (i : ℕ) → Goes e r.send → How x v i → SuitsAt (x ∷ v) i x
    goes_says i _ (later n c q) = unclosed n c
    goes_says i (no_data z) (at_once h p d q) = absurd (false≢true (sym z ∙ d))
    goes_says i (unasked z u) (at_once h p d q) = absurd (false≢true cc)
    goes_says i (to_primary k z b) (at_once h p d q) =
        record { header = k; received = record { seen = x; earlier = v; at = inl (q, refl, refl); is = z }; suits = b }

    goes_accounts : Goes e r.send → is_data r.send ≡ true → answered x v ≡ none → Unasked e r.send
    goes_accounts (no_data z) d q = absurd (false≢true (sym z ∙ d))
    goes_accounts (to_primary h z b) d q = none_some {a = length v} (sym q ∙ rw (d, z))
    goes_accounts (unasked z u) d q = u

    goes_speaks : ((n : ℕ) → delivered x n ≡ true → is_data r.send ≡ false) → Speaks x v
    goes_speaks quiet = record { replied = λ n c. unclosed n c; silent = quiet; says = λ i q. goes_says i g (how x v i q); accounts = goes_accounts g }

  idle_speaks : Idle s e r → Speaks x v
  idle_speaks a = goes_speaks a.goes (λ n d. absurd (false≢true (sym (a.undelivered n) ∙ d)))

  pub speaks : Moves s e r → ((n : ℕ) → Stands v me s.device.received n) → Speaks x v
  speaks (opens h p z o) d = goes_speaks (no_data o.silent) (λ _ _. o.silent)
  speaks (closing m f t p z o) d = stands_speaks m f t p o (d m)
  speaks (stays a q) d = idle_speaks a
  speaks (leaves a p) d = idle_speaks a
