-- What each row does to the received slots, and which data it sends: a slot is opened, one is closed, all stay, or the event does not end in selected.
use Prim.Native.Nat.{ℕ, ◌+◌, ◌≤◌, ◌%◌}
use mathlib.Core.Bool.{Bool, true, false, cond}
use mathlib.Core.List.{List}
use mathlib.Core.Path.{◌≡◌, refl, sym, ◌∙◌}
use native.Mathlib.Nat.{mod-eq_of_lt}
use native.Mathlib.Omega.{arith}
use borrow.Author.Tests.{ne_eqb}
use lib.Dec.{eqb}
use lib.ListN.{set}
use Rattle.wire.specs.Pick.{pick}
use Rattle.wire.proofs.Pick.{by_pick}
use Rattle.frame.specs.Header.{w_of, stream_of, data_header}
use Rattle.frame.specs.declared.Header.{Header}
use Rattle.frame.proofs.Laws.{data_w, data_stream}
use Rattle.slots.specs.Slots.{slot_of, found_at, is_there, is_primary}
use Rattle.slots.specs.declared.Query.TheVariants.{Free, Named}
use Rattle.message.specs.declared.Received.TheVariants.{Data}
use Rattle.message.specs.declared.Text.{Text}
use Rattle.message.specs.declared.Text.TheVariants.{Empty, About, Wished}
use Rattle.message.specs.Send.{Send, Message}
use Rattle.state.specs.State.{fresh, is_selected, selected, with_received, received_freed}
use Rattle.state.specs.declared.Device.{Device}
use Rattle.state.specs.declared.Session.{Session}
use Rattle.allowed.proofs.Slots.{primary_range}
use Rattle.link.specs.Rows as link
use Rattle.link.specs.Linked.{Linked}
use Rattle.device.specs.Rows as device
use Rattle.device.specs.Acted.{Acted}
use Rattle.device.proofs.Rows.{Wrong, wrong_1, wrong_3, wrong_5, wrong_7, dropped_32, dropped_33, Ends, drops, complains, closes as by_closing}
use Rattle.device.proofs.Rows.{aborts as by_aborting, opens as by_opening, hears, data_ends}
use Rattle.session.specs.Table.{told, by_link, by_device, step_of}
use Rattle.session.specs.Stepped.{Stepped}
use Rattle.session.specs.declared.Wish.{Wish}
use Rattle.session.specs.declared.Wish.TheVariants.{Connect, Disconnect, Flag, Primary, Reply, Abort, Linktest, Separate}
use Rattle.session.specs.declared.Event.{Event}
use Rattle.session.specs.declared.Event.TheVariants.{Wish as on_wish, Received as on_received}
use Rattle.session.proofs.Gates.{Gated, passes, refuses, judges}
use Rattle.session.proofs.Rows.{LinkRow, rejecting_row, rejected_row, select_req_row, deselect_req_row, linktest_req_row, linktest_rsp_row, separate_req_row}
use Rattle.session.proofs.Rows.{connect_row, disconnect_row, linktest_row, separate_row, t6_row, t7_row, t8_row}
use Rattle.session.proofs.Rows.{DeviceRow, rejected_own_row, data_row, flag_row, send_row, reply_row, abort_row, t3_row}
use Rattle.session.proofs.Rows.{Step, of_link_row, of_device_row, stops, step}
use Rattle.protocol.specs.Protocol.{is_data, primary_at, with_device}
use Rattle.audit.specs.Run.{seen_as}
use Rattle.audit.specs.Audit.{primary, reply, neither, entry_wished, entry_of, asks, delivered}
use Rattle.audit.specs.Audit.{SxFy, Complaint, f1, f3, f5, f7, Suits, function_0, complaint, Unasked, own_primary, s9f9, s9f1}

-- ---- what a step does

-- what goes out and is no reply: no data; at a received primary, what answers it; or what answers none
pub data Goes (e : Event) (x : Send) : Type 0 where
  no_data : is_data x ≡ false → Goes e x
  to_primary : (h : Header) → entry_of e ≡ primary h → Suits h e x → Goes e x
  unasked : entry_of e ≡ neither → Unasked e x → Goes e x

-- neither a delivery with W nor a reply that goes out
pub record Idle (s : Session) (e : Event) (r : Stepped) : Type 0 where
  pub undelivered : (n : ℕ) → delivered (seen_as e s.link.phase r) n ≡ false
  pub goes : Goes e r.send

-- a primary with W is delivered, and takes the lowest free slot
pub record Opens (s : Session) (h : Header) (r : Stepped) : Type 0 where
  pub mine : h.session ≡ s.device.id
  pub w : w_of h ≡ true
  pub unnamed : is_there (Named h.system) s.device.received ≡ false
  pub room : is_there Free s.device.received ≡ true
  pub number : r.number ≡ 30
  pub silent : is_data r.send ≡ false
  pub state : r.session ≡ with_device s (with_received s.device
      (set s.device.received (found_at Free s.device.received) (slot_of h.system (stream_of h) h.byte3)))

-- a reply, or an abort, to these system bytes
pub data As (e : Event) (n function f : ℕ) (t : Text) : Type 0 where
  replies : e ≡ on_wish (Reply n) → f ≡ function + 1 → t ≡ Wished → As e n function f t
  aborts : e ≡ on_wish (Abort n) → f ≡ 0 → t ≡ Empty → As e n function f t

-- it goes out, and its slot is freed
pub record Closes (s : Session) (e : Event) (n f : ℕ) (t : Text) (r : Stepped) : Type 0 where
  pub named : is_there (Named n) s.device.received ≡ true
  pub kind : As e n (primary_at s n).function f t
  pub number : r.number ≡ 0
  pub sends : r.send ≡ Message (data_header s.device.id false (primary_at s n).stream f n) t
  pub state : r.session ≡ with_device s (received_freed s.device (device.received_at s.device n))

pub data Moves (s : Session) (e : Event) (r : Stepped) : Type 0 where
  opens : (h : Header) → entry_of e ≡ primary h → selected s.link ≡ true → Opens s h r → Moves s e r
  closes : (n f : ℕ) (t : Text) → entry_of e ≡ reply n → selected s.link ≡ true → Closes s e n f t r → Moves s e r
  stays : Idle s e r → r.session.device.received ≡ s.device.received → Moves s e r
  leaves : Idle s e r → is_selected r.session.link.phase ≡ false → Moves s e r

-- the header of data that is sent
pub sent_is : (id : ℕ) (w : Bool) (m f n : ℕ) → m ≤ 127 → SxFy (data_header id w m f n) w m f
unfolding data_header
sent_is id w m f n small =
    record { ptype = refl; stype = refl; w_bit = data_w id w m f n; stream = data_stream id w m f n ∙ mod-eq_of_lt (omega arith); function = refl }

-- ---- a row of the link: it sends no data, and the slots stay, or it does not end in selected

data Links (r : Linked) : Type 0 where
  keeps : eqb r.number 30 ≡ false → is_data r.send ≡ false → r.empties ≡ false → Links r
  outside : eqb r.number 30 ≡ false → is_data r.send ≡ false → is_selected r.link.phase ≡ false → Links r

either : (b : Bool) (x y : Linked) → Links x → Links y → Links (pick b x y)
either b x y p q = by_pick Links b x y (λ _. p) (λ _. q)

-- every row of the link
links : (s : Session) (e : Event) (x : Linked) → LinkRow s e x → Links x
unfolding link.rejecting link.rejected_of link.select_req_of link.deselect_req_of link.linktest_req_of link.linktest_rsp_of link.separate_req_of
    link.connect_of link.disconnect_of link.linktest_of link.separate_of link.t6_of link.t7_of link.t8_of
links s e x (rejecting_row q h reason) = keeps refl refl refl
links s e x (rejected_row h) = either _ _ _ (keeps refl refl refl) (keeps refl refl refl)
links s e x (select_req_row h) = either _ _ _ (keeps refl refl refl) (keeps refl refl refl)
links s e x (deselect_req_row h) = either _ _ _ (either _ _ _ (keeps refl refl refl) (outside refl refl refl)) (keeps refl refl refl)
links s e x (linktest_req_row h) = keeps refl refl refl
links s e x (linktest_rsp_row h) = either _ _ _ (keeps refl refl refl) (keeps refl refl refl)
links s e x (separate_req_row h) = either _ _ _ (outside refl refl refl) (keeps refl refl refl)
links s e x connect_row = either _ _ _ (keeps refl refl refl) (keeps refl refl refl)
links s e x disconnect_row = outside refl refl refl
links s e x (linktest_row c) = either _ _ _ (keeps refl refl refl) (keeps refl refl refl)
links s e x (separate_row z) = outside refl refl refl
links s e x t6_row = either _ _ _ (outside refl refl refl) (keeps refl refl refl)
links s e x t7_row = either _ _ _ (keeps refl refl refl) (either _ _ _ (outside refl refl refl) (keeps refl refl refl))
links s e x t8_row = either _ _ _ (outside refl refl refl) (keeps refl refl refl)

-- a wish delivers nothing, whatever its number
wish_delivers : (b : Bool) (w : Wish) (n : ℕ) → cond b (asks (entry_wished w) n) false ≡ false
wish_delivers false w n = refl
wish_delivers true Connect n = refl
wish_delivers true Disconnect n = refl
wish_delivers true (Flag m b) n = refl
wish_delivers true (Primary w m f) n = refl
wish_delivers true (Reply k) n = refl
wish_delivers true (Abort k) n = refl
wish_delivers true Linktest n = refl
wish_delivers true Separate n = refl

module _ (s : Session) (text : List ℕ) where
  abbrev n : ℕ
  n = fresh s

  abbrev d : Device
  d = s.device

  -- a number that is not 30
  idle : {e : Event} {r : Stepped} → eqb r.number 30 ≡ false → Goes e r.send → Idle s e r
  idle z g = record { undelivered = λ n. rw z; goes = g }

  link_moves : (e : Event) (x : Linked) → Links x → Moves s e (by_link s x)
  link_moves e x (keeps z u q) = stays (idle z (no_data u)) (rw q)
  link_moves e x (outside z u p) = leaves (idle z (no_data u)) p

  -- a gate that refuses
  gate_moves : (e : Event) (k : ℕ) → Gated s.link e text k → Moves s e (told k s)
  gate_moves e k (passes z) = stays (idle (rw z) (no_data refl)) refl
  gate_moves e k (refuses p q) = stays (idle (ne_eqb k 30 (λ w. omega arith)) (no_data refl)) refl
  gate_moves e k (judges w i z is) = stays (record { undelivered = λ n. rw i (wish_delivers (eqb k 30) w n); goes = no_data refl }) refl

  -- ---- a row of the device

  record DeviceMoves (e : Event) (a : Acted) : Type 0 where
    moves : Moves s e (by_device s n a)

  module _ {e : Event} where
    choice : (b : Bool) (x y : Acted) → DeviceMoves e x → DeviceMoves e y → DeviceMoves e (pick b x y)
    choice b x y p q = by_pick (DeviceMoves e) b x y (λ _. p) (λ _. q)

    -- the slots stay, and this goes out
    sends : {a : Acted} → eqb a.number 30 ≡ false → Goes e a.send → a.device.received ≡ d.received → DeviceMoves e a
    sends z g q = record { moves = stays (idle z g) q }

    tells : (k : ℕ) → eqb k 30 ≡ false → DeviceMoves e (device.told k d)
    tells k z = sends z (no_data refl) refl

  -- an S9
  abbrev s9 : ℕ → Header
  s9 f = data_header d.id false 9 f n

  s9_is : (f : ℕ) → SxFy (s9 f) false 9 f
  s9_is f = sent_is d.id false 9 f n (omega arith)

  -- ---- received

  module _ (z : selected s.link ≡ true) (h : Header) where
    abbrev came : Event
    came = on_received (Data h)

    module _ (odd : eqb (h.byte3 % 2) 0 ≡ false) where
      entry : entry_of came ≡ primary h
      entry = rw odd

      about : (f : ℕ) → Complaint f → Goes came (Message (s9 f) (About h))
      about f c = to_primary h entry (complaint (s9 f) f refl refl (s9_is f) c)

      function_zero : h.session ≡ d.id → w_of h ≡ true → Goes came (device.sent d false (stream_of h) 0 h.system Empty)
      unfolding data_header
      function_zero mine w =
          to_primary h entry
          (function_0 (data_header d.id false (stream_of h) 0 h.system) refl refl
          (record { asked = w; is = sent_is d.id false (stream_of h) 0 h.system (omega arith); session = sym mine; system = refl }))

    about_any : (b : Bool) → eqb (h.byte3 % 2) 0 ≡ b → Goes came (Message (s9 1) (About h))
    about_any true even = unasked (rw even) (s9f1 h (s9 1) refl (rw even) refl (s9_is 1))
    about_any false odd = about odd 1 f1

    complains_go : (f : ℕ) → Wrong h f → Goes came (Message (s9 f) (About h))
    complains_go f wrong_1 = about_any (eqb (h.byte3 % 2) 0) refl
    complains_go f (wrong_3 odd) = about odd 3 f3
    complains_go f (wrong_5 odd) = about odd 5 f5
    complains_go f (wrong_7 odd) = about odd 7 f7

    data_moves : (a : Acted) → Ends d n h text a → DeviceMoves came a
    data_moves a (drops dropped_32) = tells 32 refl
    data_moves a (drops dropped_33) = tells 33 refl
    data_moves a (complains w other) = sends refl (complains_go _ w) refl
    data_moves a (by_closing w t) = sends refl (no_data refl) refl
    data_moves a (by_aborting g w) = sends refl (function_zero g.primary.odd g.primary.mine w) refl
    data_moves a (by_opening g w u room) =
        record {
          moves =
              opens h (entry g.primary.odd) z
              (record { mine = g.primary.mine; w = w; unnamed = u; room = room; number = refl; silent = refl; state = refl });
        }
    data_moves a (hears g w) = record { moves = stays (record { undelivered = λ n. rw (g.primary.odd, w); goes = no_data refl }) refl }

  -- ---- wished

  own_goes : (w : Bool) (m f : ℕ) → is_primary m f ≡ true → Goes (on_wish (Primary w m f)) (device.sent d w m f n Wished)
  own_goes w m f p =
      unasked refl (own_primary w m f (data_header d.id w m f n) refl refl p (sent_is d.id w m f n (primary_range m f p).0))

  send_moves : (w : Bool) (m f : ℕ) → is_primary m f ≡ true → DeviceMoves (on_wish (Primary w m f)) (device.send_of d n w m f)
  unfolding device.send_of
  send_moves w m f p =
      by_pick (DeviceMoves (on_wish (Primary w m f))) w _ _
      (λ e. choice _ _ _ (sends refl (rw e (own_goes true m f p)) refl) (tells 24 refl))
      (λ e. sends refl (rw e (own_goes false m f p)) refl)

  replied_moves : (k f : ℕ) (t : Text) (e : Event) → entry_of e ≡ reply k → As e k (primary_at s k).function f t → selected s.link ≡ true
      → DeviceMoves e (device.replied_of d k f t)
  unfolding device.replied_of
  replied_moves k f t e i a z =
      by_pick (DeviceMoves e) _ _ _
      (λ there. record { moves = closes k f t i z (record { named = there; kind = a; number = refl; sends = refl; state = refl }) })
      (λ _. tells 25 refl)

  -- ---- every row, and every event

  device_moves : (e : Event) (a : Acted) → DeviceRow s text e a → DeviceMoves e a
  unfolding device.rejected_of device.flag_of device.reply_of device.abort_of device.t3_of data_header
  device_moves e a (rejected_own_row h) = choice _ _ _ (sends refl (no_data refl) refl) (tells 35 refl)
  device_moves e a (data_row z h) = data_moves z h a (data_ends d n h text)
  device_moves e a (flag_row m b p) = sends refl (no_data refl) refl
  device_moves e a (send_row z w m f p) = send_moves w m f p
  device_moves e a (reply_row z k) = replied_moves k _ Wished e refl (replies refl refl refl) z
  device_moves e a (abort_row z k) = replied_moves k 0 Empty e refl (aborts refl refl refl) z
  device_moves e a (t3_row k) = choice _ _ _ (sends refl (unasked refl (s9f9 k (s9 9) _ refl refl (s9_is 9) refl)) refl) (tells 27 refl)

  moves_each : (e : Event) (r : Stepped) → Step s text e r → Moves s e r
  moves_each e r (of_link_row ok p row) = link_moves e _ (links s e _ row)
  moves_each e r (of_device_row ok row) = (device_moves e _ row).moves
  moves_each e r (stops z g) = gate_moves e _ g

pub step_moves : (s : Session) (e : Event) (text : List ℕ) → Moves s e (step_of s e text)
step_moves s e text = moves_each s text e (step_of s e text) (step s e text)
