-- What each row of the table does: it leaves all as it was, or does something without data, or carries data; what is proved about all events goes by these.
use Prim.Native.Nat.{ℕ}
use mathlib.Core.Bool.{Bool, true, false}
use mathlib.Core.List.{List}
use mathlib.Core.Path.{◌≡◌, refl, ap}
use native.Mathlib.Omega.{arith}
use borrow.Author.Tests.{eqb-false, ne_eqb}
use Rattle.wire.specs.Pick.{pick}
use Rattle.wire.proofs.Pick.{by_pick}
use Rattle.frame.specs.Header.{w_of, stream_of}
use Rattle.frame.specs.declared.Header.{Header}
use Rattle.slots.specs.Slots.{is_there}
use Rattle.slots.specs.declared.Query.TheVariants.{Answered}
use Rattle.text.specs.Text.{judged_of}
use Rattle.message.specs.declared.Received.TheVariants.{Data}
use Rattle.message.specs.Send.{Nothing}
use Rattle.state.specs.State.{fresh, selected, own_freed}
use Rattle.state.specs.declared.Link.{Link}
use Rattle.state.specs.declared.Device.{Device}
use Rattle.state.specs.declared.Session.{Session}
use Rattle.allowed.specs.States.{allows}
use Rattle.link.specs.Rows as link
use Rattle.link.specs.Linked.{Linked}
use Rattle.device.specs.Rows as device
use Rattle.device.specs.Acted.{Acted}
use Rattle.device.proofs.Rows.{GoodPrimary, dropped_32, dropped_33, Ends, drops, complains, closes, aborts, opens, hears, data_ends}
use Rattle.session.specs.Table.{told, by_link, by_device, step_of}
use Rattle.session.specs.Stepped.{Stepped}
use Rattle.session.specs.declared.Event.{Event}
use Rattle.session.specs.declared.Event.TheVariants.{Received as on_received}
use Rattle.session.proofs.Gates.{Gated, passes, refuses, judges as judged}
use Rattle.session.proofs.Rows.{LinkRow, rejecting_row, rejected_row, select_req_row, deselect_req_row, linktest_req_row, linktest_rsp_row, separate_req_row}
use Rattle.session.proofs.Rows.{connect_row, disconnect_row, linktest_row, separate_row, t6_row, t7_row, t8_row}
use Rattle.session.proofs.Rows.{DeviceRow, rejected_own_row, data_row, flag_row, send_row, reply_row, abort_row, t3_row}
use Rattle.session.proofs.Rows.{Step, of_link_row, of_device_row, stops, step}
use Rattle.protocol.specs.Protocol.{delivers, is_data, acts, with_device, answered_at, Heard}
use Rattle.protocol.proofs.Open.{own_selected}

-- ---- a step

-- the row of a secondary that is delivered
pub record Answers (s : Session) (e : Event) (h : Header) (r : Stepped) : Type 0 where
  pub event : e ≡ on_received (Data h)
  pub allowed : allows s ≡ true
  pub in_selected : selected s.link ≡ true
  pub no_w : w_of h ≡ false
  pub there : is_there (Answered h.system (stream_of h) h.byte3) s.device.own ≡ true
  pub number : r.number ≡ 31
  pub closes : r.session ≡ with_device s (own_freed s.device (answered_at s h))
  pub silent : r.send ≡ Nothing

pub data Does (s : Session) (e : Event) (text : List ℕ) (r : Stepped) : Type 0 where
  -- a number, and nothing else
  stays : (n : ℕ) → delivers n ≡ false → r ≡ told n s → Does s e text r
  -- the number of a wished text that is not good
  judges : selected s.link ≡ true → r ≡ told (judged_of text) s → Does s e text r
  -- something in which no data is delivered or sent
  links : acts r.number ≡ true → delivers r.number ≡ false → is_data r.send ≡ false → Does s e text r
  -- data that is sent
  carries : selected s.link ≡ true → acts r.number ≡ true → delivers r.number ≡ false → Does s e text r
  -- a primary that is delivered
  by_hearing : (h : Header) → e ≡ on_received (Data h) → r.number ≡ 30 → Heard s h text → Does s e text r
  -- a secondary that is delivered
  answers : (h : Header) → Answers s e h r → Does s e text r

-- ---- a row of the link sends no data and delivers none

pub data LinkDoes (l : Link) (r : Linked) : Type 0 where
  link_stays : (n : ℕ) → delivers n ≡ false → r ≡ link.told n l → LinkDoes l r
  link_acts : acts r.number ≡ true → delivers r.number ≡ false → is_data r.send ≡ false → LinkDoes l r

module _ {l : Link} where
  either : (b : Bool) (x y : Linked) → LinkDoes l x → LinkDoes l y → LinkDoes l (pick b x y)
  either b x y p q = by_pick (LinkDoes l) b x y (λ _. p) (λ _. q)

  tells : (n : ℕ) → delivers n ≡ false → LinkDoes l (link.told n l)
  tells n z = link_stays n z refl

  does : {r : Linked} → acts r.number ≡ true → delivers r.number ≡ false → is_data r.send ≡ false → LinkDoes l r
  does = link_acts

-- every row of the link
pub link_does : (s : Session) (e : Event) (x : Linked) → LinkRow s e x → LinkDoes s.link x
unfolding link.rejecting link.rejected_of link.select_req_of link.deselect_req_of link.linktest_req_of link.linktest_rsp_of link.separate_req_of
    link.connect_of link.disconnect_of link.linktest_of link.separate_of link.t6_of link.t7_of link.t8_of
link_does s e x (rejecting_row q h reason) = does refl refl refl
link_does s e x (rejected_row h) = either _ _ _ (does refl refl refl) (tells 35 refl)
link_does s e x (select_req_row h) = either _ _ _ (does refl refl refl) (does refl refl refl)
link_does s e x (deselect_req_row h) = either _ _ _ (either _ _ _ (does refl refl refl) (does refl refl refl)) (does refl refl refl)
link_does s e x (linktest_req_row h) = does refl refl refl
link_does s e x (linktest_rsp_row h) = either _ _ _ (does refl refl refl) (does refl refl refl)
link_does s e x (separate_req_row h) = either _ _ _ (does refl refl refl) (does refl refl refl)
link_does s e x connect_row = either _ _ _ (tells 21 refl) (does refl refl refl)
link_does s e x disconnect_row = does refl refl refl
link_does s e x (linktest_row c) = either _ _ _ (tells 26 refl) (does refl refl refl)
link_does s e x (separate_row z) = does refl refl refl
link_does s e x t6_row = either _ _ _ (does refl refl refl) (tells 27 refl)
link_does s e x t7_row = either _ _ _ (tells 27 refl) (either _ _ _ (does refl refl refl) (tells 27 refl))
link_does s e x t8_row = either _ _ _ (does refl refl refl) (tells 27 refl)

-- done to the session
linked_does : (s : Session) (e : Event) (text : List ℕ) (r : Linked) → LinkDoes s.link r → Does s e text (by_link s r)
linked_does s e text r (link_stays n z is) = stays n z (ap (by_link s) is)
linked_does s e text r (link_acts a z y) = links a z y

-- ---- a row of the device

module _ (s : Session) (text : List ℕ) where
  abbrev n : ℕ
  n = fresh s

  abbrev d : Device
  d = s.device

  record DeviceDoes (e : Event) (a : Acted) : Type 0 where
    does : Does s e text (by_device s n a)

  module _ {e : Event} where
    choice : (b : Bool) (x y : Acted) → DeviceDoes e x → DeviceDoes e y → DeviceDoes e (pick b x y)
    choice b x y p q = by_pick (DeviceDoes e) b x y (λ _. p) (λ _. q)

    says : (k : ℕ) → delivers k ≡ false → DeviceDoes e (device.told k d)
    says k z = record { does = stays k z refl }

    sends : {a : Acted} → selected s.link ≡ true → acts a.number ≡ true → delivers a.number ≡ false → DeviceDoes e a
    sends z p q = record { does = carries z p q }

    acts_silently : {a : Acted} → acts a.number ≡ true → delivers a.number ≡ false → is_data a.send ≡ false → DeviceDoes e a
    acts_silently p q y = record { does = links p q y }

  -- received data
  module _ (ok : allows s ≡ true) (z : selected s.link ≡ true) (h : Header) where
    heard : {a : Acted} → a.number ≡ 30 → GoodPrimary d h text → DeviceDoes (on_received (Data h)) a
    heard is g =
        record {
          does =
              by_hearing h refl is
              (record {
                in_selected = z;
                mine = g.primary.mine;
                odd = g.primary.odd;
                flag = g.flag;
                not_255 = eqb-false h.byte3 255 g.not_255;
                good = g.good;
              });
        }

    data_does : (a : Acted) → Ends d n h text a → DeviceDoes (on_received (Data h)) a
    data_does a (drops dropped_32) = says 32 refl
    data_does a (drops dropped_33) = says 33 refl
    data_does a (complains p q) = sends z refl refl
    data_does a (closes w t) =
        record { does = answers h (record { event = refl; allowed = ok; in_selected = z; no_w = w; there = t; number = refl; closes = refl; silent = refl }) }
    data_does a (aborts g w) = sends z refl refl
    data_does a (opens g w u room) = heard refl g
    data_does a (hears g w) = heard refl g

  -- every row of the device
  device_does : allows s ≡ true → (e : Event) (a : Acted) → DeviceRow s text e a → DeviceDoes e a
  unfolding device.rejected_of device.flag_of device.send_of device.reply_of device.abort_of device.replied_of device.t3_of
  device_does ok e a (rejected_own_row h) = choice _ _ _ (acts_silently refl refl refl) (says 35 refl)
  device_does ok e a (data_row z h) = data_does ok z h a (data_ends d n h text)
  device_does ok e a (flag_row m b p) = acts_silently refl refl refl
  device_does ok e a (send_row z w m f p) = choice _ _ _ (choice _ _ _ (sends z refl refl) (says 24 refl)) (sends z refl refl)
  device_does ok e a (reply_row z k) = choice _ _ _ (sends z refl refl) (says 25 refl)
  device_does ok e a (abort_row z k) = choice _ _ _ (sends z refl refl) (says 25 refl)
  device_does ok e a (t3_row k) = by_pick (DeviceDoes e) _ _ _ (λ t. sends (own_selected s ok k t) refl refl) (λ _. says 27 refl)

  -- a gate that refuses
  gate_does : (e : Event) (k : ℕ) → Gated s.link e text k → Does s e text (told k s)
  gate_does e k (passes z) = stays k (rw z) refl
  gate_does e k (refuses p q) = stays k (rw (ne_eqb k 30 (λ w. omega arith), ne_eqb k 31 (λ w. omega arith))) refl
  gate_does e k (judged w i z is) = judges z (ap (λ (k : ℕ). told k s) is)

  does_each : (e : Event) (r : Stepped) → Step s text e r → Does s e text r
  does_each e r (of_link_row ok p row) = linked_does s e text _ (link_does s e _ row)
  does_each e r (of_device_row ok row) = (device_does ok e _ row).does
  does_each e r (stops z g) = gate_does e _ g

pub step_does : (s : Session) (e : Event) (text : List ℕ) → Does s e text (step_of s e text)
step_does s e text = does_each s text e (step_of s e text) (step s e text)
