-- Each row of the table keeps the facts: it leaves its half as it is, or changes it in a way that keeps them where the row's tests and the gates hold.
use Prim.Native.Nat.{ℕ, ◌%◌, ◌^◌, ◌≤◌, ◌<◌}
use mathlib.Core.Bool.{Bool, true, false, false≢true}
use mathlib.Core.List.{List}
use mathlib.Core.Path.{◌≡◌, refl, sym, ap, ◌∙◌}
use native.Mathlib.Omega.{arith}
use borrow.Author.Tests.{le-leb, eq-eqb, eqb-false}
use lib.Dec.{eqb}
use lib.ListN.{get_or, set}
use Rattle.wire.specs.Pick.{pick}
use Rattle.wire.proofs.Pick.{by_pick}
use Rattle.frame.specs.Header.{stream_of}
use Rattle.frame.specs.declared.Header.{Header}
use Rattle.slots.specs.Slots.{slot_of, no_test, is_there, is_primary}
use Rattle.slots.specs.declared.Query.TheVariants.{Named}
use Rattle.slots.proofs.Found.{none_there}
use Rattle.message.specs.declared.Text.{Text}
use Rattle.message.specs.Send.{Send}
use Rattle.state.specs.State.{fresh, is_connected, is_selected, with_phase, with_test, numbered, with_received, own_freed}
use Rattle.state.specs.declared.Phase.TheVariants.{NotSelected, Selected}
use Rattle.state.specs.declared.Link.{Link}
use Rattle.state.specs.declared.Session.{Session}
use Rattle.state.proofs.Phases.{unselected}
use Rattle.link.specs.Rows as link
use Rattle.link.specs.Linked.{Linked}
use Rattle.device.specs.Rows as device
use Rattle.device.specs.Acted.{Acted}
use Rattle.device.proofs.Rows.{Ends, drops, complains, closes, aborts, opens, hears, data_ends}
use Rattle.session.specs.Table.{by_link, by_device, step_of}
use Rattle.session.specs.Stepped.{Stepped}
use Rattle.session.specs.declared.Event.{Event}
use Rattle.session.proofs.Rows.{LinkRow, rejecting_row, rejected_row, select_req_row, deselect_req_row, linktest_req_row, linktest_rsp_row, separate_req_row}
use Rattle.session.proofs.Rows.{connect_row, disconnect_row, linktest_row, separate_row, t6_row, t7_row, t8_row}
use Rattle.session.proofs.Rows.{DeviceRow, rejected_own_row, data_row, flag_row, send_row, reply_row, abort_row, t3_row}
use Rattle.session.proofs.Rows.{Step, of_link_row, of_device_row, stops, step}
use Rattle.reached.specs.Reached.{Fits}
use Rattle.reached.proofs.Kept.{KeptLink, Kept}
use Rattle.reached.proofs.Changed.{link_untested, link_phased, link_gone, link_numbered, link_tested}
use Rattle.reached.proofs.Changed.{device_emptied, device_own_freed, device_received_freed, device_own_opened, device_received_opened, device_flag}
use Rattle.reached.proofs.Changed.{shut_emptied, shut_selected, shut_still, shut_flag, shut_own_freed, shut_received_freed}
use Rattle.reached.proofs.Changed.{untested, test_emptied, test_freed, test_opened, fresh_not_held, fresh_unnamed, fresh_unshared, fresh_in_range}

-- the session keeps the facts when a row of the link, or of the device, is done to it
record LinkStays (s : Session) (r : Linked) : Type 0 where
  kept : Kept (by_link s r).session

record DeviceStays (s : Session) (a : Acted) : Type 0 where
  kept : Kept (by_device s (fresh s) a).session

module _ (s : Session) (k : Kept s) where
  abbrev n : ℕ
  n = fresh s

  -- ---- rows of the link

  link_either : (b : Bool) (x y : Linked) → LinkStays s x → LinkStays s y → LinkStays s (pick b x y)
  link_either b x y f g = by_pick (LinkStays s) b x y (λ e. f) (λ e. g)

  same_link : {i : ℕ} {m : Send} → LinkStays s (link.answer i s.link m)
  same_link = record { kept = k }

  untests : {i : ℕ} {m : Send} → LinkStays s (link.answer i (with_test s.link no_test) m)
  untests = record { kept = record { link = link_untested k.link; device = k.device; shut = k.shut; test = untested s.device.own } }

  -- what leaves its phase empties the slots
  leaves : {l : Link} {m : Send} → KeptLink l → LinkStays s (link.leaves l m)
  leaves {l = l} kept =
      record {
        kept =
            record { link = kept; device = device_emptied k.device; shut = shut_emptied l.phase s.device; test = test_emptied l.linktest };
      }

  disconnect_stays : LinkStays s (link.disconnect_of s.link)
  unfolding link.disconnect_of
  disconnect_stays = leaves (link_gone k.link)

  t8_stays : LinkStays s (link.t8_of s.link)
  unfolding link.t8_of
  t8_stays = link_either _ _ _ disconnect_stays same_link

  selects : {m : Send} → LinkStays s (link.answer 0 (with_phase s.link Selected) m)
  selects =
      record {
        kept = record { link = link_phased k.link Selected refl; device = k.device; shut = shut_selected Selected s.device refl; test = k.test };
      }

  deselected : KeptLink (with_phase s.link NotSelected)
  deselected = link_phased k.link NotSelected refl

  connect_stays : LinkStays s (link.connect_of s.link)
  unfolding link.connect_of
  connect_stays =
      by_pick (LinkStays s) _ _ _ (λ c. same_link)
      (λ c.
      let shut = shut_still k.shut NotSelected (unselected s.link.phase c) in
      record { kept = record { link = deselected; device = k.device; shut = shut; test = k.test } })

  linktest_stays : is_connected s.link.phase ≡ true → LinkStays s (link.linktest_of s.link n)
  unfolding link.linktest_of
  linktest_stays c =
      link_either _ _ _ same_link
      (record { kept = record { link = link_tested k.link n (fresh_in_range k) c; device = k.device; shut = k.shut; test = fresh_unshared k } })

  separate_stays : LinkStays s (link.separate_of s.link n)
  unfolding link.separate_of
  separate_stays = leaves (link_phased (link_numbered k.link n (fresh_in_range k)) NotSelected refl)

  -- ---- rows of the device

  device_either : (b : Bool) (x y : Acted) → DeviceStays s x → DeviceStays s y → DeviceStays s (pick b x y)
  device_either b x y f g = by_pick (DeviceStays s) b x y (λ e. f) (λ e. g)

  same_device : {i : ℕ} {m : Send} → DeviceStays s (device.answer i s.device m)
  same_device = record { kept = k }

  kept_numbered : KeptLink (numbered s.link n)
  kept_numbered = link_numbered k.link n (fresh_in_range k)

  takes : {m : Send} → DeviceStays s (device.takes s.device m)
  takes = record { kept = record { link = kept_numbered; device = k.device; shut = k.shut; test = k.test } }

  own_freed_stays : (at : ℕ) {i : ℕ} {m : Send} → DeviceStays s (device.answer i (own_freed s.device at) m)
  own_freed_stays at =
      record {
        kept =
            record {
              link = k.link;
              device = device_own_freed k.device at;
              shut = shut_own_freed k.shut k.device.own at;
              test = test_freed k.test k.device.own at;
            };
      }

  rejected_stays : (h : Header) → DeviceStays s (device.rejected_of s.device h)
  unfolding device.rejected_of
  rejected_stays h = device_either _ _ _ (own_freed_stays _) same_device

  -- an odd function of a byte that is not 255, of a stream whose flag is set
  heard_primary : (h : Header) → h.byte3 < 2 ^ 8 → eqb (h.byte3 % 2) 0 ≡ false → get_or s.device.flags (stream_of h) false ≡ true
      → eqb h.byte3 255 ≡ false → is_primary (stream_of h) h.byte3 ≡ true
  heard_primary h byte odd flag not255 =
      let some : stream_of h ≡ 0 → ⊥ = λ e. false≢true (sym k.device.flag ∙ ap (λ (m : ℕ). get_or s.device.flags m false) (sym e) ∙ flag) in
      let o : h.byte3 % 2 ≡ 0 → ⊥ = eqb-false (h.byte3 % 2) 0 odd in
      let n : h.byte3 ≡ 255 → ⊥ = eqb-false h.byte3 255 not255 in
      rw
      (le-leb 1 (stream_of h) (omega arith), le-leb (stream_of h) 127 (omega arith), eq-eqb (h.byte3 % 2) 1 (omega arith), le-leb h.byte3 253 (omega arith))

  -- ---- in selected

  module _ (z : is_selected s.link.phase ≡ true) where
    -- a slot is opened for a primary
    opened_stays : (h : Header) → is_primary (stream_of h) h.byte3 ≡ true → is_there (Named h.system) s.device.received ≡ false → (at : ℕ)
        → DeviceStays s (device.told 30 (with_received s.device (set s.device.received at (slot_of h.system (stream_of h) h.byte3))))
    opened_stays h p a at =
        let none = none_there (Named h.system) s.device.received k.device.received.size a in
        record {
          kept =
              record {
                link = k.link;
                device = device_received_opened k.device at h.system (stream_of h) h.byte3 p none;
                shut = shut_selected s.link.phase _ z;
                test = k.test;
              };
        }

    data_stays : (h : Header) (text : List ℕ) (a : Acted) → h.byte3 < 2 ^ 8 → Ends s.device n h text a → DeviceStays s a
    data_stays h text a byte (drops p) = same_device
    data_stays h text a byte (complains p q) = takes
    data_stays h text a byte (closes p q) = own_freed_stays _
    data_stays h text a byte (aborts p q) = same_device
    data_stays h text a byte (opens g w u room) = opened_stays h (heard_primary h byte g.primary.odd g.flag g.not_255) u _
    data_stays h text a byte (hears g w) = same_device

    send_stays : (w : Bool) (m f : ℕ) → is_primary m f ≡ true → DeviceStays s (device.send_of s.device n w m f)
    unfolding device.send_of
    send_stays w m f p =
        device_either _ _ _
        (device_either _ _ _
        (record {
          kept =
              record {
                link = kept_numbered;
                device = device_own_opened k.device _ n m f p (fresh_unnamed k);
                shut = shut_selected s.link.phase _ z;
                test = test_opened k.test k.device.own _ n m f (fresh_not_held k);
              };
        })
        same_device)
        takes

  replied_stays : (i f : ℕ) (t : Text) → DeviceStays s (device.replied_of s.device i f t)
  unfolding device.replied_of
  replied_stays i f t =
      device_either _ _ _
      (record {
        kept =
            record {
              link = k.link;
              device = device_received_freed k.device _;
              shut = shut_received_freed k.shut k.device.received _;
              test = k.test;
            };
      })
      same_device

  flag_stays : (m : ℕ) (b : Bool) → 1 ≤ m → DeviceStays s (device.flag_of s.device m b)
  unfolding device.flag_of
  flag_stays m b h = record { kept = record { link = k.link; device = device_flag k.device m b h; shut = shut_flag k.shut m b; test = k.test } }

  t3_stays : (i : ℕ) → DeviceStays s (device.t3_of s.device n i)
  unfolding device.t3_of
  t3_stays i =
      device_either _ _ _
      (record {
        kept =
            record {
              link = kept_numbered;
              device = device_own_freed k.device _;
              shut = shut_own_freed k.shut k.device.own _;
              test = test_freed k.test k.device.own _;
            };
      })
      same_device

  -- ---- every row, and every event

  link_stays : (e : Event) (x : Linked) → LinkRow s e x → LinkStays s x
  unfolding link.rejecting link.rejected_of link.select_req_of link.deselect_req_of link.linktest_req_of link.linktest_rsp_of link.separate_req_of link.t6_of link.t7_of
  link_stays e x (rejecting_row q h reason) = same_link
  link_stays e x (rejected_row h) = link_either _ _ _ untests same_link
  link_stays e x (select_req_row h) = link_either _ _ _ same_link selects
  link_stays e x (deselect_req_row h) = link_either _ _ _ (link_either _ _ _ same_link (leaves deselected)) same_link
  link_stays e x (linktest_req_row h) = same_link
  link_stays e x (linktest_rsp_row h) = link_either _ _ _ untests same_link
  link_stays e x (separate_req_row h) = link_either _ _ _ (leaves deselected) same_link
  link_stays e x connect_row = connect_stays
  link_stays e x disconnect_row = disconnect_stays
  link_stays e x (linktest_row c) = linktest_stays c
  link_stays e x (separate_row z) = separate_stays
  link_stays e x t6_row = link_either _ _ _ disconnect_stays same_link
  link_stays e x t7_row = link_either _ _ _ same_link t8_stays
  link_stays e x t8_row = t8_stays

  device_stays : (e : Event) (text : List ℕ) (a : Acted) → Fits e → DeviceRow s text e a → DeviceStays s a
  unfolding device.reply_of device.abort_of
  device_stays e text a fits (rejected_own_row h) = rejected_stays h
  device_stays e text a fits (data_row z h) = data_stays z h text a (fits h refl) (data_ends s.device n h text)
  device_stays e text a fits (flag_row m b p) = flag_stays m b p
  device_stays e text a fits (send_row z w m f p) = send_stays z w m f p
  device_stays e text a fits (reply_row z i) = replied_stays i _ _
  device_stays e text a fits (abort_row z i) = replied_stays i _ _
  device_stays e text a fits (t3_row i) = t3_stays i

  stays : (e : Event) (text : List ℕ) (r : Stepped) → Fits e → Step s text e r → Kept r.session
  stays e text r fits (of_link_row ok p row) = (link_stays e _ row).kept
  stays e text r fits (of_device_row ok row) = (device_stays e text _ fits row).kept
  stays e text r fits (stops z g) = k

  pub step_stays : (e : Event) (text : List ℕ) → Fits e → Kept (step_of s e text).session
  step_stays e text fits = stays e text (step_of s e text) fits (step s e text)
