-- No received primary is answered twice, over any run of a session that was made.
use Prim.Native.Nat.{ℕ, ◌≤◌}
use mathlib.Core.Bool.{true, false}
use mathlib.Core.List.{List}
use mathlib.Core.Option.{none}
use mathlib.Core.Path.{◌≡◌}
use Rattle.frame.specs.declared.Header.{Header}
use Rattle.message.specs.Message.{response}
use Rattle.message.specs.declared.Received.TheVariants.{DeselectReq}
use Rattle.state.specs.State.{is_selected}
use Rattle.session.specs.declared.Timer.{Timer}
use Rattle.session.specs.declared.Wish.TheVariants.{Disconnect}
use Rattle.session.specs.declared.Event.TheVariants.{Timer as on_timer, Wish as on_wish, Received as on_received}
use Rattle.reached.specs.Reached.{Happened, AllFit}
use Rattle.protocol.specs.Protocol.{is_data, Separates, Disconnects}
use Rattle.audit.specs.Run.{Seen, run_of, At}
use Rattle.audit.specs.Audit.{answered, Answers, Unanswered, UnansweredAfter, SuitsAt, Unasked, dropped}
use Rattle.audit.proofs.Left.{Leaves, by_deselect, by_separate, by_disconnect, by_closing}
use Rattle.audit.proofs.Sound.{AllSound, sound_at, run_sound}
use Rattle.audit.proofs.Once.{one_answer, not_after, not_dropped, what_answers}

-- For any device ID that a session is made with, and any sequence of events from a fresh session (of received data, byte 3 is a byte):
module _ (id : ℕ) (small : id ≤ 32767) (l : List Happened) (fits : AllFit l) where
  abbrev run : List Seen
  run = run_of id l

  sound : AllSound run
  sound = run_sound id small l fits

  -- EACH RECEIVED PRIMARY, TOLD APART BY ITS PLACE IN THE SEQUENCE, IS ANSWERED BY AT MOST ONE OUTGOING MESSAGE (an event sends at most one):
  pub answered_once : (i j k : ℕ) → Answers run j i → Answers run k i → j ≡ k
  answered_once i = one_answer run sound i

  -- ITS SECONDARY, ITS FUNCTION 0, OR THE SESSION'S OWN S9F1, F3, F5 OR F7 ABOUT ITS HEADER.
  pub answers_are : (i j : ℕ) (a : Answers run j i) → SuitsAt run i a.seen
  answers_are i = what_answers run sound i

  -- Of an event that is seen at a place:
  module _ (k : ℕ) (x : Seen) (v : List Seen) (p : At run k x v) where
    -- A DROPPED PRIMARY IS ANSWERED BY NONE.
    pub dropped_unanswered : dropped x.number ≡ true → Unanswered run k
    dropped_unanswered = not_dropped run sound k x v p

    -- NO DATA MESSAGE GOES OUT AT AN EVENT THAT BEGINS IN ANOTHER PHASE THAN SELECTED.
    pub data_in_selected : is_data x.send ≡ true → is_selected x.before ≡ true
    data_in_selected = (sound_at run k x v sound p).phased

    -- A PRIMARY EMPTIED OUT IS NEVER ANSWERED AFTERWARDS: none that was received before an event which does not end in selected;
    pub emptied_unanswered : is_selected x.after ≡ false → UnansweredAfter run k
    emptied_unanswered out i j before late a = not_after run sound i k x v p out before j a late

    leaves : Leaves x → UnansweredAfter run k
    leaves q = emptied_unanswered ((sound_at run k x v sound p).leaves q)

    -- so none emptied out BY DESELECT, which is answered with status 0,
    pub deselect_unanswered : (h : Header) → x.event ≡ on_received (DeselectReq h) → x.send ≡ response h 4 0 → UnansweredAfter run k
    deselect_unanswered h e m = leaves (by_deselect h e m)

    -- SEPARATE, received or wished,
    pub separate_unanswered : Separates x.event → UnansweredAfter run k
    separate_unanswered e = leaves (by_separate e)

    -- DISCONNECT
    pub disconnect_unanswered : x.event ≡ on_wish Disconnect → UnansweredAfter run k
    disconnect_unanswered e = leaves (by_disconnect e)

    -- OR A TIMER: T6, T7 or T8 that runs out.
    pub timer_unanswered : (t : Timer) → x.event ≡ on_timer t → Disconnects x.event → x.number ≡ 0 → UnansweredAfter run k
    timer_unanswered t e d n = leaves (by_closing d n)

    -- Nothing is left out: a data message that answers no received primary is an own primary, S9F9, or S9F1 about a received secondary.
    pub accounted : is_data x.send ≡ true → answered x v ≡ none → Unasked x.event x.send
    accounted = (sound_at run k x v sound p).speaks.accounts
