-- What is received, and what is sent: headers and their answers.
use Rattle.std.specs.Prelude.{ℕ, cond, eqb}
use Rattle.frame.specs.declared.Header.{Header}
use Rattle.message.specs.declared.Received.{Received}
use Rattle.message.specs.declared.Received.TheVariants.{Reject, OtherPType, OtherSType, SelectReq, SelectRsp, DeselectReq, DeselectRsp}
use Rattle.message.specs.declared.Received.TheVariants.{LinktestReq, LinktestRsp, SeparateReq, Data}
use Rattle.message.specs.declared.Text.TheVariants.{Empty}
use Rattle.message.specs.Send.{Send, Message}

-- ---- received: SType 7 first, then the PType, then the SType

abbrev pub typed : ℕ → Header → Received
typed k h =
    cond (eqb k 0) (Data h)
    (cond (eqb k 1) (SelectReq h)
    (cond (eqb k 2) (SelectRsp h)
    (cond (eqb k 3) (DeselectReq h)
    (cond (eqb k 4) (DeselectRsp h)
    (cond (eqb k 5) (LinktestReq h)
    (cond (eqb k 6) (LinktestRsp h)
    (cond (eqb k 9) (SeparateReq h)
    (OtherSType h))))))))

unfoldable pub received_of : Header → Received
received_of h = cond (eqb h.stype 7) (Reject h) (cond (eqb h.ptype 0) (typed h.stype h) (OtherPType h))

-- ---- sent: session ID and system bytes as those of the message that is answered; header bytes not named are 00

abbrev pub control : ℕ → ℕ → ℕ → ℕ → ℕ → Send
control session system byte2 byte3 stype =
    Message (record { session = session; byte2 = byte2; byte3 = byte3; ptype = 0; stype = stype; system = system }) Empty

-- a response: status in byte 3
abbrev pub response : Header → ℕ → ℕ → Send
response h stype status = control h.session h.system 0 status stype

-- for reason 2 (PType not supported) byte 2 of the Reject carries the PType of the rejected message, and only otherwise its SType; the reason is byte 3
abbrev pub reject : Header → ℕ → Send
reject h reason = control h.session h.system (cond (eqb reason 2) h.ptype h.stype) reason 7
