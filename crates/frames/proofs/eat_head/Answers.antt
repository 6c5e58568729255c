-- A turn of the loop is a step of the definition.
use Prim.Native.Nat.{ℕ}
use Rattle.std.specs.Prelude.{Option, Ok}
use Rattle.frame.specs.declared.Header.{Header}
use mathlib.Core.Path.{◌≡◌, refl, sym, ap, ap₂, ◌∙◌}
use native.Mathlib.Omega.{arith}
use lib.ListN.{length}
use Rattle.frames.specs.Event as E
use Rattle.frames.specs.Event.{Fed, More, fed_in, pushed_in}
use Rattle.frames.specs.declared.FrameReader.{FrameReader}
use Rattle.frames.proofs.Held.{bytes_in}
use Rattle.frames.proofs.Eats.{turned, eat_end}
use Rattle.frames.proofs.eat_head.Goals as goal

header_more : {h : Header} {n : ℕ} → E.Header h n ≡ E.More → ⊥
header_more e = absurd (cc)

refused_more : {n : ℕ} → E.Refusal n ≡ E.More → ⊥
refused_more e = absurd (cc)

pub loop-i-preserved : goal.loop-i-preserved
loop-i-preserved c =
    let l = c.loop-i in
    let w = c.in-Ok-default-None in
    let is = ap pushed_in (w.is ∙ ap (λ (o : Option (Header × ℕ)). Ok (w.reader, o)) w.field-0-1-is) in
    let t = turned _ _ l.state l.i _ (omega arith) l.invariant.0 l.invariant.1 (sym is ∙ c.push.ensures) in
    (t.held refl, t.again refl)

pub returns-in-Ok-default-Some : goal.returns-in-Ok-default-Some
returns-in-Ok-default-Some c =
    let l = c.loop-i in
    let w = c.in-Ok-default-Some in
    let is = ap pushed_in (w.is ∙ ap (λ (o : Option (Header × ℕ)). Ok (w.reader, o)) w.field-0-1-is) in
    let t = turned _ _ l.state l.i _ (omega arith) l.invariant.0 l.invariant.1 (sym is ∙ c.push.ensures) in
    sym (t.over header_more)

pub returns-in-Err : goal.returns-in-Err
returns-in-Err c =
    let l = c.loop-i in
    let t = turned _ _ l.state l.i _ (omega arith) l.invariant.0 l.invariant.1 c.in-Err.ensures in
    c.refused.ensures ∙ sym (t.over refused_more)

pub returns : goal.returns
returns c =
    let l = c.loop-i in
    let p = c.args.piece.now in
    let e : l.i ≡ length p = omega arith in
    sym
    (l.invariant.1
    ∙ eat_end (bytes_in l.state) l.i l.i p (omega arith)
    ∙ ap₂ (λ (k : ℕ) (r : FrameReader). record { event = More; consumed = k; reader = r }) e (sym l.invariant.0.is))
