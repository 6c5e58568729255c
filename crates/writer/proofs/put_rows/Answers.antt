-- The texts of the rows from here on, stored from here on, make the same output as all from place 0.
use Prim.Native.Nat.{ℕ, ◌+◌}
use mathlib.Core.Path.{◌≡◌, sym, ap, ap₂, ◌∙◌, subst}
use mathlib.Core.List.{List, ◌∷◌}
use native.Mathlib.Omega.{arith}
use lib.ListN.{length, length-append}
use lib.Seq.{sets, length-sets}
use Rattle.wire.proofs.Stores.{sets_append}
use Rattle.rows.specs.declared.Row.{Row}
use Rattle.wire.specs.Lists.{Each}
use Rattle.rows.specs.Row.{row_text, text_of}
use Rattle.writer.proofs.Judged.{rows_next, rows_done}
use Rattle.rows.specs.Asked.{Fits}
use Rattle.writer.proofs.put_rows.Goals as goal

turn : (s : List ℕ) {all rs : List Row} {r : Row} → all ≡ r ∷ rs → Each (Fits s) all
    → Fits s r × Each (Fits s) rs × (length (text_of s all) ≡ length (row_text s r) + length (text_of s rs))
unfolding text_of
turn s {rs = rs} {r = r} e f =
    let g = subst (Each (Fits s)) e f in
    (g.0, g.1, ap (λ (x : List Row). length (text_of s x)) e ∙ length-append (row_text s r) (text_of s rs))

stored : (out last s : List ℕ) (at to : ℕ) (r : Row) (rs all : List Row) → all ≡ r ∷ rs → last ≡ sets out at (row_text s r) → to ≡ at + length (row_text s r)
    → sets last to (text_of s rs) ≡ sets out at (text_of s all)
unfolding text_of
stored out last s at to r rs all e f g =
    ap₂ (λ (o : List ℕ) (k : ℕ). sets o k (text_of s rs)) f g ∙ sets_append out at (row_text s r) (text_of s rs)
    ∙ ap (λ (x : List Row). sets out at (text_of s x)) (sym e)

pub put_row-at-requires-clause-room : goal.put_row-at-requires-clause-room
put_row-at-requires-clause-room c =
    let l = c.loop-numbers in
    let t = turn c.args.content.now (rows_next c.args.rows.now l.numbers-index _ _ c.from.ensures (omega arith)) l.invariant.fits in
    omega (arith, t.2, l.invariant.room, l.invariant.long)

pub loop-numbers-preserved : goal.loop-numbers-preserved
loop-numbers-preserved c =
    let p = c.put_row-at in
    let l = c.loop-numbers in
    let s = c.args.content.now in
    let e = rows_next c.args.rows.now l.numbers-index _ _ c.from.ensures (omega arith) in
    let t = turn s e l.invariant.fits in
    record {
      long = ap length p.ensures.out ∙ length-sets l.out l.at (row_text s c.from.result) ∙ l.invariant.long;
      fits = t.1;
      room = omega (arith, t.2, l.invariant.room, p.ensures.behind);
      same = stored l.out _ s l.at _ c.from.result _ _ e p.ensures.out p.ensures.behind ∙ l.invariant.same;
    }

pub returns : goal.returns
unfolding text_of
returns c =
    let l = c.loop-numbers in
    let e = rows_done c.args.rows.now l.numbers-index (omega arith) in
    ap (λ (rs : List Row). sets l.out l.at (text_of c.args.content.now rs)) (sym e) ∙ l.invariant.same
