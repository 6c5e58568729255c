-- The header is stored, and behind it the content that the row names, if it is no list's: one run of stores.
use Prim.Native.Nat.{ℕ, ◌+◌, ◌-◌}
use mathlib.Core.Path.{◌≡◌, sym, ap, ap₂, ◌∙◌}
use mathlib.Core.List.{List}
use native.Mathlib.Omega.{arith}
use lib.ListN.{length, take, drop}
use lib.Seq.{sets, length-sets}
use Rattle.wire.proofs.Stores.{sets_append}
use Rattle.item.specs.Code.{L}
use Rattle.item.specs.Item.{told, lean_header}
use Rattle.rows.specs.declared.Row.{Row}
use Rattle.rows.specs.Row.{part_at, row_text}
use Rattle.rows.proofs.Tables.{list_text, plain_text, part_between, part_length, header_within, plain_length}
use Rattle.writer.proofs.put_row.Goals as goal

plain_put : (out mid last s : List ℕ) (at body : ℕ) (r : Row) → (r.code ≡ L → ⊥) → mid ≡ sets out at (lean_header r.code r.length)
    → body ≡ at + length (lean_header r.code r.length)
    → last ≡ sets mid body (told r.code (take (r.place + r.length - r.place) (drop r.place s)))
    → last ≡ sets out at (row_text s r)
plain_put out mid last s at body r n e f d =
    d ∙ ap (λ (x : List ℕ). sets mid body (told r.code x)) (part_between s r)
    ∙ ap₂ (λ (o : List ℕ) (k : ℕ). sets o k (told r.code (part_at s r))) e f
    ∙ sets_append out at (lean_header r.code r.length) (told r.code (part_at s r)) ∙ ap (sets out at) (sym (plain_text s r n))

pub put_header-body-requires-clause-room : goal.put_header-body-requires-clause-room
put_header-body-requires-clause-room c = omega (arith, c.requires.room, header_within c.args.content.now c.args.row)

pub returns-then-row-eq-L-clause-out : goal.returns-then-row-eq-L-clause-out
returns-then-row-eq-L-clause-out c =
    let a = c.args in
    c.put_header-body.ensures.out ∙ ap (sets a.out.now a.at) (sym (list_text a.content.now a.row c.if-row-eq-L.true))

pub returns-then-row-eq-L-clause-behind : goal.returns-then-row-eq-L-clause-behind
returns-then-row-eq-L-clause-behind c =
    let a = c.args in
    c.put_header-body.ensures.behind ∙ ap (λ (x : List ℕ). a.at + length x) (sym (list_text a.content.now a.row c.if-row-eq-L.true))

pub put_content-requires : goal.put_content-requires
put_content-requires c =
    let p = c.put_header-body in
    let a = c.args in
    let within = c.requires.fits.within c.if-row-eq-L.false in
    let o : length p.new.out ≡ length a.out.now = ap length p.ensures.out ∙ length-sets a.out.now a.at (lean_header a.row.code a.row.length) in
    let n = ap length (part_between a.content.now a.row) ∙ part_length a.content.now a.row within in
    omega (arith, plain_length a.content.now a.row c.if-row-eq-L.false within, n, o, p.ensures.behind, c.requires.room)

pub overflow_add-result : goal.overflow_add-result
overflow_add-result c =
    let a = c.args in
    let long = plain_length a.content.now a.row c.if-row-eq-L.false (c.requires.fits.within c.if-row-eq-L.false) in
    omega (arith, long, c.put_header-body.ensures.behind, c.requires.room)

pub returns-clause-out : goal.returns-clause-out
returns-clause-out c =
    let p = c.put_header-body in
    let a = c.args in
    plain_put a.out.now p.new.out _ a.content.now a.at _ a.row c.if-row-eq-L.false p.ensures.out p.ensures.behind c.put_content.ensures

pub returns-clause-behind : goal.returns-clause-behind
returns-clause-behind c =
    let a = c.args in
    let long = plain_length a.content.now a.row c.if-row-eq-L.false (c.requires.fits.within c.if-row-eq-L.false) in
    omega (arith, long, c.put_header-body.ensures.behind)
