-- The format byte is stored, and behind it the length in its fewest bytes: one run of stores.
use Prim.Native.Nat.{ℕ, suc, ◌+◌, ◌-◌, ◌*◌, ◌≤◌}
use mathlib.Core.Path.{◌≡◌, ap, ap₂, ◌∙◌}
use mathlib.Core.List.{List, ◌++◌}
use native.Mathlib.Numerals.{add-one}
use native.Mathlib.Omega.{arith}
use lib.ListN.{length, set, take, drop, length-set, length-take, length-drop}
use lib.Seq.{sets}
use Rattle.wire.specs.Number.{bytes_of}
use Rattle.wire.proofs.Numbers.{length_bytes}
use Rattle.wire.proofs.Stores.{part_sets}
use Rattle.item.specs.Item.{fewest, lean_header}
use Rattle.rows.proofs.Tables.{header_length}
use Rattle.writer.proofs.put_header.Goals as goal

header_put : (out : List ℕ) (at code n k : ℕ) (ys : List ℕ) → k ≡ fewest n → at + 1 + k ≤ length out
    → ys ≡ bytes_of (length (take (at + 1 + k - (at + 1)) (drop (at + 1) (set out at (code * 4 + k))))) n
    → take (at + 1) (set out at (code * 4 + k)) ++ (ys ++ drop (at + 1 + k - (at + 1)) (drop (at + 1) (set out at (code * 4 + k))))
    ≡ sets out at (lean_header code n)
header_put out at code n k ys e h d =
    let xs : List ℕ = set out at (code * 4 + k) in
    let w : length (take (at + 1 + k - (at + 1)) (drop (at + 1) xs)) ≡ k = simp (length-take, length-drop, length-set) (omega arith) in
    let g : ys ≡ bytes_of (fewest n) n = d ∙ ap (λ (j : ℕ). bytes_of j n) (w ∙ e) in
    let m : length ys ≡ at + 1 + k - (at + 1) = omega (arith, ap length g, length_bytes (fewest n) n, e) in
    let f : k ≡ length (bytes_of (fewest n) n) = omega (arith, length_bytes (fewest n) n, e) in
    part_sets xs ys (at + 1) (at + 1 + k - (at + 1)) m (simp length-set (omega arith))
    ∙ ap₂ (λ (i : ℕ) (zs : List ℕ). sets xs i zs) (add-one at) g
    ∙ ap (λ (j : ℕ). sets (set out at (code * 4 + j)) (suc at) (bytes_of (fewest n) n)) f

pub slice_bounds-put-end : goal.slice_bounds-put-end
slice_bounds-put-end c =
    let r = c.args.row in
    simp length-set (omega (arith, c.requires.room, header_length r.code r.length, c.length_bytes-count.ensures))

pub returns-clause-out : goal.returns-clause-out
returns-clause-out c =
    let a = c.args in
    let k = c.length_bytes-count in
    header_put a.out.now a.at a.row.code a.row.length k.result c.put.new.s k.ensures
    (omega (arith, c.requires.room, header_length a.row.code a.row.length, k.ensures)) (c.put.ensures ∙ ap (bytes_of _) c.from.ensures)
