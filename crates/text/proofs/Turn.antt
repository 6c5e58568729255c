-- A turn of the walk: behind a row's own bytes stands the next format byte, or the text ends there.
use Prim.Native.Nat.{ℕ, zero, suc, ◌+◌, ◌-◌, ◌%◌, ◌≤◌, ◌<◌}
use mathlib.Core.Path.{◌≡◌, sym, ap, ap₂, subst, ◌∙◌}
use mathlib.Core.List.{List, [], ◌∷◌}
use native.Mathlib.Omega.{arith}
use lib.ListN.{length, get_or, drop, length-drop, drop_of_length-le}
use lib.Seq.{drop-cons, drop-drop}
use Rattle.rows.specs.Row.{content_size}
use Rattle.rows.specs.Rows.{row_at, own_bytes, rows_from}
use Rattle.rows.specs.Asked.{Ends}
use Rattle.rows.specs.declared.Row.{Row}

-- the bytes still to pass are there, and the walk goes on behind them
record Left (k : ℕ) (u : List ℕ) : Type 0 where
  within : k ≤ length u
  ends : Ends 0 (drop k u)
  rows : (p : ℕ) → rows_from p k u ≡ rows_from (p + k) 0 (drop k u)

left : (k : ℕ) (u : List ℕ) → Ends k u → Left k u
unfolding rows_from Ends
left zero u e = record { within = omega arith; ends = e; rows = λ p. let z : p ≡ p + 0 = omega arith in ap (λ (q : ℕ). rows_from q 0 u) z }
left (suc k) [] e = absurd e
left (suc k) (b ∷ u) e =
    let l = left k u e in
    record {
      within = omega (arith, l.within);
      ends = l.ends;
      rows = λ p. let z : suc p + k ≡ p + suc k = omega arith in l.rows (suc p) ∙ ap (λ (q : ℕ). rows_from q 0 (drop k u)) z;
    }

-- the row at place p, and the place q behind its own bytes
pub record Turn (t : List ℕ) (p : ℕ) (r : Row) (q : ℕ) : Type 0 where
  pub header : p + 1 + get_or t p 0 % 4 ≤ length t
  pub on : p < q
  pub within : q ≤ length t
  pub ends : Ends 0 (drop q t)
  pub rows : rows_from p 0 (drop p t) ≡ r ∷ rows_from q 0 (drop q t)

pub turn : (t : List ℕ) (p : ℕ) (r : Row) (q : ℕ) → p < length t → Ends 0 (drop p t) → r ≡ row_at p (get_or t p 0) (drop (p + 1) t)
    → q ≡ r.place + content_size r.code r.length → Turn t p r q
unfolding rows_from Ends
turn t p r q h e is at =
    let b = get_or t p 0 in
    let u = drop (suc p) t in
    let k = own_bytes b u in
    let d : drop p t ≡ b ∷ u = drop-cons t p 0 h in
    let l = left k u (subst (Ends 0) d e) in
    let n : length u ≡ length t - suc p = length-drop (suc p) t in
    let one : p + 1 ≡ suc p = omega arith in
    let r' : r ≡ row_at p b u = is ∙ ap (λ (i : ℕ). row_at p b (drop i t)) one in
    let z : q ≡ suc p + k = at ∙ ap (λ (x : Row). x.place + content_size x.code x.length) r' ∙ omega arith in
    let j : drop k u ≡ drop q t = drop-drop k (suc p) t ∙ ap (λ (i : ℕ). drop i t) (sym z) in
    record {
      header = omega (arith, l.within);
      on = omega arith;
      within = omega (arith, l.within);
      ends = subst (Ends 0) j l.ends;
      rows = ap (rows_from p 0) d ∙ ap₂ (λ (x : Row) (xs : List Row). x ∷ xs) (sym r') (l.rows (suc p) ∙ ap₂ (λ (i : ℕ) (x : List ℕ). rows_from i 0 x) (sym z) j);
    }

pub rows_end : (t : List ℕ) (p : ℕ) → length t ≤ p → rows_from p 0 (drop p t) ≡ []
unfolding rows_from
rows_end t p h = ap (rows_from p 0) (drop_of_length-le t h)
