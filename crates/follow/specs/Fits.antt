-- The tests that tell whether anything may follow, from the bytes left and the levels. That they tell it exactly is proved beside them.
use Rattle.std.specs.Prelude.{ℕ, ◌+◌, ◌*◌, ◌-◌, ◌^◌, Bool, true, false, cond, not, List, eqb, leb, ltb, length}
use Rattle.item.specs.Code.{L, allowed}
use Rattle.item.specs.declared.Form.{Form}
use Rattle.item.specs.declared.Form.TheVariants.{Good as good, Lean as lean}
use Rattle.levels.specs.Levels.{total, deepest}

-- one item is awaited in all, and its depth is 16
unfoldable pub alone_at16 : List ℕ → Bool
alone_at16 st = cond (eqb (total st) 1) (eqb (deepest st) 1) false

-- in lean form no item without members is 258 bytes long, and at depth 16 none has members
unfoldable pub gap : Form → ℕ → List ℕ → Bool
gap good n st = false
gap lean n st = cond (eqb n 258) (alone_at16 st) false

-- what the levels await, and nothing else, may fill exactly n bytes: at least two bytes an item, and not the gap; with none awaited none may be left
unfoldable pub fits_items : Form → ℕ → List ℕ → Bool
fits_items f n st = cond (eqb (total st) 0) (eqb n 0) (cond (gap f n st) false (leb (2 * total st) n))

-- length bytes that say v may have more behind them: in lean form the first of several is not 00
unfoldable pub leads : Form → ℕ → Bool
leads good v = true
leads lean v = ltb 0 v

-- the lowest length that j ≥ 1 more bytes may say behind those that say v. Where v leads none, which is 0 in lean form, no length byte stands before them,
-- and of several the first is not 00
unfoldable pub lowest : Form → ℕ → ℕ → ℕ
lowest f j v = cond (leads f v) (v * 256 ^ j) (cond (leb j 1) 0 (256 ^ (j - 1)))

-- n bytes hold k members or more and m items, two bytes each; where both are none, members may fill any number of bytes but one
unfoldable pub holds_members : ℕ → ℕ → ℕ → Bool
holds_members n m k = cond (eqb (m + k) 0) (not (eqb n 1)) (leb (2 * (m + k)) n)

-- n bytes are left for j ≥ 1 more length bytes, behind those that say v, of a list at the innermost level, for its members and for what the levels await
unfoldable pub fits_list : Form → ℕ → List ℕ → ℕ → ℕ → Bool
fits_list f n st j v =
    cond (leb j n)
    (cond (eqb (length st) 16)
    (cond (eqb (lowest f j v) 0) (fits_items f (n - j) st) false)
    (holds_members (n - j) (total st) (lowest f j v)))
    false

-- the same for an item of another code, and its content
unfoldable pub fits_plain : Form → ℕ → ℕ → List ℕ → ℕ → ℕ → Bool
fits_plain f c n st j v =
    cond (leb (j + lowest f j v + 2 * total st) n)
    (cond (eqb (total st) 0) (cond (ltb (n - j) (v * 256 ^ j + 256 ^ j)) (allowed c (n - j)) false) true)
    false

unfoldable pub fits_lengths : Form → ℕ → ℕ → List ℕ → ℕ → ℕ → Bool
fits_lengths f c n st j v = cond (eqb c L) (fits_list f n st j v) (fits_plain f c n st j v)
