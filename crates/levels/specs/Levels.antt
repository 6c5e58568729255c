-- The items still awaited at each open level, as an array with a depth and as a stack of counts.
use Rattle.std.specs.Prelude.{ℕ, zero, suc, ◌+◌, ◌-◌, ◌≤◌, Bool, cond, ◌&&◌, ◌≡◌}
use Rattle.std.specs.Prelude.{List, [], ◌∷◌, ◌++◌, reverse, eqb, leb, ltb, length, get_or, set, drop, replicate}
use Rattle.levels.specs.declared.Levels.{Levels}

-- the first d counts, innermost first
unfoldable pub stack_of : List ℕ → ℕ → List ℕ
stack_of a zero = []
stack_of a (suc d) = get_or a d 0 ∷ stack_of a d

-- the counts of the open levels, innermost first
abbrev pub stack : Levels → List ℕ
stack l = stack_of l.awaited l.level

-- the sum of these counts
unfoldable pub total : List ℕ → ℕ
total [] = 0
total (n ∷ st) = n + total st

-- the items awaited at depth 16: the innermost of sixteen counts
unfoldable pub deepest : List ℕ → ℕ
deepest [] = 0
deepest (n ∷ st) = cond (eqb (length st) 15) n 0

-- the levels whose counts these are, with 0 above them
unfoldable pub levels_of : List ℕ → Levels
levels_of st = record { awaited = reverse st ++ replicate (16 - length st) 0; level = length st }

-- the innermost level awaits one item less
abbrev pub began : List ℕ → List ℕ
began [] = []
began (m ∷ st) = (m - 1) ∷ st

-- what is left of a stack without the innermost counts that are 0
unfoldable pub leaving : List ℕ → List ℕ
leaving [] = []
leaving (n ∷ st) = cond (eqb n 0) (leaving st) (n ∷ st)

-- the innermost of the first d levels whose count is not 0
unfoldable pub innermost : List ℕ → ℕ → ℕ
innermost a zero = 0
innermost a (suc d) = cond (eqb (get_or a d 0) 0) (innermost a d) (suc d)

-- whether there is an innermost level
abbrev pub is_open : Levels → Bool
is_open l = ltb 0 l.level && leb l.level 16

-- one item less is awaited at the innermost level, and never less than none
unfoldable pub begun_of : Levels → Levels
begun_of l =
    cond (is_open l)
    (record { awaited = set l.awaited (l.level - 1) (get_or l.awaited (l.level - 1) 0 - 1); level = l.level })
    l

-- a level that awaits v is opened inside, where there is room for it
unfoldable pub opened_of : Levels → ℕ → Levels
opened_of l v = cond (ltb l.level 16) (record { awaited = set l.awaited l.level v; level = l.level + 1 }) l

-- the innermost levels that await nothing are left
unfoldable pub closed_of : Levels → Levels
closed_of l = record { awaited = l.awaited; level = cond (leb l.level 16) (innermost l.awaited l.level) l.level }

-- the count of the innermost level
unfoldable pub top_of : Levels → ℕ
top_of l = cond (is_open l) (get_or l.awaited (l.level - 1) 0) 0

-- the items awaited at all open levels
abbrev pub sum_of : Levels → ℕ
sum_of l = total (stack l)

-- the items awaited at depth 16
abbrev pub deepest_of : Levels → ℕ
deepest_of l = deepest (stack l)

-- at most 16 levels are open, and every count above them is 0
unfoldable pub clean_of : Levels → Bool
clean_of l = leb l.level 16 && eqb (total (drop l.level l.awaited)) 0

-- what private functions ask of levels: they are those of a stack of at most 16 counts
pub record Clean (l : Levels) : Type 0 where
  pub is : l ≡ levels_of (stack l)
  pub few : l.level ≤ 16
