-- The library's search comes to the first line end, or to the end where there is none.
use Prim.Native.Nat.{ℕ, suc, ◌+◌, ◌≤◌}
use mathlib.Core.Path.{◌≡◌, refl, sym, ◌∙◌}
use mathlib.Core.Bool.{Bool, true, false, cond}
use mathlib.Core.List.{List}
use native.Mathlib.Omega.{arith}
use borrow.Author.Tests.{ltb-false}
use lib.Dec.{ltb}
use Rattle.std.proofs.Common.{rules, tests, Some, None}
use Rattle.std.specs.List.{position_or_len}
use Rattle.std.proofs.lemmas.Iterator.{YieldsList-from_slice}
use Rattle.std.proofs.lemmas.Iterator.Search.{position_from_yields_List}
use Rattle.std.proofs.lemmas.List.Recursion.{is_position_or_len}
use Rattle.wire.specs.Search.{first_at}
use Rattle.wire.proofs.Search.{first_most}
use Rattle.records.specs.Fields.{ends}
use Rattle.records.proofs.first_end.Goals as goal

one_more : (b : Bool) (n : ℕ) → cond b 0 (suc n) ≡ cond b 0 (1 + n)
one_more true n = refl
one_more false n = omega arith

first_is : (l : List ℕ) → first_at ends l ≡ position_or_len ends l
unfolding first_at
first_is l = is_position_or_len (first_at ends) ends refl (λ x xs. one_more (ends x) (first_at ends xs)) l

-- what a search answers
found : (k n m : ℕ) → Some n ≡ cond (ltb k m) (Some k) None → n ≡ k
found k n m e = by (ltb k m) e
  where
    by : (b : Bool) → Some n ≡ cond b (Some k) None → n ≡ k
    by true p = cc
    by false p = cc

none_found : (k m : ℕ) → None ≡ cond (ltb k m) (Some k) None → m ≤ k
none_found k m e = by (ltb k m) refl e
  where
    by : (b : Bool) → ltb k m ≡ b → None ≡ cond b (Some k) None → m ≤ k
    by true t p = cc
    by false t p = ltb-false k m t

pub returns-in-Some-clause-place : goal.returns-in-Some-clause-place
returns-in-Some-clause-place c =
    let s = c.args.s.now in
    let r = position_from_yields_List ends _ _ c.position.result c.position.ensures.ran (YieldsList-from_slice s cc) (λ x b q k. search (rules, tests)) in
    found _ _ _ (sym c.in-Some.is ∙ r) ∙ sym (first_is s)

pub returns-in-None-clause-place : goal.returns-in-None-clause-place
returns-in-None-clause-place c =
    let s = c.args.s.now in
    let r = position_from_yields_List ends _ _ c.position.result c.position.ensures.ran (YieldsList-from_slice s cc) (λ x b q k. search (rules, tests)) in
    omega (arith, first_most ends s, first_is s, none_found _ _ (sym c.in-None.is ∙ r))
