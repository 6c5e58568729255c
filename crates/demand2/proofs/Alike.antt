-- Rows of a tree and rows of its meaning are of the same meaning, row by row: the two trees have the same shape.
use Prim.Native.Nat.{ℕ, suc}
use mathlib.Core.Path.{◌≡◌, refl, sym, ap, ◌∙◌}
use mathlib.Core.List.{List, [], ◌∷◌, ◌++◌}
use lib.ListN.{length}
use Rattle.item.specs.Item.{Item, Items, plain, list, none, more, Tree, empty, one, meaning, meanings, meaning_of}
use Rattle.item.proofs.Lean.{told_length, told_told, count_meanings}
use Rattle.rows.specs.Rows.{HasItem, HasAll, Has}
use Rattle.rows.specs.declared.Row.{Row}
use Rattle.rows.proofs.Tables.{part_length}
use Rattle.demand2.specs.Alike.{AllAlike}

module _ (s t : List ℕ) where
  alike_append : (u v u' v' : List Row) → AllAlike s u t u' → AllAlike s v t v' → AllAlike s (u ++ v) t (u' ++ v')
  alike_append [] v [] v' a b = b
  alike_append [] v (q ∷ u') v' a b = absurd a
  alike_append (r ∷ u) v [] v' a b = absurd a
  alike_append (r ∷ u) v (q ∷ u') v' (a, as') b = (a, alike_append u v u' v' as' b)

  both : (rs rs' qs qs' : List Row) → rs ≡ rs' → qs ≡ qs' → AllAlike s rs' t qs' → AllAlike s rs t qs
  both rs rs' qs qs' e f a = rw (e, f) a

  mutual
    unfolding meaning

    item_alike : (i : Item) (d : ℕ) (rs qs : List Row) → HasItem s d i rs → HasItem t d (meaning i) qs → AllAlike s rs t qs
    item_alike (plain c x) d rs qs (r, e, k, within, is, con, deep) (q, e', k', within', is', con', deep') =
        both rs (r ∷ []) qs (q ∷ []) e e' (
          record {
            code = k ∙ sym k';
            same_length = sym (ap length is ∙ part_length s r within) ∙ sym (told_length c x) ∙ ap length is' ∙ part_length t q within';
            content = λ _. rw (k, k', ← is, ← is') (sym (told_told c x));
          },
          tt,
        )
    item_alike (list is) d rs qs (r, ms, e, k, n, all, deep) (q, ms', e', k', n', all', deep') =
        both rs (r ∷ ms) qs (q ∷ ms') e e' (
          record { code = k ∙ sym k'; same_length = n ∙ sym (count_meanings is) ∙ sym n'; content = λ h. absurd (h k) },
          items_alike is (suc d) ms ms' all all',
        )

    items_alike : (is : Items) (d : ℕ) (rs qs : List Row) → HasAll s d is rs → HasAll t d (meanings is) qs → AllAlike s rs t qs
    items_alike none d rs qs e e' = both rs [] qs [] e e' tt
    items_alike (more i is) d rs qs (u, v, e, h, all) (u', v', e', h', all') =
        both rs (u ++ v) qs (u' ++ v') e e' (alike_append u v u' v' (item_alike i d u u' h h') (items_alike is d v v' all all'))

  pub tree_alike : (w : Tree) (rs qs : List Row) → Has s w rs → Has t (meaning_of w) qs → AllAlike s rs t qs
  tree_alike empty rs qs e e' = both rs [] qs [] e e' tt
  tree_alike (one i) rs qs h h' = item_alike i 1 rs qs h h'

  pub alike_many : (rs qs : List Row) → AllAlike s rs t qs → length rs ≡ length qs
  alike_many [] [] a = refl
  alike_many [] (q ∷ qs) a = absurd a
  alike_many (r ∷ rs) [] a = absurd a
  alike_many (r ∷ rs) (q ∷ qs) (a, as') = ap suc (alike_many rs qs as')
