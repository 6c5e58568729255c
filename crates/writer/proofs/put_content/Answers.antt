-- What is still to be stored from here on makes the same output as all from the start.
use Prim.Native.Nat.{ℕ, suc, ◌+◌}
use mathlib.Core.Path.{◌≡◌, refl, sym, ap, ◌∙◌}
use mathlib.Core.Bool.{Bool, true, false, cond}
use mathlib.Core.List.{List, [], ◌∷◌, map}
use native.Mathlib.Omega.{arith}
use native.Mathlib.Numerals.{add-one}
use lib.Dec.{eqb}
use lib.ListN.{length, drop, length-set}
use lib.Seq.{sets, drop-cons, drop-length}
use Rattle.item.specs.Code.{BOOLEAN}
use Rattle.item.specs.Item.{truth, told}
use Rattle.writer.proofs.put_content.Goals as goal

-- byte by byte
told_cons : (c b : ℕ) (x : List ℕ) → told c (b ∷ x) ≡ cond (eqb c BOOLEAN) (truth b) b ∷ told c x
unfolding told
told_cons c b x = go (eqb c BOOLEAN)
  where
    go : (t : Bool) → cond t (map truth (b ∷ x)) (b ∷ x) ≡ cond t (truth b) b ∷ cond t (map truth x) x
    go true = refl
    go false = refl

told_none : (c : ℕ) → told c [] ≡ []
unfolding told
told_none c = go (eqb c BOOLEAN)
  where
    go : (t : Bool) → cond t (map truth []) [] ≡ []
    go true = refl
    go false = refl

pub loop-i-preserved : goal.loop-i-preserved
loop-i-preserved c =
    let l = c.loop-i in
    let a = c.args in
    let e : a.at + (l.i + 1) ≡ suc (a.at + l.i) = omega arith in
    let t = ap (told a.code) (drop-cons a.content.now l.i 0 (omega arith)) ∙ told_cons a.code _ _ in
    record {
      long = length-set l.out _ _ ∙ l.invariant.long;
      same = rw (c.lean_byte.ensures, e, add-one) (sym (ap (sets l.out (a.at + l.i)) t) ∙ l.invariant.same);
    }

pub returns : goal.returns
returns c =
    let l = c.loop-i in
    let a = c.args in
    let e : l.i ≡ length a.content.now = omega arith in
    let t = ap (told a.code) (ap (λ (k : ℕ). drop k a.content.now) e ∙ drop-length a.content.now) ∙ told_none a.code in
    sym (ap (sets l.out (a.at + l.i)) t) ∙ l.invariant.same
