-- What was handed to standard output, or to a formatter, by its parts.
use Rattle.std.proofs.Common.{◌≡◌, ℕ, List, ◌++◌, Result, OnOk, sym, ap, subst, ◌∙◌}
use Rattle.std.specs.declared.fmt.Formatter.{Formatter}
use Rattle.std.specs.Fmt.{WritesInCalls, HasWritten, IsPlainFormatter}
use Rattle.std.proofs.lemmas.Grind.{put_two}
use Rattle.std.proofs.lemmas.Result.{on_ok_weaker}
use Rattle.driver.specs.declared.stdout.Stdout.{Stdout}
use Rattle.driver.proofs.Fields.{wrote}

pub printed :
    {A E : Type 0} {bs cs : List ℕ} (r : Result A E) (w v : Stdout) → bs ≡ cs
    → OnOk r (WritesInCalls (λ s l t. t.said ≡ s.said ++ l) w bs v) → OnOk r (v.said ≡ w.said ++ cs)
printed r w v e p = on_ok_weaker r (λ q. wrote w v _ q ∙ ap (λ (l : List ℕ). w.said ++ l) e) p

-- a formatter that has written a text, and then perhaps another
module _ {W : Type 0} {took : W → List ℕ → W → Type 0} {f g i : Formatter W} {a all : List ℕ} (p : HasWritten took f a g) where
  pub more : {h : Formatter W} {b : List ℕ} → (IsPlainFormatter g → HasWritten took g b h) → i ≡ h → a ++ b ≡ all → HasWritten took f all i
  more {h = h} {b = b} q e w = subst (λ (x : Formatter W). HasWritten took f all x) (sym e) (put_two took f g h a b all p (q p.plain) w)

  pub no_more : i ≡ g → a ≡ all → HasWritten took f all i
  no_more e w = subst (λ (x : Formatter W). HasWritten took f all x) (sym e) (subst (λ (x : List ℕ). HasWritten took f x g) w p)
