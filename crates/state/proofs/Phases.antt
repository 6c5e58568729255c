-- Not connected is not selected, by the three phases; so selected is connected.
use mathlib.Core.Bool.{Bool, true, false, false≢true}
use mathlib.Core.Path.{◌≡◌, refl, sym, ◌∙◌}
use Rattle.state.specs.State.{is_connected, is_selected}
use Rattle.state.specs.declared.Phase.{Phase}
use Rattle.state.specs.declared.Phase.TheVariants.{NotConnected, NotSelected, Selected}

pub unselected : (p : Phase) → is_connected p ≡ false → is_selected p ≡ false
unselected NotConnected e = refl
unselected NotSelected e = refl
unselected Selected e = absurd (false≢true (sym e))

pub selected_connected : (p : Phase) → is_selected p ≡ true → is_connected p ≡ true
selected_connected p e = go (is_connected p) refl
  where
    go : (b : Bool) → is_connected p ≡ b → b ≡ true
    go true h = refl
    go false h = absurd (false≢true (sym (unselected p h) ∙ e))

-- connected and not selected is the phase of that name
pub connected_unselected : (p : Phase) → is_connected p ≡ true → is_selected p ≡ false → p ≡ NotSelected
connected_unselected NotConnected c z = absurd (false≢true c)
connected_unselected NotSelected c z = refl
connected_unselected Selected c z = absurd (false≢true (sym z))

pub selected_is : (p : Phase) → is_selected p ≡ true → p ≡ Selected
selected_is NotConnected z = absurd (false≢true z)
selected_is NotSelected z = absurd (false≢true z)
selected_is Selected z = refl

pub unconnected_is : (p : Phase) → is_connected p ≡ false → p ≡ NotConnected
unconnected_is NotConnected c = refl
unconnected_is NotSelected c = absurd (false≢true (sym c))
unconnected_is Selected c = absurd (false≢true (sym c))
