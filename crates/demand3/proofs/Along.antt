-- Along a prefix the reader stands where exactly the texts of the form, of N bytes, that begin so may follow, or has fallen at the first prefix that none
-- begins with.
use Prim.Native.Nat.{ℕ, ◌+◌, ◌≤◌, ◌<◌}
use mathlib.Core.Path.{◌≡◌, refl, sym, ap, ap₂, subst, ◌∙◌}
use mathlib.Core.Bool.{Bool, true, false, cond}
use mathlib.Core.List.{List, [], ◌∷◌, ◌++◌, append_assoc, append-nil}
use mathlib.Core.Logic.{◌⊎◌, inl, inr}
use native.Mathlib.Omega.{arith}
use lib.Dec.{eqb, ltb}
use lib.ListN.{length, get_or, length-append}
use lib.Seq.{get_or_at}
use borrow.Author.Tests.{eqb-true, eqb-false, ltb-true, ltb-false}
use Rattle.wire.specs.Longest.{longest}
use Rattle.item.specs.Item.{none, more, Tree, empty, one, Says, Formed}
use Rattle.item.specs.declared.Form.{Form}
use Rattle.follow.proofs.Sizes.{item_size}
use Rattle.follow.proofs.Exist.{two_at_least}
use Rattle.reader.specs.State.{State, state, refused, fresh}
use Rattle.reader.specs.Step.{step}
use Rattle.reader.specs.Feed.{status}
use Rattle.reader.specs.Place.{Role, content_byte, number_at}
use Rattle.reader.proofs.Rest.{RestAt, Rest, LiveAt, Live}
use Rattle.reader.specs.declared.Phase.{Phase}
use Rattle.reader.specs.declared.Phase.TheVariants.{Format}
use Rattle.reader.specs.Answer.{More}
use Rattle.reader.proofs.Right.{Out, goes, ends, Right, role_in, step_right}
use Rattle.reader.proofs.Eats.{more_left}
use Rattle.reader.proofs.Fresh.{one_live}
use Rattle.demand3.specs.Roles.{roles_of}
use Rattle.demand3.specs.Begins.{Begins, NumberBehind}
use Rattle.demand3.proofs.Walk.{taken, Naive, there, gone, step_there, text_taken}

-- what is known of a live state after q
pub record Stands (f : Form) (n : ℕ) (q : List ℕ) (s : State) : Type 0 where
  pub live : Live s
  pub form : s.form ≡ f
  pub size : s.size ≡ n
  pub read : s.read ≡ length q
  pub into : (t : List ℕ) → Formed f (q ++ t) → length (q ++ t) ≡ n → Rest s t
  pub from : (t : List ℕ) → Rest s t → Formed f (q ++ t) × (length (q ++ t) ≡ n)
  pub roles : List Role
  pub many : length roles ≡ length q
  pub takes : (t : List ℕ) → taken (Format, 1 ∷ []) (q ++ t) ≡ roles ++ taken (s.phase, s.stack) t

pub data Along (f : Form) (n : ℕ) (q : List ℕ) (s : State) : Type 0 where
  nothing : n ≡ 0 → q ≡ [] → s ≡ state f n 0 [] Format → Along f n q s
  never : q ≡ [] → s ≡ refused f n 5 → (Begins f n [] → ⊥) → Along f n q s
  stands : Stands f n q s → Along f n q s
  falls : (q₁ : List ℕ) (b e : ℕ) → q ≡ q₁ ++ (b ∷ []) → length q₁ < n → Begins f n q₁ → (Begins f n q → ⊥)
      → NumberBehind f n q₁ b e → 1 ≤ e → e ≤ 6 → s ≡ refused f n e → Along f n q s

-- ---- before any byte

-- what follows in a reader that awaits one item is a text of the form, of n bytes
start_formed : (f : Form) (n : ℕ) (t : List ℕ) → n ≤ longest → Rest (state f n 0 (1 ∷ []) Format) t → Formed f t × (length t ≡ n)
start_formed f n t m (q, (u, v, e, (none, c, s), w)) = absurd (omega arith)
start_formed f n t m (q, (u, v, e, (more i none, c, (x, y, e₁, s, z)), w)) =
    let g : t ≡ x = e ∙ ap (λ (k : List ℕ). u ++ k) w ∙ append-nil u ∙ e₁ ∙ ap (λ (k : List ℕ). x ++ k) z ∙ append-nil x in
    ((one i, (rw g s, omega arith)), omega arith)
start_formed f n t m (q, (u, v, e, (more i (more j is), c, s), w)) = absurd (omega arith)

formed_start : (f : Form) (n : ℕ) (t : List ℕ) → 2 ≤ n → Formed f t → length t ≡ n → Rest (state f n 0 (1 ∷ []) Format) t
formed_start f n t h (empty, e) q = absurd (omega (arith, ap length e))
formed_start f n t h (one i, (s, m)) q =
    (omega arith, (t, [], sym (append-nil t), (more i none, refl, (t, [], sym (append-nil t), s, refl)), refl))

start_stands : (f : Form) (n : ℕ) → 2 ≤ n → n ≤ longest → Stands f n [] (state f n 0 (1 ∷ []) Format)
start_stands f n h m =
    record {
      live = one_live f n h m;
      form = refl;
      size = refl;
      read = refl;
      into = λ u g l. formed_start f n u h g l;
      from = λ u r. start_formed f n u m r;
      roles = [];
      many = refl;
      takes = λ u. refl;
    }

-- no text has one byte, or more than 32,000
no_text : (f : Form) (n : ℕ) → (n ≡ 1) ⊎ (longest < n) → Begins f n [] → ⊥
no_text f n (inl z) (t, (empty, e), q) = omega (arith, ap length e)
no_text f n (inl z) (t, (one i, (s, m)), q) = omega (arith, item_size f 1 i t s)
no_text f n (inr z) (t, (empty, e), q) = omega (arith, ap length e)
no_text f n (inr z) (t, (one i, (s, m)), q) = omega arith

pub along_fresh : (f : Form) (n : ℕ) → Along f n [] (fresh f n)
unfolding fresh
along_fresh f n = go (eqb n 0) refl (eqb n 1) refl (ltb longest n) refl
  where
    go : (x : Bool) → eqb n 0 ≡ x → (y : Bool) → eqb n 1 ≡ y → (z : Bool) → ltb longest n ≡ z
        → Along f n [] (cond x (state f n 0 [] Format) (cond y (refused f n 5) (cond z (refused f n 5) (state f n 0 (1 ∷ []) Format))))
    go true a y b z c = nothing (eqb-true n 0 a) refl refl
    go false a true b z c = never refl refl (no_text f n (inl (eqb-true n 1 b)))
    go false a false b true c = never refl refl (no_text f n (inr (ltb-true longest n c)))
    go false a false b false c = stands (start_stands f n (two_at_least n (eqb-false n 0 a) (eqb-false n 1 b)) (ltb-false longest n c))

-- ---- one byte more

-- a live state is where the reader without tests is
pub where_to : {a : Phase × List ℕ} (s : State) → Live s → Naive a s → a ≡ (s.phase, s.stack)
where_to s l (there e) = sym e
where_to s l (gone g m x e) = absurd (subst (λ (y : State). LiveAt y.phase y.stack) e l.at)

-- the role of the next byte in a text of the form that begins with q
next_role : (f : Form) (n : ℕ) (q : List ℕ) (s : State) → Stands f n q s → (t : List ℕ) (w : Tree) (g : Says f w (q ++ t)) → length (q ++ t) ≡ n
    → 0 < length t → role_in s.phase (length s.stack) ≡ get_or (roles_of f w (q ++ t) g) (length q) content_byte
next_role f n q s st [] w g l h = absurd (omega arith)
next_role f n q s st (x ∷ y) empty g l h = absurd (omega (arith, ap length g, length-append q (x ∷ y)))
next_role f n q s st (x ∷ y) (one i) g l h =
    sym
    (ap (λ (rs : List Role). get_or rs (length q) content_byte) (sym (text_taken f i (q ++ (x ∷ y)) g.0) ∙ st.takes (x ∷ y))
    ∙ get_or_at st.roles (role_in s.phase (length s.stack)) _ content_byte (length q) st.many)

module _ (f : Form) (n : ℕ) (q : List ℕ) (s : State) (b : ℕ) (st : Stands f n q s) (more : status s ≡ More) (byte : b ≤ 255) where
  right : Right s.form s.size (s.read + 1) (number_at (role_in s.phase (length s.stack)) b)
      (λ u. RestAt s.form s.phase s.stack (b ∷ u)) (step s b)
  right = step_right s b st.live (more_left s st.live more) byte

  split : (t : List ℕ) → (q ++ (b ∷ [])) ++ t ≡ q ++ (b ∷ t)
  split t = append_assoc q (b ∷ []) t

  goes_into : (t : List ℕ) → Formed f ((q ++ (b ∷ [])) ++ t) → length ((q ++ (b ∷ [])) ++ t) ≡ n → Rest (step s b) t
  goes_into t g l =
      let w = st.into (b ∷ t) (subst (Formed f) (split t) g) (ap length (sym (split t)) ∙ l) in
      right.into t (omega (arith, w.0)) w.1

  pub along_step : Along f n (q ++ (b ∷ [])) (step s b)
  along_step = go right.out
    where
      go : Out s.form s.size (s.read + 1) (number_at (role_in s.phase (length s.stack)) b) (step s b) → Along f n (q ++ (b ∷ [])) (step s b)
      go (goes l y z k) =
          stands
          (record {
            live = l;
            form = y ∙ st.form;
            size = z ∙ st.size;
            read = k ∙ omega (arith, st.read, length-append q (b ∷ []));
            into = goes_into;
            from = λ t w.
                let h = right.from t w in
                let less = more_left s st.live more in
                let r = st.from (b ∷ t) (omega (arith, h.0), h.1) in
                (subst (Formed f) (sym (split t)) r.0, ap length (split t) ∙ r.1);
            roles = st.roles ++ (role_in s.phase (length s.stack) ∷ []);
            many = length-append st.roles (role_in s.phase (length s.stack) ∷ []) ∙ omega (arith, st.many, length-append q (b ∷ []));
            takes = λ t.
                ap (taken (Format, 1 ∷ [])) (split t)
                ∙ st.takes (b ∷ t)
                ∙ ap (λ a. st.roles ++ (role_in s.phase (length s.stack) ∷ taken a t)) (where_to (step s b) l (step_there s b))
                ∙ sym (append_assoc st.roles (role_in s.phase (length s.stack) ∷ []) (taken ((step s b).phase, (step s b).stack) t));
          })
      go (ends h k e) =
          falls q b (number_at (role_in s.phase (length s.stack)) b) refl (omega (arith, more_left s st.live more, st.size, st.read)) viable no_more
          (record { says = λ t w g l p. ap (λ (ρ : Role). number_at ρ b) (next_role f n q s st t w g l p) })
          h k (e ∙ ap₂ (λ (g : Form) (x : ℕ). refused g x (number_at (role_in s.phase (length s.stack)) b)) st.form st.size)
        where
          viable : Begins f n q
          viable = let (t, w) = st.live.follows in let r = st.from t w in (t, r.0, r.1)

          no_more : Begins f n (q ++ (b ∷ [])) → ⊥
          no_more (t, g, l) = subst (λ (y : State). RestAt y.form y.phase y.stack t) e (goes_into t g l).1
