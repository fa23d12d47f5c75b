-- A counted loop and `iter`. Assumes nothing.
use mathlib.Core.Path.{◌≡◌, refl, ap, ◌∙◌, sym, subst}
use Prim.Native.Nat.{ℕ, zero, suc, ◌+◌, ◌-◌, ◌≤◌, ◌<◌}
use native.Mathlib.Numerals.{add-one}
use native.Mathlib.Omega.{arith}
use mathlib.Core.Bool.{Bool, true, false}
use Rattle.registers.specs.Reg.{iter, until}

-- no step yet
pub iter_none : {A : Type 0} (f : A → A) (x : A) → x ≡ iter f 0 x
unfolding iter
iter_none f x = refl

-- one step more
pub iter_next : {A : Type 0} (f : A → A) (i : ℕ) (x₀ : A) {x y : A} → x ≡ iter f i x₀ → y ≡ f x → y ≡ iter f (i + 1) x₀
unfolding iter
iter_next f i x₀ e g = rw add-one (g ∙ ap f e)

-- ---- a loop that a test ends
-- where the test holds, nothing is done, whatever the bound
pub until_stop : {A : Type 0} (p : A → Bool) (f : A → A) (n : ℕ) (x : A) → p x ≡ true → until p f n x ≡ x
unfolding until
until_stop p f zero x h = refl
until_stop p f (suc n) x h = rw (h, until) refl

-- one step
pub until_go : {A : Type 0} (p : A → Bool) (f : A → A) (n : ℕ) (x : A) → p x ≡ false → until p f (suc n) x ≡ until p f n (f x)
unfolding until
until_go p f n x h = rw (h, until) refl

-- the same loop on another representation of the state
pub until_map : {A B : Type 0} (p : A → Bool) (f : A → A) (q : B → Bool) (g : B → B) (m : A → B)
    → ((x : A) → q (m x) ≡ p x) → ((x : A) → g (m x) ≡ m (f x)) → (n : ℕ) (x : A) → until q g n (m x) ≡ m (until p f n x)
unfolding until
until_map p f q g m hp hf zero x = refl
until_map p f q g m hp hf (suc n) x = go (p x) refl (until_map p f q g m hp hf n (f x))
  where
    go : (b : Bool) → p x ≡ b → until q g n (m (f x)) ≡ m (until p f n (f x)) → until q g (suc n) (m x) ≡ m (until p f (suc n) x)
    go true e ih = until_stop q g (suc n) (m x) (hp x ∙ e) ∙ ap m (sym (until_stop p f (suc n) x e))
    go false e ih = until_go q g n (m x) (hp x ∙ e) ∙ ap (until q g n) (hf x) ∙ ih ∙ ap m (sym (until_go p f n x e))

-- step i of a loop with the bound k
pub until_next : {A : Type 0} (p : A → Bool) (f : A → A) (k i : ℕ) (x : A) → i < k → p x ≡ false → until p f (k - i) x ≡ until p f (k - (i + 1)) (f x)
until_next p f k i x h e =
    let s : k - i ≡ suc (k - (i + 1)) = omega arith in
    ap (λ (n : ℕ). until p f n x) s ∙ until_go p f (k - (i + 1)) x e

-- what each step keeps
pub until_keep : {A : Type 0} (p : A → Bool) (f : A → A) (I : A → Type 0) → ((x : A) → p x ≡ false → I x → I (f x)) → (n : ℕ) (x : A) → I x → I (until p f n x)
unfolding until
until_keep p f I h zero x i = i
until_keep p f I h (suc n) x i = go (p x) refl (until_keep p f I h n (f x))
  where
    go : (b : Bool) → p x ≡ b → (I (f x) → I (until p f n (f x))) → I (until p f (suc n) x)
    go true e ih = subst I (sym (until_stop p f (suc n) x e)) i
    go false e ih = subst I (sym (until_go p f n x e)) (ih (h x e i))

-- no step is left
pub until_out : {A : Type 0} (p : A → Bool) (f : A → A) (k i : ℕ) (x : A) → k ≤ i → until p f (k - i) x ≡ x
unfolding until
until_out p f k i x h = let e : k - i ≡ 0 = omega arith in ap (λ (n : ℕ). until p f n x) e

-- The bound suffices: an invariant of the steps done which, after k of them, has the test hold.
pub until_ends : {A : Type 0} (p : A → Bool) (f : A → A) (I : ℕ → A → Type 0) (k : ℕ)
    → ((x : A) → I k x → p x ≡ true) → ((i : ℕ) (x : A) → I i x → p x ≡ false → I (i + 1) (f x))
    → (n i : ℕ) (x : A) → i + n ≡ k → I i x → p (until p f n x) ≡ true
unfolding until
until_ends p f I k h s zero i x e j = h x (subst (λ (m : ℕ). I m x) (omega arith) j)
until_ends p f I k h s (suc n) i x e j = go (p x) refl (until_ends p f I k h s n (i + 1) (f x))
  where
    go : (b : Bool) → p x ≡ b → (i + 1 + n ≡ k → I (i + 1) (f x) → p (until p f n (f x)) ≡ true) → p (until p f (suc n) x) ≡ true
    go true t ih = ap p (until_stop p f (suc n) x t) ∙ t
    go false t ih = ap p (until_go p f n x t) ∙ ih (omega arith) (s i x j t)

-- what each application counts one up is counted up n times at most
pub until_most : {A : Type 0} (p : A → Bool) (f : A → A) (c : A → ℕ) → ((x : A) → c (f x) ≡ c x + 1) → (n : ℕ) (x : A) → c (until p f n x) ≤ c x + n
unfolding until
until_most p f c h zero x = omega arith
until_most p f c h (suc n) x = go (p x) refl (until_most p f c h n (f x))
  where
    go : (b : Bool) → p x ≡ b → c (until p f n (f x)) ≤ c (f x) + n → c (until p f (suc n) x) ≤ c x + suc n
    go true e ih = rw (until_stop p f (suc n) x e) (omega arith)
    go false e ih = rw (until_go p f n x e) (let k = h x in omega arith)
