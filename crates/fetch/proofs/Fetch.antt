-- The code's steps of a fetch as the definition has them. Assumes nothing.
use Prim.Native.Nat.{ℕ, ◌+◌, ◌*◌, ◌/◌, ◌%◌, ◌≤◌, ◌<◌}
use native.Mathlib.Omega.{arith}
use mathlib.Core.Path.{◌≡◌, refl, ◌∙◌}
use mathlib.Core.Bool.{Bool, true, false, not, cond, true≢false, false≢true}
use mathlib.Core.List.{List}
use lib.ListN.{length, get_or}
use borrow.Author.Tests.{lt-leb}
use Rattle.machine.specs.declared.Control.{Control}
use Rattle.machine.specs.Store.{word, key, byte, absent, forbids}
use Rattle.machine.specs.Fields.{in_task}
use Rattle.integer.specs.Sums.{sum24}
use Rattle.definition_runs.specs.Cycle.{fetched}
use Rattle.definition_runs.proofs.Fetched.{even_word}
use Rattle.control_row.specs.Row.{keeps_mode, with_monitor}
use Rattle.fetch.specs.Fetch.{Fetched, fetch_absent, violates, fetch_mode}

-- ---- the instruction that is read

pub cell_fetched : (s : List ℕ) (ic h : ℕ) → ic < 16777216 → length s ≤ 8388608 → h ≡ ic / 2 + ic % 2 * 2147483648 → h < length s → Fetched s ic (get_or s h 0)
unfolding word key
cell_fetched s ic h l m e p =
    let even : ic % 2 ≡ 0 = omega arith in
    let place : h ≡ ic / 2 = omega arith in
    rw place (record { word = even_word s ic l even; key = refl })

pub key_bound : (s : List ℕ) (i q : ℕ) → q ≡ key s i → q < 8
unfolding key
key_bound s i q e = omega (arith, e)

pub bytes_fetched : (s : List ℕ) (ic q f d : ℕ) → q ≡ key s (ic / 2) → f ≡ byte s ic → d ≡ byte s (sum24 ic 1) → f < 4096 → d < 4096
    → Fetched s ic (q * 16777216 + f * 4096 + d)
unfolding key fetched
bytes_fetched s ic q f d e g h l m =
    let low : (q * 16777216 + f * 4096 + d) % 16777216 ≡ f * 4096 + d = omega arith in
    let high : (q * 16777216 + f * 4096 + d) / 16777216 ≡ q = omega arith in
    record { word = low ∙ rw (g, h); key = rw (high, e) (omega arith) }

pub cell_there : (s : List ℕ) (ic h : ℕ) → ic < 16777216 → length s ≤ 8388608 → h ≡ ic / 2 + ic % 2 * 2147483648 → h < length s → false ≡ fetch_absent s ic
unfolding fetch_absent absent sum24
cell_there s ic h l m e p = rw (lt-leb (length s) (ic / 2) (omega arith), lt-leb (length s) ((ic + 1) % 16777216 / 2) (omega arith))

-- ---- the mode of the fetch

same_mode : (c : Control) (b : Bool) → c.monitor ≡ b → c ≡ with_monitor c b
unfolding with_monitor
same_mode c b e = rw (← e)

abbrev Passes : Control → Bool → Bool → Control → Bool → Type 0
Passes c m f d r = (r ≡ cond m false f) × (d ≡ cond (cond m false f) c (with_monitor c f))

kept_by : (c : Control) (m f : Bool) → c.monitor ≡ m → cond m f (not f) ≡ true → Passes c m f c false
kept_by c true true g e = (refl, same_mode c true g)
kept_by c true false g e = absurd (false≢true e)
kept_by c false true g e = absurd (false≢true e)
kept_by c false false g e = (refl, same_mode c false g)

changed_by : (c : Control) (m f : Bool) → cond m f (not f) ≡ false → m ≡ true → Passes c m f (with_monitor c false) false
changed_by c true true e t = absurd (true≢false e)
changed_by c true false e t = (refl, refl)
changed_by c false f e t = absurd (false≢true t)

violated_by : (c : Control) (m f : Bool) → cond m f (not f) ≡ false → m ≡ false → Passes c m f c true
violated_by c true f e t = absurd (true≢false t)
violated_by c false true e t = (refl, refl)
violated_by c false false e t = absurd (true≢false e)

-- where `keeps_mode` holds the fetch passes, and the mode stays
pub mode_kept : (c : Control) (q : ℕ) → keeps_mode c q ≡ true → (false ≡ violates c q) × (c ≡ fetch_mode c q)
unfolding keeps_mode violates fetch_mode
mode_kept c q e = kept_by c c.monitor (forbids c.pr q) refl e

not_not : (b : Bool) → not b ≡ true → b ≡ false
not_not true e = absurd (false≢true e)
not_not false e = refl

not_task : (b : Bool) → not b ≡ false → b ≡ true
not_task true e = refl
not_task false e = absurd (true≢false e)

-- in task mode, where it does not hold, the fetch is a violation, and the mode stays
pub mode_violated : (c : Control) (q : ℕ) → keeps_mode c q ≡ false → in_task c ≡ true → (true ≡ violates c q) × (c ≡ fetch_mode c q)
unfolding keeps_mode violates fetch_mode in_task
mode_violated c q e t = violated_by c c.monitor (forbids c.pr q) e (not_not c.monitor t)

-- in monitor mode, where it does not hold, the fetch passes, and task mode begins
pub mode_changed : (c : Control) (q : ℕ) → keeps_mode c q ≡ false → in_task c ≡ false → (false ≡ violates c q) × (with_monitor c false ≡ fetch_mode c q)
unfolding keeps_mode violates fetch_mode in_task
mode_changed c q e t = changed_by c c.monitor (forbids c.pr q) e (not_task c.monitor t)
