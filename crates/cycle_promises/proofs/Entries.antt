-- What an entry changes in a machine that the tests accept; so a cycle that is an entry leaves the number of its kind in word 8.
-- Assumes nothing.
use Prim.Native.Nat.{ℕ, ◌*◌, ◌/◌, ◌<◌}
use native.Mathlib.Omega.{arith}
use native.Mathlib.Nat.{mod-eq_of_lt}
use mathlib.Core.Path.{◌≡◌, refl, ap, ◌∙◌}
use mathlib.Core.Bool.{false}
use mathlib.Core.List.{List}
use lib.ListN.{length}
use Rattle.machine.specs.declared.Kind.{Kind}
use Rattle.machine.specs.Store.{word, put_word}
use Rattle.machine.specs.Answers.{kind_number}
use Rattle.machine.proofs.StoreLaws.{length_put_word, word_other, word_same, key_put_word}
use Rattle.definition_instructions.specs.Machine.{Machine}
use Rattle.definition_instructions.proofs.DeviceLaws.{ValidComputer}
use Rattle.definition_runs.specs.Cycle.{line_of, entry_control, enter, cycle}
use Rattle.cycle_promises.specs.Claims.{SameCells, Entered}
use Rattle.definition_runs.proofs.RunLaws.{Meets}
use Rattle.definition_runs.proofs.CycleLaws.{entered, lined, cycle_meets}
use Rattle.definition_runs.proofs.CycleValid.{valid_lined, valid_fetch}

-- the two writes of an entry
same_cells : (s : List ℕ) (v i : ℕ) → SameCells 8 10 s (put_word (put_word s 4 v) 5 i)
same_cells s v i =
    record {
      size = length_put_word (put_word s 4 v) 5 i ∙ length_put_word s 4 v;
      keys = λ j. key_put_word (put_word s 4 v) 5 i j ∙ key_put_word s 4 v j;
      words = λ j a b. word_other (put_word s 4 v) 5 i j b ∙ word_other s 4 v j a;
    }

first_word : (s : List ℕ) (v i : ℕ) → 4 < length s → v < 16777216 → word (put_word (put_word s 4 v) 5 i) 4 ≡ v
first_word s v i l h = word_other (put_word s 4 v) 5 i 4 (λ e. omega arith) ∙ word_same s 4 v l ∙ mod-eq_of_lt h

second_word : (s : List ℕ) (v i : ℕ) → 5 < length s → i < 16777216 → word (put_word (put_word s 4 v) 5 i) 5 ≡ i
second_word s v i l h = word_same (put_word s 4 v) 5 i (rw length_put_word l) ∙ mod-eq_of_lt h

pub entry_made : (v : ℕ) (n : Machine) → v < 16777216 → ValidComputer n → Entered v n (entered v n)
unfolding enter entry_control
entry_made v n l h =
    record {
      number = first_word n.cells v _ (omega (arith, h.least)) l;
      returns = second_word n.cells v n.control.ic (omega (arith, h.least)) h.widths.ic;
      ic = ap (λ w. w / 2 * 2) ((same_cells n.cells v _).words 6 (λ e. omega arith) (λ e. omega arith));
      state = record { monitor = refl; disabled = refl; pending = refl };
      cells = same_cells n.cells v _;
      kept = (refl, record { im = refl; pr = refl; ex = refl });
      channel = refl;
    }

abbrev pub Stored : Kind → Machine → Type 0
Stored k m = word m.cells 4 ≡ kind_number k

pub cycle_stores : (m : Machine) → m.control.reset ≡ false → ValidComputer m → Meets ValidComputer Stored (cycle m)
cycle_stores m e h =
    cycle_meets ValidComputer Stored m (valid_fetch m e h) (λ f n q h. (entry_made 0 n (omega arith) h).number)
    (λ l. (entry_made (line_of m.control * 2) (lined m) (omega arith) (valid_lined m h)).number)
