-- The protected part of a machine (document 01, "The machine"): the word of each forbidden cell from address 8 up, the key of every cell, the
-- registers' included, PR and IM.
-- Assumes nothing.
use Rattle.std.specs.Prelude.{ℕ, ◌*◌, ◌≤◌, ◌≡◌, Bool, true, false, length}
use Rattle.machine.specs.Store.{word, key, forbidden}
use Rattle.definition_instructions.specs.Machine.{Computer}

-- cell i of m is forbidden
abbrev pub forbidden_in : Computer → ℕ → Bool
forbidden_in m i = forbidden m.cells m.control i

-- task mode means that monitor mode is no
abbrev pub InTaskMode : Computer → Type 0
InTaskMode m = m.control.monitor ≡ false

-- stores of one size, and equal protected parts, its words from the address `first` up: 8, or 12 for all save words 8 and 10
pub record EqualProtected (first : ℕ) (m n : Computer) : Type 0 where
  pub size : length n.cells ≡ length m.cells
  pub keys : (i : ℕ) → key n.cells i ≡ key m.cells i
  pub pr : n.control.pr ≡ m.control.pr
  pub im : n.control.im ≡ m.control.im
  pub words : (i : ℕ) → first ≤ 2 * i → forbidden_in m i ≡ true → word n.cells i ≡ word m.cells i
