-- What an address and a line come to: the displacement and the word, or the refusal. Assumes nothing.
use Rattle.std.specs.Prelude.{ℕ, Result, Ok, Err}
use Rattle.machine.specs.declared.Refusal.{Refusal}

abbrev pub Address : Type 0
Address = Result ℕ Refusal

pattern abbrev pub AddressRefused : Refusal → Address
AddressRefused q = Err q

pattern abbrev pub Displacement : ℕ → Address
Displacement d = Ok d

abbrev pub Assembled : Type 0
Assembled = Result ℕ Refusal

pattern abbrev pub Refused : Refusal → Assembled
Refused q = Err q

pattern abbrev pub Word : ℕ → Assembled
Word v = Ok v
