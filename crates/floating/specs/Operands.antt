-- Fetch Floating Operands (manual, 14.7) and the sums in AF. AF(-1:37) has 39 bits, SF(0:37) 38, SC(11:23) 13, an exponent 12.
use Rattle.std.specs.Prelude.{ℕ, ◌+◌, ◌-◌, ◌*◌, ◌/◌, ◌%◌, ◌^◌}
use Rattle.registers.specs.Reg.{signed}
use Rattle.floating.specs.declared.Operands.{Operands}

-- Wfrac = Wpre concat W(0:11); fraction(SB) = the first word concat the second word(0:11)
abbrev pub fraction : ℕ → ℕ → ℕ
fraction pre word = pre * 2 ^ 12 + word / 2 ^ 12

-- Wexp = W(12:23); exponent(SB) = the second word(12:23)
abbrev pub exponent : ℕ → ℕ
exponent word = word % 2 ^ 12

-- AF(-1:35) := signed Wfrac; AF(36:37) := 0
abbrev pub register_fraction : ℕ → ℕ
register_fraction f = signed 36 37 f * 2 ^ 2

-- SF(0:35) := fraction(SB); SF(36:37) := 0
abbrev pub storage_fraction : ℕ → ℕ
storage_fraction f = f * 2 ^ 2

-- Fetch Floating Operands: AF, SF, Wexp, SBexp := exponent(SB)
unfoldable pub fetch_floating : ℕ → ℕ → ℕ → ℕ → Operands
fetch_floating pre word first second =
    record {
      af = register_fraction (fraction pre word);
      sf = storage_fraction (fraction first second);
      wexp = exponent word;
      sbexp = exponent second;
    }

-- signed SF, as AF has it
abbrev pub signed_sf : ℕ → ℕ
signed_sf sf = signed 38 39 sf

-- signed Wexp, signed SBexp, as SC has it
abbrev pub signed_exponent : ℕ → ℕ
signed_exponent e = signed 12 13 e

-- AF := AF + x, AF := AF - x
abbrev pub add_af : ℕ → ℕ → ℕ
add_af x af = (af + x) % 2 ^ 39

abbrev pub sub_af : ℕ → ℕ → ℕ
sub_af x af = (af + (2 ^ 39 - x)) % 2 ^ 39
