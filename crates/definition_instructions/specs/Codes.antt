-- A.2: the operation of each numeric code.
-- Assumes nothing.
use Rattle.std.specs.Prelude.{ℕ, cond, List, [], ◌∷◌, eqb}
use Rattle.machine.specs.declared.Control.{Control}
use Rattle.definition_instructions.specs.Machine.{Computer, computer, Machine, Effect, lifted}
use Rattle.definition_instructions.specs.MicroOps.{execute_operation, execute_device_operation}
use Rattle.definition_instructions.specs.Meaning.{Op, AM, AL, AC, HL, HS, RL, RS, RX, DL, DS, BZ, BL, BA, BS, WA, WS, WM, WD, AA, SS, CI, CF, FA, FS, FM, FD, LA, LO, LX, AS, AD, LS, LD, NS, ND, JL, SH, SL, SE, SN, SO, SZ, SX, SP, JE, JD, IC, IS, ML, MS, XL, XS, PL, PS, KL, KS, None, meaning, Peripheral, IO, AW, device_meaning}

pub data Mnemonic : Type 0 where
  internal : Op → Mnemonic
  device : Peripheral → Mnemonic

-- Appendix A.2: the numeric code of an operation
pub record Code : Type 0 where
  pub number : ℕ
  pub op : Mnemonic

abbrev code : ℕ → Op → Code
code n o = record { number = n; op = internal o }

abbrev device_code : ℕ → Peripheral → Code
device_code n o = record { number = n; op = device o }

unfoldable pub codes : List Code
codes =
    device_code 0 AW ∷ device_code 1 IO ∷ code 2 BL ∷ code 3 HL ∷ code 4 LA ∷ code 5 LO ∷ code 6 LX ∷ code 7 WA
    ∷ code 8 WS ∷ code 9 AM ∷ code 10 WM ∷ code 11 AL ∷ code 12 ML ∷ code 13 JL ∷ code 14 JD ∷ code 15 JE
    ∷ code 16 XL ∷ code 17 BS ∷ code 18 BA ∷ code 19 BZ ∷ code 20 RL ∷ code 21 SP ∷ code 22 KL ∷ code 23 RS
    ∷ code 24 WD ∷ code 25 RX ∷ code 26 HS ∷ code 27 XS ∷ code 28 PL ∷ code 29 PS ∷ code 30 MS ∷ code 31 IS
    ∷ code 32 CI ∷ code 33 AC ∷ code 34 NS ∷ code 35 ND ∷ code 36 AS ∷ code 37 AD ∷ code 38 LS ∷ code 39 LD
    ∷ code 40 SH ∷ code 41 SL ∷ code 42 SE ∷ code 43 SN ∷ code 44 SO ∷ code 45 SZ ∷ code 46 SX ∷ code 47 IC
    ∷ code 48 FA ∷ code 49 FS ∷ code 50 FM ∷ code 51 KS ∷ code 52 FD ∷ code 53 CF ∷ code 54 DL ∷ code 55 DS
    ∷ code 56 AA ∷ code 57 SS ∷ []

-- the codes 58 to 63 are not used
unfoldable pub lookup : ℕ → List Code → Mnemonic
lookup f [] = internal None
lookup f (x ∷ xs) = cond (eqb f x.number) x.op (lookup f xs)

-- what operation o does with the register w and the effective address sb
unfoldable pub execute : Op → ℕ → ℕ → List ℕ → Control → Effect Computer
execute o w sb s c = execute_operation w (meaning o sb w (computer s c)) (computer s c)

-- what IO or AW does
unfoldable pub execute_device : Peripheral → ℕ → ℕ → Machine → Effect Machine
execute_device p w sb m = execute_device_operation w (device_meaning p sb m) m

-- an operation without devices leaves the channel as it was
abbrev pub execute_mnemonic : Mnemonic → ℕ → ℕ → Machine → Effect Machine
execute_mnemonic (internal o) w sb m = lifted m.channel (execute o w sb m.cells m.control)
execute_mnemonic (device p) w sb m = execute_device p w sb m

-- goto operation(FR(0:5))
unfoldable pub execute_code : ℕ → ℕ → ℕ → Machine → Effect Machine
execute_code f w sb m = execute_mnemonic (lookup f codes) w sb m
