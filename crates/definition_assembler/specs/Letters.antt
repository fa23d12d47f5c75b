-- Chapter 13: the two letters of each mnemonic.
-- Assumes nothing.
use Rattle.std.specs.Prelude.{ℕ}
use Prim.Native.Char.{code}
use Prim.Native.String.{String, char_at}
use Rattle.definition_instructions.specs.Meaning.{AM, AL, AC, HL, HS, RL, RS, RX, DL, DS, BZ, BL, BA, BS, WA, WS, WM, WD, AA, SS, CI, CF, FA, FS, FM, FD, LA, LO, LX, AS, AD, LS, LD, NS, ND, JL, SH, SL, SE, SN, SO, SZ, SX, SP, JE, JD, IC, IS, ML, MS, XL, XS, PL, PS, KL, KS, None, IO, AW}
use Rattle.definition_instructions.specs.Codes.{Mnemonic, internal, device, codes, lookup}

-- the byte of a character at a place of a text
abbrev character : String → ℕ → ℕ
character s n = code (char_at s n)

-- the byte of a text of one character
abbrev pub ascii : String → ℕ
ascii s = character s 0

-- in the order of 14.8; a code that is not used has no letters
unfoldable pub letters : Mnemonic → String
letters (internal AM) = "AM"
letters (internal AL) = "AL"
letters (internal AC) = "AC"
letters (internal HL) = "HL"
letters (internal HS) = "HS"
letters (internal RL) = "RL"
letters (internal RS) = "RS"
letters (internal RX) = "RX"
letters (internal DL) = "DL"
letters (internal DS) = "DS"
letters (internal BZ) = "BZ"
letters (internal BL) = "BL"
letters (internal BA) = "BA"
letters (internal BS) = "BS"
letters (internal WA) = "WA"
letters (internal WS) = "WS"
letters (internal WM) = "WM"
letters (internal WD) = "WD"
letters (internal AA) = "AA"
letters (internal SS) = "SS"
letters (internal CI) = "CI"
letters (internal CF) = "CF"
letters (internal FA) = "FA"
letters (internal FS) = "FS"
letters (internal FM) = "FM"
letters (internal FD) = "FD"
letters (internal LA) = "LA"
letters (internal LO) = "LO"
letters (internal LX) = "LX"
letters (internal AS) = "AS"
letters (internal AD) = "AD"
letters (internal LS) = "LS"
letters (internal LD) = "LD"
letters (internal NS) = "NS"
letters (internal ND) = "ND"
letters (internal JL) = "JL"
letters (internal SH) = "SH"
letters (internal SL) = "SL"
letters (internal SE) = "SE"
letters (internal SN) = "SN"
letters (internal SO) = "SO"
letters (internal SZ) = "SZ"
letters (internal SX) = "SX"
letters (internal SP) = "SP"
letters (internal JE) = "JE"
letters (internal JD) = "JD"
letters (internal IC) = "IC"
letters (internal IS) = "IS"
letters (internal ML) = "ML"
letters (internal MS) = "MS"
letters (internal XL) = "XL"
letters (internal XS) = "XS"
letters (internal PL) = "PL"
letters (internal PS) = "PS"
letters (internal KL) = "KL"
letters (internal KS) = "KS"
letters (device IO) = "IO"
letters (device AW) = "AW"
letters (internal None) = ""

-- the letters of the operation that A.2 gives a code
unfoldable pub first_letter : ℕ → ℕ
first_letter n = character (letters (lookup n codes)) 0

unfoldable pub second_letter : ℕ → ℕ
second_letter n = character (letters (lookup n codes)) 1
