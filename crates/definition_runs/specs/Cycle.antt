-- 14.5: one cycle, in the order of the manual: lines, fetch, decode, effective address, operation; and the interruption entry.
-- Assumes nothing.
use Rattle.std.specs.Prelude.{ℕ, zero, suc, ◌+◌, ◌-◌, ◌*◌, ◌/◌, ◌%◌, ◌^◌, Bool, true, false, cond, List, eqb, ltb}
use Rattle.machine.specs.declared.Control.{Control}
use Rattle.machine.specs.declared.Instruction.{Instruction}
use Rattle.machine.specs.declared.Fault.TheVariants.{Absent, Jump}
use Rattle.machine.specs.declared.Kind.TheVariants.{Exception, Line}
use Rattle.machine.specs.Store.{word, byte, put_word, absent, forbidden, violation, even_address}
use Rattle.machine.specs.Fields.{with_ic, with_ir}
use Rattle.machine.specs.Records.{interrupt_number, return_address, interruption_program}
use Rattle.machine.specs.Format.{instruction_fields}
use Rattle.registers.specs.Reg.{signed_byte}
use Rattle.integer.specs.Sums.{sum24}
use Rattle.definition_instructions.specs.Machine.{Computer, computer, Channel, Machine, machine, connected, Effect, ok, fault}
use Rattle.definition_instructions.specs.Codes.{execute_code}
use Rattle.definition_runs.specs.GenericRun.{CycleResult, instruction, entry}

-- ---- Interruption Service

-- bit p of a 24-bit register, bit 0 the left-most
unfoldable pub bit_from_left : ℕ → ℕ → ℕ
bit_from_left x p = x / 2 ^ (23 - p) % 2

-- IR(bit) = 1 and IM(bit) = 1
unfoldable pub requested : ℕ → ℕ → ℕ → Bool
requested ir im p = cond (eqb (bit_from_left ir p) 1) (eqb (bit_from_left im p) 1) false

-- for bit := 0 step 1 until 23: the first of the n positions from p on that is requested, or p + n
unfoldable pub first_request : ℕ → ℕ → ℕ → ℕ → ℕ
first_request zero p ir im = p
first_request (suc n) p ir im = let rest = first_request n (p + 1) ir im in cond (requested ir im p) p rest

-- lines are looked at if interrupts are enabled and no modification is pending (document 01: an AM that leaves 0 counts as none)
unfoldable pub looks_at_lines : Control → Bool
looks_at_lines c = cond c.enabled (eqb c.pending 0) false

-- the position of the line to be taken, or 24
unfoldable pub line_of : Control → ℕ
line_of c = cond (looks_at_lines c) (first_request 24 0 c.ir c.im) 24

-- bit p of x where it stands, all others zero
unfoldable pub bit_alone : ℕ → ℕ → ℕ
bit_alone x p = x / 2 ^ (23 - p) % 2 * 2 ^ (23 - p)

-- IR(bit) := 0
unfoldable pub line_cleared : Control → ℕ → Control
line_cleared c p = with_ir c (c.ir - bit_alone c.ir p)

-- IC := a; IC(23) := 0; monitor mode := interrupt disabled := true; nothing pending
unfoldable pub entry_control : Control → ℕ → Control
entry_control c a = record { ic = even_address a; ir = c.ir; im = c.im; pending = 0; pr = c.pr; ex = c.ex; monitor = true; enabled = false; reset = c.reset }

-- word(8) := number; word(10) := IC; IC := word(12): protection does not hinder the two writes
unfoldable pub enter : ℕ → List ℕ → Control → Computer
enter n s c =
    let t = put_word (put_word s (interrupt_number / 2) n) (return_address / 2) c.ic in computer t (entry_control c (word t (interruption_program / 2)))

-- ---- Fetch Instruction

-- FR := byte(IC); SB := byte(IC + 1). At an odd IC they are in two cells (docs/DECISIONS.md B2).
unfoldable pub fetched : List ℕ → ℕ → ℕ
fetched s ic = byte s ic * 4096 + byte s (sum24 ic 1)

-- ---- Decode Instruction

-- if FR(8) <> 0 then SB := SB + AR(0:23), the address of this instruction
unfoldable pub relative : ℕ → ℕ → ℕ → ℕ
relative m ic a = cond (ltb m 2) a (sum24 a ic)

-- if FR(10:11) <> 0 then SB := SB + W(FR(10:11))
unfoldable pub indexed : List ℕ → ℕ → ℕ → ℕ
indexed s x a = cond (eqb x 0) a (sum24 a (word s x))

-- SB := signed byte(IC + 1), with the pending modification, relative addressing, indexing
unfoldable pub address : List ℕ → Control → Instruction → ℕ
address s c i = indexed s i.x (relative i.m c.ic (sum24 (signed_byte i.d) c.pending))

-- if FR(9) <> 0 then Test Address
unfoldable pub indirect_absent : List ℕ → ℕ → ℕ → Bool
indirect_absent s m a = cond (eqb (m % 2) 0) false (absent s a)

-- if FR(9) <> 0 then SB := word(SB)
unfoldable pub effective_address : List ℕ → ℕ → ℕ → ℕ
effective_address s m a = cond (eqb (m % 2) 0) a (word s (a / 2))

-- goto operation(FR(0:5)), with the address a before indirection
unfoldable pub execute_instruction : List ℕ → Control → Channel → Instruction → ℕ → Effect Machine
execute_instruction s c h i a =
    cond (indirect_absent s i.m a) (fault (Absent a) (machine s c h)) (execute_code i.code i.w (effective_address s i.m a) (machine s c h))

-- IC := IC + 2; monitor mode := PR(PK) = 1; the pending modification is used up
unfoldable pub fetch_control : Control → Bool → Control
fetch_control c p = record { ic = sum24 c.ic 2; ir = c.ir; im = c.im; pending = 0; pr = c.pr; ex = c.ex; monitor = p; enabled = c.enabled; reset = c.reset }

-- IC := IC + 2; if not monitor mode and PR(PK) = 1 then goto Instruction Exception; ..
unfoldable pub decode : List ℕ → Control → Channel → Effect Machine
decode s c h =
    let i = instruction_fields (fetched s c.ic) in
    cond (violation s c (c.ic / 2)) (fault (Jump c.ic) (machine s (with_ic c (sum24 c.ic 2)) h))
    (execute_instruction s (fetch_control c (forbidden s c (c.ic / 2))) h i (address s c i))

-- if IC > word limit then goto Instruction Exception; and so where IC + 1 does not exist (docs/DECISIONS.md B2)
-- The print goes on `if reset key then goto Reset System`: a panel key is no part of a cycle but a call of its own (Keys.antt, `pressing_reset`).
unfoldable pub fetch : List ℕ → Control → Channel → Effect Machine
fetch s c h =
    cond (absent s c.ic) (fault (Absent c.ic) (machine s c h))
    (cond (absent s (sum24 c.ic 1)) (fault (Absent (sum24 c.ic 1)) (machine s c h)) (decode s c h))

-- ---- the cycle

-- 14.6, Instruction Exception: IR(0) := 1; goto Interruption Service. By document 01 an exception heeds neither mask nor disabling, and clearing is said of a
-- line that is taken: so it is an entry with the number 0 that leaves IR as it is, a given bit 0 too (docs/DECISIONS.md B8)
unfoldable pub concluded : Effect Machine → CycleResult Machine
concluded (ok m) = instruction m
concluded (fault f m) = entry Exception (connected m.channel (enter 0 m.cells m.control))

-- Next Instruction: a line is taken, or an instruction is executed; the number stored is twice the line's position
unfoldable pub cycle : Machine → CycleResult Machine
cycle m =
    let p = line_of m.control in
    cond (ltb p 24) (entry (Line (p * 2)) (connected m.channel (enter (p * 2) m.cells (line_cleared m.control p))))
    (concluded (fetch m.cells m.control m.channel))
