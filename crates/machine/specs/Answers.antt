-- The papers' number of each refusal, and the number that an entry stores.
-- Assumes nothing.
use Rattle.std.specs.Prelude.{ℕ}
use Rattle.machine.specs.declared.Kind.{Kind}
use Rattle.machine.specs.declared.Kind.TheVariants.{Exception, Line}
use Rattle.machine.specs.Verdicts.{Verdict, Accepted, Rejected}
use Rattle.machine.specs.declared.Refusal.{Refusal}
use Rattle.machine.specs.declared.Refusal.TheVariants.{StoreSize, CellValue, ControlField, Lines, Budget, TapeEnds, RecordKind, RecordLength, BlockPlace, BlockCell, RecordOrder, TapeLength, Device, RemarkLength, WrittenLength, BufferLength, BlockOverlap, TimerField, LineGrammar, LineDepth, LineValue}

-- document 01, "Who can be refused, for what"
abbrev pub refusal_number : Refusal → ℕ
-- fewer than 8 or more than 8,388,608 cells
refusal_number StoreSize = 1
-- a cell of 134,217,728 or more
refusal_number CellValue = 2
-- a control field outside its widths and rules
refusal_number ControlField = 3
-- lines with bit 0, 1 or 2 set, or over 24 bits
refusal_number Lines = 4
-- budget over 65,535
refusal_number Budget = 5
-- the tape stops inside a header or payload, or before an end record
refusal_number TapeEnds = 6
-- kind not 1 to 4
refusal_number RecordKind = 7
-- length wrong for the kind
refusal_number RecordLength = 8
-- block beyond the store
refusal_number BlockPlace = 9
-- a cell of a block as in 2
refusal_number BlockCell = 10
-- not the end after the control record, an end with no control record, bytes after the end
refusal_number RecordOrder = 11
-- over 65,536 bytes
refusal_number TapeLength = 12
-- a reader character over 63 or a device buffer register over 24 bits (document 02, E1)
refusal_number Device = 13
-- document 02, E2: a remark over 255 bytes
refusal_number RemarkLength = 14
-- a machine whose tape would pass 65,536 bytes
refusal_number WrittenLength = 15
-- an output buffer shorter than the tape
refusal_number BufferLength = 16
-- document 02, E4: a block names a cell that an earlier block of the tape names
refusal_number BlockOverlap = 17
-- document 02, E6: where the period is not 0, a line outside 3 to 23 or a phase not below the period
refusal_number TimerField = 18
-- document 02, E7: a line over 255 characters or outside the grammar
refusal_number LineGrammar = 19
-- a line with parentheses deeper than 16
refusal_number LineDepth = 20
-- a value of a line out of range
refusal_number LineValue = 21

-- 0: not refused
abbrev pub verdict_number : Verdict → ℕ
verdict_number Accepted = 0
verdict_number (Rejected q) = refusal_number q

-- an exception has the number 0, a line twice its position
abbrev pub kind_number : Kind → ℕ
kind_number Exception = 0
kind_number (Line n) = n
