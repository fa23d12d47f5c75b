-- What the tests of a call come to, and what a run answers, in the words of document 01: accepted or refused, ended or refused.
-- Assumes nothing.
use Rattle.std.specs.Prelude.{Result, Ok, Err}
use Rattle.machine.specs.declared.Refusal.{Refusal}
use Rattle.machine.specs.declared.Outcome.{Outcome}

abbrev pub Verdict : Type 0
Verdict = Result (Unit {0}) Refusal

pattern abbrev pub Accepted : Verdict
Accepted = Ok tt

pattern abbrev pub Rejected : Refusal → Verdict
Rejected q = Err q

abbrev pub Answer : Type 0
Answer = Result Outcome Refusal

pattern abbrev pub Ended : Outcome → Answer
Ended o = Ok o

pattern abbrev pub Refused : Refusal → Answer
Refused q = Err q
