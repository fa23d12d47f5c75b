-- The proofs of specs/Several.antt. Assumes nothing.
use Prim.Native.Nat.{ℕ, ◌+◌, ◌≤◌}
use native.Mathlib.Omega.{arith}
use mathlib.Core.Path.{◌≡◌, refl, sym, ap, ◌∙◌, subst}
use mathlib.Core.List.{List, [], ◌∷◌, ◌++◌, append_assoc, append-nil}
use lib.ListN.{length, drop, length-append}
use lib.Seq.{take-append_seam, drop-append_seam, drop_at}
use Rattle.machine.specs.declared.Outcome.TheVariants.{Spent, Interrupted, Reset}
use Rattle.machine.specs.Verdicts.{Answer, Refused, Ended}
use Rattle.definition_instructions.specs.Machine.{Channel}
use Rattle.definition_instructions.specs.Channel.{registers_of}
use Rattle.definition_runs.specs.GenericRun.{RunResult, added, then_by, then_run, total, calls}
use Rattle.definition_runs.specs.Timed.{TimedMachine, timed_computer_of, timed_cycle}
use Rattle.definition_runs.specs.Run.{in_reset, judge_of, devices_fit_of, joined, run_machine, run_list}
use Rattle.definition_runs.specs.Lent.{machine_lent, taken_of, Returned, handed_back, run_lent}
use Rattle.run_promises.specs.Promises.{SameTimer, EqualEntries}
use Rattle.run_promises.specs.Several.{Lent, computer_returned, TwoCalls, lent_later, CallsMade, followed_by, summed, OneCall}
use Rattle.run_promises.proofs.CallLaws.{carried, calls_carried}
use Rattle.run_promises.proofs.ChannelLaws.{timed_before, timed_alike}
use Rattle.run_promises.proofs.Promises.{two_runs, budget_list, channel_goes_on}

-- the machine at the beginning of a call
abbrev begins : Lent → TimedMachine
begins y = machine_lent y.cells y.control y.devices y.characters y.typing

pub two_calls : TwoCalls
unfolding run_lent handed_back
two_calls y z x w l₁ b₁ l₂ b₂ k₁ k₂ e f t u h g p q =
    let two = two_runs (begins y) (begins z) l₁ b₁ l₂ b₂ k₁ k₂ t u h g (sym (ap (λ r. r.run.answer) e) ∙ p) (sym (ap (λ r. r.run.answer) f) ∙ q) in
    subst (λ r. EqualEntries (computer_returned r) (computer_returned w) × (SameTimer y.control.timer z.control.timer → SameTimer r.run.control.timer w.run.control.timer)) (sym e)
    (subst (λ r. EqualEntries (timed_computer_of (run_machine l₁ b₁ (begins y)).machine) (computer_returned r)
    × (SameTimer y.control.timer z.control.timer → SameTimer (run_machine l₁ b₁ (begins y)).machine.control.timer r.run.control.timer)) (sym f) two)

not_spent : (a : Answer) (x : RunResult TimedMachine) (next : TimedMachine → RunResult TimedMachine) → (a ≡ Ended Spent → ⊥) → then_by a x next ≡ x
not_spent (Refused q) x next h = refl
not_spent (Ended Spent) x next h = absurd (h refl)
not_spent (Ended (Interrupted k)) x next h = refl
not_spent (Ended Reset) x next h = refl

spent : (a : Answer) (x : RunResult TimedMachine) (next : TimedMachine → RunResult TimedMachine) → a ≡ Ended Spent → then_by a x next ≡ added x (next x.machine)
spent a x next h = rw h

-- ---- a later call goes on where the one before it ended

-- the characters not taken
left_over : (cs : List ℕ) (h : Channel) (ts : List ℕ) → cs ≡ ts ++ h.characters → drop (taken_of cs h) cs ≡ h.characters
left_over cs h ts e =
    let n : taken_of cs h ≡ length ts = let whole = ap length e ∙ length-append ts h.characters in omega arith in
    ap (λ k. drop k cs) n ∙ ap (drop (length ts)) e ∙ drop_at ts h.characters (length ts) refl

-- the machine of the later call is the one that was left, but for the bytes typed before
goes_on_from : (l b : ℕ) (y : Lent) → let r = run_machine l b (begins y) in
    timed_before r.machine.channel.typed (begins (lent_later y (handed_back y.characters r))) ≡ r.machine
unfolding handed_back registers_of
goes_on_from l b y =
    let h = (run_machine l b (begins y)).machine.channel in
    let on = channel_goes_on l b (begins y) in
    rw (left_over y.characters h on.taken on.characters, append-nil h.typed, drop-append_seam h.typed h.space)

-- bytes typed before alter nothing else of a list of calls
list_after : (p : List ℕ) (l b : ℕ) (bs : List ℕ) (m : TimedMachine) → run_list l b bs (timed_before p m) ≡ carried (timed_before p) (run_list l b bs m)
unfolding run_list
list_after p l b bs m =
    calls_carried (timed_before p) in_reset timed_cycle (λ n. refl) (timed_alike p) judge_of devices_fit_of joined (λ n. refl) (λ n. refl) (λ k n. refl) l b bs m

-- no more characters are left than were lent
fewer : (cs ts ds : List ℕ) → cs ≡ ts ++ ds → length ds ≤ length cs
fewer cs ts ds e = let whole = ap length e ∙ length-append ts ds in omega arith

-- what is handed back of r, then of s
handed_on : (cs : List ℕ) (r s : RunResult TimedMachine) → length s.machine.channel.characters ≤ length r.machine.channel.characters → length r.machine.channel.characters ≤ length cs
    → followed_by (handed_back cs r) (handed_back r.machine.channel.characters s) ≡ handed_back cs (added r (carried (timed_before r.machine.channel.typed) s))
unfolding handed_back registers_of
handed_on cs r s k l =
    let g = r.machine.channel in
    let h = s.machine.channel in
    let n : taken_of cs g + taken_of g.characters h ≡ taken_of cs h = omega arith in
    rw (n, length-append g.typed h.typed, take-append_seam g.typed g.space, append_assoc g.typed h.typed h.space)

made_next : (l b c : ℕ) (cs : List ℕ) (y : Lent) (z : Returned) → total c cs ≤ 65535 → let r = run_machine l b (begins y) in let x = handed_back y.characters r in
    r.answer ≡ Ended Spent → z ≡ handed_back (lent_later y x).characters (run_list 0 c cs (begins (lent_later y x)))
    → followed_by x z ≡ handed_back y.characters (then_by r.answer r (run_list 0 c cs))
unfolding handed_back
made_next l b c cs y z small s e =
    let r = run_machine l b (begins y) in
    let x = handed_back y.characters r in
    let g = r.machine.channel in
    let next = begins (lent_later y x) in
    let on = channel_goes_on l b (begins y) in
    let left : drop (taken_of y.characters g) y.characters ≡ g.characters = left_over y.characters g on.taken on.characters in
    let later = channel_goes_on 0 (total c cs) next in
    let list : run_list 0 c cs next ≡ run_machine 0 (total c cs) next = budget_list 0 c cs next small in
    let ends = (run_machine 0 (total c cs) next).machine.channel.characters in
    let kept : length ends ≤ length g.characters =
    subst (λ q. length ends ≤ length q) left (fewer (drop (taken_of y.characters g) y.characters) later.taken ends later.characters) in
    let least : length (run_list 0 c cs next).machine.channel.characters ≤ length g.characters =
    subst (λ (q : RunResult TimedMachine). length q.machine.channel.characters ≤ length g.characters) (sym list) kept in
    ap (followed_by x) (e ∙ ap (λ q. handed_back q (run_list 0 c cs next)) left)
    ∙ handed_on y.characters r (run_list 0 c cs next) least (fewer y.characters on.taken g.characters on.characters)
    ∙ ap (λ q. handed_back y.characters (added r q)) (sym (list_after g.typed 0 c cs next) ∙ ap (run_list 0 c cs) (goes_on_from l b y))
    ∙ ap (handed_back y.characters) (sym (spent r.answer r (run_list 0 c cs) s))

abbrev Whole : ℕ → ℕ → List ℕ → Lent → Returned
Whole l b bs y = handed_back y.characters (run_list l b bs (begins y))

-- the answer of a call is that of the run
answered : (l b : ℕ) (y : Lent) (x : Returned) → x ≡ run_lent l b y.cells y.control y.devices y.characters y.typing → x.run.answer ≡ (run_machine l b (begins y)).answer
unfolding run_lent handed_back
answered l b y x e = ap (λ r. r.run.answer) e

made_more : (l b c : ℕ) (cs : List ℕ) (y : Lent) (x w : Returned) (ws : List Returned) → total c cs ≤ 65535
    → x ≡ run_lent l b y.cells y.control y.devices y.characters y.typing → x.run.answer ≡ Ended Spent → summed w ws ≡ Whole 0 c cs (lent_later y x)
    → followed_by x (summed w ws) ≡ handed_back y.characters (then_by (run_machine l b (begins y)).answer (run_machine l b (begins y)) (run_list 0 c cs))
unfolding run_lent handed_back
made_more l b c cs y x w ws small e =
    subst (λ x. x.run.answer ≡ Ended Spent → summed w ws ≡ Whole 0 c cs (lent_later y x)
    → followed_by x (summed w ws) ≡ handed_back y.characters (then_by (run_machine l b (begins y)).answer (run_machine l b (begins y)) (run_list 0 c cs))) (sym e)
    (λ s made. made_next l b c cs y (summed w ws) small s made)

list_made : (l b : ℕ) (bs : List ℕ) (y : Lent) (x : Returned) (xs : List Returned) → total b bs ≤ 65535 → CallsMade l b bs y x xs → summed x xs ≡ Whole l b bs y
unfolding run_list run_machine calls then_run run_lent
list_made l b [] y x [] n h = h
list_made l b [] y x (w ∷ ws) n h = absurd h
list_made l b (c ∷ cs) y x [] n h =
    h.0 ∙ ap (handed_back y.characters)
    (sym (not_spent (run_machine l b (begins y)).answer (run_machine l b (begins y)) (run_list 0 c cs) (λ s. h.1 (answered l b y x h.0 ∙ s))))
list_made l b (c ∷ cs) y x (w ∷ ws) n h = made_more l b c cs y x w ws (omega arith) h.0 h.1 (list_made 0 c cs (lent_later y x) w ws (omega arith) h.2)

pub one_call : OneCall
unfolding run_lent
one_call l b bs y x xs z h k e = list_made l b bs y x xs h k ∙ ap (handed_back y.characters) (budget_list l b bs (begins y) h) ∙ sym e
