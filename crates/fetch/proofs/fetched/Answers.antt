use native.Mathlib.Omega.{arith}
use Rattle.fetch.proofs.Fetch.{cell_fetched, bytes_fetched, key_bound}
use Rattle.fetch.proofs.fetched.Goals as goal

pub returns-then-h-s : goal.returns-then-h-s
returns-then-h-s c = rw c.cell_at.ensures (cell_fetched _ _ _ c.requires.0 c.requires.1 c.rotated-h.ensures c.if-h-s.true)

pub overflow_mul-result : goal.overflow_mul-result
overflow_mul-result c = let q = key_bound _ _ _ c.key_at-q.ensures in omega arith

pub overflow_add-result : goal.overflow_add-result
overflow_add-result c = let q = key_bound _ _ _ c.key_at-q.ensures in omega (arith, c.byte_at-f.ensures.bound)

pub overflow_add-result-2 : goal.overflow_add-result-2
overflow_add-result-2 c = let q = key_bound _ _ _ c.key_at-q.ensures in omega (arith, c.byte_at-f.ensures.bound, c.byte_at-d.ensures.bound)

pub returns : goal.returns
returns c = bytes_fetched _ _ _ _ _ c.key_at-q.ensures c.byte_at-f.ensures.value (rw c.sum24-n.ensures.value at c.byte_at-d.ensures.value) c.byte_at-f.ensures.bound c.byte_at-d.ensures.bound
