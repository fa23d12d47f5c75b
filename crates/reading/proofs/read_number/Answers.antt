use Rattle.std.proofs.Common.{◌≡◌, ℕ, ◌-◌, length, rules, replicate, ap, ◌∙◌}
use Rattle.reading.proofs.Number.{number_read}
use Rattle.reading.proofs.read_number.Goals as goal

pub returns : goal.returns
returns g c =
    let n = c.in_ok-n.n in
    let long : length c.read_full.new.buffer ≡ 4 = search rules in
    let filled : c.fill.new.self ≡ replicate {A = ℕ} (4 - n) 0 = c.fill.ensures.after (λ y e. e) ∙ ap (λ k. replicate {A = ℕ} k 0) (search rules) in
    number_read _ _ n c.from_le_bytes.result c.read_full.new.buffer c.fill.new.self c.in_ok-n.ensures.within long filled c.from_le_bytes.ensures c.in_ok-n.ensures.read c.in_ok-n.ensures.ended
