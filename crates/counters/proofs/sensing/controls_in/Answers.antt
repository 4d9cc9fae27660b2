use Rattle.std.proofs.Common.{◌∙◌, ◌≡◌, ◌+◌, ◌-◌, ◌<◌, ◌≤◌, ℕ, ap, arith}
use Rattle.net.proofs.Below.machine_sets.BitSets.BitLemmas.{is_bit-shr}
use Rattle.net.specs.HubSets.{is_bit}
use Rattle.counters.proofs.ControlHubs.{controls_of-row}
use Rattle.counters.proofs.sensing.controls_in.Goals as goal

pub returns : goal.returns
returns c picture row =
    let bits = c.args.row in
    let place = c.args.unit - 3 in
    let near : place + 32 < 64 = omega (arith, c.requires.to) in
    let low : (k : ℕ) → k ≤ 32 → is_bit c.from_bit-entering.result k ≡ is_bit bits (place + k) =
    λ k small. c.from_bit-entering.ensures k ∙ c.low_half.ensures (place + k) (omega (arith, near, small)) in
    let high : (k : ℕ) → k ≤ 32 → is_bit c.from_bit-others.result k ≡ is_bit bits (64 + (place + k)) =
    λ k small. c.from_bit-others.ensures k ∙ c.low_half-2.ensures (place + k) (omega (arith, near, small)) ∙ is_bit-shr bits 64 (place + k) in
    let plus : place + 0 ≡ place = omega arith in
    let read_out : 64 + (place + 0) ≡ place + 64 = omega arith in
    let test : 64 + (place + 32) ≡ place + 96 = omega arith in
    controls_of-row c.args.unit bits picture c.has_bit.result c.has_bit-2.result c.has_bit-3.result c.has_bit-4.result c.requires.from
    c.requires.to row (c.has_bit.ensures ∙ low 0 (omega arith) ∙ ap (is_bit bits) plus) (c.has_bit-2.ensures ∙ low 32 (omega arith))
    (c.has_bit-3.ensures ∙ high 0 (omega arith) ∙ ap (is_bit bits) read_out) (c.has_bit-4.ensures ∙ high 32 (omega arith) ∙ ap (is_bit bits) test)
