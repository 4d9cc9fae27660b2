use Rattle.std.proofs.Common.{◌≡◌, ◌∙◌, ◌<◌, ◌+◌, ◌-◌, ◌*◌, sym, ap, arith, reverse, take, get_or}
use Rattle.std.proofs.lemmas.Int.Digits.{number_after_ge}
use Rattle.std.proofs.lemmas.List.{length-reverse}
use Rattle.std.proofs.Math.Seq.{take-length}
use Rattle.std.specs.Int.Digits.{number_from_digits_after}
use Rattle.counters.proofs.NumberLemmas.{number-small, number-after}
use Rattle.counters.proofs.PackedViews.{All-digits_reverse, reverse-take_more}
use Rattle.explain_ledgers.proofs.ledgers.numbers.number_of.Goals as goal

pub loop-k-init : goal.loop-k-init
loop-k-init c = ap (λ ds. number_from_digits_after 10 0 (reverse ds)) (take-length c.args.digits.now)

pub loop-k-preserved : goal.loop-k-preserved
loop-k-preserved c =
    let ds = c.args.digits.now in
    let k = c.loop-k.k - 1 in
    let next : k + 1 ≡ c.loop-k.k = omega (arith, c.loop-k-test.true) in
    let number : 10 * c.loop-k.number + c.from.result ≡ c.loop-k.number * 10 + get_or ds k 0 = omega (arith, c.from.ensures) in
    ap (λ n. number_from_digits_after 10 n (reverse (take k ds))) number
    ∙ ap (number_from_digits_after 10 c.loop-k.number)
    (sym (ap (λ n. reverse (take n ds)) (sym next) ∙ reverse-take_more ds k (omega (arith, c.loop-k-test.true, c.loop-k.auto.k))))
    ∙ c.loop-k.invariant

pub overflow_mul-number : goal.overflow_mul-number
overflow_mul-number c =
    let ds = c.args.digits.now in
    omega (arith, c.loop-k.invariant, number_after_ge 10 c.loop-k.number (reverse (take c.loop-k.k ds)) (omega arith), number-after 0 (reverse ds), number-small (reverse ds) (omega (arith, length-reverse ds, c.requires.positions)) (All-digits_reverse ds c.requires.digits))

pub overflow_add-number : goal.overflow_add-number
overflow_add-number c =
    let ds = c.args.digits.now in
    let digit : c.from.result < 256 = omega (arith, c.from.ensures, (c.type_inv.digits (c.loop-k.k - 1)).fits) in
    omega (arith, digit, c.loop-k.invariant, number_after_ge 10 c.loop-k.number (reverse (take c.loop-k.k ds)) (omega arith), number-after 0 (reverse ds), number-small (reverse ds) (omega (arith, length-reverse ds, c.requires.positions)) (All-digits_reverse ds c.requires.digits))

pub returns : goal.returns
returns c =
    let ds = c.args.digits.now in
    let none : c.loop-k.k ≡ 0 = omega (arith, c.loop-k-test.false) in
    sym (ap (λ k. number_from_digits_after 10 c.loop-k.number (reverse (take k ds))) none)
    ∙ c.loop-k.invariant ∙ omega (arith, number-after 0 (reverse ds))
