use Rattle.std.proofs.Common.{◌≡◌, ◌≤◌, ◌-◌, ◌+◌, ◌*◌, ◌∙◌, refl, sym, ap, arith, length, ℕ, ◌<◌, List, Some, take, drop, reverse, get_or}
use Rattle.std.proofs.lemmas.Bool.Decides.{nat_tests}
use Rattle.std.proofs.lemmas.List.{get_or-drop, get_or-take, length-take-le, take_rest}
use Rattle.card_code.specs.Rows.{rows}
use Rattle.hubs.specs.HubTable.Places.{positions_before}
use Rattle.hubs.specs.Hubs.{number_of}
use Rattle.hubs.specs.declared.hub.Hub.TheVariants.{GE}
use Rattle.net.proofs.KindRows.{GE_numbered, numbered_in}
use Rattle.net.proofs.SetLemmas.{set-read}
use Rattle.net.specs.HubRows.{has_at}
use Rattle.net.specs.HubSets.{is_bit}
use Rattle.net.specs.RowSets.{after_rows, pictures_of}
use Rattle.counters.specs.AllRows.{digit_entered, positions_before_group}
use Rattle.counters.specs.Counters.{Counter, counter_sensed}
use Rattle.counters.specs.Fields.{counter_in}
use Rattle.counters.proofs.EarliestRows.{rows_taken}
use Rattle.counters.proofs.RowsSensed.{rows-resting, rows-sensed}
use Rattle.counters.proofs.SetDigits.{taken-by_sets}
use Rattle.counters.proofs.group.Group.sense_rows.Goals as goal

pub returns-then-takes_digits : goal.returns-then-takes_digits
returns-then-takes_digits c =
    let counter : Counter = counter_in c.self.inside in
    let width = c.self.inside.name.width in
    let pictures = pictures_of c.args.pictures.now in
    let entries = c.from-read.result.now in
    let before = c.positions_before-before.result in
    let read = take (length entries - before) (drop before entries) in
    let old = c.self.inside.entered in
    let new = c.entered_after-self-inside.result in
    let small : width ≤ 8 = grind (arith, nat_tests, c.self.invariant.width) in
    let long : length (take width old) ≡ width = length-take-le width old (omega (arith, small)) in
    let as_long : length (take width new) ≡ width = length-take-le width new (omega (arith, small)) in
    let start = 1100 + positions_before width + (counter.name.number - 1) * width in
    let is : before ≡ positions_before_group counter.name =
    c.positions_before-before.ensures ∙ ap positions_before_group (sym c.self.invariant.unit) in
    let numbered : (n : ℕ) → 1 ≤ n → n ≤ width → number_of (GE counter.name n) ≡ Some (start + n) =
    λ n from to. GE_numbered counter.name c.self.invariant.width c.self.invariant.named n ∙ numbered_in start width n from to in
    let after : reverse (take width new) ≡ rows_taken counter.controls counter.name pictures rows counter.entered =
    taken-by_sets counter.controls counter.name c.args.pictures.now read (take width old) (take width new)
    (sym c.takes_digits.ensures ∙ c.if-takes_digits.true) (as_long ∙ sym long)
    (λ position row from to.
    let index : start + position ≡ 1101 + (before + (position - 1)) = omega (arith, from, is) in
    ap (λ (rs : List ℕ). has_at rs (position - 1) row) (take_rest entries before)
    ∙ ap (λ (w : ℕ). is_bit w row) (get_or-drop before entries (position - 1) 0)
    ∙ ap (λ (rs : List ℕ). has_at rs (before + (position - 1)) row) (c.from-read.ensures.sets 1101 refl)
    ∙ set-read c.args.pictures.now (GE counter.name position) 1101 (before + (position - 1)) row (omega arith)
    (numbered position from (omega (arith, to, long)) ∙ ap Some index))
    (λ k near.
    let low : k < width = omega (arith, near, long) in
    get_or-take width new k 0 low
    ∙ c.entered_after-self-inside.ensures.entered k (omega (arith, low, small))
    ∙ ap (digit_entered (get_or read k 0)) (sym (get_or-take width old k 0 low))) in
    let made : List ℕ → Counter = λ entered. record counter { entered = entered } in
    ap made after
    ∙ sym (rows-sensed c.args._cycle pictures rows counter)
    ∙ ap (λ (k : Counter). after_rows counter_sensed c.args._cycle pictures k) c.self.view_is

pub returns-else-takes_digits : goal.returns-else-takes_digits
returns-else-takes_digits c =
    let counter : Counter = counter_in c.self.inside in
    rw (sym c.self.view_is)
    (sym (rows-resting c.args._cycle (pictures_of c.args.pictures.now) rows counter (sym c.takes_digits.ensures ∙ c.if-takes_digits.false)))
