use Rattle.std.proofs.Common.{◌≡◌, refl, sym, subst, true, false, [], ◌∷◌, ◌++◌, is_none, arith}
use Rattle.std.proofs.lemmas.Grind.{common_steps}
use Rattle.std.proofs.lemmas.Result.{err_from_is_err_and}
use Rattle.report_runs.proofs.Standing.{none_told}
use Rattle.report_runs.proofs.Steps.{ends_here, feed_follows, goes_further, next_is, stops_at_misfit, stops_at_next, stops_for_memory, stops_in_writing}
use Rattle.report_runs.specs.HelperStanding.{HaveLast}
use Rattle.report_runs.proofs.run.step.Goals as goal

pub returns-in_err-next_valid-clause-goes_on : goal.returns-in_err-next_valid-clause-goes_on
returns-in_err-next_valid-clause-goes_on g c =
    λ start serves stands.
    let p = err_from_is_err_and c.from_residual.result c.from_residual.ensures.1 in
    rw (p.1, p.2) (stops_at_next serves stands c.in_err-next_valid.field-0.0 _ c.in_err-next_valid.ensures.kind c.in_err-next_valid.ensures.read
    c.in_err-next_valid.ensures.up_to)

pub returns-in-Some-clause-goes_on : goal.returns-in-Some-clause-goes_on
returns-in-Some-clause-goes_on g c =
    λ start serves stands.
    let is = next_is serves stands c.next_valid.new.cards c.next_valid.new.next c.in_ok-next_valid.ensures.read c.in_ok-next_valid.ensures.valid
    c.in_ok-next_valid.ensures.well c.in_ok-next_valid.ensures.one_more c.in_ok-next_valid.ensures.all c.in_ok-next_valid.ensures.up_to in
    stops_at_misfit serves stands is c.in-Some.misfit (λ have. (c.in-Some.ensures.first have).0) c.in-Some.ensures.tells

pub returns-in_err-feed-clause-goes_on : goal.returns-in_err-feed-clause-goes_on
returns-in_err-feed-clause-goes_on g c =
    λ start serves stands.
    let is = next_is serves stands c.next_valid.new.cards c.next_valid.new.next c.in_ok-next_valid.ensures.read c.in_ok-next_valid.ensures.valid
    c.in_ok-next_valid.ensures.well c.in_ok-next_valid.ensures.one_more c.in_ok-next_valid.ensures.all c.in_ok-next_valid.ensures.up_to in
    let p = err_from_is_err_and c.from_residual-in_err-feed.result c.from_residual-in_err-feed.ensures.1 in
    rw (p.1, p.2, c.in_err-feed.ensures.refused) (stops_for_memory serves stands is)

pub add_all-requires : goal.add_all-requires
add_all-requires g c =
    let serves = c.requires.1 in
    let stands = c.requires.2 in
    let is = next_is serves stands c.next_valid.new.cards c.next_valid.new.next c.in_ok-next_valid.ensures.read c.in_ok-next_valid.ensures.valid
    c.in_ok-next_valid.ensures.well c.in_ok-next_valid.ensures.one_more c.in_ok-next_valid.ensures.all c.in_ok-next_valid.ensures.up_to in
    rw c.deref.ensures.value (feed_follows serves stands is c.in_ok-feed.ensures.lines)

pub returns-in_err-add_all-clause-goes_on : goal.returns-in_err-add_all-clause-goes_on
returns-in_err-add_all-clause-goes_on g c =
    λ start serves stands.
    let is = next_is serves stands c.next_valid.new.cards c.next_valid.new.next c.in_ok-next_valid.ensures.read c.in_ok-next_valid.ensures.valid
    c.in_ok-next_valid.ensures.well c.in_ok-next_valid.ensures.one_more c.in_ok-next_valid.ensures.all c.in_ok-next_valid.ensures.up_to in
    let none = none_told c.args.chart.now.lines stands.cards c.args.run.now.last c.next_valid.new.next c.args.run.now.sums c.try_totals.result
    c.try_totals.ensures.tells c.in_default.is stands.sums in
    let p = err_from_is_err_and c.from_residual-in_err-add_all.result c.from_residual-in_err-add_all.ensures.1 in
    let breaks = rw c.deref.ensures.value at c.in_err-add_all.ensures.bytes.1 in
    rw (p.1, p.2) (stops_in_writing serves stands is c.in_ok-feed.ensures.lines none c.add_all.new.self breaks)

pub returns-then-is_last-clause-goes_on : goal.returns-then-is_last-clause-goes_on
returns-then-is_last-clause-goes_on g c =
    λ start serves stands.
    let is = next_is serves stands c.next_valid.new.cards c.next_valid.new.next c.in_ok-next_valid.ensures.read c.in_ok-next_valid.ensures.valid
    c.in_ok-next_valid.ensures.well c.in_ok-next_valid.ensures.one_more c.in_ok-next_valid.ensures.all c.in_ok-next_valid.ensures.up_to in
    let none = none_told c.args.chart.now.lines stands.cards c.args.run.now.last c.next_valid.new.next c.args.run.now.sums c.try_totals.result
    c.try_totals.ensures.tells c.in_default.is stands.sums in
    let last : is_none c.next_valid.new.next ≡ true = grind (arith, common_steps, c.is_none-is_last.ensures, c.if-is_last.true) in
    ends_here serves stands c.next_valid.new.cards c.next_valid.new.next c.feed.new.machine.machine c.feed.new.lines.items c.add_all.new.self
    c.args.run.now.count is none c.in_ok-feed.ensures.lines refl last
    (rw c.deref.ensures.value at c.in_ok-add_all.ensures.bytes) c.in_ok-add_all.ensures.form
    (rw c.deref.ensures.value at c.in_ok-add_all.ensures.page) (rw c.deref.ensures.value at c.in_ok-add_all.ensures.line)

pub returns-clause-goes_on : goal.returns-clause-goes_on
returns-clause-goes_on g c =
    λ start serves stands.
    let is = next_is serves stands c.next_valid.new.cards c.next_valid.new.next c.in_ok-next_valid.ensures.read c.in_ok-next_valid.ensures.valid
    c.in_ok-next_valid.ensures.well c.in_ok-next_valid.ensures.one_more c.in_ok-next_valid.ensures.all c.in_ok-next_valid.ensures.up_to in
    let none = none_told c.args.chart.now.lines stands.cards c.args.run.now.last c.next_valid.new.next c.args.run.now.sums c.try_totals.result
    c.try_totals.ensures.tells c.in_default.is stands.sums in
    let some_next : is_none c.next_valid.new.next ≡ false = grind (arith, common_steps, c.is_none-is_last.ensures, c.if-is_last.false) in
    goes_further serves stands c.next_valid.new.cards c.next_valid.new.next _ c.feed.new.lines.items c.add_all.new.self is none
    c.in_ok-feed.ensures.lines c.in_ok-feed.ensures.net
    (λ one some. subst (λ l. HaveLast c.args.chart.now.lines (stands.cards ++ one ∷ []) l c.try_totals.new.sums) (sym some)
    (c.try_totals.ensures.goes_on stands.cards one some stands.sums))
    refl some_next
    (rw c.deref.ensures.value at c.in_ok-add_all.ensures.bytes) c.in_ok-add_all.ensures.form
    (rw c.deref.ensures.value at c.in_ok-add_all.ensures.page) (rw c.deref.ensures.value at c.in_ok-add_all.ensures.line)
