use Rattle.std.proofs.Common.{ℕ, List, subst, sym}
use Rattle.card_code.specs.Rows.{passing_place}
use Rattle.machine_sets.proofs.SpreadsWords.PassLemmas.{not-true}
use Rattle.machine_sets.specs.SpreadsWords.Links.{Spreads}
use Rattle.net.proofs.DirectWires.{wires-lead}
use Rattle.net.proofs.PassedHubs.{is_exit_of, may-listed, outer-fed, passes-behind, passes-on, spreads-on}
use Rattle.net.proofs.PassedRows.{passed_once, passed_twice}
use Rattle.net.proofs.net.spread_by.Goals as goal

pub returns-then-not-pass : goal.returns-then-not-pass
returns-then-not-pass c all wiring net cycle is_net are may row =
    let old = c.args.sets.now in
    let spread = c.follow_outer.new.sets in
    let listed = may-listed wiring cycle are.exits old are.emitting may in
    passed_once wiring (is_exit_of are.exits) c.args.digits.now c.args.zones.now row old spread c.pass.new.sets
    (wires-lead wiring net are.links is_net are.lead.range are.lead.agree) (listed row) c.requires
    (λ r.
    outer-fed wiring net are.links are.exits c.args.paths.now is_net are.lead.range are.lead.agree are.parted old spread
    (passing_place r) (listed r) (subst (λ (sets : List ℕ). Spreads c.args.paths.now.outer sets spread) c.sets.view_is c.follow_outer.ensures))
    (passes-on wiring net are.links are.exits c.args.paths.now is_net are.lead.range are.lead.agree are.parted c.args.digits.now
    c.args.zones.now spread c.pass.new.sets (rw (sym c.words.ensures.words, sym c.words-2.ensures.words) c.pass.ensures.passed))
    (c.pass.ensures.same c.if-not-pass.true)

pub returns : goal.returns
returns c all wiring net cycle is_net are may row =
    let old = c.args.sets.now in
    let spread = c.follow_outer.new.sets in
    let listed = may-listed wiring cycle are.exits old are.emitting may in
    passed_twice wiring (is_exit_of are.exits) c.args.digits.now c.args.zones.now row old spread c.pass.new.sets c.follow_further.new.sets
    c.pass_behind.new.sets (wires-lead wiring net are.links is_net are.lead.range are.lead.agree) (listed row) c.requires
    (λ r.
    outer-fed wiring net are.links are.exits c.args.paths.now is_net are.lead.range are.lead.agree are.parted old spread
    (passing_place r) (listed r) (subst (λ (sets : List ℕ). Spreads c.args.paths.now.outer sets spread) c.sets.view_is c.follow_outer.ensures))
    (passes-on wiring net are.links are.exits c.args.paths.now is_net are.lead.range are.lead.agree are.parted c.args.digits.now
    c.args.zones.now spread c.pass.new.sets (rw (sym c.words.ensures.words, sym c.words-2.ensures.words) c.pass.ensures.passed))
    (spreads-on wiring net are.links are.exits c.args.paths.now is_net are.lead.range are.lead.agree are.parted c.pass.new.sets
    c.follow_further.new.sets c.follow_further.ensures)
    (passes-behind wiring net are.links are.exits c.args.paths.now is_net are.lead.range are.lead.agree are.parted
    c.args.digits.now c.args.zones.now c.follow_further.new.sets c.pass_behind.new.sets
    (rw (sym c.words-3.ensures.words, sym c.words-4.ensures.words) c.pass_behind.ensures.passed))
    (c.pass_behind.ensures.same (not-true _ all))
