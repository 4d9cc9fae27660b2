use Rattle.std.proofs.Common.{rules, ◌≡◌, ◌∙◌, Bool, ◌||◌, ap, arith, length, slice_index_or}
use Rattle.std.proofs.lemmas.List.{get_or_default, get_or-set_other, get_or-set_same}
use Rattle.net.specs.Cycles.{points}
use Rattle.net.specs.HubSets.{HubSet, has_hub}
use Rattle.net.specs.declared.cycle.Point.{Point}
use Rattle.net.specs.declared.cycle.Point.TheVariants.{C, K}
use Rattle.machine_served.specs.ServedUnits.AnyUnit.{any_closes, unit_at}
use Rattle.machine_served.specs.ServedRuns.Course.{no_set}
use Rattle.machine_served.proofs.served_runs.course.Course.come.Goals as goal

either : {a b c d : Bool} → a ≡ b → c ≡ d → (a || c) ≡ (b || d)
either one other = cc

pub returns-then-place-lt14-clause-own : goal.returns-then-place-lt14-clause-own
returns-then-place-lt14-clause-own c hub low =
    let old = c.args.self.now in
    let unit = unit_at old.units c.args.unit in
    let place = slice_index_or old.places c.args.unit 0 in
    let long : length old.closed ≡ 14 = search rules in
    ap (λ (set : HubSet). has_hub set hub) (get_or-set_same old.closed place c.close_unit.new.contacts no_set (omega (arith, long, low)))
    ∙ c.close_unit.ensures hub
    ∙ either
    (ap (λ (set : HubSet). has_hub set hub)
    (get_or_default old.closed place c.index-self-place.result no_set (omega (arith, long, low))))
    (ap (λ (point : Point). any_closes unit c.args.cycle point hub) (get_or_default points place C K low))

pub returns-then-place-lt14-clause-others : goal.returns-then-place-lt14-clause-others
returns-then-place-lt14-clause-others c place hub low apart =
    let old = c.args.self.now in
    ap (λ (set : HubSet). has_hub set hub)
    (get_or-set_other old.closed (slice_index_or old.places c.args.unit 0) place c.close_unit.new.contacts no_set
    (λ same. apart (omega (arith, same))))
