use Rattle.std.proofs.Common.{rules, ◌≡◌, ◌∙◌, ◌<◌, ◌+◌, ◌||◌, ℕ, Bool, false, List, length, arith, ap, sym, subst, slice_index_or, slice_set}
use Rattle.std.proofs.lemmas.List.{get_or_default, get_or-set_other, get_or-set_same}
use Rattle.machine.specs.Machine.{MachineState}
use Rattle.net.specs.Cycles.{point_at, points}
use Rattle.net.specs.HubSets.{HubSet, has_hub}
use Rattle.net.specs.declared.cycle.Point.{Point}
use Rattle.net.specs.declared.cycle.Point.TheVariants.{C, K}
use Rattle.machine_served.specs.ServedUnits.AnyUnit.{any_closes, any_sensed, unit_at}
use Rattle.machine_served.specs.ServedRuns.Course.{is_at}
use Rattle.machine_served.proofs.served_runs.course.Course.sense.Goals as goal

pub returns-clause-senses : goal.returns-clause-senses
returns-clause-senses c wiring is_net may =
    let old = c.args.self.now in
    let unit = c.args.unit in
    let place = slice_index_or old.places unit 0 in
    let places_long : length old.places ≡ 46 = search rules in
    let emitted_long : length old.emitted ≡ 46 = search rules in
    let places_low : unit < length old.places = omega (arith, places_long, c.requires.unit.1) in
    let emitted_low : unit < length old.emitted = omega (arith, emitted_long, c.requires.unit.1) in
    let come : slice_index_or (slice_set old.places unit (place + 1)) unit 0 ≡ place + 1 =
    get_or-set_same old.places unit (place + 1) 0 places_low in
    record {
      senses = record {
        allowed = may;
        picture = has_hub c.picture-picture.result;
        is_picture = c.picture-picture.ensures wiring is_net;
        own_unit = ap (λ (m : MachineState). unit_at m unit) c.come.ensures.units ∙ c.sense_unit.ensures.own
            ∙ ap (λ (p : Point). any_sensed (unit_at old.units unit) c.args.cycle p (has_hub c.picture-picture.result))
            (get_or_default points place C K c.requires.within);
        other_units = λ other apart.
            ap (λ (m : MachineState). unit_at m other) c.come.ensures.units ∙ c.sense_unit.ensures.others other apart;
        own_place = ap (λ (ps : List ℕ). slice_index_or ps unit 0) c.come.ensures.places ∙ come;
        other_places = λ other apart.
            ap (λ (ps : List ℕ). slice_index_or ps other 0) c.come.ensures.places
            ∙ get_or-set_other old.places unit other (place + 1) 0 (λ same. apart (omega (arith, same)));
        own_emitted =
            ap (λ (es : List Bool). slice_index_or es unit false) c.come.ensures.emitted
            ∙ get_or-set_same old.emitted unit false false emitted_low;
        other_emitted = λ other apart.
            ap (λ (es : List Bool). slice_index_or es other false) c.come.ensures.emitted
            ∙ get_or-set_other old.emitted unit other false false (λ same. apart (omega (arith, same)));
        exits = λ p hub low. ap (λ (sets : List HubSet). is_at sets p hub) c.come.ensures.exits;
        own_closed = λ hub low.
            subst
            (λ (q : ℕ). q < 14
            → is_at c.come.new.self.closed q hub
            ≡ (is_at old.closed q hub || any_closes (unit_at c.sense_unit.new.units unit) c.args.cycle (point_at q) hub))
            come (c.come.ensures.own hub) low
            ∙ ap (λ (m : MachineState). is_at old.closed (place + 1) hub || any_closes (unit_at m unit) c.args.cycle (point_at (place + 1)) hub)
            (sym c.come.ensures.units);
        other_closed = λ p hub low apart. c.come.ensures.others p hub low (λ same. apart (same ∙ come));
      };
      size = c.size.ensures.size;
    }
