use Rattle.std.proofs.Common.{rules, ◌≡◌, ◌∙◌, Bool, ◌||◌, ap, arith, length, refl, true, false, slice_index_or}
use Rattle.std.proofs.lemmas.List.{get_or_default, get_or-set_other, get_or-set_same}
use Rattle.net.specs.Cycles.{points}
use Rattle.net.specs.HubSets.{HubSet, has_hub}
use Rattle.net.specs.declared.cycle.Point.{Point}
use Rattle.net.specs.declared.cycle.Point.TheVariants.{C, K}
use Rattle.machine_served.specs.ServedUnits.AnyUnit.{any_emits, unit_at}
use Rattle.machine_served.specs.ServedRuns.Course.{no_set}
use Rattle.machine_served.proofs.served_runs.course.Course.emit.Goals as goal

either : {a b c d : Bool} → a ≡ b → c ≡ d → (a || c) ≡ (b || d)
either one other = cc

pub returns : goal.returns
returns c =
    let old = c.args.self.now in
    let number = c.args.unit in
    let unit = unit_at old.units number in
    let place = slice_index_or old.places number 0 in
    let emitted_long : length old.emitted ≡ 46 = search rules in
    let exits_long : length old.exits ≡ 14 = search rules in
    record {
      allowed = c.requires.may;
      units = λ other. refl;
      places = λ other. refl;
      own_emitted = get_or-set_same old.emitted number true false (omega (arith, emitted_long, c.requires.unit.1));
      other_emitted = λ other apart. get_or-set_other old.emitted number other true false (λ same. apart (omega (arith, same)));
      own_exits = λ hub.
          ap (λ (set : HubSet). has_hub set hub)
          (get_or-set_same old.exits place c.emit_unit.new.exits no_set (omega (arith, exits_long, c.requires.may.within)))
          ∙ c.emit_unit.ensures hub
          ∙ either
          (ap (λ (set : HubSet). has_hub set hub)
          (get_or_default old.exits place c.index-self-place.result no_set (omega (arith, exits_long, c.requires.may.within))))
          (ap (λ (point : Point). any_emits unit c.args.cycle point hub) (get_or_default points place C K c.requires.may.within));
      other_exits = λ other hub low apart.
          ap (λ (set : HubSet). has_hub set hub)
          (get_or-set_other old.exits place other c.emit_unit.new.exits no_set (λ same. apart (omega (arith, same))));
      closed = λ other hub low. refl;
    }
