use Rattle.std.proofs.Common.{◌≡◌, ◌∙◌, ap, sym, subst, arith, true}
use Rattle.std.proofs.lemmas.Bool.{false≢true}
use Rattle.machine_served.specs.ServedWords.Steps.{MaySense}
use Rattle.machine_served.specs.ServedRuns.Course.{served_in}
use Rattle.machine_served.specs.declared.served_runs.course.Course.{Course}
use Rattle.machine_served.proofs.ServedRuns.Taken.{TakenSoFar, over_stops, taken_emission, taken_none, taken_sensing, turn_of, waiting_stops, waits_by}
use Rattle.machine_served.proofs.served_runs.course.Course.take_turn.Goals as goal
use Rattle.machine_served.proofs.served_runs.course.Course.take_turn.Goals.{then-not-self-unit, else-not-self-unit}

pub loop-self-init : goal.loop-self-init
loop-self-init c = record {
  goes = λ wiring is_panel. taken_none wiring c.args.cycle c.args.unit (served_in c.args.self.now);
  few = omega arith;
}

pub returns-then-not-have_emitted-clause-turn : goal.returns-then-not-have_emitted-clause-turn
returns-then-not-have_emitted-clause-turn c wiring is_panel =
    let now = served_in c.if-not-self-unit.self in
    let so : TakenSoFar wiring c.args.cycle c.args.unit (served_in c.args.self.now) now c.loop-self.seen =
    elim c.if-not-self-unit.branch [
      | then-not-self-unit w ↦
          subst (λ (s : Course). TakenSoFar wiring c.args.cycle c.args.unit (served_in c.args.self.now) (served_in s) c.loop-self.seen)
          (sym w.self-is)
          (taken_emission wiring c.args.cycle c.args.unit (served_in c.args.self.now) (served_in c.loop-self.self)
          (served_in w.emit.new.self) c.loop-self.seen c.requires w.emit.ensures (c.loop-self.invariant.goes wiring is_panel))
      | else-not-self-unit w ↦
          subst (λ (s : Course). TakenSoFar wiring c.args.cycle c.args.unit (served_in c.args.self.now) (served_in s) c.loop-self.seen)
          (sym w.self-is) (c.loop-self.invariant.goes wiring is_panel)
    ] in
    let on : now.emitted c.args.unit ≡ true =
    elim c.if-not-self-unit.branch [
      | then-not-self-unit w ↦
          ap (λ (s : Course). (served_in s).emitted c.args.unit) w.self-is ∙ w.emit.ensures.own_emitted
      | else-not-self-unit w ↦
          ap (λ (s : Course). (served_in s).emitted c.args.unit) w.self-is ∙ w.if-not-self-unit.false
    ] in
    turn_of wiring c.args.cycle c.args.unit (served_in c.args.self.now) now c.loop-self.seen so
    (waiting_stops wiring c.args.cycle c.args.unit now on
    (λ all.
    false≢true (sym c.if-not-have_emitted.true
    ∙ c.have_emitted.ensures.1 (λ other is set.
    all other is ((waits_by wiring c.args.panel.now.waits c.args.unit other is_panel.waits c.requires is).0 set)))))

pub loop-self-preserved : goal.loop-self-preserved
loop-self-preserved c =
    let now = served_in c.if-not-self-unit.self in
    let places : now.places c.args.unit ≡ (served_in c.loop-self.self).places c.args.unit =
    elim c.if-not-self-unit.branch [
      | then-not-self-unit w ↦
          ap (λ (s : Course). (served_in s).places c.args.unit) w.self-is ∙ w.emit.ensures.places c.args.unit
      | else-not-self-unit w ↦ ap (λ (s : Course). (served_in s).places c.args.unit) w.self-is
    ] in
    let on : now.emitted c.args.unit ≡ true =
    elim c.if-not-self-unit.branch [
      | then-not-self-unit w ↦
          ap (λ (s : Course). (served_in s).emitted c.args.unit) w.self-is ∙ w.emit.ensures.own_emitted
      | else-not-self-unit w ↦
          ap (λ (s : Course). (served_in s).emitted c.args.unit) w.self-is ∙ w.if-not-self-unit.false
    ] in
    record {
      goes = λ wiring is_panel.
          let so : TakenSoFar wiring c.args.cycle c.args.unit (served_in c.args.self.now) now c.loop-self.seen =
          elim c.if-not-self-unit.branch [
            | then-not-self-unit w ↦
                subst
                (λ (s : Course). TakenSoFar wiring c.args.cycle c.args.unit (served_in c.args.self.now) (served_in s) c.loop-self.seen)
                (sym w.self-is)
                (taken_emission wiring c.args.cycle c.args.unit (served_in c.args.self.now) (served_in c.loop-self.self)
                (served_in w.emit.new.self) c.loop-self.seen c.requires w.emit.ensures (c.loop-self.invariant.goes wiring is_panel))
            | else-not-self-unit w ↦
                subst
                (λ (s : Course). TakenSoFar wiring c.args.cycle c.args.unit (served_in c.args.self.now) (served_in s) c.loop-self.seen)
                (sym w.self-is) (c.loop-self.invariant.goes wiring is_panel)
          ] in
          let may : MaySense wiring 45 now c.args.unit = record {
            within = omega (arith, places, c.loop-self-test.true);
            emitted = on;
            waited = λ other is waits.
                c.have_emitted.ensures.0 c.if-not-have_emitted.false other is
                ((waits_by wiring c.args.panel.now.waits c.args.unit other is_panel.waits c.requires is).1 waits);
          } in
          taken_sensing wiring c.args.cycle c.args.unit (served_in c.args.self.now) now (served_in c.sense-seen.new.self) c.loop-self.seen
          c.sense-seen.result c.requires (c.sense-seen.ensures.senses wiring is_panel.net may) so;
      few =
          omega (
            arith,
            places,
            c.loop-self-test.true,
            c.loop-self.invariant.few,
            c.sense-seen.ensures.few,
            c.sense-seen.ensures.onward,
          );
    }

pub returns-clause-turn : goal.returns-clause-turn
returns-clause-turn c wiring is_panel =
    turn_of wiring c.args.cycle c.args.unit (served_in c.args.self.now) (served_in c.loop-self.self) c.loop-self.seen
    (c.loop-self.invariant.goes wiring is_panel)
    (over_stops wiring c.args.cycle c.args.unit (served_in c.loop-self.self) c.loop-self-test.false)
