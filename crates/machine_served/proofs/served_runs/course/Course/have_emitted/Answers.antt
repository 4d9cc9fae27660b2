use Rattle.std.proofs.Common.{◌∙◌, ◌-◌, ap, sym, subst, arith, inl, inr, refl, ℕ}
use Rattle.std.proofs.lemmas.Bool.{cases_eq, false≢true}
use Rattle.net.specs.HubSets.{is_bit}
use Rattle.machine_served.specs.ServedWords.Steps.{HasEmitted}
use Rattle.machine_served.specs.ServedRuns.Course.{served_in}
use Rattle.machine_served.proofs.served_runs.course.Course.have_emitted.Goals as goal
use Rattle.machine_served.proofs.served_runs.course.Course.have_emitted.Goals.{else-has_bit-via-then-has_bit+else-not-has_emitted, else-has_bit-via-else-has_bit}

pub loop-unit-preserved : goal.loop-unit-preserved
loop-unit-preserved c other from to on = elim (cases_eq other c.loop-unit.unit) [
  | inl is ↦ elim c.else-has_bit.branch [
    | else-has_bit-via-then-has_bit+else-not-has_emitted w ↦
        subst (λ (u : ℕ). HasEmitted (served_in c.args.self.now) u c.args.place) (sym is)
        (w.has_emitted.ensures.0 w.if-not-has_emitted.false)
    | else-has_bit-via-else-has_bit w ↦
        absurd (false≢true (sym w.if-has_bit.false ∙ c.has_bit.ensures ∙ ap (λ (u : ℕ). is_bit c.args.word (u - 1)) (sym is) ∙ on))
  ]
  | inr apart ↦ c.loop-unit.invariant other from (omega (arith, to, apart)) on
]

pub returns : goal.returns
returns c = (λ on other is set. c.loop-unit.invariant other is.0 (omega (arith, is.1)) set, λ all. refl)
