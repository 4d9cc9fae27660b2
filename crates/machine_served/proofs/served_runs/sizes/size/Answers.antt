use Rattle.std.proofs.Common.{◌≡◌, sym, arith, ℕ, zero, suc, ◌+◌, ◌-◌, ◌≤◌, Bool, true, false, refl, subst, if◌then◌else◌}
use Rattle.hubs.specs.declared.hub.Hub.{Hub}
use Rattle.net.specs.HubSets.{has_hub}
use Rattle.machine_served.specs.ServedRuns.Seen.{HasUpTo, IsIn}
use Rattle.machine_served.proofs.served_runs.sizes.size.Goals as goal
use Rattle.machine_served.proofs.served_runs.sizes.size.Goals.{then-is_in, else-is_in}

none_yet : (set : Hub → Bool) → HasUpTo set 0 0
unfolding HasUpTo
none_yet set = refl

one_more : (set : Hub → Bool) (number count : ℕ) (here : Bool) → 1 ≤ number → IsIn set number here → HasUpTo set (number - 1) count
    → HasUpTo set (number + 1 - 1) (count + (if here then 1 else 0))
unfolding HasUpTo
one_more set zero count here from is counted = absurd (omega (arith, from))
one_more set (suc last) count here from is counted =
    let one : suc last - 1 ≡ last = omega arith in
    let two : suc last + 1 - 1 ≡ suc last = omega arith in
    subst (λ (n : ℕ). HasUpTo set n (count + (if here then 1 else 0))) (sym two)
    (here, count, is, subst (λ (n : ℕ). HasUpTo set n count) one counted, refl)

pub loop-number-init : goal.loop-number-init
loop-number-init c = record { counted = none_yet (has_hub c.args.picture.now); few = omega arith }

pub loop-number-preserved : goal.loop-number-preserved
loop-number-preserved c =
    elim c.if-is_in.branch [
      | then-is_in w ↦
          let is = subst (IsIn (has_hub c.args.picture.now) c.loop-number.number) w.if-is_in.true c.is_in.ensures in
          rw w.count-is (record {
            counted = one_more (has_hub c.args.picture.now) c.loop-number.number c.loop-number.count true c.loop-number.auto.number is
                c.loop-number.invariant.counted;
            few = omega (arith, c.loop-number.invariant.few, c.loop-number.auto.number);
          })
      | else-is_in w ↦
          let is = subst (IsIn (has_hub c.args.picture.now) c.loop-number.number) w.if-is_in.false c.is_in.ensures in
          let same : c.loop-number.count + 0 ≡ c.loop-number.count = omega arith in
          rw w.count-is (record {
            counted = subst (HasUpTo (has_hub c.args.picture.now) (c.loop-number.number + 1 - 1)) same
                (one_more (has_hub c.args.picture.now) c.loop-number.number c.loop-number.count false c.loop-number.auto.number is
                c.loop-number.invariant.counted);
            few = omega (arith, c.loop-number.invariant.few);
          })
    ]

pub returns : goal.returns
returns c =
    let last : c.loop-number.number - 1 ≡ 1936 = omega arith in
    record {
      size = subst (λ (n : ℕ). HasUpTo (has_hub c.args.picture.now) n c.loop-number.count) last c.loop-number.invariant.counted;
      few = omega (arith, c.loop-number.invariant.few, last);
    }
