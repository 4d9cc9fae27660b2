use Rattle.std.proofs.Common.{◌+◌, ◌-◌, ◌^◌, List, refl, replicate, subst, sym, true}
use Rattle.machine_sets.specs.BitSets.Bits.{has_place}
use Rattle.net.specs.Tellings.{AreBranches, is_led_at, is_told}
use Rattle.net.specs.declared.tellings.Branch.{Branch}
use Rattle.net.proofs.KindExits.{every-place, may-be-told}
use Rattle.net.proofs.kinds.widest_told.Goals as goal

pub returns-in-Some : goal.returns-in-Some
returns-in-Some c wiring rows cycle kind is_net to_entries is few telling_is hub near may =
    let branches = c.as_slice.result.now in
    let shut = has_place (replicate 31 (2 ^ 64 - 1)) in
    let are = subst (λ (some : List Branch). AreBranches 1041 rows (is_led_at rows (1024 + kind)) some) (sym c.as_slice.ensures.value) telling_is.branches in
    c.told_hubs.ensures (is_told (is_led_at rows (1024 + kind)) (is_led_at rows) shut branches)
    (c.in-Some.ensures.told (is_led_at rows (1024 + kind)) (is_led_at rows) telling_is.base (λ k d low. (are.each k d low).orders)) hub near
    (may-be-told wiring rows cycle kind shut branches is_net to_entries is few are c.in-Some.ensures.last every-place hub may)

pub returns-in-None : goal.returns-in-None
returns-in-None c wiring rows cycle kind is_net to_entries is few telling_is hub near may = c.told_hubs-in-None.ensures (λ other. true) c.all.ensures hub near refl
