use Rattle.std.proofs.Common.{rules, ◌<◌, length, subst, slice_index_or}
use Rattle.std.proofs.lemmas.List.{get_or_default}
use Rattle.net.specs.HubSets.{HubSet, has_hub}
use Rattle.net.specs.Impulsed.{IsPicture}
use Rattle.machine_served.specs.ServedRuns.Course.{is_at, no_set}
use Rattle.machine_served.proofs.served_runs.course.Course.picture.Goals as goal

pub returns : goal.returns
returns c wiring is_net =
    let exits_long : c.args.place < length c.args.self.now.exits = search rules in
    let closed_long : c.args.place < length c.args.self.now.closed = search rules in
    let exits = get_or_default c.args.self.now.exits c.args.place c.index-self-place.result no_set exits_long in
    let closed = get_or_default c.args.self.now.closed c.args.place c.index-self-place-2.result no_set closed_long in
    subst (λ (set : HubSet). IsPicture wiring (has_hub set) (is_at c.args.self.now.closed c.args.place) (has_hub c.picture.new.out)) exits
    (subst
    (λ (set : HubSet).
    IsPicture wiring (has_hub (slice_index_or c.args.self.now.exits c.args.place c.index-self-place.result)) (has_hub set)
    (has_hub c.picture.new.out))
    closed (c.picture.ensures wiring is_net))
