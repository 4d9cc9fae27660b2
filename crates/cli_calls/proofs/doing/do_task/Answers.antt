use Rattle.cli_calls.proofs.doing.do_task.Goals as goal

pub returns-in-ShowDeck : goal.returns-in-ShowDeck
returns-in-ShowDeck g c = rw c.in-ShowDeck.is c.show_deck.ensures

pub returns-in-Explain : goal.returns-in-Explain
returns-in-Explain g c =
    let end = c.tell_to_end.ensures in
    rw c.in-Explain.is (record { done = end.done; refused = end.refused; device = end.device; memory = end.memory; statuses = end.statuses })

pub returns-in-Ledger : goal.returns-in-Ledger
returns-in-Ledger g c =
    let end = c.tell_to_end-in-Ledger.ensures in
    rw c.in-Ledger.is (record { done = end.done; refused = end.refused; device = end.device; memory = end.memory; statuses = end.statuses })

pub returns-in-Trace : goal.returns-in-Trace
returns-in-Trace g c =
    let end = c.trace_to_end.ensures in
    rw c.in-Trace.is (record { done = end.done; refused = end.refused; device = end.device; memory = end.memory; statuses = end.statuses })

pub returns-in-Show : goal.returns-in-Show
returns-in-Show g c =
    let end = c.show_to_end.ensures in
    rw c.in-Show.is (record { done = end.done; refused = end.refused; device = end.device; memory = end.memory; statuses = end.statuses })

pub returns-in-Fold : goal.returns-in-Fold
returns-in-Fold g c =
    let end = c.fold_to_end.ensures in
    rw (c.in-Fold.is, ← c.character.ensures.same) (record { done = end.done; refused = end.refused; statuses = end.statuses })

pub returns-in-Run : goal.returns-in-Run
returns-in-Run g c =
    let end = c.run_to_end.ensures in
    rw c.in-Run.is (record {
      done = end.done;
      stopped = λ above. let stop = end.stopped above in (stop.0, stop.1, (_, stop.2), stop.3);
      statuses = end.statuses;
    })

pub returns-in-RunWhole : goal.returns-in-RunWhole
returns-in-RunWhole g c =
    let end = c.run_whole_to_end.ensures in
    rw (c.in-RunWhole.is, ← c.all.ensures) (record {
      done = end.done;
      stopped = λ above. let stop = end.stopped above in (stop.0, stop.1, (_, stop.2), stop.3);
      statuses = end.statuses;
    })

pub returns-in-RunPages : goal.returns-in-RunPages
returns-in-RunPages g c =
    let end = c.run_whole_to_end-in-RunPages.ensures in
    rw (c.in-RunPages.is, ← c.range_of.ensures) (record {
      done = end.done;
      stopped = λ above. let stop = end.stopped above in (stop.0, stop.1, (_, stop.2), stop.3);
      statuses = end.statuses;
    })

pub returns-in-ReplayByOrders : goal.returns-in-ReplayByOrders
returns-in-ReplayByOrders g c =
    let end = c.replay_by_orders_to_end.ensures in
    rw c.in-ReplayByOrders.is
    (record { done = end.done; refused = end.refused; device = end.device; memory = end.memory; statuses = end.statuses })

pub returns-in-MatchDeck : goal.returns-in-MatchDeck
returns-in-MatchDeck g c =
    let end = c.match_deck_to_end.ensures in
    rw c.in-MatchDeck.is
    (record { done = end.wired; refused = end.unmatched; device = end.device; memory = end.memory; statuses = end.statuses })
