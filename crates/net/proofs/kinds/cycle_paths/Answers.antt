use Rattle.net.proofs.kinds.cycle_paths.Goals as goal

pub returns : goal.returns
returns c = record {
  begun = λ wiring rows lead. record {
    links = c.args.links.now;
    lead = lead;
    exits = c.emitting_in_run_in.result;
    emitting = c.emitting_in_run_in.ensures wiring;
    parted = c.in_ok-run_in.ensures;
  };
  kinds = c.in_ok-kinds.ensures;
}
