use Rattle.std.proofs.Common.{◌≡◌, false, length, take}
use Rattle.machine_sets.proofs.SpreadsWords.PassLemmas.{HasEntriesOf}
use Rattle.machine_sets.specs.SpreadsWords.Passing.{RunsPass, SameSets}
use Rattle.machine_sets.proofs.spreads.contact_runs.pass_eights.Given as goal

-- the eights so far have passed on their rows, and entries keep their sets
abbrev pub invariant-loop-eight : goal.invariant-loop-eight
invariant-loop-eight l = record {
  passed : RunsPass l.digits l.zones (take l.eight-index l.eights) l.fn.sets l.sets;
  entries : HasEntriesOf l.fn.sets l.sets;
  same : l.passed ≡ false → SameSets l.fn.sets l.sets;
  long : length l.sets ≡ 1936;
}
