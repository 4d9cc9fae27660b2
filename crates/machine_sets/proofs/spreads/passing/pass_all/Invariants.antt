use Rattle.std.proofs.Common.{◌≡◌, false, length, take}
use Rattle.machine_sets.proofs.SpreadsWords.PassLemmas.{HasEntriesOf}
use Rattle.machine_sets.specs.SpreadsWords.Passing.{Passes, SameSets}
use Rattle.machine_sets.proofs.spreads.passing.pass_all.Given as goal

-- the contacts so far have passed on their rows, and entries keep their sets
abbrev pub invariant-loop-contact : goal.invariant-loop-contact
invariant-loop-contact l = record {
  passed : Passes l.digits l.zones (take l.contact-index l.contacts) l.fn.sets l.sets;
  entries : HasEntriesOf l.fn.sets l.sets;
  same : l.gained ≡ false → SameSets l.fn.sets l.sets;
  long : length l.sets ≡ 1936;
}
