use Rattle.std.proofs.Common.{◌≡◌, drop}
use Rattle.explain_origins.specs.Storage.{is_read}
use Rattle.explain_origins.proofs.storage.is_read.Given as goal

-- none of the ways so far begins there
abbrev pub invariant-loop-way : goal.invariant-loop-way
invariant-loop-way l = is_read l.fn.unit (drop l.way-index l.ways) ≡ is_read l.fn.unit l.ways
