use Rattle.explain_origins.proofs.Leaving.{storage-kept}
use Rattle.explain_origins.proofs.laws.storage_is_kept.Goals as goal

pub returns : goal.returns
returns c = storage-kept
