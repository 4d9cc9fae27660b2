use Rattle.std.proofs.Common.{◌≡◌, ◌∙◌, sym}
use Rattle.std.proofs.lemmas.Option.{same_Some}
use Rattle.hubs.specs.declared.hub.Hub.TheVariants.{EM}
use Rattle.net.proofs.KindExits.{EM-row, gained}
use Rattle.net.proofs.kinds.emitter_exits.Goals as goal

pub returns-in-Some : goal.returns-in-Some
returns-in-Some c cycle is emitter row own there =
    let same : c.in-Some.emitter ≡ emitter = same_Some _ _ (sym c.in-Some.is ∙ c.emitter_of.ensures cycle is ∙ own) in
    gained _ _ _ c.insert_row.ensures (EM emitter row) (rw same (EM-row emitter row there))
