-- What each item of a draft is, as it gains items.
use Rattle.std.proofs.Common.{◌≡◌, [], Result, Ok, Err, sym, subst, All}
use Rattle.std.proofs.lemmas.List.Elements.{All-nil}
use Rattle.std.specs.Prelude.{OnOk}
use Rattle.readback_panels.proofs.ChainsGained.{chains_read}
use Rattle.readback_panels.proofs.ItemsGained.{more_of_kind}
use Rattle.readback_panels.specs.Chains.{GainsChains, IsReadTotal}
use Rattle.readback_panels.specs.Items.{Gains, IsCardAmount, IsLiteral, IsTotalText}
use Rattle.readback_panels.specs.Reads.{AreRead, IsReadItem, amount, literal, text, total, total_text}
use Rattle.readback_panels.specs.Zones.{IsTextOutside}
use Rattle.readback_panels.specs.declared.draft.Draft.{Draft}
use Rattle.hubs.specs.SetupsWords.Wiring.{Wiring}

module _ (setup : Wiring) where
  pub read_nothing : (draft : Draft) → draft.items.items ≡ [] → AreRead setup draft
  read_nothing draft none = subst (All (IsReadItem setup)) (sym none) (All-nil (IsReadItem setup))

  pub read_chains : (old new : Draft) → AreRead setup old → GainsChains setup old new → AreRead setup new
  read_chains old new before chains =
      more_of_kind (IsReadTotal setup) (IsReadItem setup) (λ item is. total is) old new before (chains_read setup old chains)

  pub read_amounts : (old new : Draft) → AreRead setup old → Gains IsCardAmount old new → AreRead setup new
  read_amounts old new before gains = more_of_kind IsCardAmount (IsReadItem setup) (λ item is. amount is) old new before gains

  pub read_texts : {E : Type 0} (result : Result (Unit {0}) E) (old new : Draft) → AreRead setup old
      → OnOk result (Gains (IsTextOutside setup) old new) → OnOk result (AreRead setup new)
  read_texts (Ok _) old new before gains =
      more_of_kind (IsTextOutside setup) (IsReadItem setup) (λ item is. text is) old new before gains
  read_texts (Err _) old new before gains = tt

  pub read_total_texts : (old new : Draft) → AreRead setup old → Gains IsTotalText old new → AreRead setup new
  read_total_texts old new before gains = more_of_kind IsTotalText (IsReadItem setup) (λ item is. total_text is) old new before gains

  pub read_literals : (old new : Draft) → AreRead setup old → Gains IsLiteral old new → AreRead setup new
  read_literals old new before gains = more_of_kind IsLiteral (IsReadItem setup) (λ item is. literal is) old new before gains
