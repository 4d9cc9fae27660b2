use Rattle.std.proofs.Common.{◌∙◌, inr, List, refl, subst, sym, ℕ}
use Rattle.std.specs.Io.KnownBytes.{Appends}
use Rattle.card_code.specs.Deck.{HasDeckFault, IsDeckText}
use Rattle.cli_decks.specs.FoldingWords.FoldCalls.FoldEnds.{IsRefused}
use Rattle.fault_lines.proofs.ProgramIo.Fronting.{front_of_bytes}
use Rattle.cli_decks.proofs.folding.fold_calls.serving.fold_to_end.Goals as goal

pub refuse-requires : goal.refuse-requires
refuse-requires g c =
    subst (λ (bytes : List ℕ). HasDeckFault bytes c.in-Err.fault) (c.as_slice.ensures.value ∙ sym c.as_slice-in-Err.ensures.value)
    c.in-Err.ensures.fault

pub returns-clause-refused : goal.returns-clause-refused
returns-clause-refused g c = λ three. (
  refl,
  subst (λ (bytes : List ℕ). IsRefused bytes c.refuse.result.is_told (g.V.Write.contents c.args.faults.now) (g.V.Write.contents c.refuse.new.faults))
      (c.as_slice-in-Err.ensures.value ∙ c.in-Ok.ensures.deck) (c.refuse.ensures.refused three),
)

pub returns-in-Ok-check_deck-clause-front : goal.returns-in-Ok-check_deck-clause-front
returns-in-Ok-check_deck-clause-front g c =
    inr (front_of_bytes c.as_slice-in-Ok-check_deck.result.now (λ after written. record {
      is_deck = subst IsDeckText (c.as_slice.ensures.value ∙ c.in-Ok.ensures.deck) c.in-Ok-check_deck.ensures.deck;
      written =
          subst (Appends (g.W.Write.contents c.args.out.now) after) (c.as_slice-in-Ok-check_deck.ensures.value ∙ c.in-Ok.ensures.deck) written;
    }) c.write_folded.ensures.front)
