use Rattle.std.proofs.Common.{◌∙◌, sym, subst}
use Rattle.fault_lines.specs.FaultsWords.Lines.{IsTold}
use Rattle.fault_lines.specs.declared.faults.fault.Fault.{Fault}
use Rattle.cli_decks.proofs.FoldingWords.FoldCalls.Refusing.{long_is_refused}
use Rattle.cli_decks.specs.FoldingWords.FoldCalls.FoldEnds.{no_deck}
use Rattle.cli_decks.proofs.folding.fold_calls.serving.refuse.Goals as goal

pub returns-then-is_too_long-clause-refused : goal.returns-then-is_too_long-clause-refused
returns-then-is_too_long-clause-refused g c = λ three.
    long_is_refused c.write_long_cards.result c.ends.result.status c.ends.result.is_told c.ends.ensures c.args.deck.now c.args.fault _ _
    (sym c.is_too_long.ensures ∙ c.if-is_too_long.true) c.requires c.write_long_cards.ensures

pub returns-else-is_too_long-clause-refused : goal.returns-else-is_too_long-clause-refused
returns-else-is_too_long-clause-refused g c = λ three.
    no_deck c.args.fault c.requires (sym c.is_too_long.ensures ∙ c.if-is_too_long.false)
    (subst (λ (of : Fault). IsTold of c.tell.result.is_told (g.V.Write.contents c.args.faults.now) (g.V.Write.contents c.tell.new.faults)) c.into.ensures
    c.tell.ensures.line)
