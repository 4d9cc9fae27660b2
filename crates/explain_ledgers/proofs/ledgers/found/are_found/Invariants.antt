use Rattle.std.specs.Prelude.{◌≡◌, All, take, true}
use Rattle.explain_ledgers.specs.LedgersWords.SoughtLines.{is_found}
use Rattle.explain_ledgers.specs.declared.ledgers.found.SoughtLine.{SoughtLine}
use Rattle.explain_ledgers.proofs.ledgers.found.are_found.Given as goal

-- the lines so far are found
abbrev pub invariant-loop-line : goal.invariant-loop-line
invariant-loop-line l = All (λ (line : SoughtLine). is_found line ≡ true) (take l.line-index l.sought)
