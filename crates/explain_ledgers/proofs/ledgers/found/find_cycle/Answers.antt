use Rattle.std.proofs.Common.{ap, Option, Result, Ok, Err, None}
use Rattle.std.specs.declared.alloc.AllocError.{AllocError}
use Rattle.explain_ledgers.specs.declared.ledgers.found.FoundCycle.{FoundCycle}
use Rattle.explain_ledgers.proofs.LedgersWords.SoughtLines.{found-line, found-none, found-page, found-places, only-sought}
use Rattle.explain_ledgers.proofs.ledgers.found.find_cycle.Goals as goal

abbrev answer_of : Result (Option FoundCycle) AllocError → Option FoundCycle
answer_of (Ok found) = found
answer_of (Err failed) = None

pub returns-clause-found : goal.returns-clause-found
returns-clause-found c =
    found-places c.args.setup.now c.args.cards.now (record { page = c.args.page; line = c.args.line }) c.index.result.now.found
    (only-sought c.args.setup.now c.args.cards.now (record { page = c.args.page; line = c.args.line }) c.in_ok-sought.sought.items
    c.index.result.now c.in_ok-sought.ensures.places c.in_ok-sought.ensures.found c.index.ensures)

pub returns-clause-page : goal.returns-clause-page
returns-clause-page c =
    found-page c.args.setup.now c.args.cards.now (record { page = c.args.page; line = c.args.line }) c.index.result.now.found
    (only-sought c.args.setup.now c.args.cards.now (record { page = c.args.page; line = c.args.line }) c.in_ok-sought.sought.items
    c.index.result.now c.in_ok-sought.ensures.places c.in_ok-sought.ensures.found c.index.ensures)

pub returns-clause-line : goal.returns-clause-line
returns-clause-line c =
    found-line c.args.setup.now c.args.cards.now (record { page = c.args.page; line = c.args.line }) c.index.result.now.found
    (only-sought c.args.setup.now c.args.cards.now (record { page = c.args.page; line = c.args.line }) c.in_ok-sought.sought.items
    c.index.result.now c.in_ok-sought.ensures.places c.in_ok-sought.ensures.found c.index.ensures)

pub returns-clause-none : goal.returns-clause-none
returns-clause-none c none =
    found-none c.args.setup.now c.args.cards.now (record { page = c.args.page; line = c.args.line }) c.index.result.now.found
    (only-sought c.args.setup.now c.args.cards.now (record { page = c.args.page; line = c.args.line }) c.in_ok-sought.sought.items
    c.index.result.now c.in_ok-sought.ensures.places c.in_ok-sought.ensures.found c.index.ensures)
    (ap answer_of none)
