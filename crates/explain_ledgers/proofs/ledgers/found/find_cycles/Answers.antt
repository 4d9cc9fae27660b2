use Rattle.std.proofs.Common.{◌∙◌, ap, refl, map}
use Rattle.std.proofs.lemmas.List.{map-id}
use Rattle.std.proofs.lemmas.List.Elements.{All-map, All-same}
use Rattle.std.proofs.lemmas.Simd.{map-map}
use Rattle.explain_ledgers.specs.LedgersWords.Running.{IsSought, sought_at}
use Rattle.explain_ledgers.specs.LedgersWords.SoughtLines.{IsUnfound, unfound}
use Rattle.explain_ledgers.proofs.LedgersWords.SoughtLines.{sought-back}
use Rattle.explain_ledgers.proofs.ledgers.found.find_cycles.Goals as goal

pub seek-requires-clause-unfound : goal.seek-requires-clause-unfound
seek-requires-clause-unfound c =
    All-same IsUnfound c.as_mut_slice.result.now (map unfound c.args.places.now) (c.as_mut_slice.ensures.value ∙ c.in_ok-sought.ensures)
    (All-map IsUnfound unfound c.args.places.now (λ k d low. refl))

pub returns-clause-places : goal.returns-clause-places
returns-clause-places c =
    ap (map sought_at)
    (sought-back c.in_ok-sought.sought.len c.seek.new.sought c.as_mut_slice.result.now c.in_ok-sought.sought.items c.in_ok-seek.ensures.places
    c.as_mut_slice.ensures.len)
    ∙ c.in_ok-seek.ensures.places
    ∙ ap (map sought_at) (c.as_mut_slice.ensures.value ∙ c.in_ok-sought.ensures)
    ∙ map-map sought_at unfound c.args.places.now
    ∙ map-id c.args.places.now

pub returns-clause-found : goal.returns-clause-found
returns-clause-found c =
    All-same (IsSought c.args.setup.now c.args.cards.now) _ c.seek.new.sought
    (sought-back c.in_ok-sought.sought.len c.seek.new.sought c.as_mut_slice.result.now c.in_ok-sought.sought.items c.in_ok-seek.ensures.places
    c.as_mut_slice.ensures.len)
    c.in_ok-seek.ensures.found
