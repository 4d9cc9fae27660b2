use Rattle.std.proofs.Common.{refl, subst, sym, true≢false}
use Rattle.std.proofs.lemmas.Option.{slice_get-get_or}
use Rattle.cli_matching.proofs.MatchDecks.Differing.{same-more, two-apart}
use Rattle.cli_matching.specs.MatchDecks.Differing.{IsFirstDifference}
use Rattle.cli_matching.proofs.match_decks.lines.first_difference.Goals as goal

pub returns-then-not-is_same-clause-first : goal.returns-then-not-is_same-clause-first
returns-then-not-is_same-clause-first c =
    subst (λ p. IsFirstDifference c.args.one.now c.args.other.now p) (sym c.lower_place.ensures)
    (two-apart c.args.one.now c.args.other.now c.loop-place.place c.loop-place.invariant _ _
    (slice_get-get_or c.args.one.now c.loop-place.place _ c.loop-place-test.true)
    (slice_get-get_or c.args.other.now c.loop-place.place _ c.if-place-other.false)
    (λ same. true≢false (sym (c.if-not-is_same.ensures.1 same))))

pub loop-place-preserved : goal.loop-place-preserved
loop-place-preserved c =
    same-more c.args.one.now c.args.other.now c.loop-place.place c.loop-place.invariant _ _
    (slice_get-get_or c.args.one.now c.loop-place.place _ c.loop-place-test.true)
    (slice_get-get_or c.args.other.now c.loop-place.place _ c.if-place-other.false)
    (c.if-not-is_same.ensures.0 refl)
