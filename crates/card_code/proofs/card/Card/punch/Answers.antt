use Rattle.std.proofs.Common.{◌≡◌, ◌*◌, ◌+◌, ◌/◌, arith, length, subst, ℕ}
use Rattle.std.proofs.lemmas.Nat.{le_or_l, le_or_r}
use Rattle.card_code.proofs.Punches.{HasPunched, all-characters, characters-more, joined-characters, joined-more, joined-none, punched-card, punched-eight, punched-more, punched-none}
use Rattle.card_code.proofs.card.Card.punch.Goals as goal

pub loop-eight-init : goal.loop-eight-init
loop-eight-init c = rw (c.self-2.view_is, c.blank.ensures) (punched-none c.args.line.now, joined-none c.args.line.now)

pub loop-eight-preserved : goal.loop-eight-preserved
loop-eight-preserved c =
    let eight = c.loop-eight.eight in
    let line = c.args.line.now in
    let sets = c.listed_sets-sets in
    let put = c.punch_eight.ensures in
    let next : 8 * (eight + 1) ≡ 8 * eight + 8 = omega arith in (
      rw (next)
          (punched-eight (8 * eight) sets.result line c.loop-eight.self-inside.columns c.punch_eight.new.columns sets.ensures.rows
          put.punched put.before put.behind put.whole c.loop-eight.invariant.0),
      joined-more eight c.loop-eight.joined sets.result line sets.ensures.eight sets.ensures.rows c.loop-eight.invariant.1,
    )

pub loop-place-init : goal.loop-place-init
loop-place-init c =
    let end = c.loop-eight-test.false in
    let last = c.loop-eight.auto.eight-end in
    let all : c.loop-eight.eight ≡ length c.args.line.now / 8 = omega (arith, end, last) in (
      subst (λ (eights : ℕ). HasPunched (8 * eights) c.args.line.now c.loop-eight.self-inside.columns) all c.loop-eight.invariant.0,
      λ few k from less. absurd (omega (arith, from, less)),
    )

pub loop-place-preserved : goal.loop-place-preserved
loop-place-preserved c =
    let place = c.loop-place.place in
    let set = c.listed_set-set in
    let short = c.requires in
    let test = c.loop-place-test.true in (
      rw (c.of_set.ensures)
          (punched-more place set.result c.args.line.now c.loop-place.self-inside.columns (omega (arith, short, test)) set.ensures
          c.loop-place.invariant.0),
      λ few.
          let old = le_or_l c.loop-place.joined_rest set.result in
          let new = le_or_r c.loop-place.joined_rest set.result in
          characters-more (8 * (length c.args.line.now / 8)) place set.result c.args.line.now set.ensures (omega (arith, few, new))
          (c.loop-place.invariant.1 (omega (arith, few, old))),
    )

pub returns-then-joined_rest-le-ALL_ROWS-clause-card : goal.returns-then-joined_rest-le-ALL_ROWS-clause-card
returns-then-joined_rest-le-ALL_ROWS-clause-card c =
    let place = c.loop-place.place in
    let line = c.args.line.now in
    let end = c.loop-place-test.false in
    let last = c.loop-place.auto.place-end in
    let few = c.if-joined_rest-le-ALL_ROWS.true in
    let eights = c.loop-eight.eight in
    let whole = c.loop-eight-test.false in
    let joined = joined-characters eights c.loop-eight.joined line (c.have_rows_alone.ensures c.if-have_rows_alone.true) c.loop-eight.invariant.1 in
    punched-card place line c.loop-place.self-inside.columns (omega (arith, end, last)) c.requires
    (all-characters (8 * (length line / 8)) place line (λ k from less. joined k from (omega (arith, less, whole)))
    (c.loop-place.invariant.1 (omega (arith, few))))
    c.loop-place.invariant.0
