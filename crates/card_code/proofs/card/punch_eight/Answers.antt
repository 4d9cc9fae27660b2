use Rattle.std.proofs.Common.{◌≢◌, ◌∙◌, ◌+◌, ap, arith, inl, inr, refl, slice_index, ℕ}
use Rattle.std.proofs.lemmas.Bool.Decides.{eqb_tells}
use Rattle.std.proofs.lemmas.List.{get_or-set_other, get_or-set_same, length-set}
use Rattle.card_code.specs.Columns.{column_of}
use Rattle.card_code.proofs.Punches.{rows-at, rows-few}
use Rattle.card_code.proofs.card.punch_eight.Goals as goal

pub of_set-requires : goal.of_set-requires
of_set-requires c = rw (rows-at c.args.sets c.loop-k.k c.requires.eight c.loop-k-test.true) (rows-few (slice_index c.args.sets c.loop-k.k))

pub loop-k-init : goal.loop-k-init
loop-k-init c = record { punched = λ j less. absurd (omega (arith, less)); before = λ j less. refl; behind = λ j past. refl; whole = c.told-columns }

pub loop-k-preserved : goal.loop-k-preserved
loop-k-preserved c =
    let below = c.loop-k-test.true in
    let within = c.requires.within in
    let whole = c.loop-k.invariant.whole in
    let at = c.args.first + c.loop-k.k in
    let other = λ (j : ℕ) (apart : j ≢ at). get_or-set_other c.loop-k.columns at j c.of_set.result 0 apart in
    record {
      punched = λ j less. elim (eqb_tells j c.loop-k.k) [
        | inl same ↦ rw (same.1) (get_or-set_same c.loop-k.columns at c.of_set.result 0 (omega (arith, below, within, whole)) ∙ c.of_set.ensures)
        | inr apart ↦
            let unlike = apart.1 in
            other (c.args.first + j) (λ e. unlike (omega (arith, e))) ∙ c.loop-k.invariant.punched j (omega (arith, less, unlike))
      ];
      before = λ j less. other j (λ e. absurd (omega (arith, e, less))) ∙ c.loop-k.invariant.before j less;
      behind = λ j past. other j (λ e. absurd (omega (arith, e, past, below))) ∙ c.loop-k.invariant.behind j past;
      whole = length-set c.loop-k.columns at c.of_set.result ∙ whole;
    }

pub returns-clause-punched : goal.returns-clause-punched
returns-clause-punched c k low =
    let end = c.loop-k-test.false in
    c.loop-k.invariant.punched k (omega (arith, low, end)) ∙ ap column_of (rows-at c.args.sets k c.requires.eight low)

pub returns-clause-before : goal.returns-clause-before
returns-clause-before c = c.loop-k.invariant.before

pub returns-clause-behind : goal.returns-clause-behind
returns-clause-behind c = c.loop-k.invariant.behind

pub returns-clause-whole : goal.returns-clause-whole
returns-clause-whole c = c.loop-k.invariant.whole
