use Rattle.std.proofs.Common.{◌∙◌, ap, arith, sym}
use Rattle.std.proofs.lemmas.Bool.{false≢true}
use Rattle.std.proofs.lemmas.List.{get_or-replicate}
use Rattle.machine_sets.proofs.BitSets.BitLemmas.{is_bit-zero}
use Rattle.net.specs.HubSets.{is_bit}
use Rattle.machine_served.proofs.WaitsWords.Words.{all_noted, word_comes}
use Rattle.machine_served.proofs.waits.waiting.all_waits.Goals as goal

pub loop-place-init : goal.loop-place-init
loop-place-init c wiring is_net unit other low = (
  λ at. absurd (false≢true (sym (is_bit-zero other) ∙ ap (λ w. is_bit w other) (sym (get_or-replicate 45 unit 0 0 low)) ∙ at)),
  λ none. absurd (omega (arith, none.0)),
)

pub loop-place-preserved : goal.loop-place-preserved
loop-place-preserved c wiring is_net unit other low =
    word_comes wiring c.loop-place.place unit other _ _ c.waiting_for-waiting.result low (c.note.ensures unit other low)
    (c.loop-place.invariant wiring is_net unit other low) (c.waiting_for-waiting.ensures wiring is_net unit)

pub returns : goal.returns
returns c wiring is_net unit is other =
    all_noted wiring c.loop-place.place unit other _ (omega arith)
    (c.loop-place.invariant wiring is_net unit other (omega (arith, is.0, is.1)))
