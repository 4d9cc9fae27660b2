use Rattle.std.proofs.Common.{◌∙◌, ap, sym, replicate, ◌++◌, ◌∷◌, [], ◌≡◌, ℕ, List, arith}
use Rattle.std.proofs.lemmas.Grind.{replicate_next}
use Rattle.machine_sets.proofs.BitSets.LedLemmas.{leads-zeros, length-zeros}
use Rattle.machine_sets.proofs.BitSets.BundleLemmas.{AreRows-zeros}
use Rattle.machine_sets.proofs.bit_sets.rows.Rows.new.Goals as goal

pub loop-exit-preserved : goal.loop-exit-preserved
loop-exit-preserved c =
    c.in_ok-push.ensures.items ∙ ap (λ (rows : List (List ℕ)). rows ++ replicate {A = ℕ} 15 0 ∷ []) c.loop-exit.invariant
    ∙ sym (replicate_next c.loop-exit._exit (replicate {A = ℕ} 15 0))

pub invariant_of-result : goal.invariant_of-result
invariant_of-result c = AreRows-zeros c.loop-exit._exit _ _ c.new.result.items c.new-2.result.items c.loop-exit.rows.items (omega arith) c.new.ensures.items c.new-2.ensures.items c.loop-exit.invariant

pub returns-clause-long : goal.returns-clause-long
returns-clause-long c =
    let all : c.loop-exit._exit ≡ 1040 = omega arith in
    length-zeros c.loop-exit._exit c.loop-exit.rows.items c.loop-exit.invariant ∙ all

pub returns-clause-empty : goal.returns-clause-empty
returns-clause-empty c from to = leads-zeros c.loop-exit._exit from to c.loop-exit.rows.items c.loop-exit.invariant
