use Rattle.std.proofs.Common.{◌∙◌, sym, arith, bit_and}
use Rattle.std.specs.Int.{bit_not, w128}
use Rattle.std.proofs.lemmas.Nat.{and_le_l}
use Rattle.machine_sets.proofs.BitSets.ContactLemmas.{none_in_run, run_passes, run_passes_none}
use Rattle.machine_sets.proofs.BitSets.PassLemmas.{GainsPassed-none, GainsPassed-run, passed-none, passed-some}
use Rattle.machine_sets.proofs.bit_sets.passing.pass_run.Goals as goal

pub returns-then-impulsed-eq0-clause-gains : goal.returns-then-impulsed-eq0-clause-gains
returns-then-impulsed-eq0-clause-gains c = GainsPassed-none c.args.rows.now c.args.closed.now c.args.words.now c.args.contacts
    (λ place. run_passes_none c.args.contacts c.args.closed.now c.args.words.now c.run.result c.first_bits.result place c.requires
    c.run.ensures c.first_bits.ensures c.if-impulsed-eq0.true)

pub returns-then-impulsed-eq0-clause-none : goal.returns-then-impulsed-eq0-clause-none
returns-then-impulsed-eq0-clause-none c never = passed-none c.args.closed.now c.args.words.now c.args.contacts
    (λ place. run_passes_none c.args.contacts c.args.closed.now c.args.words.now c.run.result c.first_bits.result place c.requires
    c.run.ensures c.first_bits.ensures c.if-impulsed-eq0.true)

pub returns-then-bits-eq0-clause-gains : goal.returns-then-bits-eq0-clause-gains
returns-then-bits-eq0-clause-gains c = GainsPassed-none c.args.rows.now c.args.closed.now c.args.words.now c.args.contacts
    (λ place. sym (run_passes c.args.contacts c.args.closed.now c.args.words.now c.run.result c.first_bits.result c.run-2.result c.run-3.result place
    c.requires c.run.ensures c.first_bits.ensures c.run-2.ensures c.run-3.ensures c.run-3.type_inv)
    ∙ none_in_run c.args.contacts.exits _ place c.if-bits-eq0.true)

pub returns-then-bits-eq0-clause-none : goal.returns-then-bits-eq0-clause-none
returns-then-bits-eq0-clause-none c never = passed-none c.args.closed.now c.args.words.now c.args.contacts
    (λ place. sym (run_passes c.args.contacts c.args.closed.now c.args.words.now c.run.result c.first_bits.result c.run-2.result c.run-3.result place
    c.requires c.run.ensures c.first_bits.ensures c.run-2.ensures c.run-3.ensures c.run-3.type_inv)
    ∙ none_in_run c.args.contacts.exits _ place c.if-bits-eq0.true)

pub returns-clause-gains : goal.returns-clause-gains
returns-clause-gains c =
    GainsPassed-run c.args.rows.now c.args.closed.now c.args.words.now c.put_run.new.words c.join_run.new.words c.args.contacts _ c.told-closed
    (λ place. run_passes c.args.contacts c.args.closed.now c.args.words.now c.run.result c.first_bits.result c.run-2.result c.run-3.result place
    c.requires c.run.ensures c.first_bits.ensures c.run-2.ensures c.run-3.ensures c.run-3.type_inv)
    c.put_run.ensures c.join_run.ensures

pub returns-clause-some : goal.returns-clause-some
returns-clause-some c is =
    let impulsed = bit_and c.run.result c.first_bits.result in
    let one = and_le_l (bit_and impulsed c.run-2.result) (bit_not w128 c.run-3.result) in
    let two = and_le_l impulsed c.run-2.result in
    let three = and_le_l c.run.result c.first_bits.result in
    passed-some c.args.closed.now c.args.words.now c.args.contacts (bit_and (bit_and impulsed c.run-2.result) (bit_not w128 c.run-3.result))
    c.if-bits-eq0.false (omega (arith, one, two, three, c.run.type_inv)) c.told-closed
    (λ place. run_passes c.args.contacts c.args.closed.now c.args.words.now c.run.result c.first_bits.result c.run-2.result c.run-3.result place
    c.requires c.run.ensures c.first_bits.ensures c.run-2.ensures c.run-3.ensures c.run-3.type_inv)
