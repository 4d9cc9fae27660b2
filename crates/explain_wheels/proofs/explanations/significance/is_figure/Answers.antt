use Rattle.std.proofs.Common.{◌∙◌, sym, ap, arith, ℕ, nat_eq, ◌&&◌, length-drop, drop}
use Rattle.std.proofs.lemmas.List.{take_all}
use Rattle.print_unit.specs.ZeroControl.{count_of}
use Rattle.explain_wheels.proofs.explanations.significance.is_figure.Goals as goal

pub returns-then-count_received-eq1 : goal.returns-then-count_received-eq1
returns-then-count_received-eq1 c =
    let received = c.args.received.now in
    let long = c.told-received in
    let many = length-drop 9 received in
    let others = take_all 3 (drop 9 received) (omega (arith, many, long)) in
    ap (λ (n : ℕ). nat_eq n 0) (c.count_received-then-count_received-eq1.ensures ∙ ap count_of others)
    ∙ sym (ap (λ (n : ℕ). nat_eq n 1 && nat_eq (count_of (drop 9 received)) 0) (sym c.count_received.ensures ∙ c.if-count_received-eq1.true))
