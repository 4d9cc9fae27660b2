use Rattle.std.proofs.Common.{Some, rules, sym, ◌≡◌, ◌≢◌}
use Rattle.std.proofs.lemmas.Result.{on_ok_weaker}
use Rattle.wiring_lines.proofs.LineWires.Steps.{adds-both, adds-nowhere, adds-some, adds-where}
use Rattle.wiring_lines.proofs.line_wires.detail.wire_digit.Goals as goal

pub returns-then-ne : goal.returns-then-ne
returns-then-ne c =
    let differs : c.args.sign ≢ Some c.args.column = search rules in
    on_ok_weaker c.connect.result (λ last. adds-both (adds-where differs last) (adds-nowhere differs)) c.connect.ensures

pub returns : goal.returns
returns c =
    let is : c.args.sign ≡ Some c.args.column = search rules in
    on_ok_weaker c.connect-3.result
    (λ last. adds-both (adds-nowhere (λ differs. differs is))
    (adds-where is (adds-some (sym c.in-Some.ensures.value) (adds-both c.in_ok-connect.ensures last))))
    c.connect-3.ensures
