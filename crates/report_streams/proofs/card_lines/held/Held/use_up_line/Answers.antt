use Rattle.std.proofs.Common.{◌≡◌, ◌∙◌, ◌+◌, ◌≤◌, ◌++◌, ap, drop, length, sym, subst, arith}
use Rattle.std.proofs.lemmas.List.{drop_all, nil_from_length}
use Rattle.std.proofs.lemmas.Bool.Decides.{nat_tests}
use Rattle.report_streams.proofs.CardLines.Cuts.{behind_cut}
use Rattle.report_streams.proofs.card_lines.held.Held.use_up_line.Goals as goal
use Rattle.report_streams.proofs.card_lines.held.Held.use_up_line.Goals.{then-not-is_empty, else-not-is_empty}
use Rattle.report_streams.specs.CardLines.Front.{line_end}

pub returns : goal.returns
returns c =
    let block = c.self.inside.block in
    let new : c.if-not-is_empty.self-inside.line.items ++ c.if-not-is_empty.self-inside.block ≡ drop 1 block =
    elim c.if-not-is_empty.branch [
      | then-not-is_empty w ↦ rw (w.self-inside-is, c.new-self-inside.ensures) w.use_up.ensures
      | else-not-is_empty w ↦
          let none : length block ≡ 0 = ap length (sym c.bytes.ensures) ∙ grind (arith, nat_tests, w.if-not-is_empty.ensures) in
          rw (w.self-inside-is, c.new-self-inside.ensures) (nil_from_length block none ∙ sym (drop_all 1 block (omega (arith, none))))
    ] in
    c.cut.ensures.text ∙ new
    ∙ sym (behind_cut _ _ c.self.invariant (subst (λ held. line_end held ≤ 81) (sym c.self.view_is) c.requires))
    ∙ ap (λ held. drop (line_end held + 1) held) c.self.view_is
