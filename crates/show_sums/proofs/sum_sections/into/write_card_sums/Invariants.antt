use Rattle.std.specs.Prelude.{◌≡◌, ◌++◌, take}
use Rattle.std.specs.String.{string_bytes}
use Rattle.show_sums.specs.SumSections.Into.{card_sums}
use Rattle.show_sums.proofs.sum_sections.into.write_card_sums.Given as goal

-- those so far are written
abbrev pub invariant-loop-sum : goal.invariant-loop-sum
invariant-loop-sum l = string_bytes l.text ≡ string_bytes l.initial.text ++ card_sums (take l.sum-index l.sums) l.card
