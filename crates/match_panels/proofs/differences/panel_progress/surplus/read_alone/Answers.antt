use Rattle.std.proofs.Common.{List, subst, sym, ℕ, ◌∙◌}
use Rattle.wiring_text.specs.WiringText.{ReadsAs}
use Rattle.match_panels.proofs.differences.panel_progress.surplus.read_alone.Goals as goal

pub returns : goal.returns
returns c = λ one reads.
    c.in_default.not-Memory
    (c.in-Err.ensures.only_read one
    (subst (λ (text : List ℕ). ReadsAs text one) (sym (c.as_slice.ensures.value ∙ c.in_ok-text.ensures)) reads))
