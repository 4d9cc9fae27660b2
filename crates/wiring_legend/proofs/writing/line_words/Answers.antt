use Rattle.std.proofs.Common.{ap, ◌∙◌, ◌++◌, ℕ, List, map}
use Rattle.wiring_legend.specs.LineSetups.{place_words, plain}
use Rattle.wiring_legend.proofs.writing.line_words.Goals as goal

pub returns : goal.returns
returns c =
    c.in_ok-write_place.ensures
    ∙ ap (λ (x : List ℕ). x ++ place_words c.args.number)
    (c.in_ok-write_plain.ensures ∙ ap (λ (x : List ℕ). x ++ map plain c.line_numbered.result.now) c.new-words.ensures.bytes
    ∙ ap (map plain) c.line_numbered.ensures)
