use Rattle.std.proofs.Common.{◌≡◌, ◌++◌, List, subst, sym, ℕ}
use Rattle.std.specs.Prelude.{OnOk}
use Rattle.std.specs.String.{string_bytes}
use Rattle.show_drawings.proofs.MarkupWords.Pieces.{pushed}
use Rattle.show_sections.proofs.WireSections.Gained.{said_some}
use Rattle.show_sections.proofs.wire_sections.through.write_said.Goals as goal

pub returns : goal.returns
returns c =
    let old = string_bytes c.args.text.now in
    let new = string_bytes c.push_str.new.self in
    let said = c.args.said.now in
    subst (λ (l : List ℕ). OnOk c.push_str.result (new ≡ old ++ l)) (sym (said_some said c.if-is_empty.ensures))
    (pushed c.push_str.result new (old ++ said) old c.push_str.ensures.bytes)
