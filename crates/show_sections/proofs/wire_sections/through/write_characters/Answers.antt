use Rattle.std.proofs.Common.{◌≡◌, ◌++◌, List, subst, sym, ℕ}
use Rattle.std.specs.Prelude.{OnOk}
use Rattle.std.specs.String.{string_bytes}
use Rattle.show_sections.proofs.WireSections.Gained.{characters_some}
use Rattle.show_sections.proofs.wire_sections.through.write_characters.Goals as goal

pub returns : goal.returns
returns c =
    subst (λ (l : List ℕ). OnOk c.write_some.result (string_bytes c.write_some.new.text ≡ string_bytes c.args.text.now ++ l))
    (sym (characters_some c.args.links.now c.if-is_empty.ensures)) c.write_some.ensures
