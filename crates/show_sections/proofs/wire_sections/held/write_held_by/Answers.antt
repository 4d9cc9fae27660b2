use Rattle.std.proofs.Common.{◌≡◌, ◌++◌, List, subst, sym, ℕ}
use Rattle.std.specs.Prelude.{OnOk}
use Rattle.std.specs.String.{string_bytes}
use Rattle.show_sections.proofs.WireSections.Gained.{held_most}
use Rattle.show_sections.proofs.wire_sections.held.write_held_by.Goals as goal

pub returns : goal.returns
returns c =
    subst (λ (l : List ℕ). OnOk c.write_held_some.result (string_bytes c.write_held_some.new.text ≡ string_bytes c.args.text.now ++ l))
    (sym (held_most c.args.group c.args.links.now c.if-is_empty.ensures)) c.write_held_some.ensures
