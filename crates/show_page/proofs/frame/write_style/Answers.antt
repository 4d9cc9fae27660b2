use Rattle.std.proofs.Common.{refl}
use Rattle.std.specs.String.{string_bytes}
use Rattle.show_page.proofs.Style.{style_pushed}
use Rattle.show_page.proofs.frame.write_style.Goals as goal

pub returns : goal.returns
returns c =
    style_pushed c.push_str.result (string_bytes c.push_str.new.self) (string_bytes c.args.text.now) _ refl c.push_str.ensures.bytes
