use Rattle.std.proofs.Common.{◌∙◌, ◌-◌, ◌/◌, ◌^◌, ◌&&◌, ap, bit_and, refl, ℕ, nat_le, if◌then◌else◌}
use Rattle.net.specs.HubSets.{is_bit}
use Rattle.print_unit.proofs.Hiding.{hides-both}
use Rattle.print_unit.proofs.line.hide.Goals as goal

pub returns-clause-hidden : goal.returns-clause-hidden
returns-clause-hidden c k below =
    c.hide_half-2.ensures.hidden k below
    ∙ ap (λ (now : ℕ). if nat_le 64 k && is_bit (c.args.hidden / 2 ^ 64) (k - 64) then 32 else now) (c.hide_half.ensures.hidden k below)
    ∙ hides-both c.args.hidden (bit_and c.args.hidden 0xffff_ffff_ffff_ffff) (c.args.hidden / 2 ^ 64) k _ below refl refl
