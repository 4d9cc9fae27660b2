use Rattle.std.proofs.Common.{◌∙◌, Bool, List, ap, arith, subst, sym, ℕ}
use Rattle.machine_sets.specs.SpreadsWords.Links.{is_led_to}
use Rattle.machine_sets.specs.declared.spreads.links.Link.{Link}
use Rattle.machine_sets.specs.SpreadsWords.Paths.{AreLinksFrom}
use Rattle.machine_sets.proofs.spreads.paths.Paths.of.Goals as goal

pub places_led_to-requires : goal.places_led_to-requires
places_led_to-requires c =
    rw c.as_slice-3.ensures.value
    (λ k d inside. let low = (c.in_ok-contacts.ensures.passing k d inside).to in omega (arith, low))

pub returns : goal.returns
returns c = record {
  from_exits = c.in_ok-outer.ensures;
  contacts = c.in_ok-contacts.contacts.items;
  are_contacts = rw (sym c.as_slice.ensures.value) c.in_ok-contacts.ensures;
  eighted = rw (sym c.as_slice-2.ensures.value) c.in_ok-eights.ensures;
  from_contacts =
      subst (λ (test : ℕ → Bool). AreLinksFrom test c.args.links.now c.in_ok-further.further.items)
      (λ i place. (c.places_led_to.ensures place ∙ ap (λ (links : List Link). is_led_to links place) c.as_slice-3.ensures.value) i)
      c.in_ok-further.ensures;
  are_behind = rw (sym c.as_slice-4.ensures.value) c.in_ok-behind.ensures;
}

pub invariant_of-result : goal.invariant_of-result
invariant_of-result c = record {
  outer = record {
    range = c.in_ok-outer.ensures.range;
    far = rw (sym c.as_slice-5.ensures.value) c.far_blocks.ensures;
  };
  eights = record {
    each = c.in_ok-eights.ensures.each;
    far = rw (sym c.as_slice-6.ensures.value) c.far_blocks_of_eights.ensures;
  };
  further = record {
    range = c.in_ok-further.ensures.range;
    far = rw (sym c.as_slice-7.ensures.value) c.far_blocks-2.ensures;
  };
  behind = c.in_ok-behind.ensures.passing;
}
