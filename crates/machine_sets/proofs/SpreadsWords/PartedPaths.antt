-- Links that are left of a list by where they lead from, and those of paths.
use Rattle.std.proofs.Common.{◌≡◌, ◌∙◌, ℕ, ◌&&◌, All, Bool, List, sym, ap, subst}
use Rattle.std.specs.Prelude.{◌==◌}
use Rattle.std.specs.List.{filter}
use Rattle.std.proofs.lemmas.Bool.{and_parts}
use Rattle.std.proofs.lemmas.List.Elements.{All-filter}
use Rattle.std.proofs.lemmas.Map.Views.{any-filter_same}
use Rattle.machine_sets.specs.SpreadsWords.Links.{IsInRange, is_link, is_linked}
use Rattle.machine_sets.specs.SpreadsWords.Paths.{AreLinksFrom}
use Rattle.machine_sets.specs.declared.spreads.links.Link.{Link}
use Rattle.machine_sets.proofs.SpreadsWords.ContactRuns.{turned-and}
use Rattle.machine_sets.proofs.SpreadsWords.LinkLemmas.{equal}

-- the links from places that pass a test lead on where all of them do, from such places
pub linked-where : (test : ℕ → Bool) (links : List Link) (from to : ℕ)
    → is_linked (filter (λ link. test link.from) links) from to ≡ (is_linked links from to && test from)
linked-where test links from to =
    any-filter_same (is_link from to) (λ (link : Link). test link.from) (test from)
    (λ link at. ap test (sym (equal from link.from (and_parts (from == link.from) (to == link.to) at).0))) links
    ∙ turned-and (test from) (is_linked links from to)

-- links that are left of others by such a test
pub left-from : (test : ℕ → Bool) (links left : List Link) → left ≡ filter (λ link. test link.from) links → All IsInRange links
    → AreLinksFrom test links left
left-from test links left is range = record {
  range = subst (λ (ls : List Link). All IsInRange ls) (sym is) (All-filter (λ (link : Link). test link.from) IsInRange links range);
  linked = λ from to. ap (λ (ls : List Link). is_linked ls from to) is ∙ linked-where test links from to;
}
