-- Paths: the wires and contacts along which rows may come from some exits, parted as sets of rows are spread along them.
use Rattle.std.specs.Prelude.{◌≡◌, ℕ, ◌&&◌, All, Bool, List}
use Rattle.machine_sets.specs.BitSets.Bits.{has_place}
use Rattle.machine_sets.specs.BitSets.Contacts.{is_any_contact}
use Rattle.machine_sets.specs.declared.bit_sets.contacts.Run.{Run}
use Rattle.machine_sets.specs.SpreadsWords.Blocks.{LeadTo, RunLeadsTo}
use Rattle.machine_sets.specs.SpreadsWords.Links.{AreEights, IsEight, IsInRange, IsPassing, is_led_to, is_linked}
use Rattle.machine_sets.specs.declared.spreads.links.Link.{Link}

-- What paths hold: the wires from the exits; eights of contacts, among which are all that these wires lead to; the wires from the exits of
-- the contacts led to; and, one by one, the contacts that those wires lead to.
pub record PathLinks : Type 0 where
  pub outer : List Link
  pub eights : List Run
  pub further : List Link
  pub behind : List Link

-- of links from exits to entries all those that lead from places of the test, and no others
pub record AreLinksFrom (test : ℕ → Bool) (links left : List Link) : Type 0 where
  pub range : All IsInRange left
  pub linked : (from to : ℕ) → is_linked left from to ≡ (is_linked links from to && test from)

-- contacts of the runs: all those to which a link leads, and no others
pub record AreContactsOf (runs : List Run) (links contacts : List Link) : Type 0 where
  pub passing : All IsPassing contacts
  pub wired : (from to : ℕ) → is_linked contacts from to ≡ (is_any_contact runs from to && is_led_to links from)

-- The outer wires are those from the exits of the set. The contacts of the runs that they lead to lie in eights of contacts, and the
-- further wires are those from the exits of these contacts. Behind them are the contacts of the runs that the further wires lead to.
pub record AreParted (runs : List Run) (links : List Link) (exits : List ℕ) (paths : PathLinks) : Type 0 where
  pub from_exits : AreLinksFrom (has_place exits) links paths.outer
  pub contacts : List Link
  pub are_contacts : AreContactsOf runs paths.outer contacts
  pub eighted : AreEights runs contacts paths.eights
  pub from_contacts : AreLinksFrom (is_led_to contacts) links paths.further
  pub are_behind : AreContactsOf runs paths.further paths.behind

-- links lead from exits to entries, and to these blocks of places
pub record AreWires (blocks : ℕ) (links : List Link) : Type 0 where
  pub range : All IsInRange links
  pub far : LeadTo blocks links

-- eights of contacts lead from entries to exits, and to these blocks of places
pub record AreEightsTo (blocks : ℕ) (eights : List Run) : Type 0 where
  pub each : All IsEight eights
  pub far : All (RunLeadsTo blocks) eights

-- the parts of paths, and the blocks to which they lead
pub record ArePaths (outer_far eights_far further_far : ℕ) (paths : PathLinks) : Type 0 where
  pub outer : AreWires outer_far paths.outer
  pub eights : AreEightsTo eights_far paths.eights
  pub further : AreWires further_far paths.further
  pub behind : All IsPassing paths.behind
