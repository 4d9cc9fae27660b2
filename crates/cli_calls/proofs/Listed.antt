-- What was listed in memory, and is then taken by an output, is listed on the output.
use Rattle.std.proofs.Common.{ℕ, List, [], Option, Some, inl, inr, subst}
use Rattle.std.specs.Io.KnownBytes.{Appends}
use Rattle.fault_lists.specs.Endings.{EndsListing, IsBrokenOff, ListsCapacity, ListsRules, ListsText, by_text, by_rules, by_capacity, broken_off}
use Rattle.fault_lines.specs.declared.faults.fault.Fault.{Fault}
use Rattle.fault_lists.specs.TextLists.Endings.{EndsText, ListsWiring, planned, wired}

-- these bytes were written where nothing was; what takes them all gains them
taken : (listed bytes : List ℕ) (old new : Option (List ℕ)) → Appends (Some []) (Some listed) bytes → Appends old new listed
    → Appends old new bytes
taken listed bytes old new is put = let P : List ℕ → Type 0 = λ all. Appends old new all in subst P is put

text_taken : (text listed : List ℕ) (old new : Option (List ℕ)) (told : Fault) → ListsText text (Some []) (Some listed) told
    → Appends old new listed → ListsText text old new told
text_taken text listed old new told lists put = record {
  cause = lists.cause;
  at_fault = lists.at_fault;
  lines = lists.lines;
  misread = lists.misread;
  is_told = lists.is_told;
  rest = lists.rest;
  behind = lists.behind;
  written = taken listed _ old new lists.written put;
}

rules_taken : (text listed : List ℕ) (old new : Option (List ℕ)) (told : Fault) → ListsRules text (Some []) (Some listed) told
    → Appends old new listed → ListsRules text old new told
rules_taken text listed old new told lists put = record {
  chart = lists.chart;
  reads = lists.reads;
  list = lists.list;
  all = lists.all;
  ordered = lists.ordered;
  rule = lists.rule;
  line = lists.line;
  broken = lists.broken;
  first = lists.first;
  is_told = lists.is_told;
  written = taken listed _ old new lists.written put;
}

capacity_taken : (text listed : List ℕ) (old new : Option (List ℕ)) (told : Fault) → ListsCapacity text (Some []) (Some listed) told
    → Appends old new listed → ListsCapacity text old new told
capacity_taken text listed old new told lists put = record {
  chart = lists.chart;
  reads = lists.reads;
  lawful = lists.lawful;
  cause = lists.cause;
  exceeds = lists.exceeds;
  all = lists.all;
  are_all = lists.are_all;
  first = lists.first;
  is_told = lists.is_told;
  written = taken listed _ old new lists.written put;
}

wiring_taken : (text listed : List ℕ) (old new : Option (List ℕ)) (told : Fault) → ListsWiring text (Some []) (Some listed) told
    → Appends old new listed → ListsWiring text old new told
wiring_taken text listed old new told lists put = record {
  first = lists.first;
  others = lists.others;
  good = lists.good;
  are = lists.are;
  at_fault = lists.at_fault;
  is_told = lists.is_told;
  written = taken listed _ old new lists.written put;
}

listing_taken : (text listed : List ℕ) (old new : Option (List ℕ)) (told : Fault) → EndsListing text (Some []) (Some listed) told
    → Appends old new listed → EndsListing text old new told
listing_taken text listed old new told (by_text lists) put = by_text (text_taken text listed old new told lists put)
listing_taken text listed old new told (by_rules lists) put = by_rules (rules_taken text listed old new told lists put)
listing_taken text listed old new told (by_capacity lists) put = by_capacity (capacity_taken text listed old new told lists put)
listing_taken text listed old new told (broken_off off) put = broken_off off

-- the list of a text
pub list_taken : (text listed : List ℕ) (old new : Option (List ℕ)) (told : Fault) → EndsText text (Some []) (Some listed) told
    → Appends old new listed → EndsText text old new told
list_taken text listed old new told (wired is (inl lists)) put = wired is (inl (wiring_taken text listed old new told lists put))
list_taken text listed old new told (wired is (inr off)) put = wired is (inr off)
list_taken text listed old new told (planned is ends) put = planned is (listing_taken text listed old new told ends put)

-- a list that the output doesn't take breaks off
pub list_broken : (text listed : List ℕ) (old new : Option (List ℕ)) (met told : Fault) → EndsText text (Some []) (Some listed) met
    → IsBrokenOff told → EndsText text old new told
list_broken text listed old new met told (wired is ends) off = wired is (inr off)
list_broken text listed old new met told (planned is ends) off = planned is (broken_off off)
