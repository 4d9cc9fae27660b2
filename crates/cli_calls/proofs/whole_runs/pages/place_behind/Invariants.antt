use Rattle.std.proofs.Common.{◌≡◌, ◌++◌, drop, take}
use Rattle.cli_calls.specs.WholeRuns.Pages.{first_pages, pages_behind}
use Rattle.cli_calls.proofs.whole_runs.pages.place_behind.Given as goal

abbrev pub invariant-loop-byte : goal.invariant-loop-byte
invariant-loop-byte l = record {
  place : l.place ≡ l.byte-index;
  before : take l.byte-index l.text ++ first_pages l.left (drop l.byte-index l.text) ≡ first_pages l.count l.text;
  behind : pages_behind l.left (drop l.byte-index l.text) ≡ pages_behind l.count l.text;
}
