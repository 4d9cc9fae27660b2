-- How a replay stands, feed by feed.
use Rattle.std.proofs.Common.{◌≡◌, ◌∙◌, Bool, refl, sym, ap, subst, List, ℕ, ◌≤◌, [], ◌∷◌, ◌++◌, Option, Some, None, Result, Ok, Err, length, append_assoc, append-nil}
use Rattle.std.specs.Prelude.{MatchResult}
use Rattle.card_code.specs.MostCards.{most_cards}
use Rattle.machine.proofs.FeedsInRuns.{feeds-in-run}
use Rattle.machine.proofs.Order.{MachineLines-in_order}
use Rattle.machine.proofs.SomeOutcome.{LinesFrom-some, MachineLines-some}
use Rattle.machine.specs.Feeds.{Feeds, LinesFrom}
use Rattle.machine.specs.Machine.{MachineState}
use Rattle.machine.specs.Running.{IsStarted, Running}
use Rattle.machine.specs.Runs.{MachineLines}
use Rattle.net.specs.Nets.{IsNetOf}
use Rattle.report_writer.proofs.Opens.{open_grows_by_all, order_goes_on}
use Rattle.report_writer.proofs.Sending.{breaks_after, takes_after, takes_as, takes_none}
use Rattle.report_writer.proofs.Texts.{line_after-append, page_after-append}
use Rattle.report_writer.specs.Added.{added_all, line_after, page_after}
use Rattle.report_writer.specs.Open.{Open, bytes_to}
use Rattle.report_writer.specs.Outgoing.{Breaks, Outgoing, TakesUp}
use Rattle.report_writer.specs.Writing.{Writing}
use Rattle.page_text.specs.PlacedLines.InOrder.{FollowInOrder, IsInOrder}
use Rattle.page_text.specs.declared.placed_lines.placed_line.PlacedLine.{PlacedLine}
use Rattle.cli_commands.proofs.CommandsWords.DeckReplays.Upcoming.{ComeAfter, lines_join, some_after, upcoming}
use Rattle.cli_commands.specs.CommandsWords.DeckReplays.HelperFeeding.{ComeNext, StopsInFeed, TakesFeed}
use Rattle.cli_commands.specs.CommandsWords.DeckReplays.HelperFeeding as feed
use Rattle.cli_commands.specs.CommandsWords.DeckReplays.HelperStanding.{Ends, IsUnbegun, Stands, Stops, TakesLines, broken, refused}
use Rattle.cli_commands.specs.declared.commands.replays.fault.ReplayCause.{ReplayCause}
use Rattle.cli_commands.specs.declared.commands.replays.fault.ReplayCause.TheVariants as cause
use Rattle.hubs.specs.SetupsWords.Tapes.{IsCarriageTape}
use Rattle.hubs.specs.SetupsWords.Wiring.{Wiring}

open_none : (long : ℕ) → [] ≡ Open [] long
unfolding bytes_to
open_none long = refl

module _ {S : Type 0} (held : S → Option (List ℕ)) (wiring : Wiring) (deck : List (List ℕ)) where
  -- before the first card
  pub stands_at_start : (machine : Running) (writing : Writing S) → IsStarted wiring machine → IsUnbegun wiring writing
      → Stands held wiring deck deck writing.out machine writing
  stands_at_start machine writing started unbegun = record {
    lines = [];
    goes_on = λ others from. feeds-in-run wiring deck others (subst (λ (m : MachineState). LinesFrom wiring m deck others) started.machine from);
    net = started.net;
    taken = record {
      taken = takes_as (open_none wiring.tape.lines) (takes_none writing.out);
      form = unbegun.form;
      page = unbegun.page;
      line = unbegun.line;
    };
  }

  -- stopped before the first card
  pub stops_at_start : (has_failed : S → Bool) (writing : Writing S) → Stops held has_failed wiring deck writing.out writing cause.Memory
  stops_at_start has_failed writing =
      let run = MachineLines-some wiring deck in
      refused [] run.0 run.1 (takes_as (open_none wiring.tape.lines) (takes_none writing.out))

  module _ (form : IsCarriageTape wiring.tape) (few : length deck ≤ most_cards) (begun : Outgoing S) (next : Option (List ℕ)) (rest : List (List ℕ))
      (machine : Running) (writing : Writing S) (stands : Stands held wiring deck (upcoming next rest) begun machine writing) where
    -- the run with the lines of the next feed
    run_with : (left : MachineState) (more others : List PlacedLine) → Feeds wiring machine.machine next left more
        → ComeAfter wiring next left rest others → MachineLines wiring deck ((stands.lines ++ more) ++ others)
    run_with left more others feeds after =
        subst (MachineLines wiring deck) (sym (append_assoc stands.lines more others))
        (stands.goes_on (more ++ others) (lines_join wiring next machine.machine left rest more others feeds after))

    in_order : (left : MachineState) (more : List PlacedLine) → Feeds wiring machine.machine next left more
        → IsInOrder wiring.tape.lines (stands.lines ++ more)
    in_order left more feeds =
        let after = some_after wiring next left rest in
        (order_goes_on wiring.tape.lines (stands.lines ++ more) after.0
        (MachineLines-in_order wiring deck ((stands.lines ++ more) ++ after.0) form few (run_with left more after.0 feeds after.1))).0

    -- the lines of the next feed come next
    pub come_next : ComeNext machine next writing
    come_next = record {
      wiring = wiring;
      net = stands.net;
      order = λ left lines feeds.
          let long = wiring.tape.lines in
          let follow = (order_goes_on long stands.lines lines (in_order left lines feeds)).1 in
          subst (λ f. FollowInOrder f writing.page writing.line lines) (sym stands.taken.form)
          (subst (λ p. FollowInOrder long p writing.line lines) (sym stands.taken.page)
          (subst (λ l. FollowInOrder long (page_after 1 stands.lines) l lines) (sym stands.taken.line) follow));
    }

    -- what a feed adds, at the place of the lines before it
    adds : (left : MachineState) (more : List PlacedLine) → Feeds wiring machine.machine next left more
        → Open stands.lines wiring.tape.lines ++ added_all writing.form_lines writing.page writing.line more
        ≡ Open (stands.lines ++ more) wiring.tape.lines
    adds left more feeds =
        let so_far = Open stands.lines wiring.tape.lines in
        ap (λ f. so_far ++ added_all f writing.page writing.line more) stands.taken.form
        ∙ ap (λ p. so_far ++ added_all wiring.tape.lines p writing.line more) stands.taken.page
        ∙ ap (λ l. so_far ++ added_all wiring.tape.lines (page_after 1 stands.lines) l more) stands.taken.line
        ∙ sym (open_grows_by_all wiring.tape.lines stands.lines more (in_order left more feeds))

    module _ (left : Running) (new : Writing S) (takes : TakesFeed held machine next left writing new) where
      placed_now : Feeds wiring machine.machine next left.machine takes.lines
      placed_now = takes.placed wiring stands.net

      takes_lines : TakesLines held wiring begun (stands.lines ++ takes.lines) new
      takes_lines = record {
        taken = takes_as (adds left.machine takes.lines placed_now) (takes_after stands.taken.taken takes.taken);
        form = takes.form ∙ stands.taken.form;
        page = takes.page ∙ ap (λ p. page_after p takes.lines) stands.taken.page ∙ sym (page_after-append 1 stands.lines takes.lines);
        line = takes.line ∙ ap (λ l. line_after l takes.lines) stands.taken.line ∙ sym (line_after-append 0 stands.lines takes.lines);
      }

      -- after the feed the run goes on
      goes_on : (others : List PlacedLine) → ComeAfter wiring next left.machine rest others
          → MachineLines wiring deck ((stands.lines ++ takes.lines) ++ others)
      goes_on others after = run_with left.machine takes.lines others placed_now after

    -- a feed stops the run
    pub stops_in_feed : (has_failed : S → Bool) (new : Writing S) {stopped : ReplayCause}
        → StopsInFeed held has_failed machine next writing new stopped → Stops held has_failed wiring deck begun new stopped
    stops_in_feed has_failed new (feed.refused same) =
        let others = LinesFrom-some wiring machine.machine (upcoming next rest) in
        refused stands.lines others.0 (stands.goes_on others.0 others.1)
        (subst (λ (out : Writing S). TakesUp held (Open stands.lines wiring.tape.lines) begun out.out) (sym same) stands.taken.taken)
    stops_in_feed has_failed new (feed.broken left lines placed breaks) =
        let feeds = placed wiring stands.net in
        let after = some_after wiring next left rest in
        broken (stands.lines ++ lines) after.0 (run_with left lines after.0 feeds after.1)
        (subst (λ (bytes : List ℕ). Breaks held has_failed bytes begun new.out) (adds left lines feeds) (breaks_after stands.taken.taken breaks))

  -- a card more
  pub stands_on : IsCarriageTape wiring.tape → length deck ≤ most_cards → (begun : Outgoing S) (card : List ℕ) (rest : List (List ℕ)) (machine left : Running)
      (writing new : Writing S) → Stands held wiring deck (card ∷ rest) begun machine writing → TakesFeed held machine (Some card) left writing new
      → Stands held wiring deck rest begun left new
  stands_on form few begun card rest machine left writing new stands takes = record {
    lines = stands.lines ++ takes.lines;
    goes_on = goes_on form few begun (Some card) rest machine writing stands left new takes;
    net = subst (IsNetOf wiring) (sym takes.net) stands.net;
    taken = takes_lines form few begun (Some card) rest machine writing stands left new takes;
  }

  -- the end
  pub ends : IsCarriageTape wiring.tape → length deck ≤ most_cards → (begun : Outgoing S) (machine left : Running) (writing new : Writing S)
      → Stands held wiring deck [] begun machine writing → TakesFeed held machine None left writing new → Ends held wiring deck begun new
  ends form few begun machine left writing new stands takes = record {
    lines = stands.lines ++ takes.lines;
    run = subst (MachineLines wiring deck) (append-nil (stands.lines ++ takes.lines))
        (goes_on form few begun None [] machine writing stands left new takes [] refl);
    taken = takes_lines form few begun None [] machine writing stands left new takes;
  }

  -- the end, or a stop in its feed
  pub closes : {U : Type 0} (form : IsCarriageTape wiring.tape) → (few : length deck ≤ most_cards) → (has_failed : S → Bool) (begun : Outgoing S)
      (machine left : Running) (writing new : Writing S) → Stands held wiring deck [] begun machine writing → (result : Result U ReplayCause)
      → MatchResult result (λ _. TakesFeed held machine None left writing new) (StopsInFeed held has_failed machine None writing new)
      → MatchResult result (λ _. Ends held wiring deck begun new) (Stops held has_failed wiring deck begun new)
  closes form few has_failed begun machine left writing new stands (Ok _) takes = ends form few begun machine left writing new stands takes
  closes form few has_failed begun machine left writing new stands (Err _) stops =
      stops_in_feed form few begun None [] machine writing stands has_failed new stops
