-- What a text gains thing by thing.
use Rattle.std.proofs.Common.{add-one, ◌≡◌, ◌∙◌, refl, arith, append_assoc, append-nil, sym, ap, ℕ, ◌+◌, ◌<◌, List, [], ◌∷◌, ◌++◌, length, flat_map, get_or}
use Rattle.std.specs.Prelude.{Option, Some, None, drop, map}
use Rattle.std.specs.List.{range_with_len}
use Rattle.std.proofs.Math.Seq.{drop-cons}
use Rattle.std.proofs.lemmas.List.{length-append, map-append}
use Rattle.std.proofs.lemmas.List.FromFn.{map-range_with_len_more}
use Rattle.hubs.specs.Hubs.{number_of}
use Rattle.hubs.specs.declared.hub.Hub.{Hub}
use Rattle.hubs.proofs.HubLemmas.{hub_numbered}
use Rattle.show_drawings.specs.DrawingsWords.PanelDrawing.Blocks.{blocks}
use Rattle.show_drawings.specs.MarkupWords.Pieces.{numbered_words}
use Rattle.show_drawings.proofs.MarkupWords.Pieces.{and_more, numbered_last}
use Rattle.show_drawings.specs.DrawingsWords.PanelDrawing.Drawing.{block_text, drawing_behind, drawing_between, drawing_close, drawing_open, hub_dot, step_text, steps_text, wire_text}
use Rattle.show_drawings.specs.DrawingsWords.PanelDrawing.Helper.{GainsDrawing, GainsHubs}
use Rattle.show_drawings.specs.declared.drawings.panel_drawing.drawing.PanelWire.{PanelWire}

-- one hub more
pub hubs_none : (word : ℕ → Hub → List ℕ) (old : List ℕ) → GainsHubs word 0 old old
hubs_none word old = record { hubs = []; long = refl; all = refl; gained = sym (append-nil old) }

pub hubs_more : (word : ℕ → Hub → List ℕ) (last : ℕ) (old mid new : List ℕ) (hub : Hub) → GainsHubs word last old mid
    → number_of hub ≡ Some (last + 1) → new ≡ mid ++ word (last + 1) hub → GainsHubs word (last + 1) old new
hubs_more word last old mid new hub before numbered one = record {
  hubs = before.hubs ++ hub ∷ [];
  long = length-append before.hubs (hub ∷ []) ∙ ap (λ (n : ℕ). n + 1) before.long;
  all =
      map-append number_of before.hubs (hub ∷ [])
      ∙ ap (λ (l : List (Option ℕ)). l ++ number_of hub ∷ []) before.all
      ∙ ap (λ (o : Option ℕ). map (λ number. Some number) (range_with_len 1 last) ++ o ∷ []) numbered
      ∙ sym (map-range_with_len_more (λ (number : ℕ). Some number) 1 last (last + 1) (omega arith));
  gained =
      one ∙ ap (λ (l : List ℕ). l ++ word (last + 1) hub) before.gained
      ∙ append_assoc old (numbered_words word 1 before.hubs) (word (last + 1) hub)
      ∙ ap (λ (l : List ℕ). old ++ l)
      (sym (numbered_last word 1 before.hubs hub ∙ ap (λ (n : ℕ). numbered_words word 1 before.hubs ++ word n hub)
      (ap (λ (n : ℕ). 1 + n) before.long ∙ omega arith)));
}

-- one step more
pub steps_more : (old mid new : List ℕ) (from to : Hub) (others : List Hub) (place : ℕ) (whole : List ℕ) → place < length others
    → get_or others place to ≡ to → mid ++ steps_text from (drop place others) ≡ whole → new ≡ mid ++ step_text from to
    → new ++ steps_text to (drop (place + 1) others) ≡ whole
steps_more old mid new from to others place whole less item before one =
    let left : drop place others ≡ to ∷ drop (place + 1) others =
    let parts : drop place others ≡ get_or others place to ∷ drop (place + 1) others = rw (add-one, drop-cons others place to) in
    parts ∙ ap (λ (h : Hub). h ∷ drop (place + 1) others) item in
    ap (λ (l : List ℕ). l ++ steps_text to (drop (place + 1) others)) one
    ∙ append_assoc mid (step_text from to) (steps_text to (drop (place + 1) others))
    ∙ sym (ap (λ (l : List Hub). mid ++ steps_text from l) left) ∙ before

-- the pieces of a drawing
pub drawing_whole : (wires : List PanelWire) (old one two three four five six new : List ℕ)
    → one ≡ old ++ drawing_open → two ≡ one ++ flat_map block_text blocks → three ≡ two ++ drawing_between
    → four ≡ three ++ numbered_words wire_text 1 wires → five ≡ four ++ drawing_behind → GainsHubs (hub_dot wires) 1936 five six
    → new ≡ six ++ drawing_close → GainsDrawing wires old new
drawing_whole wires old one two three four five six new first second third fourth fifth sixth last = record {
  drawing = drawing_open ++ flat_map block_text blocks ++ drawing_between ++ numbered_words wire_text 1 wires ++ drawing_behind
      ++ numbered_words (hub_dot wires) 1 sixth.hubs ++ drawing_close;
  is = record { hubs = sixth.hubs; all = sixth.all; spelled = refl };
  gained = by old drawing_open (flat_map block_text blocks) drawing_between (numbered_words wire_text 1 wires) drawing_behind
      (numbered_words (hub_dot wires) 1 sixth.hubs) drawing_close first second third fourth fifth sixth.gained last;
}
  where
    by : (o a b c d e f g : List ℕ) → one ≡ o ++ a → two ≡ one ++ b → three ≡ two ++ c → four ≡ three ++ d → five ≡ four ++ e
        → six ≡ five ++ f → new ≡ six ++ g → new ≡ o ++ (a ++ b ++ c ++ d ++ e ++ f ++ g)
    by o a b c d e f g h1 h2 h3 h4 h5 h6 h7 =
        and_more o six new _ g (and_more o five six _ f (and_more o four five _ e (and_more o three four _ d (and_more o two three _ c
        (and_more o one two a b h1 h2) h3) h4) h5) h6) h7

-- each number is that of a hub
pub some_hub : (number : ℕ) → number < 1936 → ((hub : Hub) → number_of hub ≡ Some (number + 1) → None ≡ Some hub) → ⊥
some_hub number less none =
    let found = hub_numbered (number + 1) (omega arith) (omega (arith, less)) in
    none_some found.0 (none found.0 found.1)
  where
    none_some : (hub : Hub) → None ≡ Some hub → ⊥
    none_some hub e = cc
