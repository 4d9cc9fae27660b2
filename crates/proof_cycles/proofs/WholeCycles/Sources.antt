-- Where units emit in a cycle.
use Rattle.std.proofs.Common.{◌≡◌, ◌∙◌, sym, ap, refl, ℕ, ◌+◌, Bool, true, false, ◌||◌, ◌==◌, List, [], ◌∷◌, length, Option, Some, None}
use Rattle.std.proofs.lemmas.Bool.{false≢true, and_right}
use Rattle.std.specs.List.{list_any}
use Rattle.card_code.specs.Rows.{row_number}
use Rattle.card_code.specs.declared.row.Row.{Row as CardRow}
use Rattle.counters.specs.Counters.{Counter, shows}
use Rattle.hubs.specs.declared.hub.Group.{Group}
use Rattle.hubs.specs.declared.hub.Hub.{Hub}
use Rattle.hubs.specs.declared.hub.Hub.TheVariants.{FR, SR, CX, GX, SX, EM, CC, PX, HX, BAC, PIC, IE, CSE, RO}
use Rattle.net.proofs.Rows.{is_hub-same}
use Rattle.net.specs.Cycles.{level_number, ordinal_number}
use Rattle.net.specs.HubSets.{is_hub}
use Rattle.net.specs.declared.cycle.Cycle.{Cycle}
use Rattle.net.specs.declared.cycle.Cycle.TheVariants.{RunIn, Card, Prog, Head}
use Rattle.net.specs.declared.cycle.Point.{Point}
use Rattle.net.specs.declared.cycle.Point.TheVariants.{C, Row}
use Rattle.machine.specs.Below.print_unit.Emitters.{emitter_of, emits_row}
use Rattle.machine.specs.Below.stations.Stations.{StationCards, stations_emits, first_emits, second_emits}
use Rattle.machine.specs.Below.storage_units.Storage.{StorageState}
use Rattle.machine.specs.Machine.{MachineState}
use Rattle.proof_cycles.specs.WholeCycles.Laws.{CyclesEmitAtSources}
use Rattle.proof_cycles.specs.WholeCycles.OneContactDeep.{is_source, NoCommonEmits, SourcesAloneEmit}
use Rattle.proof_cycles.specs.WholeCycles.WholeCycles.{group_reads_out, storage_reads_out, row_emits, control_emits, closing_emits}

-- an exit at which units emit is no hub at which none does
pub apart : (source hub : Hub) → is_source source ≡ true → is_source hub ≡ false → is_hub source hub ≡ false
apart source hub at none = by (is_hub source hub) refl
  where
    by : (same : Bool) → is_hub source hub ≡ same → same ≡ false
    by true e = absurd (false≢true (sym none ∙ ap is_source (sym (is_hub-same source hub e)) ∙ at))
    by false e = refl

-- where nothing passes a test, nothing of a list does
pub none-any : {X : Type 0} (test : X → Bool) (xs : List X) → ((x : X) → test x ≡ false) → list_any test xs ≡ false
none-any test [] none = refl
none-any test (x ∷ xs) none = let here = none x in let others = none-any test xs none in rw (here, others) refl

told : (cycle : Cycle) → SourcesAloneEmit (control_emits cycle)
told RunIn hub none = refl
told Card hub none = apart CC hub refl none
told (Prog level ordinal) hub none = apart (PX (level_number level) (ordinal_number ordinal)) hub refl none
told (Head heading) hub none = apart (HX (ordinal_number heading)) hub refl none

first-silent : (card : Option (List ℕ)) (row : CardRow) (hub : Hub) → is_source hub ≡ false → first_emits card row hub ≡ false
first-silent card row (FR column) none = cc
first-silent card row other none = refl

second-silent : (card : Option (List ℕ)) (row : CardRow) (hub : Hub) → is_source hub ≡ false → second_emits card row hub ≡ false
second-silent card row (SR column) none = cc
second-silent card row other none = refl

stations-silent : (cards : StationCards) (cycle : Cycle) (row : CardRow) → SourcesAloneEmit (stations_emits cards cycle (Row row))
stations-silent cards RunIn row hub none = first-silent cards.first row hub none
stations-silent cards Card row hub none =
    let one = first-silent cards.first row hub none in
    let other = second-silent cards.second row hub none in
    λ i. one i || other i
stations-silent cards (Prog level ordinal) row hub none = refl
stations-silent cards (Head heading) row hub none = refl

shows-silent : (name : Group) (given : ℕ) (digits : List ℕ) → SourcesAloneEmit (shows name given digits)
shows-silent name given [] hub none = refl
shows-silent name given (digit ∷ below) hub none =
    let here =
    and_right (digit == given) (is_hub (GX name (length below + 1)) hub) (apart (GX name (length below + 1)) hub refl none) in
    let others = shows-silent name given below hub none in
    λ i. here i || others i

storage-silent : (pictures : Point → Hub → Bool) (row : CardRow) (storage : StorageState) → SourcesAloneEmit (storage_reads_out pictures row storage)
storage-silent pictures row storage (SX unit column) none = cc
storage-silent pictures row storage other none = refl

emitters-silent : (emitter : Option ℕ) (row : CardRow) → SourcesAloneEmit (emits_row emitter row)
emitters-silent None row hub none = refl
emitters-silent (Some emitter) row hub none = apart (EM emitter (row_number row)) hub refl none

at_rows : (old : MachineState) (pictures : Point → Hub → Bool) (cycle : Cycle) (row : CardRow)
    → SourcesAloneEmit (row_emits old pictures cycle row)
at_rows old pictures cycle row hub none =
    let stations = stations-silent old.stations cycle row hub none in
    let groups : list_any (λ group. group_reads_out pictures row group hub) old.groups ≡ false =
    none-any (λ (group : Counter). group_reads_out pictures row group hub) old.groups
    (λ group. and_right (pictures C (RO group.name)) (shows group.name (row_number row) group.digits hub)
    (shows-silent group.name (row_number row) group.digits hub none)) in
    let storage : list_any (λ storage. storage_reads_out pictures row storage hub) old.storage ≡ false =
    none-any (λ (storage : StorageState). storage_reads_out pictures row storage hub) old.storage
    (λ storage. storage-silent pictures row storage hub none) in
    let emitters = emitters-silent (emitter_of cycle) row hub none in
    λ i. stations i || groups i || storage i || emitters i

closing-silent : (pictures : Point → Hub → Bool) (cycle : Cycle) → SourcesAloneEmit (closing_emits pictures cycle)
closing-silent pictures Card (CX position) none = cc
closing-silent pictures other hub none = refl

commons : (exits : Hub → Bool) → SourcesAloneEmit exits → NoCommonEmits exits
commons exits alone (BAC group position) is = alone (BAC group position) refl
commons exits alone (PIC pilot position) is = alone (PIC pilot position) refl
commons exits alone (IE level position) is = alone (IE level position) refl
commons exits alone (CSE split) is = alone (CSE split) refl
commons exits alone other is = cc

pub emit_at_sources : CyclesEmitAtSources
emit_at_sources = record { control = told; rows = at_rows; closing = closing-silent; no_common = commons }
