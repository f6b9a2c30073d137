-- A file after changes.
use Rattle.std.proofs.Common.{◌≡◌, ◌≤◌, ℕ, List, [], ◌∷◌, Bool, true, false, Some, refl, sym, ap, ◌∙◌, length, get_or}
use Rattle.std.specs.Prelude.{map, Vec, ◌+◌, ◌*◌, ◌-◌, ◌/◌, cond}
use Rattle.std.specs.declared.alloc.Global.{Global}
use Rattle.vms_base.specs.vms_model.Ids.{Id}
use Rattle.vms_base.specs.vms_model.Keys.{Key}
use Rattle.reference_index.specs.records_model.Records.{Change}
use Rattle.vms_base.specs.Ids.{id_of}
use Rattle.reference_index.specs.records_model.History.{History, SettledChanges, LiveChanges as ModelChanges, with_changes, changes_by, changed_it, first_to_change, settled_with, without}
use Rattle.reference_index.specs.tree_model.Layouts as layouts
use Rattle.reference_index.specs.tree_model.Setting.{layout_changed}
use Rattle.reference_index.specs.records_model.Slots.{Slot}
use Rattle.reference_index.specs.unit_laws.Layouts.{slot_restored, leaf_restored}
use Rattle.vms_base.specs.vms_model.Transactions.{Outcome, Commit, Abort}
use Rattle.reference_index.specs.run_model.World as world
use Rattle.reference_index.specs.run_model.World.{settled_layout}
use Rattle.reference_world.specs.declared.world.File.{File}
use Rattle.reference_world.specs.declared.world.Carried.{Carried}
use Rattle.reference_world.specs.declared.world.LiveChanges.{LiveChanges}
use Rattle.reference_world.specs.declared.world.SettledChanges.{SettledChanges as Done}
use Rattle.reference_world.specs.declared.world.KeptRow.{KeptRow}
use Rattle.reference_index.specs.declared.layouts.Layout.{Layout}
use Rattle.reference_index.specs.declared.layouts.Sizes.{Sizes}
use Rattle.reference_world.specs.declared.world.BranchKey.{BranchKey}
use Rattle.reference_index.specs.Standing.{layout_of, sizes_of}
use Rattle.reference_world.specs.Standing.{live_of, carried_of, done_of, history_of, file_of, rows_of, serials_of, organization_of}
use Rattle.reference_index.proofs.ListLemmas.{behind_first, parts}

pub set_is : (f : File) (held : Key → Bool) (tid serial : Id) (cs : List Change) (live : Vec LiveChanges Global) (layout : Layout) (sizes : Sizes) (carried : Carried) →
    sizes.capacity ≡ 512 * f.bucket - 16 → sizes.fan_out ≡ (512 * f.bucket - 16) / (world.key_size_of (organization_of f.organization) + 4) →
    map live_of live.items ≡ with_changes serial cs (map live_of f.live.items) →
    layout_of layout ≡ layout_changed (sizes_of sizes) held cs (layout_of f.layout) → carried_of carried ≡ world.with_images tid serial cs (carried_of f.carried) →
    file_of (record f { live = live; layout = layout; carried = carried }) ≡ world.changed_file held tid serial cs (file_of f)
set_is f held tid serial cs live layout sizes carried capacity fan_out l set told = λ i. record (file_of f) { history = record (history_of f) { live = l i }; layout = laid i; carried = told i }
  where
    same : sizes_of sizes ≡ world.sizes_of (file_of f)
    same = λ i. record { capacity = capacity i; fan_out = fan_out i }

    laid : layout_of layout ≡ layout_changed (world.sizes_of (file_of f)) held cs (layout_of f.layout)
    laid = set ∙ ap (λ (s : layouts.Sizes). layout_changed s held cs (layout_of f.layout)) same

slots_stay : (ss : List Slot) → map (slot_restored []) ss ≡ ss
slots_stay [] = refl
slots_stay (s ∷ ss) = ap (λ more. s ∷ more) (slots_stay ss)

-- leaves stay as they are where nothing is undone
leaves_stay : (bs : List layouts.Leaf) → map (leaf_restored []) bs ≡ bs
leaves_stay [] = refl
leaves_stay (b ∷ bs) = λ i. record { lowest = b.lowest; slots = slots_stay b.slots i } ∷ leaves_stay bs i

-- A branch that changed nothing of a file leaves it.

no_changes : (cs : List Change) → (elim cs as (λ _. Bool) [ [] ↦ false | c ∷ more ↦ true ]) ≡ false → cs ≡ []
no_changes [] e = refl
no_changes (c ∷ cs) e = let none : ⊥ = cc in absurd none

layout_stays : (outcome : Outcome) (l : layouts.Layout) → settled_layout outcome [] l ≡ l
layout_stays Commit l = refl
layout_stays Abort l = λ i. record { leaves = leaves_stay l.leaves i; index = l.index }

abbrev settled_by : (f : world.File) (s : world.Settlement) → List Change → Bool → world.File
settled_by f s cs changed = record f { history = settled_with s.serial s.outcome s.moment cs f.history; layout = settled_layout s.outcome cs f.layout; carried = world.with_outcome changed s f.carried }

pub not_changed : (f : File) (s : world.Settlement) → changed_it (history_of f) s.serial ≡ false → file_of f ≡ world.settled_file s (file_of f)
not_changed f s e =
    let none = no_changes (changes_by s.serial (history_of f).live) e in
    ap (λ (l : layouts.Layout). record (file_of f) { layout = l }) (sym (layout_stays s.outcome (file_of f).layout)) ∙ (λ i. settled_by (file_of f) s (sym none i) (sym e i))

-- And one that changed something of it joins the settled ones.

behind : (h : History) (b : BranchKey) (bs : List BranchKey) → changed_it h (id_of b.serial) ≡ false → first_to_change h (serials_of bs) ≡ first_to_change h (serials_of (b ∷ bs))
behind h b bs e = sym (ap (λ changed. cond changed (Some (id_of b.serial)) (first_to_change h (serials_of bs))) e)

-- where the first of these branches changed nothing, the first to change the file is behind it
pub first_behind : (h : History) (bs : List BranchKey) (b : BranchKey) → 1 ≤ length bs → b ≡ get_or bs 0 b → changed_it h (id_of b.serial) ≡ false →
    first_to_change h (serials_of (behind_first bs)) ≡ first_to_change h (serials_of bs)
first_behind h bs b some is e = behind h b (behind_first bs) e ∙ ap (λ xs. first_to_change h (serials_of xs)) (sym (parts bs b some is))

-- a history with a settled branch more
abbrev pub joined_by : SettledChanges → List ModelChanges → History → History
joined_by s live h = record h { settled = s ∷ h.settled; live = live }

joins : (serial : Id) (outcome : Outcome) (moment : ℕ) (cs : List Change) (h : History) → (elim cs as (λ _. Bool) [ [] ↦ false | c ∷ more ↦ true ]) ≡ true →
    joined_by (record { serial = serial; outcome = outcome; moment = moment; changes = cs }) (without serial h.live) h ≡ settled_with serial outcome moment cs h
joins serial outcome moment [] h e = let none : ⊥ = cc in absurd none
joins serial outcome moment (c ∷ cs) h e = refl

pub now_settled : (f : File) (s : world.Settlement) (outcome : Outcome) (cs : List Change) (live : List ModelChanges) (layout : layouts.Layout) (carried : world.Carried) → changed_it (history_of f) s.serial ≡ true →
    outcome ≡ s.outcome → cs ≡ changes_by s.serial (history_of f).live → live ≡ without s.serial (history_of f).live → layout ≡ settled_layout outcome cs (file_of f).layout → carried ≡ world.with_outcome true s (file_of f).carried →
    record (file_of f) { history = joined_by (record { serial = s.serial; outcome = outcome; moment = s.moment; changes = cs }) live (history_of f); layout = layout; carried = carried } ≡ world.settled_file s (file_of f)
now_settled f s outcome cs live layout carried changed o e w l told =
    let h = history_of f in
    let made = joins s.serial s.outcome s.moment (changes_by s.serial h.live) h changed in
    let laid : layout ≡ settled_layout s.outcome (changes_by s.serial h.live) (file_of f).layout = l ∙ (λ i. settled_layout (o i) (e i) (file_of f).layout) in
    (λ i. record (file_of f) { history = joined_by (record { serial = s.serial; outcome = o i; moment = s.moment; changes = e i }) (w i) h; layout = laid i; carried = told i })
    ∙ (λ i. record (file_of f) { history = made i; layout = settled_layout s.outcome (changes_by s.serial h.live) (file_of f).layout; carried = world.with_outcome (sym changed i) s (file_of f).carried })

-- A file that was recovered.
pub recovered_is : (f : File) (start buckets greatest : ℕ) (rows : Vec KeptRow Global) (settled : Vec Done Global) (layout : Layout) (carried : Carried) → settled.items ≡ [] →
    layout_of layout ≡ world.layout_loaded (organization_of f.organization) (world.sizes_of (file_of f)) (rows_of rows.items) →
    carried_of carried ≡ world.carried_recovered greatest (carried_of f.carried) →
    file_of (record f { start = start; buckets = buckets; layout = layout; base = rows; moment = greatest; settled = settled; carried = carried })
    ≡ world.recovered_file start buckets (rows_of rows.items) greatest (file_of f)
recovered_is f start buckets greatest rows settled layout carried none l told =
    λ i. record (file_of f) { start = start; buckets = buckets; history = record (history_of f) { base = rows_of rows.items; moment = greatest; settled = map done_of (none i) }; layout = l i; carried = told i }
