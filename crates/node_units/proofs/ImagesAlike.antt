-- The journals of images of a file, as the units of a node and its head tell them, and as the world's file does: so both refuse the same changes.
use Rattle.std.proofs.Common.{◌≡◌, ℕ, suc, ◌+◌, List, [], ◌∷◌, Bool, true, false, Option, Some, None, if◌then◌else◌, length, map, refl, sym, ◌∙◌, ap, subst, arith, inl, inr}
use Rattle.std.specs.List.{AllByRecursion}
use Rattle.std.specs.Option.{option_map}
use Rattle.std.proofs.lemmas.Bool.{both_ways}
use Rattle.file_base.specs.declared.head.FileHead.{FileHead}
use Rattle.recovery_units.specs.image_appends.declared.side.Side.TheVariants.{After, Before}
use Rattle.recovery_units.specs.image_room.Room.{images_refused}
use Rattle.recovery_units.proofs.image_room.Model.{IsJournalOf, cause_full, refused_as_told}
use Rattle.vms_model.specs.Ids.{Id}
use Rattle.vms_model.specs.Keys.{Key}
use Rattle.records_model.specs.Records.{Change}
use Rattle.records_model.specs.History.{LiveChanges, changed_it, changes_by, same_id}
use Rattle.recovery_model.specs.Images.{afters, befores, keys_of}
use Rattle.recovery_model.specs.Journal.{Entry, images_by, is_settled}
use Rattle.recovery_model.specs.File.{all_of}
use Rattle.recovery_model.specs.Room.{Full, AftersFull, BeforesFull, changes_length, full_of, has_entry, unsettled_in}
use Rattle.recovery_model.proofs.OrderLemmas.{changes_made, entries_made}
use Rattle.unit_laws.specs.Units.{SerialsDiffer, has_changes}
use Rattle.unit_laws.specs.Journal.{RecoveryUnit, find_unit, units_in}
use Rattle.unit_laws.specs.JournalLaws.{is_unit}
use Rattle.unit_table.specs.Places.{AreInOrder}
use Rattle.unit_table.specs.Units.{OpenUnit, changers, has_changed}
use Rattle.commit_protocol.specs.Allowed.{is_prepared}
use Rattle.commit_protocol.specs.Table.{Branch}
use Rattle.commit_protocol.specs.World.{In}
use Rattle.log_laws.specs.Slots.{Slots}
use Rattle.recovery_units.specs.run_model.Answers.{full_line, images_full}
use Rattle.recovery_units.specs.run_model.World.{File, KeepsImages, Node, AreUnitsOf, find_file, state_of}
use Rattle.recovery_units.specs.world_laws.Nodes.{IsUp}
use Rattle.std.specs.Prelude.{is_some}
use Rattle.recovery_units.proofs.world_laws.IdLemmas.{each_at, id_is, id_itself, id_other}
use Rattle.recovery_units.proofs.world_laws.PlainLemmas.{by_others}
use Rattle.recovery_units.proofs.world_laws.ToldImages.{unsettled_in_images}
use Rattle.unit_world.specs.directory_model.Files.{IsCarried, file_at}
use Rattle.recovery_units.specs.Calls.{cause_line}
use Rattle.recovery_units.specs.State.{IsKept, IsUnitOf, changed_at}
use Rattle.rms_units.specs.State as rms
use Rattle.volume.specs.State.{VolumeState}
use Rattle.node_units.specs.Seen.{seen}
use Rattle.node_units.proofs.Branches.{Apart, Distinct, serials, units_differ}
use Rattle.node_units.proofs.Ending.{serial_in}
use Rattle.node_units.proofs.Seeing.{changers_seen}

-- A branch has entries where it has changes.

bools_alike : (a b : Bool) → (a ≡ true → b ≡ true) → (b ≡ true → a ≡ true) → a ≡ b
bools_alike true b one two = sym (one refl)
bools_alike false true one two = two refl
bools_alike false false one two = refl

entries_there : (x : Id) (es : List Entry) (cs : List Change) → keys_of (images_by x es) ≡ keys_of (afters cs) → has_entry x es ≡ has_changes cs
entries_there x es cs keys = bools_alike (has_entry x es) (has_changes cs) (λ is. changes_made x es cs (has_changes cs) refl keys is) (λ is. entries_made x es cs (has_entry x es) refl keys is)

keys_found : (cs : List Change) → keys_of (befores cs) ≡ keys_of (afters cs)
keys_found [] = refl
keys_found (c ∷ cs) = ap (λ (ks : List Key). c.key ∷ ks) (keys_found cs)

pub changed_is : (cs : List Change) → ◌≡◌ {A = Bool} (elim cs [ [] ↦ false | c ∷ more ↦ true ]) (has_changes cs)
changed_is [] = refl
changed_is (c ∷ cs) = refl

-- As many branches have unsettled changes as there are.

abbrev AllEntered : List Entry → List LiveChanges → Type 0
AllEntered es ls = AllByRecursion (λ (l : LiveChanges). has_entry l.serial es ≡ true) ls

entered_count : (es : List Entry) (ls : List LiveChanges) → AllEntered es ls → unsettled_in es ls ≡ length ls
entered_count es [] all = refl
entered_count es (l ∷ ls) all = ap (λ (b : Bool). if b then suc (unsettled_in es ls) else unsettled_in es ls) all.0 ∙ ap suc (entered_count es ls all.1)

-- each of them is of one unit
abbrev pub has_live : List LiveChanges → OpenUnit → Bool
has_live ls u = has_changes (changes_by u.serial ls)

abbrev pub counted : List LiveChanges → List OpenUnit → ℕ
counted ls [] = 0
counted ls (u ∷ us) = (if has_live ls u then 1 else 0) + counted ls us

abbrev owners : Id → List OpenUnit → ℕ
owners x [] = 0
owners x (u ∷ us) = (if same_id u.serial x then 1 else 0) + owners x us

none_owned : (x : Id) (us : List OpenUnit) → Apart x (serials us) → owners x us ≡ 0
none_owned x [] apart = refl
none_owned x (u ∷ us) apart =
    let rest = none_owned x us apart.1 in
    let off : (if same_id u.serial x then 1 else 0) ≡ 0 = ap (λ (b : Bool). if◌then◌else◌ {A = ℕ} b 1 0) (id_other x u.serial apart.0) in
    omega (arith, rest, off)

one_owned : (x : Id) (us : List OpenUnit) → Distinct (serials us) → In x (serials us) → owners x us ≡ 1
one_owned x [] d i = absurd i
one_owned x (u ∷ us) d i = elim i [
  | inl same ↦ (let rest = none_owned x us (subst (λ (y : Id). Apart y (serials us)) (sym same) d.0) in
      ap (λ (b : Bool). (if b then 1 else 0) + owners x us) (subst (λ (y : Id). same_id u.serial y ≡ true) (sym same) (id_itself u.serial)) ∙ ap (λ (k : ℕ). 1 + k) rest)
  | inr more ↦ (let other = each_at (λ (y : Id). same_id u.serial y ≡ false) x (serials us) d.0 more in
      let off : (if same_id u.serial x then 1 else 0) ≡ 0 = ap (λ (b : Bool). if◌then◌else◌ {A = ℕ} b 1 0) other in
      let rest = one_owned x us d.1 more in
      omega (arith, off, rest))
]

abbrev pub AllOwned : List OpenUnit → List LiveChanges → Type 0
AllOwned us ls = AllByRecursion (λ (l : LiveChanges). In l.serial (serials us)) ls

none_counted : (us : List OpenUnit) → counted [] us ≡ 0
none_counted [] = refl
none_counted (u ∷ us) = let rest = none_counted us in omega (arith, rest)

-- one branch more is of one unit more
one_more : (l : LiveChanges) (ls : List LiveChanges) → has_changes l.changes ≡ true → AllByRecursion (λ (k : LiveChanges). same_id l.serial k.serial ≡ false) ls → (us : List OpenUnit) → counted (l ∷ ls) us ≡ owners l.serial us + counted ls us
one_more l ls some apart [] = refl
one_more l ls some apart (u ∷ us) = step (same_id u.serial l.serial) refl (one_more l ls some apart us)
  where
    turned : (ls : List LiveChanges) → AllByRecursion (λ (k : LiveChanges). same_id l.serial k.serial ≡ false) ls → AllByRecursion (λ (k : LiveChanges). same_id k.serial l.serial ≡ false) ls
    turned [] all = tt
    turned (k ∷ ks) all = (id_other l.serial k.serial all.0, turned ks all.1)

    step : (b : Bool) → same_id u.serial l.serial ≡ b → counted (l ∷ ls) us ≡ owners l.serial us + counted ls us →
        (if has_changes (if b then l.changes else changes_by u.serial ls) then 1 else 0) + counted (l ∷ ls) us ≡ ((if b then 1 else 0) + owners l.serial us) + ((if has_live ls u then 1 else 0) + counted ls us)
    step true is rest =
        let own : u.serial ≡ l.serial = id_is u.serial l.serial is in
        let none : has_live ls u ≡ false = ap (λ (x : Id). has_changes (changes_by x ls)) own ∙ ap has_changes (by_others l.serial ls (turned ls apart)) in
        let here : (if has_changes l.changes then 1 else 0) ≡ 1 = ap (λ (b : Bool). if◌then◌else◌ {A = ℕ} b 1 0) some in
        let there : (if has_live ls u then 1 else 0) ≡ 0 = ap (λ (b : Bool). if◌then◌else◌ {A = ℕ} b 1 0) none in
        omega (arith, rest, here, there)
    step false is rest = omega (arith, rest)

pub live_count : (us : List OpenUnit) → Distinct (serials us) → (ls : List LiveChanges) → SerialsDiffer ls → AllByRecursion (λ (l : LiveChanges). has_changes l.changes ≡ true) ls → AllOwned us ls → counted ls us ≡ length ls
live_count us d [] differ some owned = none_counted us
live_count us d (l ∷ ls) differ some owned =
    let more = one_more l ls some.0 differ.0 us in
    let own = one_owned l.serial us d owned.0 in
    let rest = live_count us d ls differ.1 some.1 owned.1 in
    omega (arith, more, own, rest)

-- units that changed a file of this number
pub units_count : (f : ℕ) (ls : List LiveChanges) (us : List OpenUnit) → AllByRecursion (λ (u : OpenUnit). has_changed u f ≡ has_live ls u) us → changers f (map Some us) ≡ counted ls us
units_count f ls [] all = refl
units_count f ls (u ∷ us) all = (λ i. (if all.0 i then 1 else 0) + units_count f ls us all.1 i)

-- What the disk of a node says of a file's journals of images: each branch with unsettled changes has entries.
module _ (n : Node) (units : AreUnitsOf n) (f : ℕ) (file : File) (there : file_at n.durable.directory f ≡ Some file) (keeps : KeepsImages n.name n.durable.boot n.durable.greatest file) where
  abbrev live : List LiveChanges
  live = file.history.live

  pub differ : SerialsDiffer live
  differ = (units.tells f file there).notes.differ

  pub some : AllByRecursion (λ (l : LiveChanges). has_changes l.changes ≡ true) live
  some = (units.tells f file there).notes.some

  -- none that has changes is settled
  open_live : (es : List Entry) → ((x : Id) → is_settled es x ≡ true → changes_by x live ≡ []) → (ls : List LiveChanges) → AllByRecursion (λ (l : LiveChanges). has_changes (changes_by l.serial live) ≡ true) ls → AllByRecursion (λ (l : LiveChanges). is_settled es l.serial ≡ false) ls
  open_live es gone [] all = tt
  open_live es gone (l ∷ ls) all = (off (is_settled es l.serial) refl, open_live es gone ls all.1)
    where
      off : (b : Bool) → is_settled es l.serial ≡ b → is_settled es l.serial ≡ false
      off true is = absurd (both_ways (has_changes (changes_by l.serial live)) (ap has_changes (gone l.serial is)) all.0)
      off false is = is

  own_changes : (ls : List LiveChanges) → SerialsDiffer ls → AllByRecursion (λ (l : LiveChanges). has_changes l.changes ≡ true) ls → AllByRecursion (λ (l : LiveChanges). has_changes (changes_by l.serial ls) ≡ true) ls
  own_changes [] d all = tt
  own_changes (l ∷ ls) d all = (
    ap (λ (b : Bool). has_changes (if b then l.changes else changes_by l.serial ls)) (id_itself l.serial) ∙ all.0,
    behind ls d.0 (own_changes ls d.1 all.1),
  )
    where
      behind : (ks : List LiveChanges) → AllByRecursion (λ (k : LiveChanges). same_id l.serial k.serial ≡ false) ks → AllByRecursion (λ (k : LiveChanges). has_changes (changes_by k.serial ls) ≡ true) ks → AllByRecursion (λ (k : LiveChanges). has_changes (changes_by k.serial (l ∷ ls)) ≡ true) ks
      behind [] apart rest = tt
      behind (k ∷ ks) apart rest = (ap (λ (b : Bool). has_changes (if b then l.changes else changes_by k.serial ls)) (id_other l.serial k.serial apart.0) ∙ rest.0, behind ks apart.1 rest.1)

  all_entered : (es : List Entry) → ((x : Id) → is_settled es x ≡ false → keys_of (images_by x es) ≡ keys_of (afters (changes_by x live))) → ((x : Id) → is_settled es x ≡ true → changes_by x live ≡ []) → AllEntered es live
  all_entered es keys gone = go live (open_live es gone live (own_changes live differ some)) (own_changes live differ some)
    where
      go : (ls : List LiveChanges) → AllByRecursion (λ (l : LiveChanges). is_settled es l.serial ≡ false) ls → AllByRecursion (λ (l : LiveChanges). has_changes (changes_by l.serial live) ≡ true) ls → AllEntered es ls
      go [] open_ones all = tt
      go (l ∷ ls) open_ones all = (entries_there l.serial es (changes_by l.serial live) (keys l.serial open_ones.0) ∙ all.0, go ls open_ones.1 all.1)

  pub after_keys : file.carried.after.on ≡ true → (x : Id) → is_settled (all_of file.carried.after.entries) x ≡ false → keys_of (images_by x (all_of file.carried.after.entries)) ≡ keys_of (afters (changes_by x live))
  after_keys on x off = keeps.keys on x off

  pub before_keys : file.carried.before.on ≡ true → (x : Id) → is_settled (all_of file.carried.before.entries) x ≡ false → keys_of (images_by x (all_of file.carried.before.entries)) ≡ keys_of (afters (changes_by x live))
  before_keys on x off = ap keys_of (keeps.found on x off) ∙ keys_found (changes_by x live)

  -- so as many branches have entries there as have unsettled changes
  pub after_count : file.carried.after.on ≡ true → unsettled_in (all_of file.carried.after.entries) live ≡ length live
  after_count on = entered_count (all_of file.carried.after.entries) live (all_entered (all_of file.carried.after.entries) (after_keys on) (keeps.after_branches on).gone)

  pub before_count : file.carried.before.on ≡ true → unsettled_in (all_of file.carried.before.entries) live ≡ length live
  before_count on = entered_count (all_of file.carried.before.entries) live (all_entered (all_of file.carried.before.entries) (before_keys on) (keeps.before_branches on).gone)

module _ (s : rms.UnitsState) (log : Slots) (v : VolumeState) (at : AreInOrder s.units.places s.units.order) (n : Node) (up : IsUp n) (kept : IsKept (seen s log) v n) (f : ℕ) (name : List ℕ) (file : File) (found : find_file name n.durable.directory ≡ Some file)
    (there : file_at n.durable.directory f ≡ Some file) (h : FileHead) (carried : IsCarried kept.content f h file.carried) where
  abbrev us : List OpenUnit
  us = (seen s log).begun

  abbrev live_here : List LiveChanges
  live_here = file.history.live

  keeps : KeepsImages n.name n.durable.boot n.durable.greatest file
  keeps = up.filed.images name file found

  -- each branch with unsettled changes has a unit
  owned : AllOwned us live_here
  owned = go live_here (kept.has.units.tells f file there).notes.units
    where
      go : (ls : List LiveChanges) → AllByRecursion (λ (l : LiveChanges). is_unit l.serial n.durable.units ≡ true) ls → AllOwned us ls
      go [] all = tt
      go (l ∷ ls) all = (one (find_unit l.serial (units_in n.durable.units.entries)) refl all.0, go ls all.1)
        where
          one : (o : Option RecoveryUnit) → find_unit l.serial (units_in n.durable.units.entries) ≡ o → is_some o ≡ true → In l.serial (serials us)
          one None e is = let no : ⊥ = cc in absurd no
          one (Some u) e is = let r = up.table.branches l.serial u e in subst (λ (x : Id). In x (serials us)) r.serial (serial_in us n.volatile.branches r.branch kept.branches r.there)

  changed_units : AllByRecursion (λ (u : OpenUnit). has_changed u f ≡ has_live live_here u) us
  changed_units = go us kept.each
    where
      go : (ws : List OpenUnit) → AllByRecursion (IsUnitOf n) ws → AllByRecursion (λ (u : OpenUnit). has_changed u f ≡ has_live live_here u) ws
      go [] all = tt
      go (w ∷ ws) all = (sym (all.0.files f) ∙ ap (changed_at w.serial) there ∙ changed_is (changes_by w.serial live_here), go ws all.1)

  changers_are : changers f s.units.places ≡ length live_here
  changers_are = changers_seen s log f at ∙ units_count f live_here us changed_units
      ∙ live_count us (units_differ us n kept.branches up) live_here (differ n kept.has.units f file there keeps) (some n kept.has.units f file there keeps) owned

  -- The journals of the file are those of its head, for a branch that both leave open.
  module _ (x : Id) (off_after : is_settled (all_of file.carried.after.entries) x ≡ false) (off_before : is_settled (all_of file.carried.before.entries) x ≡ false) where
    pub after_is : IsJournalOf After h f s.units.places x (changed_it file.history x) live_here file.carried.after
    after_is = record {
      on = carried.after.on;
      blocks = sym carried.after.blocks;
      first = sym carried.after.first;
      end = sym carried.after.end;
      unsettled = λ kept_on.
          after_count n kept.has.units f file there keeps (carried.after.on ∙ kept_on) ∙ sym changers_are;
      entry = λ kept_on. let on = carried.after.on ∙ kept_on in entries_there x (all_of file.carried.after.entries) (changes_by x live_here) (after_keys n kept.has.units f file there keeps on x off_after) ∙ sym (changed_is (changes_by x live_here));
    }

    pub before_is : IsJournalOf Before h f s.units.places x (changed_it file.history x) live_here file.carried.before
    before_is = record {
      on = carried.before.on;
      blocks = sym carried.before.blocks;
      first = sym carried.before.first;
      end = sym carried.before.end;
      unsettled = λ kept_on.
          before_count n kept.has.units f file there keeps (carried.before.on ∙ kept_on) ∙ sym changers_are;
      entry = λ kept_on. let on = carried.before.on ∙ kept_on in entries_there x (all_of file.carried.before.entries) (changes_by x live_here) (before_keys n kept.has.units f file there keeps on x off_before) ∙ sym (changed_is (changes_by x live_here));
    }

    line_full : (o : Option Full) → option_map cause_line (option_map cause_full o) ≡ option_map full_line o
    line_full None = refl
    line_full (Some (AftersFull free need)) = refl
    line_full (Some (BeforesFull free need)) = refl

    -- so they refuse changes as the world does
    pub images_alike : (cs : List Change) → has_changes cs ≡ true → option_map cause_line (images_refused h f s.units.places (changed_it file.history x) (changes_length (afters cs)) (changes_length (befores cs))) ≡ images_full x cs file
    images_alike [] none = let no : ⊥ = cc in absurd no
    images_alike (c ∷ cs) more = ap (option_map cause_line) (sym (refused_as_told h f s.units.places x (changed_it file.history x) (c ∷ cs) (state_of file) after_is before_is)) ∙ line_full (full_of x (c ∷ cs) (state_of file))

  -- A branch of the table that is not prepared is left open.
  pub left_open : (b : Branch) → In b n.volatile.branches → is_prepared b.state ≡ false → (is_settled (all_of file.carried.after.entries) b.key.serial ≡ false) × (is_settled (all_of file.carried.before.entries) b.key.serial ≡ false)
  left_open b i state = unsettled_in_images b.key.serial name file (up.running.images.unsettled b i state name file found)
