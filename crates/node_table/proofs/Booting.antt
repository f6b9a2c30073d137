-- A table that begins with what a restart told.
use Rattle.std.proofs.Common.{◌≡◌, ◌≤◌, ℕ, suc, true, false, List, [], ◌∷◌, ◌++◌, Some, None, inl, inr, refl, ap, sym, subst, ◌∙◌, length, map, arith}
use Rattle.std.specs.Prelude.{is_some}
use Rattle.std.specs.List.{list_all, list_any}
use Rattle.std.proofs.lemmas.List.{length-append}
use Rattle.net_wire.specs.commit_protocol.Agreement.{Distinct}
use Rattle.net_wire.specs.commit_protocol.Allowed as allowed
use Rattle.net_wire.specs.commit_protocol.Limits.{LogWithin, PreparedWithin, RecordWithin}
use Rattle.net_wire.specs.commit_protocol.Messages.{LogRecord, Name, same_id}
use Rattle.net_wire.specs.commit_protocol.Table.{Branch, Key, Tm, branch_of, branch_serials, branches_of, find, prepared_records, record_key, record_serials, restarted}
use Rattle.net_wire.specs.commit_protocol.World.{In}
use Rattle.emitter_model.proofs.commit_protocol.Lists.{in_left, in_parts, told_id}
use Rattle.emitter_model.proofs.commit_protocol.Serials.{in_serial, parts_apart, serial_in}
use Rattle.emitter_model.proofs.commit_protocol.WithinRows.{restarted_within}
use Rattle.row_laws.specs.log_laws.Slots.{LogTells, Slots, records_in}
use Rattle.row_laws.proofs.log_laws.Reading.{all_again}
use Rattle.row_laws.proofs.log_laws.RowSlots.{among}
use Rattle.tm_table.specs.Restarts as restarts
use Rattle.tm_table.specs.Restarts.{MayRestart, is_committed, is_prepared}
use Rattle.row_laws.specs.run_model.World.{Node}
use Rattle.row_laws.specs.May.{IsTold}
use Rattle.tm_types.specs.Parts.{log_record_of}
use Rattle.vms_base.specs.declared.protocol.LogRec.{LogRec}
use Rattle.vms_model.specs.Ids.{Id}
use Rattle.volume.specs.State.{VolumeState}
use Rattle.recovery_units.specs.Calls.{MayBegin}
use Rattle.recovery_units.specs.Told.{ReopenedTold}
use Rattle.recovery_units.specs.State.{AreOfBranches, IsInOrder, IsKept}
use Rattle.recovery_units.specs.world_laws.Nodes as laws
use Rattle.node_table.specs.Running.{IsBooted}
use Rattle.node_table.specs.Standing.{AreInDoubt, IsUp, NamesPrepared, Stored, UpRepresents, unsettled_serials}
use Rattle.node_table.proofs.Doubting.{stands}

pub serials_back : (ps : List LogRecord) → branch_serials (branches_of ps) ≡ record_serials ps
serials_back [] = refl
serials_back (r ∷ ps) = ap (λ (z : List Id). r.serial ∷ z) (serials_back ps)

branch_in : (r : LogRecord) (ps : List LogRecord) → In r ps → In (branch_of r) (branches_of ps)
branch_in r [] h = absurd h
branch_in r (p ∷ ps) h = elim h [ inl e ↦ inl (ap branch_of e) | inr i ↦ inr (branch_in r ps i) ]

record_of : (b : Branch) (ps : List LogRecord) → In b (branches_of ps) → (r : LogRecord) × In r ps × (b ≡ branch_of r)
record_of b [] h = absurd h
record_of b (p ∷ ps) h = elim h [
  | inl e ↦ (p, inl refl, e)
  | inr i ↦ (let r = record_of b ps i in (r.0, inr r.1, r.2))
]

key_in : (r : LogRecord) (ps : List LogRecord) → In r ps → In (record_key r) (map record_key ps)
key_in r [] h = absurd h
key_in r (p ∷ ps) h = elim h [ inl e ↦ inl (ap record_key e) | inr i ↦ inr (key_in r ps i) ]

in_key : (k : Key) (ps : List LogRecord) → In k (map record_key ps) → (r : LogRecord) × In r ps × (k ≡ record_key r)
in_key k [] h = absurd h
in_key k (p ∷ ps) h = elim h [
  | inl e ↦ (p, inl refl, e)
  | inr i ↦ (let r = in_key k ps i in (r.0, inr r.1, r.2))
]

few_records : (ss : Slots) → length (records_in ss) ≤ length ss
few_records [] = omega arith
few_records (None ∷ ss) = let h = few_records ss in omega arith
few_records (Some r ∷ ss) = let h = few_records ss in omega arith

length_records : (rs : List LogRecord) → length (record_serials rs) ≡ length rs
length_records [] = refl
length_records (r ∷ rs) = ap suc (length_records rs)

length_back : (ps : List LogRecord) → length (branches_of ps) ≡ length ps
length_back [] = refl
length_back (r ∷ ps) = ap suc (length_back ps)

-- The records may begin a table of the code.

all_prepared : (ps : List LogRecord) → ((r : LogRecord) → In r ps → PreparedWithin r) → list_all (λ (r : LogRecord). is_prepared r.kind) ps ≡ true
all_prepared [] h = refl
all_prepared (r ∷ ps) h = let e : is_prepared r.kind ≡ true = ap is_prepared (h r (inl refl)).kind in rw e (all_prepared ps (λ q i. h q (inr i)))

all_committed : (cs : List LogRecord) → ((r : LogRecord) → In r cs → RecordWithin r) → list_all (λ (r : LogRecord). is_committed r.kind) cs ≡ true
all_committed [] h = refl
all_committed (r ∷ cs) h = let e : is_committed r.kind ≡ true = ap is_committed (h r (inl refl)).kind in rw e (all_committed cs (λ q i. h q (inr i)))

not_any : (s : Id) (xs : List Id) → (In s xs → ⊥) → list_any (λ x. same_id x s) xs ≡ false
not_any s [] h = refl
not_any s (x ∷ xs) h = elim (told_id x s) [
  | inl t ↦ absurd (h (inl (sym t.1)))
  | inr t ↦ rw (t.0) (not_any s xs (λ i. h (inr i)))
]

differ : (xs : List Id) → Distinct xs → restarts.Distinct xs
differ [] d = tt
differ (x ∷ xs) d = (not_any x xs d.0, differ xs d.1)

serials_both : (ps cs : List LogRecord) → restarts.serials_of (ps ++ cs) ≡ record_serials ps ++ record_serials cs
serials_both [] cs = only cs
  where
    only : (rs : List LogRecord) → restarts.serials_of rs ≡ record_serials rs
    only [] = refl
    only (r ∷ rs) = ap (λ (z : List Id). r.serial ∷ z) (only rs)
serials_both (r ∷ ps) cs = ap (λ (z : List Id). r.serial ∷ z) (serials_both ps cs)

pub may_restart : (ps cs : List LogRecord) → LogWithin ps cs → Distinct (record_serials ps ++ record_serials cs) → MayRestart ps cs
may_restart ps cs w d = record {
  prepared_kinds = all_prepared ps w.prepared;
  committed_kinds = all_committed cs w.committed;
  distinct = subst restarts.Distinct (sym (serials_both ps cs)) (differ (record_serials ps ++ record_serials cs) d);
  few = w.table;
  slots = w.log;
}

-- The log tells the table.
told_back : (name : Name) (ps cs : List LogRecord) (ss : Slots) → LogWithin ps cs → Distinct (record_serials ps ++ record_serials cs) → LogTells (restarted name ps cs) ss → IsTold (restarted name ps cs) ss
told_back name ps cs ss w d t = record {
  tells = t;
  apart = subst (λ xs. Distinct (xs ++ record_serials cs)) (sym (serials_back ps)) d;
  room = (
      let again : prepared_records (branches_of ps) ≡ ps = all_again ps (λ r i. ((w.prepared r i).kind, (w.prepared r i).waiting)) in
      let fits = among (record_serials ps ++ record_serials cs) (record_serials (records_in ss)) d (λ i h. elim (in_parts i (record_serials ps) (record_serials cs) h) [
        | inl j ↦ (let r = serial_in i ps j in subst (λ z. In z (record_serials (records_in ss))) r.2 (in_serial r.0 (records_in ss) (t.prepared r.0 (subst (λ z. In r.0 z) (sym again) r.1))))
        | inr j ↦ (let r = serial_in i cs j in subst (λ z. In z (record_serials (records_in ss))) r.2 (in_serial r.0 (records_in ss) (t.committed r.0 r.1)))
      ]) in
      let l1 = length-append (record_serials ps) (record_serials cs) in
      let l2 = length_records ps in
      let l3 = length_records cs in
      let l4 = length_records (records_in ss) in
      let l5 = few_records ss in
      let l6 = length_back ps in
      omega arith);
}

doubt_back : (ps : List LogRecord) → Distinct (record_serials ps) → AreInDoubt (record_serials ps) (branches_of ps)
doubt_back ps d = record { apart = d; prepared = λ s i. let r = serial_in s ps i in (branch_of r.0, branch_in r.0 ps r.1, r.2, refl) }

-- What is kept of a node then.
pub boot_up : (name : Name) (ps cs : List LogRecord) (s : Stored) → IsInOrder s.units s.volume → AreOfBranches s.units.begun (branches_of ps) → LogWithin ps cs → Distinct (record_serials ps ++ record_serials cs) → LogTells (restarted name ps cs) s.units.log → name ≡ s.volume.catalog.home.node → s.in_doubt ≡ record_serials ps
    → (drawn : ℕ) → IsUp (record { stored = s; tm = restarted name ps cs; drawn = drawn; declared = [] })
boot_up name ps cs s order units w d t is doubt drawn = record {
  follows = record {
    order = order;
    node = is;
    branches = units;
    told = told_back name ps cs s.units.log w d t;
    doubt = subst (λ z. AreInDoubt z (branches_of ps)) (sym doubt) (doubt_back ps (parts_apart (record_serials ps) (record_serials cs) d).one);
  };
  within = restarted_within name ps cs w;
}

-- And the node of the world.

all_stand : (qs : List LogRecord) (bs : List Branch) → ((r : LogRecord) → In r qs → is_some (find (record_key r) bs) ≡ true) → unsettled_serials (map record_key qs) bs ≡ record_serials qs
all_stand [] bs h = refl
all_stand (r ∷ qs) bs h = let e : is_some (find (record_key r) bs) ≡ true = h r (inl refl) in rw e (ap (λ (z : List Id). r.serial ∷ z) (all_stand qs bs (λ q i. h q (inr i))))

names_back : (ps : List LogRecord) → NamesPrepared (map record_key ps) (branches_of ps)
names_back ps = record {
  named = λ b i p. let r = record_of b ps i in subst (λ (z : Branch). In z.key (map record_key ps)) (sym r.2) (key_in r.0 ps r.1);
  prepared = λ b i k. let r = record_of b ps i in ap (λ (z : Branch). allowed.is_prepared z.state) r.2;
}

pub boot_stands : (clock : ℕ) (name : Name) (ps cs : List LogRecord) (s : Stored) (n : Node) → Distinct (record_serials ps ++ record_serials cs) → s.in_doubt ≡ record_serials ps → IsKept s.units s.volume n → laws.IsUp n → n.name ≡ name → n.volatile.branches ≡ branches_of ps → n.volatile.records ≡ cs → n.volatile.preparation ≡ map record_key ps
    → n.clock ≡ clock → n.up ≡ true → n.was_up ≡ true → n.under_way ≡ None → n.volatile.drawn ≡ 0 → n.volatile.declared ≡ [] → UpRepresents clock (record { stored = s; tm = restarted name ps cs; drawn = 0; declared = [] }) n
boot_stands clock name ps cs s n d doubt kept up named bs rs prep clk u was way drawn declared = record {
  stands = record {
    kept = kept;
    table = λ i. record { node = named i; table = bs i; records = rs i };
    clock_is = clk;
    doubt = (λ i. unsettled_serials (prep i) (bs i)) ∙ all_stand ps (branches_of ps) there ∙ sym doubt;
    names = subst (λ z. NamesPrepared n.volatile.preparation z) (sym bs) (subst (λ z. NamesPrepared z (branches_of ps)) (sym prep) (names_back ps));
    up = u;
    was_up = was;
    under_way = way;
  };
  drawn = drawn;
  declared = declared;
  preparation = λ k i.
      let r = in_key k ps (subst (λ z. In k z) prep i) in
      let at : In k.serial (branch_serials n.volatile.branches) = subst (λ (z : List Branch). In k.serial (branch_serials z)) (sym bs) (subst (λ z. In k.serial z) (sym (serials_back ps)) (subst (λ (z : Key). In z.serial (record_serials ps)) (sym r.2) (in_serial r.0 ps r.1))) in
      up.table.drawn k.serial (in_left k.serial (branch_serials n.volatile.branches) (record_serials n.volatile.records) at);
}
  where
    there : (r : LogRecord) → In r ps → is_some (find (record_key r) (branches_of ps)) ≡ true
    there r i = ap is_some (stands (branches_of ps) (branch_of r) (subst Distinct (sym (serials_back ps)) (parts_apart (record_serials ps) (record_serials cs) d).one) (branch_in r ps i))

-- The same, of what the code has.

module _ (tm : Tm) (name : Name) (ps cs : List LogRec) (told : ReopenedTold) (s : Stored) (is : tm ≡ restarted name (map log_record_of ps) (map log_record_of cs)) (prepared_is : ps ≡ told.prepared) (committed_is : cs ≡ told.committed) (named : name ≡ s.volume.catalog.home.node)
    (doubt : s.in_doubt ≡ record_serials (map log_record_of told.prepared)) (begins : MayBegin told s.units.log) where
  table_is : tm ≡ restarted name (map log_record_of told.prepared) (map log_record_of told.committed)
  table_is = is ∙ (λ i. restarted name (map log_record_of (prepared_is i)) (map log_record_of (committed_is i)))

  pub booted_up : (rms : List Name) → rms ≡ [] → IsInOrder s.units s.volume → AreOfBranches s.units.begun (branches_of (map log_record_of told.prepared)) → IsUp (record { stored = s; tm = tm; drawn = 0; declared = rms })
  booted_up rms none order units = subst (λ (x : List Name). IsUp (record { stored = s; tm = tm; drawn = 0; declared = x })) (sym none) (subst (λ t. IsUp (record { stored = s; tm = t; drawn = 0; declared = [] })) (sym table_is)
      (boot_up name (map log_record_of told.prepared) (map log_record_of told.committed) s order units begins.within begins.apart (begins.tells name) named doubt 0))

  pub booted_stands : (rms : List Name) → rms ≡ [] → (old : Stored) → old.volume ≡ s.volume → old.units ≡ s.units → (clock : ℕ) (n : Node) → IsBooted clock told old n → UpRepresents clock (record { stored = s; tm = tm; drawn = 0; declared = rms }) n
  booted_stands rms none old volume units clock n b =
      let kept : IsKept s.units s.volume n = subst (λ v. IsKept s.units v n) volume (subst (λ u. IsKept u old.volume n) units b.kept) in
      let node : n.name ≡ name = b.name ∙ ap (λ (v : VolumeState). v.catalog.home.node) volume ∙ sym named in
      subst (λ (x : List Name). UpRepresents clock (record { stored = s; tm = tm; drawn = 0; declared = x }) n) (sym none) (subst (λ t. UpRepresents clock (record { stored = s; tm = t; drawn = 0; declared = [] }) n) (sym table_is)
      (boot_stands clock name (map log_record_of told.prepared) (map log_record_of told.committed) s n begins.apart doubt kept b.is_up node b.branches b.records b.preparation b.clock_is b.up b.was_up b.under_way b.drawn b.declared))

pub restart_as : (ps cs : List LogRec) (told : ReopenedTold) (ss : Slots) → ps ≡ told.prepared → cs ≡ told.committed → MayBegin told ss → MayRestart (map log_record_of ps) (map log_record_of cs)
restart_as ps cs told ss p c b = subst (λ xs. MayRestart (map log_record_of xs) (map log_record_of cs)) (sym p) (subst (λ xs. MayRestart (map log_record_of told.prepared) (map log_record_of xs)) (sym c) (may_restart (map log_record_of told.prepared) (map log_record_of told.committed) b.within b.apart))
