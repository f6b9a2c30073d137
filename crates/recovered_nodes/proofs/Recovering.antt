-- A file is recovered.
use Rattle.std.proofs.Common.{◌≡◌, ℕ, List, [], Bool, true, false, Option, Some, slice_set, refl, sym, ap, subst, ◌∙◌, arith}
use Rattle.std.specs.Prelude.{if◌then◌else◌}
use Rattle.std.specs.FinMap.{get}
use Rattle.file_base.specs.declared.head.FileHead.{FileHead}
use Rattle.file_base.specs.declared.head.Organization.{Organization as Kept}
use Rattle.file_base.specs.declared.head.Organization.TheVariants.{Sequential, Relative, Indexed}
use Rattle.file_base.specs.declared.head.Span.{Span}
use Rattle.vms_base.specs.declared.moments.Moment.{Moment}
use Rattle.unit_world.specs.file_images.Files.{HasSave, HasSide, SameRing, form_of}
use Rattle.unit_world.proofs.file_images.Sides.{saves_follow, sides_follow}
use Rattle.journal_model.specs.Ring.{HasRing}
use Rattle.records_model.specs.Records.{Records}
use Rattle.records_model.specs.History.{LiveChanges, current}
use Rattle.world_laws.specs.recovery_model.File.{ImageJournal, next_span, renewed, renewed_if_on}
use Rattle.world_laws.specs.run_model.World.{Node, Carried, File, Recovers, acted, carried_recovered, recovered_file}
use Rattle.unit_world.specs.directory_model.Files.{AgreesOnCarried, AreFiles, IsCarried, IsFile, IsHeadOf, IsNamed, file_at, organized_by}
use Rattle.unit_world.specs.directory_model.Laws.{SameBut}
use Rattle.unit_world.proofs.directory_model.Acts.{same_there}
use Rattle.unit_world.proofs.directory_model.Finding.{finds_files}
use Rattle.unit_world.proofs.directory_model.Moving.{places_moved}
use Rattle.recovered_nodes.specs.Recovering.{IsLoadedWith, IsRecoveredHead, IsRenewed, IsSince, RecoveriesKeepFiles}

-- Journals that begin anew.

ring_stands : (a b : List (List ℕ)) (s : Span) → HasRing a s → SameRing s a b → HasRing b s
ring_stands a b s ring same = record { some = ring.some; within = (let size = same.size in let lies = ring.within in omega (arith, size, lies)); whole = same.whole }

side_renewed : (a b : List (List ℕ)) (marked : Bool) (s new : Span) (f : ℕ) (form : FileHead) (j : ImageJournal) → HasSide a marked s f form j → (marked ≡ true → SameRing s a b) → IsRenewed marked s new → HasSide b marked new f form (renewed_if_on j)
side_renewed a b true s new f form j has same is =
    let now = sides_follow.begins b (record s { first = next_span s.end; end = next_span s.end }) f form j (let ring = ring_stands a b s (has.images refl).spelled.ring (same refl) in record { some = ring.some; within = ring.within; whole = ring.whole }) (ap next_span has.end) refl in
    let placed : renewed s.start s.blocks j ≡ renewed j.start j.blocks j = λ i. renewed (has.start i) (has.blocks i) j in
    let on : renewed_if_on j ≡ renewed j.start j.blocks j = ap (λ b. if b then renewed j.start j.blocks j else j) has.on in
    subst (λ (x : Span). HasSide b true x f form (renewed_if_on j)) (sym is) (subst (HasSide b true (record s { first = next_span s.end; end = next_span s.end }) f form) (placed ∙ sym on) now)
side_renewed a b false s new f form j has same is =
    let off : renewed_if_on j ≡ j = ap (λ b. if b then renewed j.start j.blocks j else j) has.on in
    subst (λ (x : Span). HasSide b false x f form (renewed_if_on j)) (sym is) (subst (HasSide b false s f form) (sym off) (sides_follow.stays a b false s f form j has same))

since_told : (marked on : Bool) (greatest since : ℕ) (old new : Moment) → on ≡ marked → since ≡ old.0 → IsSince marked greatest old new → (if on then greatest else since) ≡ new.0
since_told true on greatest since old new is same told = ap (λ b. if b then greatest else since) is ∙ sym told
since_told false on greatest since old new is same told = ap (λ b. if b then greatest else since) is ∙ same ∙ sym (ap (λ (m : Moment). m.0) told)

carried_renewed : (a b : List (List ℕ)) (f greatest : ℕ) (h new : FileHead) (r : Carried) → IsRecoveredHead greatest h new → AgreesOnCarried h a b → IsCarried a f h r → IsCarried b f new (carried_recovered greatest r)
carried_renewed a b f greatest h new r is stands has = record {
  after = subst (λ (k : FileHead). HasSide b k.marks.ai new.ai f (form_of k) (renewed_if_on r.after)) (sym is.is) (side_renewed a b h.marks.ai h.ai new.ai f (form_of h) r.after has.after stands.after is.after);
  before = subst (λ (k : FileHead). HasSide b k.marks.bi new.bi f (form_of k) (renewed_if_on r.before)) (sym is.is) (side_renewed a b h.marks.bi h.bi new.bi f (form_of h) r.before has.before stands.before is.before);
  since = since_told h.marks.bi r.before.on greatest r.since h.bi_since new.bi_since has.before.on has.since is.since;
  save = subst (λ (m : Bool). HasSave b m new r.save) (sym (ap (λ (k : FileHead). k.marks.save) is.is)) (saves_follow.stays a b h.marks.save h new r.save has.save (record {
    organization = ap (λ (k : FileHead). k.organization) is.is;
    bucket = ap (λ (k : FileHead). k.bucket) is.is;
    mrs = ap (λ (k : FileHead). k.mrs) is.is;
    mrn = ap (λ (k : FileHead). k.mrn) is.is;
    key_pos = ap (λ (k : FileHead). k.key_pos) is.is;
    key_size = ap (λ (k : FileHead). k.key_size) is.is;
    save = ap (λ (k : FileHead). k.save) is.is;
  }) stands.save);
}

-- The file.

organized_same : (o : Kept) (h new : FileHead) → new.mrn ≡ h.mrn → new.key_pos ≡ h.key_pos → new.key_size ≡ h.key_size → organized_by o h ≡ organized_by o new
organized_same Sequential h new mrn at size = refl
organized_same Relative h new mrn at size = ap (λ n. organized_by Relative (record h { mrn = n })) (sym mrn)
organized_same Indexed h new mrn at size = λ i. organized_by Indexed (record h { key_pos = sym at i; key_size = sym size i })

recovered_here : (b : List (List ℕ)) (greatest : ℕ) (h new : FileHead) (file : File) (m : Records) → IsRecoveredHead greatest h new → IsLoadedWith m file b new → file.history.live ≡ [] → IsHeadOf h file → IsFile b new (recovered_file new.start new.alloc m greatest file)
recovered_here b greatest h new file m is loaded none head = record {
  head = record {
    name = head.name ∙ sym (ap (λ (k : FileHead). k.name) is.is);
    bucket = head.bucket ∙ sym (ap (λ (k : FileHead). k.bucket) is.is);
    record_size = head.record_size ∙ sym (ap (λ (k : FileHead). k.mrs) is.is);
    organization = head.organization ∙ organized_same h.organization h new (ap (λ (k : FileHead). k.mrn) is.is) (ap (λ (k : FileHead). k.key_pos) is.is) (ap (λ (k : FileHead). k.key_size) is.is) ∙ ap (λ (o : Kept). organized_by o new) (sym (ap (λ (k : FileHead). k.organization) is.is));
    start = refl;
    buckets = refl;
    units = head.units ∙ sym (ap (λ (k : FileHead). k.marks.ru) is.is);
    form = loaded.form;
  };
  laid = loaded.laid;
  records = λ key. ap (λ (ls : List LiveChanges). get (current (record { base = m; moment = greatest; settled = []; live = ls })) key) none ∙ loaded.records key;
  layout = loaded.layout;
}

pub recoveries_keep : RecoveriesKeepFiles
recoveries_keep a b heads n f h new name file m are named there none is loaded stands same =
    let found = finds_files.found a heads n.durable.directory f h name are named in
    let one : found.0 ≡ file = same_there n.durable.directory f found.0 file found.2.there there in
    let mine : IsFile a h file = subst (IsFile a h) one found.1 in
    let carried : IsCarried a f h file.carried = subst (λ (x : File). IsCarried a f h x.carried) one found.3 in
    let change = recovered_file new.start new.alloc m n.durable.greatest in
    subst (AreFiles b (slice_set heads f (Some new))) (sym (found.2.changed change ∙ ap (λ (x : File). slice_set n.durable.directory f (Some (change x))) one))
    (places_moved a b heads n.durable.directory f h new (change file) are named.there (recovered_here b n.durable.greatest h new file m is loaded none mine.head)
    (carried_renewed a b f n.durable.greatest h new file.carried is stands carried) same)
