-- The files that a volume has before a run: each rests, on what its keys have.
use Rattle.std.proofs.Common.{◌≡◌, ℕ, zero, suc, List, [], ◌∷◌, Bool, true, false, length, Option, Some, None, refl, sym, ap, subst, ◌∙◌}
use Rattle.std.specs.FinMap.{get}
use Rattle.std.specs.List.{AllByRecursion}
use Rattle.file_base.specs.declared.head.FileHead.{FileHead}
use Rattle.file_base.specs.declared.head.Organization.{Organization as Kept}
use Rattle.file_base.specs.declared.head.Organization.TheVariants as kept
use Rattle.directory_model.specs.record_files.Any.{map_by, map_of}
use Rattle.vms_model.specs.Keys.{End, Number, Text}
use Rattle.world_laws.specs.recovery_model.Journal as image
use Rattle.world_laws.specs.recovery_model.File.{Save, all_of}
use Rattle.world_laws.specs.recovery_model.Opening.{past_of}
use Rattle.directory_model.specs.file_images.Files.{HasSave}
use Rattle.directory_model.specs.file_images.Images.{AreOf, IsOf}
use Rattle.directory_model.specs.save_laws.Saves.{save_head}
use Rattle.world_laws.specs.run_model.World.{AreResting, Carried, File, HasPlainEnd, HavePlainEnds, IsPlainCarried, IsPlainEntry, KeepAllImages, KeepsImages, Node}
use Rattle.directory_model.specs.Files.{AreFiles, IsCarried, IsFile, IsPlace, file_at, head_at, organized_by, layout_of}
use Rattle.directory_model.specs.Laws.{ReadsFiles}
use Rattle.dtm_run.specs.Openings.{AreLaidOut, HasLayout}

-- no record stands at the end of a file
pub end_none : (h : FileHead) (content : List (List ℕ)) → map_of h content End ≡ None
end_none h content = go h.organization
  where
    go : (o : Kept) → map_by o h content End ≡ None
    go kept.Sequential = refl
    go kept.Relative = refl
    go kept.Indexed = refl

-- Nothing that a head carries is of the end of a file.

entry_plain : (o : Kept) (e : image.Entry) → IsOf o e → IsPlainEntry e
entry_plain o (image.Changed s (Number n) v) is = refl
entry_plain o (image.Changed s (Text bytes) v) is = refl
entry_plain kept.Sequential (image.Changed s End v) is = let no : ⊥ = cc in absurd no
entry_plain kept.Relative (image.Changed s End v) is = let no : ⊥ = cc in absurd no
entry_plain kept.Indexed (image.Changed s End v) is = let no : ⊥ = cc in absurd no
entry_plain o (image.Settled s outcome moment) is = tt

entries_plain : (o : Kept) (es : List image.Entry) → AreOf o es → AllByRecursion IsPlainEntry es
entries_plain o [] are = tt
entries_plain o (e ∷ es) are = (entry_plain o e are.0, entries_plain o es are.1)

save_plain : (content : List (List ℕ)) (h : FileHead) (marked : Bool) (o : Option Save) → HasSave content marked h o → (v : Save) → o ≡ Some v → get v.records End ≡ None
save_plain content h marked None has v e = let no : ⊥ = cc in absurd no
save_plain content h true (Some w) has v e = let same : w ≡ v = cc in subst (λ (x : Save). get x.records End ≡ None) same (sym (has.records End) ∙ end_none (save_head h) content)
save_plain content h false (Some w) has v e = absurd has

carried_plain : (content : List (List ℕ)) (f : ℕ) (h : FileHead) (r : Carried) → IsCarried content f h r → IsPlainCarried r
carried_plain content f h r is = record {
  after = entries_plain h.organization (all_of r.after.entries) is.after.of;
  before = entries_plain h.organization (all_of r.before.entries) is.before.of;
  save = save_plain content h h.marks.save r.save is.save;
}

-- a file's history begins here, and at the moments before it has what its journals and its save tell
pub record BeginsHere (greatest : ℕ) (file : File) : Type 0 where
  pub settled : file.history.settled ≡ []
  pub moment : file.history.moment ≡ greatest
  pub past : file.past ≡ past_of file.carried.after file.carried.save (all_of file.carried.before.entries) file.history.base

-- the file of a head
pub record Stored (content : List (List ℕ)) (node : List ℕ) (boot greatest : ℕ) (f : ℕ) (h : FileHead) : Type 0 where
  pub file : File
  pub is : IsFile content h file
  pub carries : IsCarried content f h file.carried
  pub settled : file.history.settled ≡ []
  pub live : file.history.live ≡ []
  pub ends : HasPlainEnd file
  pub images : KeepsImages node boot greatest file
  pub begins : BeginsHere greatest file

stored : (reads : ReadsFiles) (content : List (List ℕ)) (node : List ℕ) (boot greatest : ℕ) (f : ℕ) (h : FileHead) → HasLayout content node boot greatest f h → Stored content node boot greatest f h
stored reads content node boot greatest f h laid =
    let base = reads.some content h laid.form laid.laid in
    let r = laid.carries.carried in
    let file : File = record {
      name = h.name;
      bucket = h.bucket;
      record_size = h.mrs;
      organization = organized_by h.organization h;
      start = h.start;
      buckets = h.alloc;
      carried = r;
      recovery_units = h.marks.ru;
      history = record { base = base.0; moment = greatest; settled = []; live = [] };
      past = past_of r.after r.save (all_of r.before.entries) base.0;
      layout = layout_of h content;
    } in
    record {
      file = file;
      is = record {
        head = record { name = refl; bucket = refl; record_size = refl; organization = refl; start = refl; buckets = refl; units = refl; form = laid.form };
        laid = laid.laid;
        records = base.1;
        layout = refl;
      };
      carries = laid.carries.is;
      settled = refl;
      live = refl;
      ends = record { follow = tt; absent = base.1 End ∙ end_none h content; carried = carried_plain content f h r laid.carries.is };
      images = laid.carries.keeps file refl refl;
      begins = record { settled = refl; moment = refl; past = refl };
    }

-- each file keeps its images
abbrev pub AllKeep : (node : List ℕ) → (boot greatest : ℕ) → List (Option File) → Type 0
AllKeep node boot greatest [] = Unit {0}
AllKeep node boot greatest (None ∷ fs) = AllKeep node boot greatest fs
AllKeep node boot greatest (Some f ∷ fs) = KeepsImages node boot greatest f × AllKeep node boot greatest fs

pub keep_all : (n : Node) (fs : List (Option File)) → AllKeep n.name n.durable.boot n.durable.greatest fs → KeepAllImages n fs
keep_all n [] k = tt
keep_all n (None ∷ fs) k = keep_all n fs k
keep_all n (Some f ∷ fs) k = (k.0, keep_all n fs k.1)

-- the directory of heads that have these numbers
pub record Directory (content : List (List ℕ)) (node : List ℕ) (boot greatest : ℕ) (number : ℕ → ℕ) (heads : List (Option FileHead)) : Type 0 where
  pub files : List (Option File)
  pub long : length files ≡ length heads
  pub places : (f : ℕ) → IsPlace content (number f) (head_at heads f) (file_at files f)
  pub resting : AreResting files
  pub ends : HavePlainEnds files
  pub images : AllKeep node boot greatest files
  pub live : (f : ℕ) (file : File) → file_at files f ≡ Some file → file.history.live ≡ []
  pub begin : (f : ℕ) (file : File) → file_at files f ≡ Some file → BeginsHere greatest file

directory : (reads : ReadsFiles) (content : List (List ℕ)) (node : List ℕ) (boot greatest : ℕ) (number : ℕ → ℕ) (heads : List (Option FileHead)) → ((f : ℕ) (h : FileHead) → head_at heads f ≡ Some h → HasLayout content node boot greatest (number f) h) →
    Directory content node boot greatest number heads
directory reads content node boot greatest number [] laid = record { files = []; long = refl; places = λ f. tt; resting = tt; ends = tt; images = tt; live = λ f file there. let none : ⊥ = cc in absurd none; begin = λ f file there. let none : ⊥ = cc in absurd none }
directory reads content node boot greatest number (None ∷ hs) laid =
    let rest = directory reads content node boot greatest (λ f. number (suc f)) hs (λ f h there. laid (suc f) h there) in
    record { files = None ∷ rest.files; long = ap suc rest.long; places = at rest; resting = rest.resting; ends = rest.ends; images = rest.images; live = live_at rest; begin = begin_at rest }
  where
    live_at : (d : Directory content node boot greatest (λ f. number (suc f)) hs) (f : ℕ) (file : File) → file_at (None ∷ d.files) f ≡ Some file → file.history.live ≡ []
    live_at d zero file there = let none : ⊥ = cc in absurd none
    live_at d (suc f) file there = d.live f file there

    begin_at : (d : Directory content node boot greatest (λ f. number (suc f)) hs) (f : ℕ) (file : File) → file_at (None ∷ d.files) f ≡ Some file → BeginsHere greatest file
    begin_at d zero file there = let none : ⊥ = cc in absurd none
    begin_at d (suc f) file there = d.begin f file there

    at : (d : Directory content node boot greatest (λ f. number (suc f)) hs) (f : ℕ) → IsPlace content (number f) (head_at (None ∷ hs) f) (file_at (None ∷ d.files) f)
    at d zero = tt
    at d (suc f) = d.places f
directory reads content node boot greatest number (Some h ∷ hs) laid =
    let first = stored reads content node boot greatest (number zero) h (laid zero h refl) in
    let rest = directory reads content node boot greatest (λ f. number (suc f)) hs (λ f h there. laid (suc f) h there) in
    record { files = Some first.file ∷ rest.files; long = ap suc rest.long; places = at first rest; resting = (first.settled, rest.resting); ends = (first.ends, rest.ends); images = (first.images, rest.images); live = live_at first rest; begin = begin_at first rest }
  where
    live_at : (s : Stored content node boot greatest (number zero) h) (d : Directory content node boot greatest (λ f. number (suc f)) hs) (f : ℕ) (file : File) → file_at (Some s.file ∷ d.files) f ≡ Some file → file.history.live ≡ []
    live_at s d zero file there = let same : s.file ≡ file = cc in subst (λ (x : File). x.history.live ≡ []) same s.live
    live_at s d (suc f) file there = d.live f file there

    begin_at : (s : Stored content node boot greatest (number zero) h) (d : Directory content node boot greatest (λ f. number (suc f)) hs) (f : ℕ) (file : File) → file_at (Some s.file ∷ d.files) f ≡ Some file → BeginsHere greatest file
    begin_at s d zero file there = let same : s.file ≡ file = cc in subst (BeginsHere greatest) same s.begins
    begin_at s d (suc f) file there = d.begin f file there

    at : (s : Stored content node boot greatest (number zero) h) (d : Directory content node boot greatest (λ f. number (suc f)) hs) (f : ℕ) → IsPlace content (number f) (head_at (Some h ∷ hs) f) (file_at (Some s.file ∷ d.files) f)
    at s d zero = (s.is, s.carries)
    at s d (suc f) = d.places f

-- the files of heads whose buckets are laid out are files of the world that rest
pub record RestingFiles (content : List (List ℕ)) (node : List ℕ) (boot greatest : ℕ) (heads : List (Option FileHead)) : Type 0 where
  pub directory : List (Option File)
  pub files : AreFiles content heads directory
  pub resting : AreResting directory
  pub ends : HavePlainEnds directory
  pub images : AllKeep node boot greatest directory
  pub live : (f : ℕ) (file : File) → file_at directory f ≡ Some file → file.history.live ≡ []
  pub begin : (f : ℕ) (file : File) → file_at directory f ≡ Some file → BeginsHere greatest file

pub has_files : (reads : ReadsFiles) (content : List (List ℕ)) (node : List ℕ) (boot greatest : ℕ) (heads : List (Option FileHead)) → length heads ≡ 64 → AreLaidOut content node boot greatest heads → RestingFiles content node boot greatest heads
has_files reads content node boot greatest heads long laid =
    let d = directory reads content node boot greatest (λ f. f) heads laid in
    record { directory = d.files; files = record { heads_long = long; directory_long = d.long ∙ long; each = d.places }; resting = d.resting; ends = d.ends; images = d.images; live = d.live; begin = d.begin }
