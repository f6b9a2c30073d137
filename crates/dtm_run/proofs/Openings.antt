-- A node for each disk before a run.
use Rattle.std.proofs.Common.{◌≡◌, ◌∙◌, ⊎_elim, ℕ, zero, suc, List, [], ◌∷◌, Bool, true, false, Option, Some, None, refl, sym, ap, subst, if◌then◌else◌}
use Rattle.std.specs.Str.{bytes_eq}
use Rattle.file_base.specs.declared.head.FileHead.{FileHead}
use Rattle.vms_model.specs.Ids.{Id}
use Rattle.world_laws.specs.recovery_model.Opening.{IsOpening as IsTellingOpening, as_found}
use Rattle.world_laws.specs.Running.{AllFound}
use Rattle.directory_model.specs.Files.{IsPlace, file_at, head_at}
use Rattle.block_disk.specs.Disk.{DiskState}
use Rattle.careful_write.specs.Content.{content_of}
use Rattle.careful_write.specs.Load.{fitting}
use Rattle.volume.specs.Catalogs.{IsSound}
use Rattle.volume.specs.Contents.{HasFinding, HasSound, SoundOrFinding}
use Rattle.commit_protocol.specs.Messages.{LogRecord}
use Rattle.commit_protocol.specs.World.{In}
use Rattle.world_laws.specs.log_laws.Slots.{prepared_of}
use Rattle.world_laws.specs.run_model.World.{Barred, Faulty, File, IsOpening, Node, Sound, Unknown, Volume, find_file, state_of}
use Rattle.statement_steps.specs.run_agreement.Seen.{has_volume}
use Rattle.run_laws.specs.Promises.{AreLastApart, IsLastApart}
use Rattle.recovery_runs.specs.run_chains.Chains.{IsNew}
use Rattle.world_laws.specs.run_model.Transcript.{AreOpening}
use Rattle.directory_model.specs.Laws.{ReadsFiles}
use Rattle.recovery_units.specs.volume_model.Homes.{last_of}
use Rattle.recovery_units.specs.volume_model.Volumes.{IsLeftBy}
use Rattle.volume_laws.specs.Falls.{VolumeFalls}
use Rattle.day_run.proofs.dtm_node.DiskLemmas.{have_disk}
use Rattle.dtm_run.specs.Headline.{DiskRepresents, DisksRepresent, is_known}
use Rattle.dtm_run.specs.Leading.{AreKnown}
use Rattle.dtm_run.specs.Openings.{AreMade, AreTelling, AreTold, IsLeftByOne, IsLeftWhole, IsMade, IsMadeWhole, IsTold, OpeningsExist, Rests, RestsWhole, TellsMoments}
use Rattle.recovery_runs.specs.run_chains.Reopenings.{rebased_file, reopened}
use Rattle.recovery_runs.specs.Runs.{HasNoGaps}
use Rattle.dtm_run.proofs.Contents.{content_count, content_is}
use Rattle.dtm_run.proofs.Files.{AllKeep, RestingFiles, has_files, keep_all}
use Rattle.dtm_run.proofs.Opened.{all_have, is_told, nothing_durable, nothing_opening, resting_node, unknown_node, unknown_stands}
use Rattle.dtm_run.proofs.Reopening.{opens_again, stands_again, was_named}
use Rattle.dtm_run.proofs.Resting.{few_rest, last_reached, named_rest, resting_journal, rests_in}

-- whether this is a volume
abbrev volume_of : Volume → Bool
volume_of v = elim v [ Sound ↦ true | Faulty condition block ↦ false | Barred bar ↦ false | Unknown ↦ false ]

-- a node over a sound volume, or over a finding
module _ (reads : ReadsFiles) (contents : SoundOrFinding) (falls : VolumeFalls) (name : List ℕ) (d : DiskState) (m : IsMade name d) where
  abbrev Opens : Type 0
  Opens = (n : Node) × IsOpening n × DiskRepresents name d n × (is_known n.durable.volume ≡ true) × IsLastApart n × (has_volume n ≡ false → IsNew n)

  -- what is so of that node
  record Fits (n : Node) : Type 0 where
    opening : IsOpening n
    stands : DiskRepresents name d n
    known : is_known n.durable.volume ≡ true
    apart : IsLastApart n
    new : has_volume n ≡ false → IsNew n

  as_opens : (n : Node) → Fits n → Opens
  as_opens n f = (n, f.opening, f.stands, f.known, f.apart, f.new)

  module _ (v : HasSound name (fitting m.image) (content_of m.image)) where
    sound : IsSound name d.size v.catalog
    sound = subst (λ size. IsSound name size v.catalog) (content_count d.size m.image m.least m.whole m.bytes) v.sound

    resting_files : Rests (content_of m.image) v.catalog → RestingFiles (content_of m.image) v.catalog.home.node v.catalog.home.boot v.catalog.home.greatest_moment.0 v.catalog.heads
    resting_files rests = has_files reads (content_of m.image) v.catalog.home.node v.catalog.home.boot v.catalog.home.greatest_moment.0 v.catalog.heads v.count rests.files

    abbrev resting_of : Rests (content_of m.image) v.catalog → Node
    resting_of rests = resting_node name d.size (record {
      volume = Sound;
      log = rests.log.slots;
      journal = v.catalog.home.ru_blocks;
      boot = v.catalog.home.boot;
      greatest = v.catalog.home.greatest_moment.0;
      last = last_of v.catalog.home;
      units = resting_journal v.catalog.ru.first;
      directory = (resting_files rests).directory;
    })

    resting_fits : (rests : Rests (content_of m.image) v.catalog) → Fits (resting_of rests)
    resting_fits rests =
        let content = content_of m.image in
        let is = content_is d.size m.image m.least m.whole m.bytes in
        let count = content_count d.size m.image m.least m.whole m.bytes in
        let files = resting_files rests in
        let n = resting_of rests in
        let has = rests_in content v.catalog n rests sound count is.whole files.files files.live refl refl refl refl refl refl refl in
        let left : IsLeftBy content n = record { catalog = v.catalog; tells = v.tells; sound = sound; leaves = λ each. falls content v.catalog n has } in
        record {
          opening = record {
            down = refl;
            made = refl;
            was_down = refl;
            clock = refl;
            volatile = refl;
            settled = refl;
            calls = refl;
            under_way = refl;
            resting = files.resting;
            last = last_reached n (last_of v.catalog.home) v.catalog.home.node v.catalog.home.boot sound.home.owner refl rests.last;
            units = has.units;
            log = has.told;
            ends = files.ends;
            images = keep_all n files.directory (subst (λ (x : List ℕ). AllKeep x v.catalog.home.boot v.catalog.home.greatest_moment.0 files.directory) sound.home.owner files.images);
            named = λ file none. named_rest content v.catalog n rests sound count is.whole files.files files.live refl file;
            few_locks = few_rest content v.catalog n rests sound count is.whole files.files files.live refl refl;
          };
          stands = record { name_is = refl; blocks = refl; told = is_told d.seen m.image m.told; counted = m.counted; has = have_disk n (fitting m.image) content d refl (all_have d m.image m.told m.settled) (v.group, left) };
          known = refl;
          apart = λ s e. (refl, λ r i same. subst (λ (rs : List LogRecord). In r (prepared_of rs)) rests.log.none i);
          new = λ none. let no : ⊥ = cc in absurd no;
        }

    left_fits : (l : IsLeftByOne name d.size (content_of m.image) v.catalog) → Fits (reopened l.node)
    left_fits l =
        let content = content_of m.image in
        let is = content_is d.size m.image m.least m.whole m.bytes in
        let left : IsLeftBy content l.node = record { catalog = v.catalog; tells = v.tells; sound = rw (l.named, l.sized) sound; leaves = λ each. l.leaves } in
        record {
          opening = opens_again content v.catalog l.node l.leaves l.kept l.last;
          stands = stands_again name d l.node m.image l.named l.sized m.told m.settled m.counted is.whole v.group left;
          known = ap (λ (x : Volume). is_known x) l.leaves.home.volume;
          apart = l.apart;
          new = λ none. let clash : true ≡ false = sym (ap volume_of l.leaves.home.volume) ∙ none in let no : ⊥ = cc in absurd no;
        }

    sound_opens : Opens
    sound_opens = ⊎_elim (λ (r : Rests (content_of m.image) v.catalog). as_opens (resting_of r) (resting_fits r)) (λ (l : IsLeftByOne name d.size (content_of m.image) v.catalog). as_opens (reopened l.node) (left_fits l)) (m.volume v.catalog v.tells v.count sound)

  abbrev faulty_of : HasFinding name (fitting m.image) (content_of m.image) → Node
  faulty_of f = resting_node name d.size (nothing_durable (Faulty f.number f.block))

  faulty_fits : (f : HasFinding name (fitting m.image) (content_of m.image)) → Fits (faulty_of f)
  faulty_fits f = record {
    opening = nothing_opening name d.size (Faulty f.number f.block);
    stands = record { name_is = refl; blocks = refl; told = is_told d.seen m.image m.told; counted = m.counted; has = have_disk (faulty_of f) (fitting m.image) (content_of m.image) d refl (all_have d m.image m.told m.settled) f.first };
    known = refl;
    apart = λ s e. let no : ⊥ = cc in absurd no;
    new = λ none. record { image = λ has. let no : ⊥ = cc in absurd no; bare = λ again s e. let no : ⊥ = cc in absurd no };
  }

  opens : Opens
  opens = ⊎_elim sound_opens (λ (f : HasFinding name (fitting m.image) (content_of m.image)). as_opens (faulty_of f) (faulty_fits f)) (contents name (fitting m.image) (content_of m.image) (content_is d.size m.image m.least m.whole m.bytes))

-- Where the files of the volume agree with their journals and saves, and have no gaps, so it is of those of the node.

-- a file that is found by its name stands at a place
place_of : (name : List ℕ) (fs : List (Option File)) (f : File) → find_file name fs ≡ Some f → (p : ℕ) × (file_at fs p ≡ Some f)
place_of name [] f e = let no : ⊥ = cc in absurd no
place_of name (None ∷ fs) f e = let k = place_of name fs f e in (suc k.0, k.1)
place_of name (Some x ∷ fs) f e = go (bytes_eq name x.name) e (place_of name fs f)
  where
    go : (b : Bool) → ◌≡◌ {A = Option File} (if b then Some x else find_file name fs) (Some f) → (find_file name fs ≡ Some f → (p : ℕ) × (file_at fs p ≡ Some f)) → (p : ℕ) × (file_at (Some x ∷ fs) p ≡ Some f)
    go true k more = (zero, k)
    go false k more = let r = more k in (suc r.0, r.1)

module _ (waits : Id → Bool) (content : List (List ℕ)) (node : List ℕ) (boot greatest : ℕ) (heads : List (Option FileHead)) (files : RestingFiles content node boot greatest heads)
    (tells : (f : ℕ) (h : FileHead) → head_at heads f ≡ Some h → TellsMoments content greatest f h) where
  telling_at : (p : ℕ) (f : File) → file_at files.directory p ≡ Some f → IsTellingOpening waits greatest (state_of f) × HasNoGaps f
  telling_at p f there = go (head_at heads p) refl (subst (IsPlace content p (head_at heads p)) there (files.files.each p))
    where
      go : (o : Option FileHead) → head_at heads p ≡ o → IsPlace content p o (Some f) → IsTellingOpening waits greatest (state_of f) × HasNoGaps f
      go None e is = absurd is
      go (Some h) e is =
          let begins = files.begin p f there in
          let law = tells p h e waits f is.0 is.1 begins.settled (files.live p f there) in
          let opening : IsTellingOpening waits greatest (state_of f) = record { settled = begins.settled; moment = begins.moment; past = begins.past; lawful = law.0 } in
          (opening, law.1 opening)

  resting_tells : AllFound (λ file f. IsTellingOpening waits greatest (state_of f) × HasNoGaps f) files.directory
  resting_tells = λ file f found. let k = place_of file files.directory f found in telling_at k.0 f k.1

left_tells : (waits : Id → Bool) (n : Node) → AllFound (λ file f. IsTellingOpening waits n.durable.greatest (as_found n.durable.greatest (state_of f)) × HasNoGaps (rebased_file n.durable.greatest f)) n.durable.directory → AreTelling waits (reopened n)
left_tells waits n tells = λ file f found.
    let w = was_named n.durable.greatest n.durable.directory file f found in
    subst (λ (x : File). IsTellingOpening waits n.durable.greatest (state_of x) × HasNoGaps x) (sym w.is) (tells file w.file w.there)

module _ (reads : ReadsFiles) (contents : SoundOrFinding) (falls : VolumeFalls) (waits : Id → Bool) (name : List ℕ) (d : DiskState) (m : IsMadeWhole waits name d) where
  abbrev OpensWhole : Type 0
  OpensWhole = (n : Node) × IsOpening n × DiskRepresents name d n × (is_known n.durable.volume ≡ true) × IsLastApart n × AreTelling waits n

  whole_sound : HasSound name (fitting m.made.image) (content_of m.made.image) → OpensWhole
  whole_sound v = ⊎_elim
      (λ (r : RestsWhole (content_of m.made.image) v.catalog).
      let p = resting_fits reads contents falls name d m.made v r.rests in
      (resting_of reads contents falls name d m.made v r.rests, p.opening, p.stands, p.known, p.apart, resting_tells waits (content_of m.made.image) v.catalog.home.node v.catalog.home.boot v.catalog.home.greatest_moment.0 v.catalog.heads (resting_files reads contents falls name d m.made v r.rests) r.tells))
      (λ (l : IsLeftWhole waits name d.size (content_of m.made.image) v.catalog).
      let p = left_fits reads contents falls name d m.made v l.left in
      (reopened l.left.node, p.opening, p.stands, p.known, p.apart, left_tells waits l.left.node l.tells))
      (m.volume v.catalog v.tells v.count (sound reads contents falls name d m.made v))

  whole_faulty : HasFinding name (fitting m.made.image) (content_of m.made.image) → OpensWhole
  whole_faulty f =
      let p = faulty_fits reads contents falls name d m.made f in (faulty_of reads contents falls name d m.made f, p.opening, p.stands, p.known, p.apart, λ file g found. let no : ⊥ = cc in absurd no)

  pub opens_whole : OpensWhole
  opens_whole = ⊎_elim whole_sound whole_faulty (contents name (fitting m.made.image) (content_of m.made.image) (content_is d.size m.made.image m.made.least m.made.whole m.made.bytes))

all_open : (reads : ReadsFiles) (contents : SoundOrFinding) (falls : VolumeFalls) (names : List (List ℕ)) (ds : List DiskState) → AreMade names ds → (nodes : List Node) × AreOpening nodes × DisksRepresent names ds nodes × AreKnown nodes × AreLastApart nodes
all_open reads contents falls [] [] h = ([], tt, tt, tt, tt)
all_open reads contents falls [] (d ∷ ds) h = absurd h
all_open reads contents falls (name ∷ names) [] h = absurd h
all_open reads contents falls (name ∷ names) (d ∷ ds) h =
    let first = opens reads contents falls name d h.0 in
    let rest = all_open reads contents falls names ds h.1 in
    (first.0 ∷ rest.0, (first.1, rest.1), (first.2, rest.2), (first.3, rest.3), (first.4, rest.4))

-- Of any disk that tells its content nothing may be known.

unknown_opens : (name : List ℕ) (d : DiskState) → IsTold d → (n : Node) × IsOpening n × DiskRepresents name d n
unknown_opens name d t = (unknown_node name d.size, nothing_opening name d.size Unknown, unknown_stands name d t.told t.counted)

unknown_open : (names : List (List ℕ)) (ds : List DiskState) → AreTold names ds → (nodes : List Node) × AreOpening nodes × DisksRepresent names ds nodes
unknown_open [] [] h = ([], tt, tt)
unknown_open [] (d ∷ ds) h = absurd h
unknown_open (name ∷ names) [] h = absurd h
unknown_open (name ∷ names) (d ∷ ds) h =
    let first = unknown_opens name d h.0 in
    let rest = unknown_open names ds h.1 in
    (first.0 ∷ rest.0, (first.1, rest.1), (first.2, rest.2))

pub openings_exist : ReadsFiles → SoundOrFinding → VolumeFalls → OpeningsExist
openings_exist reads contents falls = record { one = unknown_opens; all = unknown_open; one_known = opens reads contents falls; all_known = all_open reads contents falls; one_whole = opens_whole reads contents falls }
