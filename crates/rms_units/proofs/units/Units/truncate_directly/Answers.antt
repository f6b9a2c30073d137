-- A file is truncated for no unit: refused, or gone down while that was looked at or under way; and the units stay in order with the volume.
use Rattle.std.proofs.Common.{◌≡◌, ℕ, ◌+◌, ◌*◌, ◌<◌, ◌≤◌, ◌^◌, Some, None, IfErr, OnOk, refl, sym, ap, subst, ◌∙◌, arith, inl}
use Rattle.careful_write.specs.State.{content}
use Rattle.change_set.specs.Maps.{empty_map}
use Rattle.volume_files.specs.record_files.Any.{map_of}
use Rattle.unit_journal.specs.Groups.{Caused, DiskAdvances, Grows}
use Rattle.unit_journal.specs.Leaving.{FellIn}
use Rattle.unit_journal.specs.Settling.{next_moment}
use Rattle.unit_journal.proofs.Breaking.{fell_old}
use Rattle.volume.specs.State.{SameVolume, VolumeState}
use Rattle.key_changes.specs.unit_cuts.Records.{OfRecords}
use Rattle.key_changes.specs.unit_cuts.Truncating.{AllTold, CommitsCut, entry_sizes, keys_cut}
use Rattle.key_changes.specs.unit_cuts.Moving.{ImagesFit}
use Rattle.key_changes.proofs.unit_cuts.CutFrames.{told_none}
use Rattle.key_changes.proofs.unit_cuts.CutSofar.{leaves_told}
use Rattle.rms_units.specs.State.{IsInOrder, UnitsState, ImagesGrow}
use Rattle.rms_units.specs.Truncating.{DirectCutBroke, DirectCutRefused, DirectsCut, DirectsCutErr, direct_cut_refused_after_reading, direct_cut_refused_before_reading}
use Rattle.rms_units.proofs.ChangedLemmas.{refused_caused, refused_goes, refused_grows, refused_pool}
use Rattle.rms_units.proofs.CutOrder.{order_cut_directly}
use Rattle.rms_units.proofs.CutReads.{breaks_direct_from, commits_cut_from}
use Rattle.rms_units.proofs.CutRooms.{direct_late_none, images_fit_too}
use Rattle.rms_units.proofs.ImageSound.{low_by, ordered_spans, settlements_at}
use Rattle.rms_units.proofs.OrderLemmas.{placed_in}
use Rattle.rms_units.proofs.Refusing.{refused_so}
use Rattle.rms_units.proofs.SettledLemmas.{next_bound, next_later}
use Rattle.rms_units.proofs.EndLemmas.{ends_cut_directly}
use Rattle.rms_units.proofs.units.Units.truncate_directly.Goals as goal
use Rattle.rms_units.proofs.units.Units.truncate_directly.Goals.{in-Err-commit_cut, in-Ok-commit_cut}

pub refuse_cut_directly-requires-clause-placed : goal.refuse_cut_directly-requires-clause-placed
refuse_cut_directly-requires-clause-placed g c = placed_in c.args.self.now c.args.volume.now c.args.cut.now.file c.args.cut.now.head c.requires.order c.requires.head

pub refuse_cut_directly-requires-clause-images : goal.refuse_cut_directly-requires-clause-images
refuse_cut_directly-requires-clause-images g c = settlements_at c.args.self.now (record { units = c.self.inside.table; locks = c.self.inside.locks.locks }) c.args.volume.now c.args.cut.now.file c.args.cut.now.head c.self.view_is c.requires.order c.requires.head

pub refuse_cut_directly-requires-clause-ordered : goal.refuse_cut_directly-requires-clause-ordered
refuse_cut_directly-requires-clause-ordered g c = ordered_spans c.args.self.now c.args.volume.now c.args.cut.now.file c.args.cut.now.head c.requires.order c.requires.head

pub returns-in-Err-clause-grows : goal.returns-in-Err-clause-grows
returns-in-Err-clause-grows g c =
    let a = c.args.cut.now in
    let s : UnitsState = record { units = c.self.inside.table; locks = c.self.inside.locks.locks } in
    refused_grows c.in-Err.e (λ cause. DirectCutRefused a.file a.head a.from cause s c.args.volume.now) (direct_cut_refused_before_reading a.file a.head a.from s.locks ≡ None) c.args.volume.now c.refuse_cut_directly.new.volume c.in-Err.ensures.err 1 c.args.clock.0

pub returns-in-Err-clause-goes : goal.returns-in-Err-clause-goes
returns-in-Err-clause-goes g c =
    let a = c.args.cut.now in
    let s : UnitsState = record { units = c.self.inside.table; locks = c.self.inside.locks.locks } in
    refused_goes c.in-Err.e (λ cause. DirectCutRefused a.file a.head a.from cause s c.args.volume.now) (direct_cut_refused_before_reading a.file a.head a.from s.locks ≡ None) c.args.volume.now c.refuse_cut_directly.new.volume c.in-Err.ensures.err

pub returns-in-Err-clause-cause : goal.returns-in-Err-clause-cause
returns-in-Err-clause-cause g c =
    let a = c.args.cut.now in
    let s : UnitsState = record { units = c.self.inside.table; locks = c.self.inside.locks.locks } in
    refused_caused c.in-Err.e (λ cause. DirectCutRefused a.file a.head a.from cause s c.args.volume.now) (direct_cut_refused_before_reading a.file a.head a.from s.locks ≡ None) c.args.volume.now c.refuse_cut_directly.new.volume c.in-Err.ensures.err

pub returns-in-Err-clause-pool : goal.returns-in-Err-clause-pool
returns-in-Err-clause-pool g c =
    let a = c.args.cut.now in
    let s : UnitsState = record { units = c.self.inside.table; locks = c.self.inside.locks.locks } in
    refused_pool c.in-Err.e (λ cause. DirectCutRefused a.file a.head a.from cause s c.args.volume.now) (direct_cut_refused_before_reading a.file a.head a.from s.locks ≡ None) c.args.volume.now c.refuse_cut_directly.new.volume c.in-Err.ensures.err

pub returns-in-Err-clause-err : goal.returns-in-Err-clause-err
returns-in-Err-clause-err g c =
    let v = c.args.volume.now in
    let w = c.refuse_cut_directly.new.volume in
    let a = c.args.cut.now in
    let s : UnitsState = record { units = c.self.inside.table; locks = c.self.inside.locks.locks } in
    subst (λ (y : UnitsState). DirectsCutErr c.args.tid c.args.clock.0 a.file a.head a.from c.in-Err.e y v w) c.self.view_is
    (refused_so c.in-Err.e (λ cause. DirectCutRefused a.file a.head a.from cause s v × SameVolume v w) (λ cause. DirectCutRefused a.file a.head a.from cause s v × SameVolume v w) (λ down. (direct_cut_refused_before_reading a.file a.head a.from s.locks ≡ None) × FellIn down v w)
    (λ down. DirectCutBroke c.args.tid c.args.clock.0 a.file a.head a.from s v w) c.in-Err.ensures.err (λ cause p. p)
    (λ down q. record {
      early = q.0;
      breaks = inl (leaves_told (λ x. Some x ≡ content v.store) (AllTold a.head v.catalog.ru (content v.store)) w.store.disk (λ x old. told_none a.head v.catalog.ru (content v.store) x old) (fell_old down v v w c.one_content.ensures c.requires.order.idle.ready refl q.1));
    }))

pub commit_cut-requires-clause-images : goal.commit_cut-requires-clause-images
commit_cut-requires-clause-images g c =
    let v = c.args.volume.now in
    let x = c.refuse_cut_directly.new.volume in
    let a = c.args.cut.now in
    let s : UnitsState = record { units = c.self.inside.table; locks = c.self.inside.locks.locks } in
    let o : IsInOrder s v = subst (λ (y : UnitsState). IsInOrder y v) (sym c.self.view_is) c.requires.order in
    let fit = images_fit_too s v a.file a.head o c.requires.early c.requires.head a.from c.in-Ok.size c.in-Ok.ensures.most c.in-Ok.ensures.most_gone c.in-Ok.ensures.rooms in
    subst (λ (y : VolumeState). ImagesFit a.head (entry_sizes empty_map (keys_cut a.head a.from) + 48) (c.in-Ok.size + 48) y.store.disk) (sym c.in-Ok.ensures.same) fit

pub returns-clause-order : goal.returns-clause-order
returns-clause-order g c =
    let v = c.args.volume.now in
    let x = c.refuse_cut_directly.new.volume in
    let w = c.commit_cut.new.volume in
    let a = c.args.cut.now in
    let same : SameVolume v x = c.in-Ok.ensures.same in
    let s : UnitsState = record { units = c.self.inside.table; locks = c.self.inside.locks.locks } in
    let o : IsInOrder s v = subst (λ (y : UnitsState). IsInOrder y v) (sym c.self.view_is) c.requires.order in
    let gone = entry_sizes empty_map (keys_cut a.head a.from) in
    let moment = c.next_moment-moment.result.0 in
    let at : moment ≡ next_moment c.args.clock.0 v.catalog.home = c.next_moment-moment.ensures ∙ ap (next_moment c.args.clock.0) c.home.ensures ∙ ap (λ (y : VolumeState). next_moment c.args.clock.0 y.catalog.home) same in
    elim c.match-commit_cut.branch [
      | in-Err-commit_cut e ↦ subst (λ r. OnOk r (IsInOrder s w)) (sym e.result-is) tt
      | in-Ok-commit_cut k ↦
          let done = k.in-Ok-commit_cut.ensures in
          let m = done.makes in
          let sized : w.store.disk.size ≡ v.store.disk.size = c.commit_cut.ensures.counts.size ∙ ap (λ (y : VolumeState). y.store.disk.size) same in
          subst (λ r. OnOk r (IsInOrder s w)) (sym k.result-is)
          (order_cut_directly a.file a.head a.from m.0 gone c.in-Ok.size c.args.tid moment s v w o c.requires.head m.2
          (let few = c.in-Ok.ensures.most in let few_gone = c.in-Ok.ensures.most_gone in low_by (gone + 48) (c.in-Ok.size + 48) (2 ^ 24) a.file v.catalog.heads (omega (arith, few_gone)) (omega (arith, few)) c.requires.early.images) c.in-Ok.ensures.rooms
          (commits_cut_from v x same a.file a.head a.from m.0 c.args.tid moment s.units.places w m.1)
          (let later = next_later c.args.clock.0 v.catalog.home in omega (arith, at, later)) (let bound = next_bound c.args.clock.0 v.catalog.home c.requires.early.moment c.requires.clock in omega (arith, at, bound))
          done.idle done.holds sized (c.commit_cut.ensures.pool ∙ ap (λ (y : VolumeState). y.store.pool) same))
    ]

pub returns-clause-err : goal.returns-clause-err
returns-clause-err g c =
    let v = c.args.volume.now in
    let x = c.refuse_cut_directly.new.volume in
    let w = c.commit_cut.new.volume in
    let a = c.args.cut.now in
    let same : SameVolume v x = c.in-Ok.ensures.same in
    let s : UnitsState = record { units = c.self.inside.table; locks = c.self.inside.locks.locks } in
    let moment = c.next_moment-moment.result.0 in
    let at : moment ≡ next_moment c.args.clock.0 v.catalog.home = c.next_moment-moment.ensures ∙ ap (next_moment c.args.clock.0) c.home.ensures ∙ ap (λ (y : VolumeState). next_moment c.args.clock.0 y.catalog.home) same in
    let late : OfRecords a.head v (λ m. direct_cut_refused_after_reading a.file a.head a.from s m ≡ None) = λ b told form laid. direct_late_none a.file a.head a.from s (map_of a.head b) c.in-Ok.size (c.in-Ok.ensures.size b told form laid) c.in-Ok.ensures.rooms in
    elim c.match-commit_cut.branch [
      | in-Err-commit_cut e ↦ subst (λ r. IfErr r (λ y. DirectsCutErr c.args.tid c.args.clock.0 a.file a.head a.from y c.args.self.now v w)) (sym e.result-is)
          (subst (λ (y : UnitsState). DirectCutBroke c.args.tid c.args.clock.0 a.file a.head a.from y v w) c.self.view_is
          (record { early = c.in-Ok.ensures.early; breaks = breaks_direct_from v x same a.file a.head a.from c.args.tid c.args.clock.0 moment s w at late e.in-Err-commit_cut.ensures.breaks }))
      | in-Ok-commit_cut k ↦ subst (λ r. IfErr r (λ y. DirectsCutErr c.args.tid c.args.clock.0 a.file a.head a.from y c.args.self.now v w)) (sym k.result-is) tt
    ]

pub returns-clause-done : goal.returns-clause-done
returns-clause-done g c =
    let v = c.args.volume.now in
    let x = c.refuse_cut_directly.new.volume in
    let w = c.commit_cut.new.volume in
    let a = c.args.cut.now in
    let same : SameVolume v x = c.in-Ok.ensures.same in
    let s : UnitsState = record { units = c.self.inside.table; locks = c.self.inside.locks.locks } in
    let moment = c.next_moment-moment.result.0 in
    let at : moment ≡ next_moment c.args.clock.0 v.catalog.home = c.next_moment-moment.ensures ∙ ap (next_moment c.args.clock.0) c.home.ensures ∙ ap (λ (y : VolumeState). next_moment c.args.clock.0 y.catalog.home) same in
    let late : OfRecords a.head v (λ m. direct_cut_refused_after_reading a.file a.head a.from s m ≡ None) = λ b told form laid. direct_late_none a.file a.head a.from s (map_of a.head b) c.in-Ok.size (c.in-Ok.ensures.size b told form laid) c.in-Ok.ensures.rooms in
    elim c.match-commit_cut.branch [
      | in-Err-commit_cut e ↦ subst (λ r. OnOk r (DirectsCut c.args.tid c.args.clock.0 a.file a.head a.from c.args.self.now v w)) (sym e.result-is) tt
      | in-Ok-commit_cut k ↦ subst (λ r. OnOk r (DirectsCut c.args.tid c.args.clock.0 a.file a.head a.from c.args.self.now v w)) (sym k.result-is)
          (let m = k.in-Ok-commit_cut.ensures.makes in
          subst (λ (y : UnitsState). DirectsCut c.args.tid c.args.clock.0 a.file a.head a.from y v w) c.self.view_is
          (record {
            early = c.in-Ok.ensures.early;
            made = record {
              late = late;
              entries = m.0;
              makes = subst (λ (n : ℕ). CommitsCut a.file a.head a.from m.0 c.args.tid n s.units.places v w) at (commits_cut_from v x same a.file a.head a.from m.0 c.args.tid moment s.units.places w m.1);
            };
          }))
    ]

pub returns-clause-images : goal.returns-clause-images
returns-clause-images g c =
    let v = c.args.volume.now in
    let x = c.refuse_cut_directly.new.volume in
    let w = c.commit_cut.new.volume in
    let a = c.args.cut.now in
    let s : UnitsState = record { units = c.self.inside.table; locks = c.self.inside.locks.locks } in
    let moment = c.next_moment-moment.result.0 in
    let gone = entry_sizes empty_map (keys_cut a.head a.from) in
    elim c.match-commit_cut.branch [
      | in-Err-commit_cut e ↦ subst (λ r. OnOk r (ImagesGrow v w)) (sym e.result-is) tt
      | in-Ok-commit_cut k ↦
          let m = k.in-Ok-commit_cut.ensures.makes in
          subst (λ r. OnOk r (ImagesGrow v w)) (sym k.result-is)
          (ends_cut_directly a.file a.head a.from gone c.in-Ok.size m.0 c.args.tid moment s.units.places v w c.requires.head c.requires.order.heads c.in-Ok.ensures.most_gone c.in-Ok.ensures.most m.2
          (commits_cut_from v x c.in-Ok.ensures.same a.file a.head a.from m.0 c.args.tid moment s.units.places w m.1))
    ]
