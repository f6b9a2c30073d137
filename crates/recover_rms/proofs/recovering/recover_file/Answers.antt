use Rattle.std.proofs.Common.{◌≡◌, List, None, map, sym, subst, ◌∙◌}
use Rattle.load_pages.specs.Given.{keyed}
use Rattle.load_pages.specs.declared.records.KeyedRecord.{KeyedRecord}
use Rattle.volume.specs.State.{VolumeState}
use Rattle.volume_files.proofs.Places.{fits_at}
use Rattle.file_recoveries.specs.Causes.{cause_of}
use Rattle.recover_rms.specs.Calls.{AreMade, KeepsRings}
use Rattle.recover_rms.specs.Replacing.{NotReplaced, Replaced}
use Rattle.recover_rms.proofs.CallLemmas.{if_err, if_ok, not_made_so, not_recovered_so, recovered_so}
use Rattle.recover_rms.proofs.CauseLemmas.{refused_so}
use Rattle.recover_rms.proofs.ReadableLemmas.{readable}
use Rattle.recover_rms.proofs.recovering.recover_file.Goals as goal

pub returns-in-Some-clause-err : goal.returns-in-Some-clause-err
returns-in-Some-clause-err g c = refused_so c.args.file c.args.way c.args.user c.args.head.now c.args.volume.now c.in-Some.cause (sym c.cause_of.ensures ∙ c.in-Some.is)

pub make_records-requires-clause-readable : goal.make_records-requires-clause-readable
make_records-requires-clause-readable g c = readable c.requires.sound.0 c.args.volume.now.catalog c.args.file c.args.head.now c.args.volume.now.store.disk c.requires.whole c.requires.sound.1 c.requires.most c.requires.there (c.requires.rings c.args.head.now c.requires.there)

pub make_records-requires-clause-greatest : goal.make_records-requires-clause-greatest
make_records-requires-clause-greatest g c = (fits_at c.requires.sound.0 c.args.volume.now.store.disk.size c.args.volume.now.catalog c.args.file c.args.head.now c.requires.whole c.requires.sound.1 c.requires.there).bucket.most_record

pub returns-in-Err-clause-err : goal.returns-in-Err-clause-err
returns-in-Err-clause-err g c = not_made_so c.args.file c.args.way c.args.user c.args.head.now c.args.volume.now c.make_records.new.volume (sym c.cause_of.ensures ∙ c.in-None.is) c.in-Err.e c.one_content.ensures c.requires.idle c.in-Err.ensures.err

pub returns-clause-done : goal.returns-clause-done
returns-clause-done g c =
    let v = c.args.volume.now in
    let h = c.args.head.now in
    let es = map keyed c.deref.result.now in
    let allowed : cause_of h c.args.way c.args.user ≡ None = sym c.cause_of.ensures ∙ c.in-None.is in
    let made = subst (λ (rs : List KeyedRecord). AreMade c.args.file c.args.way v h (map keyed rs)) (sym c.deref.ensures.value) c.in-Ok.ensures.made in
    if_ok c.replace_records.result (λ count r.
    recovered_so c.args.file c.args.way c.args.user h v c.replace_records.new.volume allowed es made c.make_records.new.volume.store count
    (subst (λ (m : VolumeState). Replaced c.args.file h es count m c.replace_records.new.volume) c.in-Ok.ensures.same r)) c.replace_records.ensures.done

pub returns-clause-err : goal.returns-clause-err
returns-clause-err g c =
    let v = c.args.volume.now in
    let h = c.args.head.now in
    let es = map keyed c.deref.result.now in
    let allowed : cause_of h c.args.way c.args.user ≡ None = sym c.cause_of.ensures ∙ c.in-None.is in
    let made = subst (λ (rs : List KeyedRecord). AreMade c.args.file c.args.way v h (map keyed rs)) (sym c.deref.ensures.value) c.in-Ok.ensures.made in
    if_err c.replace_records.result (λ e r.
    not_recovered_so c.args.file c.args.way c.args.user h v c.replace_records.new.volume allowed es made c.make_records.new.volume.store e
    (subst (λ (m : VolumeState). NotReplaced c.args.file h es e m c.replace_records.new.volume) c.in-Ok.ensures.same r)) c.replace_records.ensures.err

pub replace_records-requires-clause-rings : goal.replace_records-requires-clause-rings
replace_records-requires-clause-rings g c = subst (λ (m : VolumeState). KeepsRings m.catalog.heads c.args.file) (sym c.in-Ok.ensures.same) c.requires.rings
