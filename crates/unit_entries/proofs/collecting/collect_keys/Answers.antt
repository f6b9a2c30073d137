use Rattle.std.proofs.Common.{◌≡◌, ◌≤◌, ℕ, List, [], Option, Ok, IfSome, length, get_or, subst, ap, ◌∙◌, arith}
use Rattle.careful_write.specs.State.{StoreState}
use Rattle.file_base.specs.declared.head.Span.{Span}
use Rattle.journal_format.specs.Heads.{entry_of}
use Rattle.journal_format.specs.declared.head.EntryHead.{EntryHead}
use Rattle.journal_store.specs.Leaving.{OnlyReads}
use Rattle.journal_store.specs.Reading.{ReadsAt}
use Rattle.volume.specs.declared.catalog.Catalog.{Catalog}
use Rattle.unit_entries.specs.Keys.{key_told, keys_with}
use Rattle.unit_entries.proofs.CollectLemmas.{any_default, collected, none_collected}
use Rattle.unit_entries.proofs.StoreLemmas.{stays_read, of_both}
use Rattle.unit_entries.proofs.collecting.collect_keys.Goals as goal
use Rattle.unit_entries.proofs.collecting.collect_keys.Goals.{in-Some, in_default}

pub loop-i-preserved : goal.loop-i-preserved
loop-i-preserved g c =
    let ps = c.args.positions.now in
    let i = c.loop-i.i in
    let p = get_or ps i 0 in
    let at = any_default ps i 0 p c.loop-i-test.true in
    let image = c.entry_at.new.image in
    let ru = c.args.volume.now.catalog.ru in
    let heads = c.args.volume.now.catalog.heads in
    let catalog = c.loop-i.invariant.catalog in
    let before = c.loop-i.invariant.keys in
    let few = c.loop-i.invariant.few in
    let current = ap (λ (s : StoreState). s.current) c.store.ensures.value ∙ c.loop-i.invariant.stays.current in
    let read : IfSome c.args.volume.now.store.current (ReadsAt ru p c.in-Ok.entry image) =
    subst (λ (s : Span). IfSome c.args.volume.now.store.current (ReadsAt s p c.in-Ok.entry image)) c.ru.ensures
    (subst (λ (o : Option (List (List ℕ))). IfSome o (ReadsAt c.ru.result.now p c.in-Ok.entry image)) current c.in-Ok.ensures.entry) in
    let stays = stays_read c.args.volume.now.store c.loop-i.volume.store c.entry_at.new.store c.loop-i.invariant.stays c.in-Ok.entry
    (subst (λ (s : StoreState). OnlyReads (Ok c.in-Ok.entry) s c.entry_at.new.store) c.store.ensures.value c.in-Ok.ensures.ok) in
    elim c.match-entry.branch [
      | in-Some w ↦
          let h = w.in-Some.e in
          let next = w.in-Some.field-0-1 in
          let more = w.note_entry.ensures.few in
          let longer = ap length w.keys-is in
          let noted = subst (λ (v : Catalog). (entry_of h []).kind ≡ 1 → 1 ≤ length (entry_of h []).key → w.note_entry.new.keys ≡ keys_with p (entry_of h []) (key_told v.heads (entry_of h [])) c.loop-i.keys) catalog w.note_entry.ensures.keys in
          record {
            catalog = catalog;
            stays = stays;
            few = omega (arith, few, more, longer);
            keys = of_both c.args.volume.now.store.current (λ x kept stands es all.
                w.keys-is ∙ collected ru x heads ps es i p h next image c.loop-i.keys w.note_entry.new.keys all c.loop-i-test.true at stands noted (kept es all)) before
                (subst (λ (r : Option (EntryHead × ℕ)). IfSome c.args.volume.now.store.current (ReadsAt ru p r image)) w.in-Some.is read);
          }
      | in_default w ↦
          let same = ap length w.keys-is in
          record {
            catalog = catalog;
            stays = stays;
            few = omega (arith, few, same);
            keys = of_both c.args.volume.now.store.current (λ x kept none es all. absurd (none_collected ru x ps es i p all c.loop-i-test.true at none)) before
                (subst (λ (r : Option (EntryHead × ℕ)). IfSome c.args.volume.now.store.current (ReadsAt ru p r image)) w.in_default.is read);
          }
    ]
