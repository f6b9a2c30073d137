-- What is kept in order over a request that changes nothing.
use Rattle.std.proofs.Common.{[], ◌∷◌, Ok, refl, sym, subst}
use Rattle.careful_write.specs.Reads.{as_read_by}
use Rattle.emitter_model.specs.Emitting.{Shown, Emits}
use Rattle.emitter_model.specs.transcript_model.Lines.{Line}
use Rattle.recovery_units.specs.State.{IsInOrder}
use Rattle.node_standing.specs.node_table.Standing.{Stored}
use Rattle.file_requests.specs.Replying.{IsPlain}
use Rattle.file_requests.specs.Serving.{KeepsStored, SameStored, disk_of}
use Rattle.file_requests.proofs.Calls.{goes_nowhere, grows_still, images_still}
use Rattle.file_requests.proofs.Reading.{order_still}
use Rattle.file_requests.proofs.Replied.{replies_one, since_emits}

-- one line was shown
pub keeps_same : {T : Type 0} (x : T) (u new : Stored) (a b : Shown) (l : Line) → IsInOrder u.units u.volume → SameStored u new → IsPlain l → Emits a (l ∷ []) b → KeepsStored 0 0 (Ok x) u new a b
keeps_same x u new a b l o same plain m =
    let now : Stored = record u { volume = record u.volume { store = as_read_by new.volume.store u.volume.store } } in
    subst (λ v. KeepsStored 0 0 (Ok x) u v a b) (sym same) (record {
      order = order_still u now refl o;
      in_doubt = refl;
      grows = grows_still u.volume now.volume refl refl refl (goes_nowhere (disk_of u));
      images = images_still u.volume now.volume refl;
      cause = tt;
      since = since_emits a b _ m;
      replies = replies_one a b l m plain;
    })
