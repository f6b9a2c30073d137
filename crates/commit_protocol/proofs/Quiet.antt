-- What changes no branch: other records, messages, clocks or drawn ids keep what must hold.
use Rattle.std.proofs.Common.{◌≡◌, true, List, ◌⊎◌}
use Rattle.vms_model.specs.Ids.{Id}
use Rattle.commit_protocol.specs.Messages.{Name, Message, LogRecord}
use Rattle.commit_protocol.specs.Table.{Key, key_of}
use Rattle.commit_protocol.specs.World.{In}
use Rattle.commit_protocol.specs.Agreement.{Status, View, IsRunning, IsReady, IsCommitted, IsAccepted, Commits, IsOld, Waits, Distinct, AreOld}
use Rattle.commit_protocol.proofs.Invariant.{Says, Inv, Later, Kept, later_says, later_old, later_noted}

-- the same branches with other records, messages, clocks and drawn ids
abbrev pub quiet : View → (Name → List LogRecord) → List Message → (Name → Status) → List Id → View
quiet v records sent status made = record v { records = records; sent = sent; status = status; made = made }

-- what has to be shown of these
pub record IsQuiet (v : View) : Type 0 where
  pub says : (m : Message) → In m v.sent → Says v m.kind m.to (key_of m)
  pub owed : (k : Key) → IsReady v k → Commits v k.tid → v.there k.tid.node ≡ true → Waits v k.tid.node k
  pub waits : (n : Name) (k : Key) → Waits v n k → Commits v k.tid × IsAccepted v k × (IsReady v k ⊎ IsCommitted v k)
  pub recorded : (n : Name) (r : LogRecord) → In r (v.records n) → Commits v r.tid
  pub old_sent : (m : Message) → In m v.sent → AreOld v (key_of m)
  pub old_made : (t : Id) → In t v.made → IsOld v t
  pub distinct : Distinct v.made
  pub current : (k : Key) → IsRunning v k → ((v.status k.serial.node).up ≡ true) × (k.serial.boot ≡ (v.status k.serial.node).boot)

pub quiet_keeps : (v : View) (records : Name → List LogRecord) (sent : List Message) (status : Name → Status) (made : List Id) → Inv v
    → Later v (quiet v records sent status made) → IsQuiet (quiet v records sent status made) → Kept v (quiet v records sent status made)
quiet_keeps v records sent status made i l q =
    let w : View = quiet v records sent status made in
    record {
      later = l;
      inv = record {
        says = q.says;
        whole = i.whole;
        owed = q.owed;
        waits = q.waits;
        recorded = q.recorded;
        upward = i.upward;
        accepted = i.accepted;
        unsettled = i.unsettled;
        unread = i.unread;
        undecided = i.undecided;
        apart = i.apart;
        once = i.once;
        keyed = i.keyed;
        noted = λ k b e p. later_noted v w l b (λ s f h. h) (i.noted k b e p);
        old_at = λ k h. later_old v w l k (i.old_at k h);
        old_accepted = λ k h. later_old v w l k (i.old_accepted k h);
        old_read = λ k h. later_old v w l k (i.old_read k h);
        old_settled = λ k h. later_old v w l k (i.old_settled k h);
        old_shown = λ t h. l.old t (i.old_shown t h);
        old_sent = q.old_sent;
        old_made = q.old_made;
        distinct = q.distinct;
        current = q.current;
        lost = λ n k h. let x = i.lost n k h in record { gone = x.gone; unsettled = x.unsettled; unread = x.unread; old = later_old v w l k x.old };
        shown_first = i.shown_first;
        shown_lost = i.shown_lost;
      };
    }

abbrev pub with_records : View → (Name → List LogRecord) → View
with_records v recs = record v { records = recs }

-- so do other records that owe and name what is committed
pub records_keep : (v : View) (recs : Name → List LogRecord) → Inv v → Later v (with_records v recs)
    → ((k : Key) → IsReady v k → Commits v k.tid → v.there k.tid.node ≡ true → Waits (with_records v recs) k.tid.node k)
    → ((n : Name) (k : Key) → Waits (with_records v recs) n k → Commits v k.tid × IsAccepted v k × (IsReady v k ⊎ IsCommitted v k))
    → ((n : Name) (r : LogRecord) → In r (recs n) → Commits v r.tid) → Kept v (with_records v recs)
records_keep v recs i l owed waits recorded =
    let w : View = with_records v recs in
    quiet_keeps v recs v.sent v.status v.made i l (record {
      says = λ m h. later_says v w l m.kind m.to (key_of m) (i.says m h);
      owed = owed;
      waits = waits;
      recorded = recorded;
      old_sent = λ m h. later_old v w l (key_of m) (i.old_sent m h);
      old_made = λ t h. l.old t (i.old_made t h);
      distinct = i.distinct;
      current = i.current;
    })
