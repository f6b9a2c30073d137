-- Runs from images that agree, as their lines tell them.
use Rattle.std.proofs.Common.{◌≡◌, ◌⊎◌, ℕ, List, [], ◌∷◌, ◌++◌, inl, inr, Bool, true, false, Option, Some, None, refl, sym, ◌∙◌, ap, subst}
use Rattle.std.specs.List.{last_or}
use Rattle.vms_model.specs.Ids.{Id}
use Rattle.vms_model.specs.Transactions.{Abort, Commit, Reason}
use Rattle.run_said.specs.transcript_model.Lines.{Line, Normal}
use Rattle.run_said.specs.script_model.Statements.{At, Bad, Blank, Deliver, Init, LinkDown, Reading, Says, Settle, Statement}
use Rattle.run_said.specs.script_model.Grammar.{reading}
use Rattle.commit_protocol.specs.Messages.{Name}
use Rattle.commit_protocol.specs.Opening.{IsAgreeing, Opening, accepted_in, commits_in, settled_in}
use Rattle.commit_protocol.specs.Table.{Key, child, first}
use Rattle.commit_protocol.specs.World.{In}
use Rattle.run_said.specs.run_model.World.{World, Node, DiskCounts, Act, Settlement, find_node, opened}
use Rattle.run_said.specs.run_model.Steps.{Choice, task_effect}
use Rattle.run_said.specs.run_model.Statements.{Begins, Part, PartEffect, Phases, Step, begun_with, part_effect, phases_of, refused_at_once, stops_at}
use Rattle.run_said.specs.run_model.Transcript.{Entry, Legal, AreOpening, Turn}
use Rattle.run_agreement.specs.Seen.{Resolution, landed, outcome_of}
use Rattle.run_agreement.specs.Following.{opening_of}
use Rattle.run_agreement.specs.Laws.{AreKnownOrReplaced, CommittedAreOfCommitted, HasOutcome, IsAtRest, IsCommitted, IsRun, IsSettled, LeaveAgreement, MakesNoVolume, NamesApart, Replaces, RestingAreWhole, SettleAlike, SettlingEnds, SettlingLeavesNone, image_here, opening_told}
use Rattle.run_said.proofs.run_model.NodeLists.{found_name}
use Rattle.run_said.proofs.run_model.PartLemmas.{phases_fold}
use Rattle.run_said.proofs.run_model.PartTasks.{View, Doing, Fixed, view}
use Rattle.run_said.proofs.run_model.TaskLemmas.{effect_name}
use Rattle.run_agreement.proofs.Bases.{used_part}
use Rattle.run_agreement.proofs.Begun.{AnyPart, any_phases, apart_put}
use Rattle.run_agreement.proofs.Told.{base_sure, quiet_images, runs_begin, runs_tell_no_more, unused_are_told, used_sure}
use Rattle.run_laws.specs.Agreed.{AcceptedAreWhole, AgreedRun, EndedHoldAll, EndsHoldAll, SettlesWhole}
use Rattle.run_laws.specs.Promises.{EndedSo, EndsCommit, EndsSo, IsSettledSo, settlements_of}
use Rattle.run_laws.proofs.AbortsStand.{legal_parts}
use Rattle.run_laws.proofs.Staying.{after_grows}

-- such a run
pub record RunOf (start : World) (es : List Entry) (closing : World) : Type 0 where
  pub base : World
  pub before : List Entry
  pub since : List Entry
  pub parts : es ≡ since ++ before
  pub begins : Legal start before base
  pub unused : base.shared.in_use ≡ false
  pub told : opening_of base ≡ opening_told start.nodes es
  pub is_run : IsRun base since closing

module _ (nodes : List Node) (disks : List DiskCounts) (es : List Entry) (closing : World) (opening : AreOpening nodes) (apart : NamesApart nodes) (sure : AreKnownOrReplaced es nodes) (legal : Legal (opened nodes disks) es closing) (agrees : IsAgreeing (opening_told nodes es)) where
  pub run_of : RunOf (opened nodes disks) es closing
  run_of =
      let b = runs_begin nodes disks es closing opening apart sure legal in
      let before : AreKnownOrReplaced b.1 nodes = base_sure nodes b.0 closing b.1 b.2 b.6 (subst (λ xs. AreKnownOrReplaced xs nodes) b.3 sure) in
      let same : opening_of b.0 ≡ opening_told nodes es = (unused_are_told nodes disks b.1 b.0 opening apart before b.4 b.7).1 ∙ sym (runs_tell_no_more nodes b.0 closing b.1 b.2 b.6) ∙ ap (opening_told nodes) (sym b.3) in
      record { base = b.0; before = b.1; since = b.2; parts = b.3; begins = b.4; unused = b.7; told = same; is_run = record { base_is = b.5; agrees = subst IsAgreeing (sym same) agrees; runs = b.6 } }

pub agreed_run : SettleAlike → CommittedAreOfCommitted → LeaveAgreement → RestingAreWhole → (base : World) (since : List Entry) (closing : World) → IsRun base since closing → AgreedRun base since closing
agreed_run alike committed leave whole base since closing is_run = record {
  is_run = is_run;
  alike = λ r k of aborted. alike base closing since is_run r k of aborted;
  committed = λ r k done. committed base closing since is_run r k done;
  leaves = λ r. leave base closing since is_run r;
  whole = λ rests. whole base closing since is_run rests;
}

-- what a node settled it has settled however its act under way turns out
landed_settled : (taken : Bool) (n : Node) (s : Settlement) → In s n.settled → In s (landed taken n).settled
landed_settled false n s i = i
landed_settled true n s i = go n.under_way
  where
    go : (o : Option Act) → In s (elim o as (λ x. Node) [ Some act ↦ Rattle.run_said.specs.run_model.World.acted act n | None ↦ n ]).settled
    go (Some act) = after_grows (Some act) n s i
    go None = i

-- a transaction whose first branch its node committed is committed however acts turn out
committed_for_all : (base : World) (r : Resolution) (closing : World) (tid : Id) (moment : ℕ) → IsSettledSo tid tid Commit None moment closing → IsCommitted base r closing tid
committed_for_all base r closing tid moment settled = inl (inr (at settled.0 settled.1 settled.2 (find_node tid.node closing.nodes) refl))
  where
    at : (s : Settlement) → In s (settlements_of tid.node closing) → s ≡ record { tid = tid; serial = tid; outcome = Commit; reason = None; moment = moment } → (o : Option Node) → find_node tid.node closing.nodes ≡ o → IsSettled r closing (first tid) Commit
    at s i same (Some n) found =
        let j : In s n.settled = subst (λ o. In s (elim o as (λ x. List Settlement) [ Some m ↦ m.settled | None ↦ [] ])) found i in
        (tid.node, n, found, (s, landed_settled (r tid.node) n s j, ap outcome_of same))
    at s i same None found = absurd (subst (λ o. In s (elim o as (λ x. List Settlement) [ Some m ↦ m.settled | None ↦ [] ])) found i)

pub ends_for_all : (base : World) (es : List Entry) (closing : World) → EndsCommit es closing → EndsHoldAll base es closing
ends_for_all base es closing ends before node label events there =
    let x = ends before node label events there in
    (x.0, x.2, λ r. committed_for_all base r closing x.0 x.1 x.5)

pub ended_for_all : (base : World) (es : List Entry) (closing : World) → EndedSo es closing → EndedHoldAll base es closing
ended_for_all base es closing ended before said front behind tid there =
    let x = ended before said front behind tid None there in
    let shown : EndsSo tid None front closing = x.1 in
    (x.0, λ r. committed_for_all base r closing tid shown.0 shown.2)

-- a branch that its node aborted is so however acts turn out
pub aborted_for_all : (r : Resolution) (closing : World) (tid serial : Id) (reason : Reason) (moment : ℕ) → IsSettledSo tid serial Abort (Some reason) moment closing → (base : World) → HasOutcome base r closing (child tid serial) Abort
aborted_for_all r closing tid serial reason moment settled base = inr (at settled.0 settled.1 settled.2 (find_node serial.node closing.nodes) refl)
  where
    at : (s : Settlement) → In s (settlements_of serial.node closing) → s ≡ record { tid = tid; serial = serial; outcome = Abort; reason = Some reason; moment = moment } → (o : Option Node) → find_node serial.node closing.nodes ≡ o → IsSettled r closing (child tid serial) Abort
    at s i same (Some n) found =
        let j : In s n.settled = subst (λ o. In s (elim o as (λ x. List Settlement) [ Some m ↦ m.settled | None ↦ [] ])) found i in
        (serial.node, n, found, (s, landed_settled (r serial.node) n s j, ap outcome_of same))
    at s i same None found = absurd (subst (λ o. In s (elim o as (λ x. List Settlement) [ Some m ↦ m.settled | None ↦ [] ])) found i)

-- Names of nodes stay.

part_apart : (w : World) (p : Part) (c : Choice) → NamesApart w.nodes → NamesApart (part_effect w p c).world.nodes
part_apart w p c apart = go (view w p)
  where
    go : View w p → NamesApart (part_effect w p c).world.nodes
    go (Fixed answer ends kind is) = subst (λ (f : PartEffect). NamesApart f.world.nodes) (sym (is c)) apart
    go (Doing other t n named found does may) =
        let e = task_effect w.shared (stops_at other w) n t c in
        subst (λ (f : PartEffect). NamesApart f.world.nodes) (sym (does c)) (apart_put other e.node w.nodes (effect_name w.shared (stops_at other w) n t c ∙ found_name other w.nodes n found) apart)

step_apart : (w v : World) (s : Statement) (lines : List Line) → Step w s lines v → NamesApart w.nodes → NamesApart v.nodes
step_apart w v s lines step apart = subst (λ (x : World). NamesApart x.nodes) (sym step.goes) (by (refused_at_once w s) step.does)
  where
    begun : (s : Statement) → NamesApart (begun_with s w).nodes
    begun Settle = apart
    begun (At node request) = apart
    begun (Deliver number) = apart
    begun (LinkDown a b) = apart

    by : (o : Option Line) → Begins o (Phases (phases_of s) v.disks (begun_with s w) Normal) w step.events step.answer step.world → NamesApart step.world.nodes
    by (Some refusal) d = subst (λ (x : World). NamesApart x.nodes) (sym d.2) apart
    by None d = phases_fold v.disks AnyPart (λ given. Unit {0}) (λ u rest answer x. NamesApart u.nodes → NamesApart x.nodes) (λ u given q k. k)
        (λ u p c ok allowed ends k. part_apart u p c k)
        (λ u p c ok allowed on. (tt, λ rest answer x more k. more (part_apart u p c k)))
        (phases_of s) (any_phases (phases_of s)) (begun_with s w) Normal step.events step.answer step.world tt d (begun s)

pub legal_names : (start w : World) (es : List Entry) → NamesApart start.nodes → Legal start es w → NamesApart w.nodes
legal_names start w [] apart legal = subst (λ (x : World). NamesApart x.nodes) (sym legal) apart
legal_names start w (e ∷ es) apart legal = go (reading e.source.text) legal.2 (legal_names start legal.0 es apart legal.1)
  where
    go : (r : Reading) → Turn legal.0 r e.lines w → NamesApart legal.0.nodes → NamesApart w.nodes
    go Blank turn k = subst (λ (x : World). NamesApart x.nodes) (sym turn.1) k
    go (Says s) step k = step_apart legal.0 w s e.lines step k
    go (Bad column) turn k = absurd turn

-- A SETTLE, from which on a node may be in use.

settle_uses : (w v : World) (lines : List Line) → Step w Settle lines v → v.shared.in_use ≡ true
settle_uses w v lines step = ap (λ (x : World). x.shared.in_use) step.goes ∙ phases_fold v.disks AnyPart (λ given. Unit {0}) (λ u rest answer x. u.shared.in_use ≡ true → x.shared.in_use ≡ true) (λ u given q k. k)
    (λ u p c ok allowed ends k. used_part u p c k)
    (λ u p c ok allowed on. (tt, λ rest answer x more k. more (used_part u p c k)))
    (phases_of Settle) (any_phases (phases_of Settle)) (begun_with Settle w) Normal step.events step.answer step.world tt step.does refl

-- of a base only its images count
abbrev WholeFrom : Opening → World → Type 0
WholeFrom o v = (r : Resolution) (k : Key) → ((k ≡ first k.tid) ⊎ (In k v.shared.accepted ⊎ In k (accepted_in o))) → (k ≡ first k.tid → ⊥) →
    ((In (first k.tid, Commit) (settled_in o) ⊎ IsSettled r v (first k.tid) Commit) ⊎ In k.tid (commits_in o)) → (In (k, Commit) (settled_in o) ⊎ IsSettled r v k Commit) ⊎ In k v.shared.read_only

whole_alike : (base other v : World) → opening_of base ≡ opening_of other → AcceptedAreWhole base v → AcceptedAreWhole other v
whole_alike base other v same whole = subst (λ (o : Opening). WholeFrom o v) same whole

-- a SETTLE makes no volume, and replaces nothing
settle_replaces_none : (name : Name) (e : Entry) → reading e.source.text ≡ Says Settle → Replaces name e → ⊥
settle_replaces_none name e said r = let clash : ◌≡◌ {A = Reading} (Says Settle) (Says (At name (Init r.slots r.journal))) = sym said ∙ r.says in let no : ⊥ = cc in no

settle_run : (base w v : World) (e : Entry) (es : List Entry) → reading e.source.text ≡ Says Settle → Turn w (reading e.source.text) e.lines v → IsRun base es w → IsRun base (e ∷ es) v
settle_run base w v e es said turn run = record { base_is = run.base_is; agrees = run.agrees; runs = (w, run.runs, subst (MakesNoVolume w) (sym said) none, turn) }
  where
    none : MakesNoVolume w (Says Settle)
    none node slots journal e = absurd (let f : ⊥ = cc in f)

pub settles_whole : RestingAreWhole → SettlingLeavesNone → SettlingEnds → (nodes : List Node) (disks : List DiskCounts) (es : List Entry) (closing : World) → AreOpening nodes → NamesApart nodes → AreKnownOrReplaced es nodes →
    Legal (opened nodes disks) es closing → IsAgreeing (opening_told nodes es) → (base : World) → opening_of base ≡ opening_told nodes es → SettlesWhole base (opened nodes disks) es closing
settles_whole rests none ends nodes disks es closing opening apart sure legal agrees base base_told before events answer there =
    let start = opened nodes disks in
    let whole : Legal start (there.after ++ (there.entry ∷ before)) closing = subst (λ xs. Legal start xs closing) there.stands legal in
    let parts = legal_parts start there.after (there.entry ∷ before) closing whole in
    let v = parts.0 in
    let w = parts.1.0 in
    let step : Step w Settle (events ++ answer ∷ []) v = subst (λ ls. Step w Settle ls v) there.shown (subst (λ r. Turn w r there.entry.lines v) there.said parts.1.2) in
    let used = settle_uses w v (events ++ answer ∷ []) step in
    let quiet : opening_told nodes (there.entry ∷ before) ≡ opening_told nodes before = λ i. record { images = quiet_images there.entry before nodes (λ n image. ap (λ r. image_here n r (last_or None there.entry.lines) image) there.said) i } in
    let told : opening_told nodes es ≡ opening_told nodes before = ap (opening_told nodes) there.stands ∙ (parts.3 used).1 nodes ∙ quiet in
    let with_entry : AreKnownOrReplaced (there.entry ∷ before) nodes = used_sure nodes v closing (there.entry ∷ before) there.after parts.2 used (subst (λ xs. AreKnownOrReplaced xs nodes) there.stands sure) in
    let early : AreKnownOrReplaced before nodes = λ name n found. elim (with_entry name n found) [
      | inl known ↦ inl known
      | inr replaced ↦ elim replaced [ inl here ↦ absurd (settle_replaces_none name there.entry there.said here) | inr was ↦ inr was ]
    ] in
    let b = run_of nodes disks before w opening apart early parts.1.1 (subst IsAgreeing told agrees) in
    let same : opening_of b.base ≡ opening_of base = b.told ∙ sym told ∙ sym base_told in
    let here : IsRun b.base (there.entry ∷ b.since) v = settle_run b.base w v there.entry b.since there.said parts.1.2 b.is_run in
    let left : answer ≡ Normal → IsAtRest v = λ normal. none b.base w v b.since events b.is_run (subst (λ a. Step w Settle (events ++ a ∷ []) v) normal step) in (
      w,
      v,
      parts.1.1,
      step,
      parts.2,
      λ normal. (left normal, whole_alike b.base base v same (rests b.base v (there.entry ∷ b.since) here (left normal))),
      ends b.base w v b.since events answer b.is_run (legal_names start w before apart parts.1.1) step,
    )
