-- A boot that succeeded decides each transaction that was begun at its node before.
use Rattle.std.proofs.Common.{◌≡◌, ℕ, ◌⊎◌, List, [], ◌∷◌, ◌++◌, inl, inr, true, false, Option, Some, None, refl, sym, ◌∙◌, ap, subst}
use Rattle.std.specs.List.{list_any}
use Rattle.std.proofs.lemmas.Bool.{cases_Bool}
use Rattle.std.proofs.lemmas.List.{append_assoc}
use Rattle.vms_model.specs.Ids.{Id}
use Rattle.vms_model.specs.Transactions.{Commit, Abort}
use Rattle.run_said.specs.transcript_model.Lines as line
use Rattle.run_said.specs.transcript_model.Lines.{Line}
use Rattle.run_said.specs.script_model.Statements.{Statement, At, Boot, StartTrans}
use Rattle.run_said.specs.script_model.Grammar.{reading}
use Rattle.unit_laws.specs.records_model.History.{same_id}
use Rattle.commit_protocol.specs.World.{In}
use Rattle.run_said.specs.run_model.World.{World, Node, DiskCounts, Settlement, opened}
use Rattle.run_said.specs.run_model.Statements.{Step}
use Rattle.run_said.specs.run_model.Transcript.{Entry, Legal, AreOpening, Turn}
use Rattle.recovery_laws.proofs.world_laws.IdLemmas.{id_is, id_itself}
use Rattle.run_laws.specs.Laws.{RestartsHold}
use Rattle.run_laws.specs.Promises.{Boots, IsNeverCommitted, IsSettledSo, commitment, is_commitment_of, is_shown_committed, settlement_in, settlements_of}
use Rattle.run_laws.specs.SaidLaws.{SaidThere}
use Rattle.run_laws.proofs.AllShown.{shown_hold, shown_is}
use Rattle.run_laws.proofs.Beginning.{Begins, transaction_begins}
use Rattle.run_laws.proofs.Deciding.{IsPast, any_in, commit_or_none, committed_after, gone_on, in_any, in_split, join_legal, none_before, past_boot, past_settle, split_legal}
use Rattle.run_laws.proofs.FirstBranch.{IsFirst, first_on}
use Rattle.run_laws.proofs.ShownSettled.{in_append, shown_settled}
use Rattle.run_laws.proofs.SoundWorlds.{legal_sound, opening_sound}
use Rattle.run_laws.proofs.Staying.{stays}
use Rattle.run_laws.proofs.Undecided.{commits_so, never_of}

-- a line that shows a commitment of a branch
shows_commitment : (x : Id) (l : Line) (s : Settlement) → settlement_in l ≡ Some s → s.serial ≡ x → s.outcome ≡ Commit → is_commitment_of x l ≡ true
shows_commitment x (line.Committed t y moment) s e same c = ap (same_id x) (ap (λ (o : Option Settlement). elim o as (λ z. Id) [ Some z ↦ z.serial | None ↦ x ]) e ∙ same) ∙ id_itself x
shows_commitment x (line.LastCommitted t y moment) s e same c = ap (same_id x) (ap (λ (o : Option Settlement). elim o as (λ z. Id) [ Some z ↦ z.serial | None ↦ x ]) e ∙ same) ∙ id_itself x
shows_commitment x (line.Aborted t y reason moment) s e same c = let clash : Abort ≡ Commit = ap (λ (o : Option Settlement). elim o as (λ z. Rattle.vms_model.specs.Transactions.Outcome) [ Some z ↦ z.outcome | None ↦ Abort ]) e ∙ c in let no : ⊥ = cc in absurd no
shows_commitment x (line.LastAborted t y reason moment) s e same c = let clash : Abort ≡ Commit = ap (λ (o : Option Settlement). elim o as (λ z. Rattle.vms_model.specs.Transactions.Outcome) [ Some z ↦ z.outcome | None ↦ Abort ]) e ∙ c in let no : ⊥ = cc in absurd no
shows_commitment x _ s e same c = let no : ⊥ = cc in absurd no

append_none : (xs : List Entry) → xs ++ [] ≡ xs
append_none [] = refl
append_none (x ∷ xs) = ap (λ ys. x ∷ ys) (append_none xs)

module _ (nodes : List Node) (disks : List DiskCounts) (es : List Entry) (closing : World) (opening : AreOpening nodes) (legal : Legal (opened nodes disks) es closing) (x : Id) where
  -- Once it is known that a branch is never committed, no line shows that it is.
  module _ (never : IsNeverCommitted x closing) where
    not_settled : (s : Settlement) → In s (settlements_of x.node closing) → s.serial ≡ x → s.outcome ≡ Commit → ⊥
    not_settled s i e c = let clash : Abort ≡ Commit = sym (never s i e) ∙ c in let no : ⊥ = cc in no

    none_committed : (after before : List Entry) (e : Entry) (t y : Id) (moment : ℕ) → es ≡ after ++ e ∷ before → In (line.Committed t y moment) e.lines → y ≡ x → ⊥
    none_committed after before e t y moment split i same =
        let s = in_split (line.Committed t y moment) e.lines i in
        let r = shown_settled nodes disks es closing opening legal before (reading e.source.text) s.0 s.1 (line.Committed t y moment) (commitment t y moment) (record { after = after; entry = e; stands = split; read = refl; shown = s.2 }) refl in
        let home = (shown_hold nodes disks es closing opening legal r.0 (commitment t y moment) r.1).0 in
        not_settled (commitment t y moment) (subst (λ name. In (commitment t y moment) (settlements_of name closing)) (sym home ∙ ap (λ (z : Id). z.node) same) r.1) same refl

    -- lines before a world that is behind the begin of the transaction
    none_shown : (after0 before0 later : List Entry) (e0 : Entry) (w0 v0 u : World) → es ≡ later ++ (after0 ++ e0 ∷ before0) → e0.lines ≡ line.NormalId x ∷ [] → Legal (opened nodes disks) before0 w0 → Begins x w0 v0 → Legal v0 after0 u → Legal u later closing → is_shown_committed x (after0 ++ e0 ∷ before0) ≡ true → ⊥
    none_shown after0 before0 later e0 w0 v0 u split started legal0 begins path0 path e =
        let r = any_in (λ (f : Entry). list_any (is_commitment_of x) f.lines) (after0 ++ e0 ∷ before0) e in
        let q = any_in (is_commitment_of x) (r.0).lines r.2 in
        by r.0 q.0 r.1 q.1 q.2
      where
        last_after : (e : Entry) (t : Id) (moment : ℕ) → In e after0 → In (line.LastCommitted t x moment) e.lines → ⊥
        last_after e t moment i j =
            let s = in_split e after0 i in
            let all : Legal v0 ((later ++ s.0) ++ e ∷ s.1) closing = subst (λ es. Legal v0 es closing) (ap (λ ys. later ++ ys) s.2 ∙ sym (append_assoc later s.0 (e ∷ s.1))) (join_legal v0 u closing later after0 path0 path) in
            let y = committed_after x v0 closing (later ++ s.0) s.1 e t moment begins.own all j in
            not_settled y.0 y.1 y.2 y.3

        last_before : (e : Entry) (t : Id) (moment : ℕ) → In e before0 → In (line.LastCommitted t x moment) e.lines → ⊥
        last_before e t moment i j = let s = in_split e before0 i in none_before x nodes disks opening w0 v0 s.0 s.1 e t moment (subst (λ es. Legal (opened nodes disks) es w0) s.2 legal0) begins j

        by : (f : Entry) (l : Line) → In f (after0 ++ e0 ∷ before0) → In l f.lines → is_commitment_of x l ≡ true → ⊥
        by f (line.Committed t y moment) i j c =
            let s = in_split f (after0 ++ e0 ∷ before0) i in
            none_committed (later ++ s.0) s.1 f t y moment (split ∙ ap (λ ys. later ++ ys) s.2 ∙ sym (append_assoc later s.0 (f ∷ s.1))) j (sym (id_is x y c))
        by f (line.LastCommitted t y moment) i j c =
            let same : y ≡ x = sym (id_is x y c) in
            let k : In (line.LastCommitted t x moment) f.lines = subst (λ z. In (line.LastCommitted t z moment) f.lines) same j in
            elim (in_append f after0 (e0 ∷ before0) i) [
              | inl m ↦ last_after f t moment m k
              | inr m ↦ elim m [
                | inl here ↦ elim (subst (In (line.LastCommitted t x moment)) (ap (λ (z : Entry). z.lines) here ∙ started) k) [ inl is ↦ (let no : ⊥ = cc in no) | inr none ↦ none ]
                | inr m ↦ last_before f t moment m k
              ]
            ]
        by f _ i j c = let no : ⊥ = cc in no

  -- What a boot tells of the transaction.
  decides : (before0 after0 : List Entry) (e0 : Entry) (w0 v0 : World) → Legal (opened nodes disks) before0 w0 → Begins x w0 v0 → e0.lines ≡ line.NormalId x ∷ [] → (after : List Entry) (entry : Entry) (w v : World) → Legal v0 after0 w → Turn w (reading entry.source.text) entry.lines v →
      es ≡ after ++ entry ∷ (after0 ++ e0 ∷ before0) → Legal v after closing → IsPast x (after0 ++ e0 ∷ before0) entry.lines v →
      ((is_shown_committed x (entry ∷ (after0 ++ e0 ∷ before0)) ≡ true) × (moment : ℕ) × IsSettledSo x x Commit None moment closing) ⊎ ((is_shown_committed x (entry ∷ (after0 ++ e0 ∷ before0)) ≡ false) × IsNeverCommitted x closing)
  decides before0 after0 e0 w0 v0 legal0 begins started after entry w v path0 turn split path past = go (commit_or_none x past.ss)
    where
      to_closing : (s : Settlement) → In s (settlements_of x.node v) → In s (settlements_of x.node closing)
      to_closing s i = stay v closing after path x.node s i
        where
          stay : (v closing : World) (after : List Entry) → Legal v after closing → (node : List ℕ) (s : Settlement) → In s (settlements_of node v) → In s (settlements_of node closing)
          stay v closing after path node s i =
              let r = stays v closing after [] (subst (λ es. Legal v es closing) (sym (append_none after)) path) in
              r.2 node s (subst (λ (y : World). In s (settlements_of node y)) (sym r.1) i)

      settled_so : (s : Settlement) → In s past.ss → s.serial ≡ x → s.outcome ≡ Commit → IsSettledSo x x Commit None s.moment closing
      settled_so s i e c =
          let tid = past.own s i e c in
          let formed : s ≡ commitment s.tid s.serial s.moment = elim (past.formed s i) [
            | inl is ↦ is
            | inr r ↦ (let clash : Abort ≡ Commit = sym (ap (λ (y : Settlement). y.outcome) r.1) ∙ c in let no : ⊥ = cc in absurd no)
          ] in
          (s, to_closing s (past.stay s i), formed ∙ (λ j. commitment (tid j) (e j) s.moment))

      is_shown : (s : Settlement) → In s past.ss → s.serial ≡ x → s.outcome ≡ Commit → is_shown_committed x (entry ∷ (after0 ++ e0 ∷ before0)) ≡ true
      is_shown s i e c = elim (past.shown s i) [
        | inl old ↦ (let r = shown_is (after0 ++ e0 ∷ before0) s old in in_any (λ (f : Entry). list_any (is_commitment_of x) f.lines) r.0 (entry ∷ (after0 ++ e0 ∷ before0)) (inr r.2) (in_any (is_commitment_of x) r.1 (r.0).lines r.3 (shows_commitment x r.1 s r.4 e c)))
        | inr r ↦ in_any (λ (f : Entry). list_any (is_commitment_of x) f.lines) entry (entry ∷ (after0 ++ e0 ∷ before0)) (inl refl) (in_any (is_commitment_of x) r.0 entry.lines r.1 (shows_commitment x r.0 s r.2 e c))
      ]

      never : ((s : Settlement) → In s past.ss → s.serial ≡ x → s.outcome ≡ Commit → ⊥) → IsNeverCommitted x closing
      never none = never_of x closing (λ s i e c. none s (commits_so x (λ t. ⊥) (λ s. In s past.ss) (λ s e h. absurd h) closing (gone_on x past.ss v closing after path past.gone) s i e c) e c)

      go : ((s : Settlement) × In s past.ss × (s.serial ≡ x) × (s.outcome ≡ Commit)) ⊎ ((s : Settlement) → In s past.ss → s.serial ≡ x → s.outcome ≡ Commit → ⊥) →
          ((is_shown_committed x (entry ∷ (after0 ++ e0 ∷ before0)) ≡ true) × (moment : ℕ) × IsSettledSo x x Commit None moment closing) ⊎ ((is_shown_committed x (entry ∷ (after0 ++ e0 ∷ before0)) ≡ false) × IsNeverCommitted x closing)
      go (inl r) = inl (is_shown r.0 r.1 r.2 r.3, (r.0).moment, settled_so r.0 r.1 r.2 r.3)
      go (inr none) = inr (
        elim (cases_Bool (is_shown_committed x (entry ∷ (after0 ++ e0 ∷ before0)))) [
          | inl shown ↦ absurd (none_shown (never none) (entry ∷ after0) before0 after e0 w0 v0 v split started legal0 begins (w, path0, turn) path shown)
          | inr off ↦ off
        ],
        never none,
      )

pub restarts_hold : RestartsHold
restarts_hold nodes disks es closing opening legal before node s shown_lines answer there boots label tid begun = by
  where
    start : SaidThere before begun.0 (At node (StartTrans label begun.1)) [] (line.NormalId tid)
    start = begun.2

    split : es ≡ there.after ++ there.entry ∷ (begun.2.after ++ begun.2.entry ∷ begun.0)
    split = there.stands ∙ ap (λ xs. there.after ++ there.entry ∷ xs) begun.2.stands

    r : (v : World) × Legal (opened nodes disks) (there.entry ∷ before) v × Legal v there.after closing
    r = split_legal (opened nodes disks) closing there.after (there.entry ∷ before) (subst (λ es. Legal (opened nodes disks) es closing) there.stands legal)

    v : World
    v = r.0

    w : World
    w = (r.1).0

    q : (v0 : World) × Legal (opened nodes disks) (begun.2.entry ∷ begun.0) v0 × Legal v0 begun.2.after (r.1).0
    q = split_legal (opened nodes disks) (r.1).0 begun.2.after (begun.2.entry ∷ begun.0) (subst (λ es. Legal (opened nodes disks) es (r.1).0) begun.2.stands (r.1).1)

    w0 : World
    w0 = (q.1).0

    b : (tid.node ≡ node) × Begins tid (q.1).0 q.0
    b = transaction_begins (q.1).0 q.0 node label begun.1 tid (legal_sound (opened nodes disks) (q.1).0 begun.0 (opening_sound nodes disks opening) (q.1).1)
        (subst (λ lines. Step (q.1).0 (At node (StartTrans label begun.1)) lines q.0) begun.2.shown (subst (λ x. Turn (q.1).0 x begun.2.entry.lines q.0) begun.2.said (q.1).2))

    first_w : IsFirst tid (r.1).0
    first_w = first_on tid nodes disks opening (begun.2.entry ∷ begun.0) begun.2.after q.0 (r.1).0 q.1 q.2 b.1.is_first

    step : Step (r.1).0 s (shown_lines ++ answer ∷ []) r.0
    step = subst (λ lines. Step (r.1).0 s lines r.0) there.shown (subst (λ x. Turn (r.1).0 x there.entry.lines r.0) there.said (r.1).2)

    past_of : (s : Statement) (answer : Line) → Boots node s shown_lines answer → Step (r.1).0 s (shown_lines ++ answer ∷ []) r.0 → there.entry.lines ≡ shown_lines ++ answer ∷ [] → IsPast tid before there.entry.lines r.0
    past_of s answer (count, inl (is, counted)) step lines =
        let at : s ≡ At tid.node Boot = is ∙ ap (λ name. At name Boot) (sym b.0) in
        past_boot nodes disks opening before there.entry (r.1).0 r.0 tid (r.1).1 (r.1).2 first_w count shown_lines (subst (λ l. Step (r.1).0 (At tid.node Boot) (shown_lines ++ l ∷ []) r.0) counted (subst (λ t. Step (r.1).0 t (shown_lines ++ answer ∷ []) r.0) at step)) (lines ∙ ap (λ l. shown_lines ++ l ∷ []) counted)
    past_of s answer (count, inr (is, i)) step lines =
        past_settle nodes disks opening before there.entry (r.1).0 r.0 tid (r.1).1 (r.1).2 first_w count shown_lines answer (subst (λ t. Step (r.1).0 t (shown_lines ++ answer ∷ []) r.0) is step) lines (subst (λ name. In (line.Booted name count) shown_lines) (sym b.0) i)

    past : IsPast tid (begun.2.after ++ begun.2.entry ∷ begun.0) there.entry.lines r.0
    past = subst (λ xs. IsPast tid xs there.entry.lines r.0) begun.2.stands (past_of s answer boots step there.shown)

    by : ((is_shown_committed tid (there.entry ∷ before) ≡ true) × (moment : ℕ) × IsSettledSo tid tid Commit None moment closing) ⊎ ((is_shown_committed tid (there.entry ∷ before) ≡ false) × IsNeverCommitted tid closing)
    by = subst (λ xs. ((is_shown_committed tid (there.entry ∷ xs) ≡ true) × (moment : ℕ) × IsSettledSo tid tid Commit None moment closing) ⊎ ((is_shown_committed tid (there.entry ∷ xs) ≡ false) × IsNeverCommitted tid closing)) (sym begun.2.stands)
        (decides nodes disks es closing opening legal tid begun.0 begun.2.after begun.2.entry (q.1).0 q.0 (q.1).1 b.1 begun.2.shown there.after there.entry (r.1).0 r.0 q.2 (r.1).2 split r.2 past)
