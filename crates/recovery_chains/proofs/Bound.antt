-- A branch that a run leaves bound to commit, and what each world of the protocol that shows the run's end has of it.
use Rattle.std.proofs.Common.{◌≡◌, ◌⊎◌, List, inl, inr, Bool, true, false, Option, Some, None, if◌then◌else◌, is_some, refl, sym, ◌∙◌, ap, subst}
use Rattle.std.proofs.lemmas.Bool.{both_ways, cases_Bool}
use Rattle.vms_model.specs.Ids.{Id}
use Rattle.vms_model.specs.Transactions.{Outcome, Abort, Commit}
use Rattle.commit_protocol.specs.Messages.{LogRecord, Name}
use Rattle.commit_protocol.specs.Agreement.{Commits, IsReady, Ready, phase, phase_of, view}
use Rattle.commit_protocol.specs.Opening.{Image, IsAgreeing, Opening, Shows as ShowsCommit, image_at, image_in, image_left, in_rack, no_image, opened as raised, or_none}
use Rattle.commit_protocol.specs.Table.{Key, child, find, record_key}
use Rattle.commit_protocol.specs.World as protocol
use Rattle.commit_protocol.specs.World.{In, run}
use Rattle.commit_protocol.proofs.Acting.{Goes}
use Rattle.commit_protocol.proofs.Gathered.{is_shown}
use Rattle.commit_protocol.proofs.Opened.{good_opened}
use Rattle.commit_protocol.proofs.Running.{goes_run, never_both}
use Rattle.commit_protocol.proofs.Settling.{not_gone_ready}
use Rattle.log_laws.specs.Slots.{prepared_of, records_in}
use Rattle.world_laws.specs.run_model.World.{Node, Settlement, World, find_node, prepared_left, prepared_serials}
use Rattle.world_laws.specs.run_model.Transcript.{Entry}
use Rattle.run_laws.specs.run_agreement.Following.{Shows, opening_of}
use Rattle.run_laws.specs.run_agreement.Laws.{IsReachedBy, IsRun, image_after, next_opening}
use Rattle.run_laws.specs.run_agreement.Seen.{Face, IsFace, Resolution, has_volume, image_of, landed, outcome_of}
use Rattle.run_laws.proofs.run_agreement.Booting.{quiet_lands}
use Rattle.run_laws.proofs.run_agreement.Images.{SameImage, after_in, face_image}
use Rattle.run_laws.proofs.run_agreement.Openings.{reached_by, told_settled}
use Rattle.run_laws.proofs.run_agreement.Resting.{found_of}
use Rattle.world_laws.proofs.LogLemmas.{prepared_branch}
use Rattle.run_laws.proofs.OneBranch.{IsDisk, in_order}
use Rattle.run_laws.proofs.ToldImages.{in_base}

-- A world of the protocol that shows the end of a run.
module _ (o : Opening) (agrees : IsAgreeing o) (p : protocol.World) (goes : Goes (raised o) p) (r : Resolution) (closing : World) (shows : Shows o r closing p) where
  module _ (n : Name) (x : Node) (found : find_node n closing.nodes ≡ Some x) (has : has_volume x ≡ true) where
    seen : (f : Face) × (shows.faces n ≡ Some f) × IsFace (r n) x f
    seen = shows.are.there n x found has

    same : SameImage (image_left (p.nodes n)) (image_of (landed (r n) x))
    same = subst (λ (y : protocol.Node). SameImage (image_left y) (image_of (landed (r n) x))) (sym (shows.follows.nodes n seen.0 seen.1)) (face_image (r n) x seen.0 seen.2)

    prepared_ready : (q : LogRecord) → In q (prepared_left (landed (r n) x).durable) → q.serial.node ≡ n → IsReady (view p) (record_key q)
    prepared_ready q i home =
        let b = prepared_branch (p.nodes n).table q (same.prepared q i) in
        let there = found_of (p.nodes n).table b.branch (goes.good.unique n) b.there in
        subst (λ m. phase (find (record_key q) (p.nodes m).table) ≡ Ready) (sym home) (subst (λ (c : LogRecord). phase (find (record_key c) (p.nodes n).table) ≡ Ready) (sym b.is) (ap phase there ∙ ap phase_of b.state))

    last_commits : (k : Key) → (image_of (landed (r n) x)).last ≡ Some (k, Commit) → Commits (view p) k.tid
    last_commits k e = elim (goes.last n (k, Commit) (sym same.last ∙ e)) [
      | inl s ↦ goes.good.inv.upward k s.1
      | inr s ↦ inr (goes.later.shown k.tid ((is_shown o agrees).shown_has k.tid (inl (k, (n, s), refl))))
    ]

    record_commits : (q : LogRecord) → In q (image_of (landed (r n) x)).committed → Commits (view p) q.tid
    record_commits q i = goes.good.inv.recorded n q (same.committed q i)

-- However the acts under way turned out, the branch is committed by then; or it is left prepared, and an image that is left shows a commit of its transaction.
pub record IsBound (base : World) (r : Resolution) (closing : World) (x t : Id) : Type 0 where
  pub node : Node
  pub found : find_node x.node closing.nodes ≡ Some node
  pub how : ((s : Settlement) × In s (landed (r x.node) node).settled × (outcome_of s ≡ (child t x, Commit))) ⊎
      ((has_volume node ≡ true) × ((q : LogRecord) × In q (prepared_left (landed (r x.node) node).durable) × (record_key q ≡ child t x)) × ShowsCommit (next_opening base r closing) t)

-- So it is of one of the transactions of which the branch is prepared and committed.
pub bound_known : (base : World) (r : Resolution) (closing : World) (x t : Id) (b : IsBound base r closing x t) (K : Id → Type 0) →
    IsDisk x K K (λ s. K s.tid) (landed (r x.node) b.node).name (landed (r x.node) b.node).durable (landed (r x.node) b.node).settled → K t
bound_known base r closing x t b K disk = elim b.how [
  | inl s ↦ subst K (ap (λ (y : Key × Outcome). y.0.tid) s.2) (disk.commits s.0 s.1 (ap (λ (y : Key × Outcome). y.0.serial) s.2) (ap (λ (y : Key × Outcome). y.1) s.2))
  | inr q ↦ (
      let d = (landed (r x.node) b.node).durable in
      subst K (ap (λ (k : Key). k.tid) q.1.2) (disk.prepared q.1.0 (in_order (prepared_serials d.units.entries) (prepared_of (records_in d.log)) q.1.0 q.1.1) (ap (λ (k : Key). k.serial) q.1.2))
      )
]

-- A run from images that agree.
module _ (base closing : World) (since : List Entry) (is_run : IsRun base since closing) (r : Resolution) where
  abbrev left : Opening
  left = next_opening base r closing

  abbrev reached : IsReachedBy base r closing
  reached = reached_by base closing since is_run r

  pub goes : Goes (raised (opening_of base)) (run (reached_by base closing since is_run r).steps (raised (opening_of base)))
  goes = goes_run reached.steps (raised (opening_of base)) (good_opened (opening_of base) is_run.agrees (is_shown (opening_of base) is_run.agrees))

  -- An image that it leaves is that of a node with a volume, or of nothing.
  abbrev IsImageAt : Name → Type 0
  IsImageAt n = (image_at left n ≡ no_image) ⊎ ((x : Node) × (find_node n closing.nodes ≡ Some x) × (has_volume x ≡ true) × (image_at left n ≡ image_of (landed (r n) x)))

  pub of_node : (n : Name) → (image_at (next_opening base r closing) n ≡ no_image) ⊎ ((x : Node) × (find_node n closing.nodes ≡ Some x) × (has_volume x ≡ true) × (image_at (next_opening base r closing) n ≡ image_of (landed (r n) x)))
  of_node n = go (in_rack (opening_of base) n) refl
    where
      is : (b : Bool) → in_rack (opening_of base) n ≡ b → image_in n left.images ≡ (if b then Some (image_after (r n) (find_node n closing.nodes)) else None)
      is b e = after_in r closing (opening_of base).images n ∙ ap (λ (c : Bool). if c then Some (image_after (r n) (find_node n closing.nodes)) else None) e

      by : in_rack (opening_of base) n ≡ true → (d : Option Node) → find_node n closing.nodes ≡ d → IsImageAt n
      by there None e = inl (ap or_none (is true there) ∙ ap (image_after (r n)) e)
      by there (Some x) e = elim (cases_Bool (has_volume x)) [
        | inl has ↦ inr (x, e, has, ap or_none (is true there) ∙ ap (image_after (r n)) e)
        | inr none ↦ (let clash : true ≡ false = sym there ∙ sym (ap (λ (g : Name → Bool). g n) goes.rack) ∙ reached.shows.follows.rack n ∙ ap is_some (reached.shows.are.without n x e none).0 in let no : ⊥ = cc in absurd no)
      ]

      go : (b : Bool) → in_rack (opening_of base) n ≡ b → IsImageAt n
      go true e = by e (find_node n closing.nodes) refl
      go false e = inl (ap or_none (is false e))

  -- A branch that it leaves bound is of a node in whose image it began.
  module _ (x t : Id) (b : IsBound base r closing x t) where
    without_none : has_volume b.node ≡ false → ⊥
    without_none none = elim b.how [
      | inl s ↦ (let barred = (reached.shows.are.without x.node b.node b.found none).1 in subst (In s.0) (ap (λ (z : Node). z.settled) (quiet_lands (r x.node) b.node barred.quiet) ∙ barred.none) s.1)
      | inr q ↦ both_ways (has_volume b.node) none q.0
    ]

    pub bound_there : in_rack (opening_of base) x.node ≡ true
    bound_there = elim (cases_Bool (has_volume b.node)) [
      | inl has ↦ in_base base closing since is_run r x.node b.node b.found has
      | inr none ↦ absurd (without_none none)
    ]

  -- In each world of the protocol that shows the run's end, from whatever opening, what the images that are left show committed is so,
  module _ (o : Opening) (agrees : IsAgreeing o) (p : protocol.World) (goes_there : Goes (raised o) p) (shows : Shows o r closing p) where
    shows_commits : (t : Id) → ShowsCommit left t → Commits (view p) t
    shows_commits t (inl l) = go (of_node l.1.0)
      where
        go : IsImageAt l.1.0 → Commits (view p) t
        go (inl none) = let clash : ◌≡◌ {A = Option (Key × Outcome)} None (Some (l.0, Commit)) = sym (ap (λ (i : Image). i.last) none) ∙ l.1.1 in let no : ⊥ = cc in absurd no
        go (inr x) = subst (λ (u : Id). Commits (view p) u) l.2 (last_commits o agrees p goes_there r closing shows l.1.0 x.0 x.1 x.2 l.0 (sym (ap (λ (i : Image). i.last) x.3) ∙ l.1.1))
    shows_commits t (inr w) = go (of_node w.0)
      where
        go : IsImageAt w.0 → Commits (view p) t
        go (inl none) = absurd (subst (λ (i : Image). In w.1.0 i.committed) none w.1.1)
        go (inr x) = subst (λ (u : Id). Commits (view p) u) w.1.2 (record_commits o agrees p goes_there r closing shows w.0 x.0 x.1 x.2 w.1.0 (subst (λ (i : Image). In w.1.0 i.committed) x.3 w.1.1))

    -- and the transaction of a branch that is left bound is committed, and the branch not aborted.
    pub bound_commits : (x t : Id) → IsBound base r closing x t → Commits (view p) t × (In (child t x, Abort) p.settled → ⊥)
    bound_commits x t b = elim b.how [
      | inl s ↦
          let c : In (child t x, Commit) p.settled = told_settled o r closing p shows (child t x) Commit (x.node, b.node, b.found, s) in
          (goes_there.good.inv.upward (child t x) c, λ aborted. never_both p.settled (child t x) goes_there.good.inv.once c aborted)
      | inr q ↦
          let ready : IsReady (view p) (child t x) = subst (IsReady (view p)) q.1.2 (prepared_ready o agrees p goes_there r closing shows x.node b.node b.found q.0 q.1.0 q.1.1 (ap (λ (k : Key). k.serial.node) q.1.2)) in
          (shows_commits t q.2, λ aborted. goes_there.good.inv.unsettled (child t x) (not_gone_ready ((view p).at (child t x)) ready) Abort aborted)
    ]
