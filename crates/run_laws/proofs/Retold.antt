-- What a disk tells again of one branch that is gone: its commitment is the last settlement of the disk, or lines showed it as that.
use Rattle.std.proofs.Common.{◌≡◌, ℕ, ◌⊎◌, List, [], ◌∷◌, ◌++◌, inl, inr, Bool, true, false, Option, Some, None, refl, sym, ◌∙◌, ap, subst}
use Rattle.vms_model.specs.Ids.{Id}
use Rattle.vms_model.specs.Transactions.{Outcome, Commit, Abort, Reason}
use Rattle.run_said.specs.transcript_model.Lines as line
use Rattle.run_said.specs.transcript_model.Lines.{Line}
use Rattle.unit_laws.specs.Units.{Map}
use Rattle.unit_laws.specs.Journal.{RecoveryUnit}
use Rattle.commit_protocol.specs.Table.{Prepares}
use Rattle.commit_protocol.specs.World.{In}
use Rattle.run_said.specs.run_model.World as world
use Rattle.run_said.specs.run_model.World.{Node, Act, Settlement, Tables, aborted_prepared, acted, with_half}
use Rattle.run_said.specs.run_model.Answers.{Row, last_line, last_lines}
use Rattle.run_said.specs.run_model.Steps.{node_after}
use Rattle.run_laws.specs.Promises.{commitment}
use Rattle.run_laws.proofs.EachRow.{ArePlain, is_plain}
use Rattle.run_laws.proofs.Keeping.{Keeps, Kept, Scheme, closes_plain}
use Rattle.run_laws.proofs.OneBranch as branch
use Rattle.run_laws.proofs.OneBranch.{one, one_keeps}
use Rattle.run_laws.proofs.RowFits.{RowFits}
use Rattle.recovery_laws.specs.world_laws.Nodes.{IsUp}
use Rattle.recovery_laws.proofs.world_laws.RestartLemmas.{undone_unit}

-- Lines that show a commitment as the last settlement of a disk.

abbrev pub retold_more : Line → List Settlement → List Settlement
retold_more (line.LastCommitted t s moment) a = commitment t s moment ∷ a
retold_more other a = a

abbrev pub retold_on : List Line → List Settlement → List Settlement
retold_on [] a = a
retold_on (l ∷ ls) a = retold_on ls (retold_more l a)

pub retold_append : (xs ys : List Line) (a : List Settlement) → retold_on (xs ++ ys) a ≡ retold_on ys (retold_on xs a)
retold_append [] ys a = refl
retold_append (x ∷ xs) ys a = retold_append xs ys (retold_more x a)

plain_more : (l : Line) (a : List Settlement) → is_plain l ≡ true → retold_more l a ≡ a
plain_more (line.LastCommitted tid serial moment) a h = let no : ⊥ = cc in absurd no
plain_more _ a h = refl

retold_plain : (ls : List Line) (a : List Settlement) → ArePlain ls → retold_on ls a ≡ a
retold_plain [] a h = refl
retold_plain (l ∷ ls) a h = ap (retold_on ls) (plain_more l a h.0) ∙ retold_plain ls a h.1

more_stays : (l : Line) (a : List Settlement) (s : Settlement) → In s a → In s (retold_more l a)
more_stays (line.LastCommitted tid serial moment) a s i = inr i
more_stays _ a s i = i

pub retold_stays : (ls : List Line) (a : List Settlement) (s : Settlement) → In s a → In s (retold_on ls a)
retold_stays [] a s i = i
retold_stays (l ∷ ls) a s i = retold_stays ls (retold_more l a) s (more_stays l a s i)

-- what is told was told before, or by one of the lines
more_from : (l : Line) (a : List Settlement) (s : Settlement) → In s (retold_more l a) → In s a ⊎ (l ≡ line.LastCommitted s.tid s.serial s.moment)
more_from (line.LastCommitted tid serial moment) a s i = elim i [ inl same ↦ inr (ap (λ (y : Settlement). line.LastCommitted y.tid y.serial y.moment) (sym same)) | inr j ↦ inl j ]
more_from _ a s i = inl i

pub retold_from : (ls : List Line) (a : List Settlement) (s : Settlement) → In s (retold_on ls a) → In s a ⊎ In (line.LastCommitted s.tid s.serial s.moment) ls
retold_from [] a s i = inl i
retold_from (l ∷ ls) a s i = elim (retold_from ls (retold_more l a) s i) [
  | inl j ↦ elim (more_from l a s j) [ inl k ↦ inl k | inr same ↦ inr (inl (sym same)) ]
  | inr j ↦ inr (inr j)
]

pub retold_line : (ls : List Line) (a : List Settlement) (t s : Id) (moment : ℕ) → In (line.LastCommitted t s moment) ls → In (commitment t s moment) (retold_on ls a)
retold_line [] a t s moment i = absurd i
retold_line (l ∷ ls) a t s moment i = elim i [
  | inl same ↦ retold_stays ls (retold_more l a) (commitment t s moment) (subst (λ m. In (commitment t s moment) (retold_more m a)) same (inl refl))
  | inr j ↦ retold_line ls (retold_more l a) t s moment j
]

-- the last settlement of a disk, where it is a commitment
pub last_told : (n : Node) (s : Settlement) → n.durable.last ≡ Some s → s.outcome ≡ Commit → In (line.LastCommitted s.tid s.serial s.moment) (last_lines n)
last_told n s e c = subst (λ (o : Option Settlement). In (line.LastCommitted s.tid s.serial s.moment) (elim o as (λ y. List Line) [ Some y ↦ last_line y | None ↦ [] ])) (sym e) (at s.outcome s.reason c)
  where
    at : (o : Outcome) (r : Option Reason) → o ≡ Commit → In (line.LastCommitted s.tid s.serial s.moment) (elim o as (λ y. List Line) [ Commit ↦ line.LastCommitted s.tid s.serial s.moment ∷ [] | Abort ↦ elim r as (λ y. List Line) [ Some reason ↦ line.LastAborted s.tid s.serial reason s.moment ∷ [] | None ↦ [] ] ])
    at Commit r e = inl refl
    at Abort r e = let no : ⊥ = cc in absurd no

module _ (x : Id) where
  -- its commitments are told
  abbrev pub AllTold : List Settlement → List Settlement → Type 0
  AllTold a ss = (s : Settlement) → In s ss → s.serial ≡ x → s.outcome ≡ Commit → In (commitment s.tid s.serial s.moment) a

  -- or they are the last of the disk
  abbrev pub LastOrTold : List Settlement → Option Settlement → List Settlement → Type 0
  LastOrTold a last ss = (s : Settlement) → In s ss → s.serial ≡ x → s.outcome ≡ Commit → (last ≡ Some s) ⊎ In (commitment s.tid s.serial s.moment) a

  -- the branch itself is gone
  abbrev pub gone_by : (Settlement → Type 0) → Scheme
  gone_by C = one x (λ t. ⊥) (λ t. ⊥) C

  abbrev pub gone_keeps : (C : Settlement → Type 0) → Keeps (one x (λ t. ⊥) (λ t. ⊥) C)
  gone_keeps C = one_keeps x (λ t. ⊥) (λ t. ⊥) C (λ t p. p) (λ s e h. absurd h)

  abbrev Any : Settlement → Type 0
  Any s = Unit {0}

  abbrev pub retold : Scheme
  retold = record {
    Told = List Settlement;
    more = retold_on;
    Up = λ free a n. branch.IsOn x (λ t. ⊥) (λ t. ⊥) (λ s. Unit {0}) free n × AllTold a n.settled;
    Disk = λ a n. branch.IsDisk x (λ t. ⊥) (λ t. ⊥) (λ s. Unit {0}) n.name n.durable n.settled × LastOrTold a n.durable.last n.settled;
    Boots = λ a n. branch.IsBooted x (λ t. ⊥) (λ t. ⊥) (λ s. Unit {0}) n × AllTold a n.settled;
    Ready = λ n. Unit {0};
    Takes = λ o. Unit {0};
    special = λ r. false;
  }

  takes_so : (C : Settlement → Type 0) (o : Option Act) → (one x (λ t. ⊥) (λ t. ⊥) C).Takes o
  takes_so C (Some (Tables (Prepares b) moment)) = λ e h. h
  takes_so C (Some (Tables _ moment)) = tt
  takes_so C (Some _) = tt
  takes_so C None = tt

  more_told : (ls : List Line) (a ss : List Settlement) → AllTold a ss → AllTold (retold_on ls a) ss
  more_told ls a ss h s i e c = retold_stays ls a (commitment s.tid s.serial s.moment) (h s i e c)

  told_last : (a : List Settlement) (last : Option Settlement) (ss : List Settlement) → AllTold a ss → LastOrTold a last ss
  told_last a last ss h s i e c = inr (h s i e c)

  -- while it is up, what is settled as a commitment of it was so before
  exact : (free : Bool) (n : Node) → branch.IsOn x (λ t. ⊥) (λ t. ⊥) (λ s. Unit {0}) free n → branch.IsOn x (λ t. ⊥) (λ t. ⊥) (λ s. In s n.settled) free n
  exact free n h = record { drawn = h.drawn; fresh = h.fresh; branch = λ b i e. h.branch b i e; commits = λ s i e c. i }

  row_told : (free : Bool) (r : Row) (n : Node) (a : List Settlement) → RowFits free r n → IsUp (node_after r.act n) → branch.IsOn x (λ t. ⊥) (λ t. ⊥) (λ s. Unit {0}) free n → AllTold a n.settled → AllTold a (node_after r.act n).settled
  row_told free r n a f up h told s i e c =
      let g = (one_keeps x (λ t. ⊥) (λ t. ⊥) (λ s. In s n.settled) (λ t p. p) (λ s e h. absurd h)).row free r n tt (takes_so (λ s. In s n.settled) r.act) f up (exact free n h) in
      told s (g.commits s i e c) e c

  under_told : (free : Bool) (r : Row) (n : Node) (a : List Settlement) (act : Act) → RowFits free r n → r.act ≡ Some act → Rattle.run_said.specs.run_model.World.is_durable act ≡ true → IsUp (acted act n) → branch.IsOn x (λ t. ⊥) (λ t. ⊥) (λ s. Unit {0}) free n → AllTold a n.settled → AllTold a (acted act n).settled
  under_told free r n a act f is d up h told s i e c =
      let g = (one_keeps x (λ t. ⊥) (λ t. ⊥) (λ s. In s n.settled) (λ t p. p) (λ s e h. absurd h)).under free r n tt act (takes_so (λ s. In s n.settled) r.act) f is d up (exact free n h) in
      told s (g.commits s i e c) e c

  half_last : (o : Option Id) (standing : List ℕ → Map) (d : world.Durable) → (with_half o standing d).last ≡ d.last
  half_last None standing d = refl
  half_last (Some serial) standing d = refl

  undone_told : (a : List Settlement) (n : Node) (u : RecoveryUnit) → AllTold a n.settled → AllTold a (undone_unit n u).settled
  undone_told a n u h s i e c = elim i [
    | inl same ↦ (let clash : Abort ≡ Commit = sym (ap (λ (y : Settlement). y.outcome) same) ∙ c in let no : ⊥ = cc in absurd no)
    | inr j ↦ h s j e c
  ]

  pub retold_keeps : Keeps retold
  retold_keeps = record {
    none = λ a. refl;
    append = retold_append;
    plain = λ ls a h v. retold_plain ls a h;
    closes = closes_plain retold (λ ls a h. retold_plain ls a h);
    same = λ a n m name durable settled h. ((gone_keeps Any).same tt n m name durable settled h.0, subst (λ (d : world.Durable). LastOrTold a d.last m.settled) (sym durable) (subst (LastOrTold a n.durable.last) (sym settled) h.1));
    row = λ free r n a q f up h. ((gone_keeps Any).row free r n tt (takes_so Any r.act) f up h.0, more_told r.lines a (node_after r.act n).settled (row_told free r n a f up h.0 h.1));
    under = λ free r n a act q f is d up h. ((gone_keeps Any).under free r n tt act (takes_so Any r.act) f is d up h.0, told_last a (acted act n).durable.last (acted act n).settled (under_told free r n a act f is d up h.0 h.1));
    falls = λ free a n up h. ((gone_keeps Any).falls free tt n up h.0, told_last a n.durable.last n.settled h.1);
    weaken = λ free a n h. ((gone_keeps Any).weaken free tt n h.0, h.1);
    half = λ a n standing k ready may h. ((gone_keeps Any).half tt n standing k tt may h.0, subst (λ o. LastOrTold a o n.settled) (sym (half_last (aborted_prepared n.under_way n.durable) standing n.durable)) h.1);
    spoils = λ a n h. ((gone_keeps Any).spoils tt n h.0, h.1);
    boots = λ a n k h. (
      (gone_keeps Any).boots tt n k h.0,
      λ s i e c. elim (h.1 s i e c) [
        | inl last ↦ retold_line (last_lines n) a s.tid s.serial s.moment (last_told n s last c)
        | inr told ↦ retold_stays (last_lines n) a (commitment s.tid s.serial s.moment) told
      ],
    );
    booting = λ a n k h. ((gone_keeps Any).booting tt n k h.0, h.1);
    undoes = λ a n u next h. ((gone_keeps Any).undoes tt n u next h.0, undone_told a n u h.1);
    undoing = λ a n u next h. ((gone_keeps Any).undoing tt n u next h.0, told_last a (undone_unit n u).durable.last (undone_unit n u).settled (undone_told a n u h.1));
    rests = λ a n k h. ((gone_keeps Any).rests tt n k h.0, told_last a n.durable.last n.settled h.1);
    none_ready = λ n e. tt;
    same_ready = λ n m e h. tt;
    comes = λ a n up h closed. ((gone_keeps Any).comes tt n up h.0 (record { before = tt; found = n; log = refl; told = refl }), h.1);
  }

  -- What is told stays so, and what was told of others may be forgotten.

  pub kept_more : (a b : List Settlement) (n : Node) → ((s : Settlement) → s.serial ≡ x → In s a → In s b) → Kept retold retold_keeps a n → Kept retold retold_keeps b n
  kept_more a b n into h = record {
    disk = (h.disk.0, more_last n.durable.last n.settled h.disk.1);
    way = λ act e. ((h.way act e).0, more_last (acted act n).durable.last (acted act n).settled (h.way act e).1);
    runs = λ up. ((h.runs up).0, λ s i e c. into (commitment s.tid s.serial s.moment) e ((h.runs up).1 s i e c));
  }
    where
      more_last : (last : Option Settlement) (ss : List Settlement) → LastOrTold a last ss → LastOrTold b last ss
      more_last last ss g s i e c = elim (g s i e c) [ inl same ↦ inl same | inr told ↦ inr (into (commitment s.tid s.serial s.moment) e told) ]
