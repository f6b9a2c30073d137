-- A statement as the parts that it goes through, up to the one with which it ends; and where among them a line is shown.
use Rattle.std.proofs.Common.{◌≡◌, List, [], ◌∷◌, ◌++◌, inl, inr, refl, sym, ◌∙◌, ap, subst, append-nil}
use Rattle.std.proofs.lemmas.List.{append_assoc}
use Rattle.run_said.specs.transcript_model.Lines.{Line}
use Rattle.commit_protocol.specs.World.{In}
use Rattle.run_said.specs.run_model.World.{World, DiskCounts}
use Rattle.run_said.specs.run_model.Steps.{Choice}
use Rattle.run_said.specs.run_model.Statements.{Part, Phase, Phases, Allowed, part_effect}
use Rattle.run_said.proofs.run_model.PartLemmas.{EachPhase, phases_fold}
use Rattle.run_laws.proofs.ShownSettled.{in_append}

module _ (Ok : Part → Type 0) (disks : List DiskCounts) where
  -- these parts, by these choices, show these lines and lead there
  abbrev pub Walks : List (Part × Choice) → World → List Line → World → Type 0
  Walks [] w lines v = (lines ≡ []) × (v ≡ w)
  Walks (x ∷ xs) w lines v = Ok x.0 × Allowed w x.0 disks x.1 × (rest : List Line) × (lines ≡ (part_effect w x.0 x.1).lines ++ rest) × Walks xs (part_effect w x.0 x.1).world rest v

  pub phases_walk : (ps : List Phase) → EachPhase Ok ps → (w : World) (given : Line) (lines : List Line) (answer : Line) (v : World) → Phases ps disks w given lines answer v → (xs : List (Part × Choice)) × Walks xs w lines v
  phases_walk ps ok w given lines answer v d = phases_fold disks Ok (λ g. Unit {0}) (λ u rest a x. (xs : List (Part × Choice)) × Walks xs u rest x)
      (λ u g q. ([], (refl, refl)))
      (λ u p c ok allowed ends. ((p, c) ∷ [], (ok, allowed, [], sym (append-nil (part_effect u p c).lines), (refl, refl))))
      (λ u p c ok allowed on. (tt, λ rest a x more. ((p, c) ∷ more.0, (ok, allowed, rest, refl, more.1))))
      ps ok w given lines answer v tt d

  -- where one of these lines is shown
  pub record Sighted (w : World) (lines : List Line) (v : World) (l : Line) : Type 0 where
    pub front : List (Part × Choice)
    pub part : Part
    pub choice : Choice
    pub back : List (Part × Choice)
    pub there : World
    pub before : List Line
    pub rest : List Line
    pub first : Walks front w before there
    pub ok : Ok part
    pub allowed : Allowed there part disks choice
    pub shown : In l (part_effect there part choice).lines
    pub then : Walks back (part_effect there part choice).world rest v
    pub is : lines ≡ before ++ ((part_effect there part choice).lines ++ rest)

  pub sighted : (xs : List (Part × Choice)) (w : World) (lines : List Line) (v : World) (l : Line) → Walks xs w lines v → In l lines → Sighted w lines v l
  sighted [] w lines v l h i = absurd (subst (In l) h.0 i)
  sighted (x ∷ xs) w lines v l h i = elim (in_append l (part_effect w x.0 x.1).lines h.2 (subst (In l) h.3 i)) [
    | inl here ↦ record {
      front = [];
      part = x.0;
      choice = x.1;
      back = xs;
      there = w;
      before = [];
      rest = h.2;
      first = (refl, refl);
      ok = h.0;
      allowed = h.1;
      shown = here;
      then = h.4;
      is = h.3;
    }
    | inr later ↦ (
        let s = sighted xs (part_effect w x.0 x.1).world h.2 v l h.4 later in
        record {
          front = x ∷ s.front;
          part = s.part;
          choice = s.choice;
          back = s.back;
          there = s.there;
          before = (part_effect w x.0 x.1).lines ++ s.before;
          rest = s.rest;
          first = (h.0, h.1, s.before, refl, s.first);
          ok = s.ok;
          allowed = s.allowed;
          shown = s.shown;
          then = s.then;
          is = h.3 ∙ ap (λ ls. (part_effect w x.0 x.1).lines ++ ls) s.is ∙ sym (append_assoc (part_effect w x.0 x.1).lines s.before ((part_effect s.there s.part s.choice).lines ++ s.rest));
        }
        )
  ]

  -- what each part keeps is so behind them
  pub walk_keeps : (R : World → Type 0) → ((u : World) (p : Part) (c : Choice) → Ok p → Allowed u p disks c → R u → R (part_effect u p c).world) → (xs : List (Part × Choice)) (w : World) (lines : List Line) (v : World) → Walks xs w lines v → R w → R v
  walk_keeps R keep [] w lines v h r = subst R (sym h.1) r
  walk_keeps R keep (x ∷ xs) w lines v h r = walk_keeps R keep xs (part_effect w x.0 x.1).world h.2 v h.4 (keep w x.0 x.1 h.0 h.1 r)

  -- and what lines tell more
  pub walk_tells : (T : Type 0) (more : List Line → T → T) → ((a : T) → more [] a ≡ a) → ((xs ys : List Line) (a : T) → more (xs ++ ys) a ≡ more ys (more xs a)) → (R : T → World → Type 0) →
      ((a : T) (u : World) (p : Part) (c : Choice) → Ok p → Allowed u p disks c → R a u → R (more (part_effect u p c).lines a) (part_effect u p c).world) → (xs : List (Part × Choice)) (a : T) (w : World) (lines : List Line) (v : World) → Walks xs w lines v → R a w → R (more lines a) v
  walk_tells T more none append R keep [] a w lines v h r = subst (λ ls. R (more ls a) v) (sym h.0) (subst (λ b. R b v) (sym (none a)) (subst (R a) (sym h.1) r))
  walk_tells T more none append R keep (x ∷ xs) a w lines v h r =
      let b = more (part_effect w x.0 x.1).lines a in
      let rec = walk_tells T more none append R keep xs b (part_effect w x.0 x.1).world h.2 v h.4 (keep a w x.0 x.1 h.0 h.1 r) in
      subst (λ ls. R (more ls a) v) (sym h.3) (subst (λ c. R c v) (sym (append (part_effect w x.0 x.1).lines h.2 a)) rec)
