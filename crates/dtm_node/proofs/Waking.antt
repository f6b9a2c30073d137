-- A node whose disk runs again.
use Rattle.std.proofs.Common.{◌≡◌, inl, inr, ℕ, List, [], ◌∷◌, true, false, Option, Some, None, IsSomeAnd, MatchOption, is_some, refl, sym, ap, subst, ◌∙◌, arith}
use Rattle.std.specs.Prelude.{◌||◌, not}
use Rattle.block_disk.specs.Blocks.{SameBut}
use Rattle.block_disk.specs.Disk.{DiskState, IsPowered, MayLeave}
use Rattle.careful_write.specs.Content.{content_of}
use Rattle.careful_write.specs.Load.{fitting}
use Rattle.emitter_model.specs.transcript_model.Lines as line
use Rattle.emitter_model.specs.transcript_model.Lines.{Failed}
use Rattle.unit_laws.specs.Units.{Map}
use Rattle.world_laws.specs.run_model.Answers.{Restarts, refused_before_reading, task_service}
use Rattle.world_laws.specs.run_model.Operations.{first_of, refused_if}
use Rattle.world_laws.specs.run_model.Steps.{Cut, NodeStep}
use Rattle.world_laws.specs.run_model.World.{Node, Act, Boots, Clocks, ComesUp, DiskCounts, Falls, Formats, Half, Lost, MayTurnOut, Outturn, Power, Shared, Taken, Volume, Sound, Faulty, Barred, Unknown, aborted_prepared, acted, fallen, is_durable, powered, with_half}
use Rattle.vms_model.specs.Ids.{Id}
use Rattle.world_laws.specs.Nodes.{IsKeptDisk, IsKeptNode, StepsKeepNodes}
use Rattle.recovery_units.specs.volume_model.Volumes.{HasDisk, IsLeftBy, half_done}
use Rattle.dtm_node.specs.Boots.{HasContent}
use Rattle.dtm_node.specs.Opening.{IsWoken, Wakes}
use Rattle.dtm_node.proofs.DiskLemmas.{ContentBy, DiskBy}
use Rattle.dtm_node.proofs.SameNodes.{SameDisk, same_left, same_told, stays_sound}

-- What an act leaves that was under way.

acted_rest : (act : Act) (n : Node) (o : Option Act) → acted act (record n { under_way = o }) ≡ record (acted act n) { under_way = o }
acted_rest Boots n o = refl
acted_rest _ n o = refl

-- the node of which the act was done that was under way
taken_form : (stops : ℕ) (n : Node) (act : Act) → n.under_way ≡ Some act → powered Taken stops n ≡ record (acted act n) { calls = Power stops ∷ n.calls; under_way = None }
taken_form stops n act under = ap (λ o. powered Taken stops (record n { under_way = o })) under ∙ ap (λ (m : Node). record m { calls = Power stops ∷ n.calls; under_way = None }) (acted_rest act n (Some act))

-- an act that is one step of the disk leaves a node down
stays_down : (act : Act) (n : Node) → is_durable act ≡ true → (acted act n).up ≡ n.up
stays_down ComesUp n d = let f : ⊥ = cc in absurd f
stays_down Falls n d = let f : ⊥ = cc in absurd f
stays_down Boots n d = refl
stays_down _ n d = refl

acted_blocks : (act : Act) (n : Node) → (acted act n).blocks ≡ n.blocks
acted_blocks Boots n = refl
acted_blocks _ n = refl

acted_name : (act : Act) (n : Node) → (acted act n).name ≡ n.name
acted_name Boots n = refl
acted_name _ n = refl

acted_clock : (act : Act) (n : Node) → is_durable act ≡ true → (acted act n).clock ≡ n.clock
acted_clock (Clocks now) n d = let f : ⊥ = cc in absurd f
acted_clock Boots n d = refl
acted_clock _ n d = refl

acted_made : (act : Act) (n : Node) → is_durable act ≡ true → (acted act n).unmade ≡ n.unmade
acted_made (Formats slots journal) n d = let f : ⊥ = cc in absurd f
acted_made Boots n d = refl
acted_made _ n d = refl

-- What holds of its disk does so however that act turned out: so a step says that falls at once again.
module _ (steps : StepsKeepNodes) (s : Shared) (n : Node) (kept : IsKeptNode s n) (down : n.up ≡ false) (made : n.unmade ≡ false) where
  none_early : refused_before_reading s n (task_service Restarts) ≡ None
  none_early = (λ i. first_of (refused_if (not (down i || true)) line.NodeDown) (first_of (refused_if (down i) line.NodeUp) (refused_if (made i) (line.NotInitializedAt n.name))))

  pub powered_kept : (outturn : Outturn) (stops : ℕ) → MayTurnOut n outturn → IsKeptDisk (powered outturn stops n)
  powered_kept outturn stops may =
      let ready = powered outturn stops n in
      let old : DiskCounts = record { faults = 0; stops = stops } in
      let new : DiskCounts = record { faults = 1; stops = stops } in
      let step : NodeStep s n old Restarts (line.Down ready.name Failed ∷ []) (line.Broken Failed) true (fallen None ready) (record s { in_use = s.in_use || true }) new = record {
        choice = Cut outturn 0 false Failed;
        allowed = (none_early, refl, may, omega arith, inl (omega arith));
        faults = omega arith;
        stops = omega arith;
        shows = refl;
        answers = refl;
        over = refl;
        node = refl;
        shared = refl;
      } in
      let k = (steps s n old Restarts (line.Down ready.name Failed ∷ []) (line.Broken Failed) true (fallen None ready) (record s { in_use = s.in_use || true }) new kept step).disk in
      record { filed = k.filed; log = same_told ready (fallen None ready) (record { name = refl; blocks = refl; durable = refl; up = λ e. (let f : true ≡ false = sym e ∙ ready_down stops outturn in let no : ⊥ = cc in absurd no) }) k.log; unnoted = k.unnoted; few = k.few }
    where
      taken_down : (stops : ℕ) (o : Option Act) → n.under_way ≡ o → (powered Taken stops n).up ≡ false
      taken_down stops None e = ap (λ (x : Option Act). (powered Taken stops (record n { under_way = x })).up) e ∙ down
      taken_down stops (Some act) e = ap (λ (m : Node). m.up) (taken_form stops n act e) ∙ stays_down act n (kept.way act e).0 ∙ down

      ready_down : (stops : ℕ) (x : Outturn) → (powered x stops n).up ≡ false
      ready_down stops Lost = down
      ready_down stops Taken = taken_down stops n.under_way refl
      ready_down stops (Half standing) = down

-- How it woke.
module _ (s : Shared) (n : Node) (old new : DiskState) (down : n.up ≡ false) (blocks : n.blocks ≡ old.size) (told : is_some old.seen ≡ true) (known : n.durable.volume ≡ Unknown → ⊥) (kept : IsKeptNode s n) (all_kept : (outturn : Outturn) → MayTurnOut n outturn → IsKeptDisk (powered outturn old.stops n)) (has : HasDisk n old) (power : IsPowered old new) where
  size : new.size ≡ old.size
  size = ap (λ (t : DiskState). t.size) power.state

  awake_at : (outturn : Outturn) → MayTurnOut n outturn → IsWoken n (powered outturn old.stops n) old.stops → (image : List (List ℕ)) → new.seen ≡ Some image → HasContent (powered outturn old.stops n) (fitting image) (content_of image) → Wakes n old new
  awake_at outturn may woken image is content = record {
    outturn = outturn;
    may = may;
    woken = woken;
    awake = record {
      booting = record { name_is = woken.name; blocks = woken.blocks ∙ blocks ∙ sym size; under_way = woken.under_way; kept = all_kept outturn may };
      image = image;
      told = is;
      has = content;
    };
  }

  lost_woken : IsWoken n (powered Lost old.stops n) old.stops
  lost_woken = record { name = refl; blocks = refl; clock = refl; unmade = refl; up = refl; calls = refl; under_way = refl }

  half_woken : (standing : List ℕ → Map) → IsWoken n (powered (Half standing) old.stops n) old.stops
  half_woken standing = record { name = refl; blocks = refl; clock = refl; unmade = refl; up = refl; calls = refl; under_way = refl }

  taken_woken : (act : Act) → n.under_way ≡ Some act → IsWoken n (powered Taken old.stops n) old.stops
  taken_woken act under = subst (λ m. IsWoken n m old.stops) (sym (taken_form old.stops n act under)) (record {
    name = acted_name act n;
    blocks = acted_blocks act n;
    clock = acted_clock act n (kept.way act under).0;
    unmade = acted_made act n (kept.way act under).0;
    up = stays_down act n (kept.way act under).0;
    calls = refl;
    under_way = refl;
  })

  lost : (image : List (List ℕ)) → new.seen ≡ Some image → ContentBy (powered Lost old.stops n) (fitting image) (content_of image) n.durable.volume → Wakes n old new
  lost image is content = awake_at Lost tt lost_woken image is content

  taken : (image : List (List ℕ)) → new.seen ≡ Some image → (act : Act) → n.under_way ≡ Some act → n.durable.volume ≡ Sound → fitting image ≡ true → IsLeftBy (content_of image) (acted act n) → Wakes n old new
  taken image is act under sound fits left =
      let m : Node = record (acted act n) { calls = Power old.stops ∷ n.calls; under_way = None } in
      awake_at Taken tt (taken_woken act under) image is
      (subst (λ x. HasContent x (fitting image) (content_of image)) (sym (taken_form old.stops n act under))
      (subst (ContentBy m (fitting image) (content_of image)) (sym (stays_sound act n sound)) (fits, same_left m (acted act n) (record { name = refl; blocks = refl; durable = refl; up = λ e. e }) (content_of image) left)))

  half : (image : List (List ℕ)) → new.seen ≡ Some image → (standing : List ℕ → Map) → MayTurnOut n (Half standing) → n.durable.volume ≡ Sound → fitting image ≡ true → IsLeftBy (content_of image) (half_done standing n) → Wakes n old new
  half image is standing may sound fits left =
      let m : Node = powered (Half standing) old.stops n in
      awake_at (Half standing) may (half_woken standing) image is
      (subst (ContentBy m (fitting image) (content_of image)) (sym (half_sound standing ∙ sound)) (fits, same_left m (half_done standing n) (record { name = refl; blocks = refl; durable = refl; up = λ e. e }) (content_of image) left))
    where
      half_sound : (st : List ℕ → Map) → (powered (Half st) old.stops n).durable.volume ≡ n.durable.volume
      half_sound st = by (aborted_prepared n.under_way n.durable)
        where
          by : (o : Option Id) → (with_half o st n.durable).volume ≡ n.durable.volume
          by None = refl
          by (Some serial) = refl

  same_here : SameDisk (powered Lost old.stops n) n
  same_here = record { name = refl; blocks = refl; durable = refl; up = λ e. e }

  at_image : (image : List (List ℕ)) → new.seen ≡ Some image → MayLeave old image → (v : Volume) → n.durable.volume ≡ v → DiskBy n old v → Wakes n old new
  at_image image is left Sound e l =
      let i = l image left in
      elim i.1 [
        | inl v ↦ lost image is (subst (ContentBy (powered Lost old.stops n) (fitting image) (content_of image)) (sym e) (i.0, same_left (powered Lost old.stops n) n same_here (content_of image) v))
        | inr x ↦ elim x [
          | inl y ↦ taken image is y.0 y.1 e i.0 y.2
          | inr y ↦ half image is y.0 y.1 e i.0 y.2
        ]
      ]
  at_image image is left (Faulty condition block) e f = lost image is (subst (ContentBy (powered Lost old.stops n) (fitting image) (content_of image)) (sym e) (f.0 image left))
  at_image image is left (Barred bar) e f = lost image is (subst (ContentBy (powered Lost old.stops n) (fitting image) (content_of image)) (sym e) (f.0 image left))
  at_image image is left Unknown e h = absurd (known e)

  at_seen : (o : Option (List (List ℕ))) → old.seen ≡ o → (p : Option (List (List ℕ))) → new.seen ≡ p → MatchOption o (p ≡ None) (λ seen. IsSomeAnd p (SameBut old.pending seen)) → Wakes n old new
  at_seen None is p ip h = let none : ⊥ = (let untold : true ≡ false = sym told ∙ ap (λ (x : Option (List (List ℕ))). is_some x) is in cc) in absurd none
  at_seen (Some seen) is None ip h = absurd h
  at_seen (Some seen) is (Some image) ip h = at_image image ip (subst (λ x. IsSomeAnd x (λ b. SameBut old.pending b image)) (sym is) h) n.durable.volume refl has

  pub wakes : Wakes n old new
  wakes = at_seen old.seen refl new.seen refl power.image
