-- A boot tells again how a branch ended that is gone: it is committed only as its lines show it.
use Rattle.std.proofs.Common.{◌≡◌, ℕ, zero, suc, List, [], ◌∷◌, ◌++◌, take, drop, inl, inr, Bool, true, false, Option, Some, None, refl, sym, ◌∙◌, ap, subst}
use Rattle.std.specs.List.{list_any}
use Rattle.std.proofs.lemmas.Bool.{both_ways, cases_Bool}
use Rattle.vms_model.specs.Ids.{Id}
use Rattle.run_said.specs.transcript_model.Lines as line
use Rattle.run_said.specs.transcript_model.Lines.{Line, Cause}
use Rattle.run_said.specs.script_model.Statements.{At, Boot}
use Rattle.commit_protocol.specs.Table.{Prepares}
use Rattle.commit_protocol.specs.World.{In}
use Rattle.commit_protocol.proofs.Lists.{in_left}
use Rattle.run_said.specs.run_model.World.{World, Shared, Node, Act, DiskCounts, Outturn, MayTurnOut, Settlement, Tables, fallen, find_node, powered}
use Rattle.run_said.specs.run_model.Answers.{Serves, boot_rows, last_lines, refused_before_reading, service, task_service}
use Rattle.run_said.specs.run_model.Steps.{Choice, Whole, WithoutMemory, Unpowered, Cut, TaskAllowed, act_begun, begun, lines_of_rows, node_after_rows, rows_if, task_effect, whole}
use Rattle.run_said.specs.run_model.Statements.{Part, Step, Allowed, RoseAt, part_effect, stops_at}
use Rattle.run_said.specs.run_model.StepLaws.{is_refusal}
use Rattle.run_said.specs.run_model.Transcript.{Legal, Entry}
use Rattle.run_said.proofs.run_model.CauseLemmas.{refuses_first, refuses_then}
use Rattle.run_said.proofs.run_model.NodeLists.{put_node, some_is}
use Rattle.run_said.proofs.run_model.TaskLemmas.{effect_name}
use Rattle.recovery_laws.specs.world_laws.Nodes.{IsKeptNode}
use Rattle.recovery_laws.proofs.world_laws.NodeLemmas.{powered_ready}
use Rattle.run_laws.specs.Promises.{commitment, is_of_boot}
use Rattle.run_laws.proofs.Deciding.{any_in}
use Rattle.run_laws.proofs.Keeping.{Kept, Keeps, Scheme, all_take, boot_cut, boot_under, fell, powered_kept}
use Rattle.run_laws.proofs.Named.{Ended, Refused, Turned, ended}
use Rattle.run_laws.proofs.OneBranch as branch
use Rattle.run_laws.proofs.OneBranch.{one, one_keeps}
use Rattle.run_laws.proofs.Paths.{IsOn, disks_on, part_on, path_on}
use Rattle.run_laws.proofs.Retold.{last_told, retold, retold_from, retold_keeps, retold_on}
use Rattle.run_laws.proofs.ShownSettled.{in_append}
use Rattle.run_laws.proofs.SoundWorlds.{IsSound, sound_node}
use Rattle.run_laws.proofs.Waiting.{Waits, step_waits}

-- a refusal is no line of a boot
pub refusal_apart : (node : List ℕ) (l : Line) → is_refusal l ≡ true → is_of_boot node l ≡ true → ⊥
refusal_apart node (line.LastCommitted t s moment) r e = let no : ⊥ = cc in no
refusal_apart node (line.LastAborted t s reason moment) r e = let no : ⊥ = cc in no
refusal_apart node (line.Aborted t s reason moment) r e = let no : ⊥ = cc in no
refusal_apart node (line.Prepared t s) r e = let no : ⊥ = cc in no
refusal_apart node (line.Booted other count) r e = let no : ⊥ = cc in no
refusal_apart node (line.NormalCount count) r e = let no : ⊥ = cc in no
refusal_apart node _ r e = let no : ⊥ = cc in no

module _ (x : Id) where
  -- it is committed only as these lines show it
  abbrev pub ShownLast : List Line → Settlement → Type 0
  ShownLast lines s = In (line.LastCommitted s.tid s.serial s.moment) lines

  abbrev pub gone_so : (lines : List Line) → Scheme
  gone_so lines = one x (λ t. ⊥) (λ t. ⊥) (λ s. In (line.LastCommitted s.tid s.serial s.moment) lines)

  abbrev pub gone_so_keeps : (lines : List Line) → Keeps (one x (λ t. ⊥) (λ t. ⊥) (λ s. In (line.LastCommitted s.tid s.serial s.moment) lines))
  gone_so_keeps lines = one_keeps x (λ t. ⊥) (λ t. ⊥) (λ s. In (line.LastCommitted s.tid s.serial s.moment) lines) (λ t p. p) (λ s e h. absurd h)

  abbrev pub IsGoneSo : List Line → World → Type 0
  IsGoneSo lines w = IsOn (gone_so lines) (gone_so_keeps lines) x.node tt (λ ls. refl) (λ m. tt) w

  all_gone : (lines : List Line) (o : Option Act) → (one x (λ t. ⊥) (λ t. ⊥) (λ s. In (line.LastCommitted s.tid s.serial s.moment) lines)).Takes o
  all_gone lines (Some (Tables (Prepares b) moment)) = λ e h. h
  all_gone lines (Some (Tables _ moment)) = tt
  all_gone lines (Some _) = tt
  all_gone lines None = tt

  pub gone_so_on : (lines : List Line) (w v : World) (es : List Entry) → Legal w es v → IsGoneSo lines w → IsGoneSo lines v
  gone_so_on lines w v es legal h = path_on (gone_so lines) (gone_so_keeps lines) x.node tt (λ ls. refl) (λ m. tt) (all_gone lines) w v es legal h

  pub gone_so_part : (lines : List Line) (disks : List DiskCounts) (u : World) (p : Part) (c : Choice) → Allowed u p disks c → IsGoneSo lines u → IsGoneSo lines (part_effect u p c).world
  gone_so_part lines disks u p c allowed h = part_on (gone_so lines) (gone_so_keeps lines) x.node tt (λ ls. refl) (λ m. tt) u p c disks allowed
      (λ task n is found off. all_take (gone_so lines) (all_gone lines) ((task_service task).rows u.shared n)) h

  pub gone_so_disks : (lines : List Line) (u : World) (disks : List DiskCounts) → IsGoneSo lines u → IsGoneSo lines (record u { disks = disks })
  gone_so_disks lines u disks h = disks_on (gone_so lines) (gone_so_keeps lines) x.node tt (λ ls. refl) (λ m. tt) u disks h

  -- what was told is shown by these lines
  abbrev pub IsIn : List Settlement → List Line → Type 0
  IsIn a lines = (s : Settlement) → s.serial ≡ x → In (commitment s.tid s.serial s.moment) a → In (line.LastCommitted s.tid s.serial s.moment) lines

  pub told_in : (lines : List Line) → IsIn (retold_on lines []) lines
  told_in lines s e i = elim (retold_from lines [] (commitment s.tid s.serial s.moment) i) [ inl none ↦ absurd none | inr j ↦ j ]

  module _ (w : World) (n : Node) (sound : IsSound w) (used : w.shared.in_use ≡ true) (found : find_node x.node w.nodes ≡ Some n) where
    pub gone_kept : (lines : List Line) → Kept (gone_so lines) (gone_so_keeps lines) tt n → IsGoneSo lines w
    gone_kept lines h = record { sound = sound; used = used; tracked = λ k is. subst (Kept (gone_so lines) (gone_so_keeps lines) tt) (some_is n k (sym found ∙ is)) h }

  -- at a node that is up
  pub gone_up : (a : List Settlement) (lines : List Line) (w : World) (n : Node) → IsIn a lines → Waits x a w → find_node x.node w.nodes ≡ Some n → n.up ≡ true → IsGoneSo lines w
  gone_up a lines w n into h found up = gone_kept w n h.sound h.used found lines (record {
    disk = record { of = k.disk.0.of; prepared = k.disk.0.prepared; commits = λ s i e c. into s e (r.1 s i e c) };
    way = λ act is. absurd (both_ways n.up ((h.sound.kept x.node n found).way act is).2 up);
    runs = λ q. record { drawn = r.0.drawn; fresh = r.0.fresh; branch = λ b i e. r.0.branch b i e; commits = λ s i e c. into s e (r.1 s i e c) };
  })
    where
      k : Kept (retold x) (retold_keeps x) a n
      k = h.tracked n found

      r : (retold x).Up false a n
      r = (h.tracked n found).runs up

  -- where a boot was cut behind the line of the last settlement
  pub cut_gone : (s : Shared) (stops : ℕ) (n : Node) (o : Outturn) (a : List Settlement) (lines : List Line) → IsKeptNode s n → MayTurnOut n o → Kept (retold x) (retold_keeps x) a n → IsIn a lines → (q : Option Line) (j : ℕ) (b : Bool) (cause : Cause) (l : Line) →
      In l (lines_of_rows (take j (rows_if q (boot_rows s (powered o stops n)))) ++ line.Down (powered o stops n).name cause ∷ []) → is_of_boot x.node l ≡ true →
      ((l : Line) → In l (lines_of_rows (take j (rows_if q (boot_rows s (powered o stops n))))) → In l lines) →
      Kept (gone_so lines) (gone_so_keeps lines) tt (fallen (act_begun b (drop j (rows_if q (boot_rows s (powered o stops n))))) (node_after_rows (take j (rows_if q (boot_rows s (powered o stops n)))) (powered o stops n)))
  cut_gone s stops n o a lines known may h into q j b cause l i e shown = go q j i shown
    where
      r : Node
      r = powered o stops n

      down : In l (line.Down (powered o stops n).name cause ∷ []) → ⊥
      down k = elim k [ inl same ↦ (let clash : false ≡ true = ap (is_of_boot x.node) (sym same) ∙ e in let no : ⊥ = cc in no) | inr none ↦ none ]

      go : (q : Option Line) (j : ℕ) → In l (lines_of_rows (take j (rows_if q (boot_rows s (powered o stops n)))) ++ line.Down (powered o stops n).name cause ∷ []) → ((l : Line) → In l (lines_of_rows (take j (rows_if q (boot_rows s (powered o stops n))))) → In l lines) →
          Kept (gone_so lines) (gone_so_keeps lines) tt (fallen (act_begun b (drop j (rows_if q (boot_rows s (powered o stops n))))) (node_after_rows (take j (rows_if q (boot_rows s (powered o stops n)))) (powered o stops n)))
      go (Some refusal) zero i shown = absurd (down i)
      go (Some refusal) (suc j) i shown = absurd (down i)
      go None zero i shown = absurd (down i)
      go None (suc j) i shown = fell (gone_so lines) (gone_so_keeps lines) b (suc j) (boot_rows s r) r tt
          (boot_cut (gone_so lines) (gone_so_keeps lines) s r (powered_ready o stops s n may known).disk tt disk (suc j))
          (λ act is. boot_under (gone_so lines) (gone_so_keeps lines) s r (powered_ready o stops s n may known).disk tt disk b (suc j) act is)
        where
          before : (retold x).Disk a (powered o stops n)
          before = (powered_kept (retold x) (retold_keeps x) o stops s n a known tt may h).0

          disk : branch.IsDisk x (λ t. ⊥) (λ t. ⊥) (λ s. In (line.LastCommitted s.tid s.serial s.moment) lines) (powered o stops n).name (powered o stops n).durable (powered o stops n).settled
          disk = record {
            of = before.0.of;
            prepared = before.0.prepared;
            commits = λ y k f c. elim (before.1 y k f c) [
              | inl last ↦ shown (line.LastCommitted y.tid y.serial y.moment) (in_left (line.LastCommitted y.tid y.serial y.moment) (last_lines r) _ (last_told (powered o stops n) y last c))
              | inr told ↦ into y f told
            ];
          }

  -- A BOOT.
  pub boot_gone : (w v : World) (lines : List Line) → Waits x [] w → Step w (At x.node Boot) lines v → list_any (is_of_boot x.node) lines ≡ true → IsGoneSo lines v
  boot_gone w v lines h step past = go (ended w v (At x.node Boot) lines x.node (Serves Boot) refl step)
    where
      hit : (l : Line) × In l lines × (is_of_boot x.node l ≡ true)
      hit = any_in (is_of_boot x.node) lines past

      no_line : (l : Line) → is_of_boot x.node l ≡ true → (m : Line) → l ≡ m → is_of_boot x.node m ≡ false → ⊥
      no_line l on m same off = both_ways (is_of_boot x.node m) off (ap (is_of_boot x.node) (sym same) ∙ on)

      after : Waits x (retold_on step.events []) v
      after = step_waits x w v (At x.node Boot) lines [] step h

      into : IsIn (retold_on step.events []) lines
      into s e i = subst (In (line.LastCommitted s.tid s.serial s.moment)) (sym step.shows) (in_left (line.LastCommitted s.tid s.serial s.moment) step.events (step.answer ∷ []) (told_in step.events s e i))

      go : Ended w v x.node (Serves Boot) lines → IsGoneSo lines v
      go (Refused refusal r shows goes) = elim (subst (In hit.0) shows hit.1) [ inl same ↦ absurd (refusal_apart x.node hit.0 (ap is_refusal same ∙ r) hit.2) | inr none ↦ absurd none ]
      go (Turned n found c allowed shows goes) = elim (cases_Bool (task_effect w.shared (stops_at x.node w) n (Serves Boot) c).node.up) [
        | inl up ↦ gone_up (retold_on step.events []) lines v (task_effect w.shared (stops_at x.node w) n (Serves Boot) c).node into after there up
        | inr down ↦ gone_kept v (task_effect w.shared (stops_at x.node w) n (Serves Boot) c).node after.sound after.used there lines (by c allowed shows there down)
      ]
        where
          there : find_node x.node v.nodes ≡ Some (task_effect w.shared (stops_at x.node w) n (Serves Boot) c).node
          there = ap (λ (y : World). find_node x.node y.nodes) goes ∙ put_node x.node n (task_effect w.shared (stops_at x.node w) n (Serves Boot) c).node w.nodes (effect_name w.shared (stops_at x.node w) n (Serves Boot) c) found

          known : IsKeptNode w.shared n
          known = (sound_node w h.sound x.node n found).kept

          by : (c : Choice) → TaskAllowed w.shared (stops_at x.node w) n (Serves Boot) (λ cause. RoseAt w x.node cause v.disks) c → lines ≡ (task_effect w.shared (stops_at x.node w) n (Serves Boot) c).lines ++ (task_effect w.shared (stops_at x.node w) n (Serves Boot) c).answer ∷ [] →
              find_node x.node v.nodes ≡ Some (task_effect w.shared (stops_at x.node w) n (Serves Boot) c).node → (task_effect w.shared (stops_at x.node w) n (Serves Boot) c).node.up ≡ false → Kept (gone_so lines) (gone_so_keeps lines) tt (task_effect w.shared (stops_at x.node w) n (Serves Boot) c).node
          by (Whole o) may shows there down = absurd (first_so (refused_before_reading w.shared n (service Boot)) refl shows down)
            where
              r : Node
              r = powered o (stops_at x.node w) n

              refusal_so : (refusal : Line) → is_refusal refusal ≡ true → lines ≡ refusal ∷ [] → ⊥
              refusal_so refusal is k = elim (subst (In hit.0) k hit.1) [ inl same ↦ refusal_apart x.node hit.0 (ap is_refusal same ∙ is) hit.2 | inr none ↦ none ]

              late_so : (q : Option Line) → (service Boot).refused_after_reading w.shared (powered o (stops_at x.node w) n) ≡ q → lines ≡ (begun w.shared (powered o (stops_at x.node w) n) (service Boot) q).lines ++ (begun w.shared (powered o (stops_at x.node w) n) (service Boot) q).answer ∷ [] → (begun w.shared (powered o (stops_at x.node w) n) (service Boot) q).node.up ≡ false → ⊥
              late_so (Some refusal) is k d = refusal_so refusal ((refuses_then w.shared (powered o (stops_at x.node w) n) (Serves Boot)).says refusal is) k
              late_so None is k d = let no : ⊥ = cc in no

              first_so : (q : Option Line) → refused_before_reading w.shared n (service Boot) ≡ q → lines ≡ (whole w.shared n (powered o (stops_at x.node w) n) (service Boot) q).lines ++ (whole w.shared n (powered o (stops_at x.node w) n) (service Boot) q).answer ∷ [] → (whole w.shared n (powered o (stops_at x.node w) n) (service Boot) q).node.up ≡ false → ⊥
              first_so (Some refusal) is k d = refusal_so refusal ((refuses_first w.shared n (Serves Boot)).says refusal is) k
              first_so None is k d = late_so ((service Boot).refused_after_reading w.shared (powered o (stops_at x.node w) n)) refl k d
          by WithoutMemory may shows there down = elim (subst (In hit.0) shows hit.1) [ inl same ↦ absurd (refusal_apart x.node hit.0 (ap is_refusal same) hit.2) | inr none ↦ absurd none ]
          by Unpowered may shows there down = absurd (elim (subst (In hit.0) shows hit.1) [
            | inl same ↦ no_line hit.0 hit.2 (line.Down n.name line.Failed) same refl
            | inr more ↦ elim more [ inl same ↦ no_line hit.0 hit.2 (line.Broken line.Failed) same refl | inr none ↦ none ]
          ])
          by (Cut o j b cause) may shows there down = cut_gone w.shared (stops_at x.node w) n o [] lines known may.2 (h.tracked n found) (λ s e i. absurd i) ((task_service (Serves Boot)).refused_after_reading w.shared (powered o (stops_at x.node w) n)) j b cause hit.0 (cut_in (task_effect w.shared (stops_at x.node w) n (Serves Boot) (Cut o j b cause)).lines (subst (In hit.0) shows hit.1)) hit.2
              (λ l i. subst (In l) (sym shows) (in_left l _ (line.Broken cause ∷ []) (in_left l _ (line.Down (powered o (stops_at x.node w) n).name cause ∷ []) i)))
            where
              cut_in : (ls : List Line) → In hit.0 (ls ++ line.Broken cause ∷ []) → In hit.0 ls
              cut_in ls i = elim (in_append hit.0 ls (line.Broken cause ∷ []) i) [ inl k ↦ k | inr k ↦ elim k [ inl same ↦ absurd (no_line hit.0 hit.2 (line.Broken cause) same refl) | inr none ↦ absurd none ] ]
