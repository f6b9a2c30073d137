-- What a label names, as lines tell it and as a table has it.
use Rattle.std.proofs.Common.{◌≡◌, inl, inr, ℕ, Bool, true, false, List, [], ◌∷◌, Option, Some, None, map, refl, ap, sym, ◌∙◌}
use Rattle.std.specs.Prelude.{if◌then◌else◌}
use Rattle.std.specs.Option.{option_and_then, option_map}
use Rattle.std.specs.Str.{bytes_eq}
use Rattle.emitter_model.specs.commit_protocol.Table.{Branch, find_serial}
use Rattle.emitter_model.proofs.commit_protocol.Lists.{told_id}
use Rattle.emitter_model.specs.transcript_model.Lines as line
use Rattle.emitter_model.specs.transcript_model.Lines.{Line}
use Rattle.records_model.specs.History.{same_id}
use Rattle.vms_model.specs.Ids.{Id}
use Rattle.file_requests.specs.run_said.Said.{SaidLabel, find_said, made_said}
use Rattle.world_laws.specs.run_model.Answers.{branch_labelled}
use Rattle.world_laws.specs.run_model.World as world
use Rattle.world_laws.specs.run_model.World.{Label, Node, find_branch, find_label, serial_labelled}
use Rattle.node_table.proofs.Branching.{told_serial}
use Rattle.node_requests.specs.Labelled.{branch_at, branch_in, made_in}
use Rattle.file_requests.specs.node_standing.Telling.{said_label}

-- a label is found among those that were said as among those that were made
pub said_found : (name : List ℕ) (ls : List Label) → find_said name (map said_label ls) ≡ option_map said_label (find_label name ls)
said_found name [] = refl
said_found name (l ∷ ls) = go (bytes_eq name l.name) (said_found name ls)
  where
    go : (t : Bool) → find_said name (map said_label ls) ≡ option_map said_label (find_label name ls)
        → ◌≡◌ {A = Option SaidLabel} (if t then Some (said_label l) else find_said name (map said_label ls)) (option_map said_label (if t then Some l else find_label name ls))
    go true h = refl
    go false h = h

-- lines tell whether a label is one of this node
pub made_says : (node label : List ℕ) (ls : List Label) → made_said (map said_label ls) node label ≡ made_in node label ls
made_says node label ls = ap (λ (o : Option SaidLabel). elim o [ Some l ↦ (if bytes_eq node l.node then None else Some line.BadLabel) | None ↦ Some line.BadLabel ]) (said_found label ls) ∙ go (find_label label ls)
  where
    by : (l : Label) (t : Bool) → ◌≡◌ {A = Option Line} (if t then None else Some line.BadLabel) (elim (let o : Option Label = if t then Some l else None in o) [ Some x ↦ None | None ↦ Some line.BadLabel ])
    by l true = refl
    by l false = refl

    go : (o : Option Label) → ◌≡◌ {A = Option Line} (elim (option_map said_label o) [ Some l ↦ (if bytes_eq node l.node then None else Some line.BadLabel) | None ↦ Some line.BadLabel ])
        (elim (let q : Option Label = elim o [ Some l ↦ (if bytes_eq node l.node then Some l else None) | None ↦ None ] in q) [ Some x ↦ None | None ↦ Some line.BadLabel ])
    go None = refl
    go (Some l) = by l (bytes_eq node l.node)

-- a branch is found by its serial in the world as in the table
pub branch_found : (serial : Id) (bs : List Branch) → find_branch serial bs ≡ find_serial serial bs
branch_found serial [] = refl
branch_found serial (b ∷ bs) = elim (told_id b.key.serial serial) [
  | inl t ↦ rw (t.0, own t.1) refl
  | inr t ↦ rw (t.0, other t.1) (branch_found serial bs)
]
  where
    own : b.key.serial ≡ serial → same_id serial b.key.serial ≡ true
    own e = elim (told_serial serial b.key.serial) [ inl t ↦ t.0 | inr t ↦ absurd (t.1 (sym e)) ]

    other : (b.key.serial ≡ serial → ⊥) → same_id serial b.key.serial ≡ false
    other differs = elim (told_serial serial b.key.serial) [ inl t ↦ absurd (differs (sym t.1)) | inr t ↦ t.0 ]

-- so is the branch of a label
pub labelled_branch : (s : world.Shared) (n : Node) (label : List ℕ) → branch_labelled s n label ≡ branch_in n.name label s.labels n.volatile.branches
labelled_branch s n label = go (serial_labelled n.name label s.labels)
  where
    go : (o : Option Id) → option_and_then (λ serial. find_branch serial n.volatile.branches) o ≡ branch_at o n.volatile.branches
    go None = refl
    go (Some serial) = branch_found serial n.volatile.branches
