-- What each statement keeps of labels and ids.
use Rattle.std.proofs.Common.{◌≡◌, ℕ, ◌⊎◌, List, [], ◌∷◌, ◌++◌, map, inl, inr, false, Some, None, refl, sym, ◌∙◌, ap, subst, arith}
use Rattle.std.specs.List.{last_or}
use Rattle.vms_model.specs.Ids.{Id}
use Rattle.run_said.specs.script_model.Grammar.{reading}
use Rattle.commit_protocol.specs.Table.{Key as BranchKey}
use Rattle.commit_protocol.specs.World.{In}
use Rattle.run_said.specs.run_model.World.{World, Node, Label, find_node, next_id, with_node}
use Rattle.run_said.specs.run_model.Transcript.{Entry}
use Rattle.run_said.proofs.run_model.NodeLists.{found_name, put_node, some_is}
use Rattle.run_laws.specs.Naming.{IdsDiffer, ids_here, ids_told, labels_here, labels_told}
use Rattle.run_laws.proofs.Moving.{HasOpen, IsPast}
use Rattle.run_laws.specs.Causes.{HasBegun}
use Rattle.run_laws.proofs.Named.{IsDrawn, IsMadeSo, Leads, Named, begun_later, born_later, told}
use Rattle.run_laws.proofs.Staying.{find_put}

-- Statements that draw no id and make no label.

-- a label that is as it was, in a world in which it leads
made_later : (e : Entry) (es : List Entry) (w v : World) (l : Label) → ids_here (reading e.source.text) e.lines ≡ [] → Leads w v → IsMadeSo es w l → IsMadeSo (e ∷ es) v l
made_later e es w v l none f m = record {
  begun = λ no. let b = m.begun no in (b.0, begun_later e es l.node l.name l.tid b.1);
  own = m.own;
  apart = m.apart;
  tid = subst (λ ids. In l.tid (ids ++ ids_told es)) (sym none) m.tid;
  serial = λ s is. subst (λ ids. In s (ids ++ ids_told es)) (sym none) (m.serial s is);
  fits = λ n found k o is. let x = f.nodes l.node n found in m.fits x.0 x.1 k (x.2.begun k o) is;
}

drawn_on : (w v : World) (id : Id) → Leads w v → IsDrawn w id → IsDrawn v id
drawn_on w v id f d n found = let x = f.nodes id.node n found in x.2.past id (d x.0 x.1)

pub calm_named : (e : Entry) (es : List Entry) (w v : World) → labels_here (reading e.source.text) (last_or None e.lines) (labels_told es) ≡ labels_told es → ids_here (reading e.source.text) e.lines ≡ [] → Leads w v → Named es w → Named (e ∷ es) v
calm_named e es w v same none f h =
    let ids : ids_told (e ∷ es) ≡ ids_told es = ap (λ (xs : List Id). xs ++ ids_told es) none in
    record {
      labels = same ∙ h.labels ∙ ap (map told) (sym f.labels);
      made = λ l i. made_later e es w v l none f (h.made l (subst (λ ls. In l ls) f.labels i));
      drawn = λ id i. drawn_on w v id f (h.drawn id (subst (In id) ids i));
      differ = subst IdsDiffer (sym ids) h.differ;
      past = λ node n found k o. let x = f.nodes node n found in x.2.past k.serial (h.past node x.0 x.1 k (x.2.begun k o));
      home = λ node n found k o. let x = f.nodes node n found in h.home node x.0 x.1 k (x.2.begun k o);
      born = λ node n found k o. let x = f.nodes node n found in born_later e es k.tid k.serial (h.born node x.0 x.1 k (x.2.begun k o));
      unused = λ off. let u = h.unused (f.unused off) in (ids ∙ u.0, λ node n found k o. let x = f.nodes node n found in u.1 node x.0 x.1 k (x.2.begun k o));
    }

-- Statements that draw an id.

-- the id that a node draws next is none that was told
pub next_new : (es : List Entry) (w : World) (node : List ℕ) (n : Node) (id : Id) → Named es w → find_node node w.nodes ≡ Some n → In id (ids_told es) → id ≡ next_id n → ⊥
next_new es w node n id h found i same = none (subst (IsPast n) same (h.drawn id i n (subst (λ name. find_node name w.nodes ≡ Some n) (sym (ap (λ (x : Id). x.node) same ∙ found_name node w.nodes n found)) found)))
  where
    none : IsPast n (next_id n) → ⊥
    none (inl earlier) = omega (arith, earlier)
    none (inr here) = let low = here.1 in omega (arith, low)

-- What such a statement leaves: the node drew an id, and perhaps a branch of that serial begins there, of this transaction; each label is as it was, or made so.
pub record Draws (e : Entry) (es : List Entry) (w v : World) (node : List ℕ) (n m : Node) : Type 0 where
  pub found : find_node node w.nodes ≡ Some n
  pub named : m.name ≡ n.name
  pub nodes : v.nodes ≡ with_node node (λ k. m) w.nodes
  pub past : (id : Id) → IsPast n id → IsPast m id
  pub drew : IsPast m (next_id n)
  pub begun : (k : BranchKey) → HasOpen m k → HasOpen n k ⊎ ((k.serial ≡ next_id n) × HasBegun (e ∷ es) k.tid k.serial)
  pub told_so : labels_told (e ∷ es) ≡ map told v.shared.labels
  pub ids : ids_here (reading e.source.text) e.lines ≡ next_id n ∷ []
  pub in_use : v.shared.in_use ≡ false → ⊥
  pub labels : (l : Label) → In l v.shared.labels → In l w.shared.labels ⊎ IsMadeSo (e ∷ es) v l

pub drawn_named : (e : Entry) (es : List Entry) (w v : World) (node : List ℕ) (n m : Node) → Named es w → Draws e es w v node n m → Named (e ∷ es) v
drawn_named e es w v node n m h d = record {
  labels = d.told_so;
  made = λ l i. elim (d.labels l i) [ inl old ↦ kept l old (h.made l old) | inr made ↦ made ];
  drawn = λ id i. drawn id (subst (In id) ids i);
  differ = subst IdsDiffer (sym ids) (λ i. next_new es w node n (next_id n) h d.found i refl, h.differ);
  past = past;
  home = home;
  born = born;
  unused = λ off. absurd (d.in_use off);
}
  where
    ids : ids_told (e ∷ es) ≡ next_id n ∷ ids_told es
    ids = ap (λ (xs : List Id). xs ++ ids_told es) d.ids

    there : (name : List ℕ) (x : Node) → find_node name v.nodes ≡ Some x → (find_node name w.nodes ≡ Some x) ⊎ ((find_node name w.nodes ≡ Some n) × (x ≡ m))
    there name x is =
        let is_so : find_node name (with_node node (λ k. m) w.nodes) ≡ Some x = subst (λ ns. find_node name ns ≡ Some x) d.nodes is in
        elim (find_put name node n m w.nodes d.named d.found) [ inl same ↦ inl (sym same ∙ is_so) | inr both ↦ inr (both.1, sym (some_is m x (sym both.0 ∙ is_so))) ]

    drawn : (id : Id) → In id (next_id n ∷ ids_told es) → IsDrawn v id
    drawn id (inl same) x is = elim (there id.node x is) [
      | inl other ↦ (
          let name : id.node ≡ node = ap (λ (y : Id). y.node) same ∙ found_name node w.nodes n d.found in
          let here : find_node node (with_node node (λ k. m) w.nodes) ≡ Some x = subst (λ ns. find_node node ns ≡ Some x) d.nodes (subst (λ name. find_node name v.nodes ≡ Some x) name is) in
          subst (λ y. IsPast y id) (some_is m x (sym (put_node node n m w.nodes d.named d.found) ∙ here)) (subst (IsPast m) (sym same) d.drew)
          )
      | inr both ↦ subst (λ y. IsPast y id) (sym both.1) (subst (IsPast m) (sym same) d.drew)
    ]
    drawn id (inr i) x is = elim (there id.node x is) [
      | inl other ↦ h.drawn id i x other
      | inr both ↦ subst (λ y. IsPast y id) (sym both.1) (d.past id (h.drawn id i n both.0))
    ]

    past : (name : List ℕ) (x : Node) → find_node name v.nodes ≡ Some x → (k : BranchKey) → HasOpen x k → IsPast x k.serial
    past name x is k o = elim (there name x is) [
      | inl other ↦ h.past name x other k o
      | inr both ↦ subst (λ y. IsPast y k.serial) (sym both.1) (elim (d.begun k (subst (λ y. HasOpen y k) both.1 o)) [
        | inl old ↦ d.past k.serial (h.past name n both.0 k old)
        | inr new ↦ subst (IsPast m) (sym new.0) d.drew
      ])
    ]

    home : (name : List ℕ) (x : Node) → find_node name v.nodes ≡ Some x → (k : BranchKey) → HasOpen x k → k.serial.node ≡ name
    home name x is k o = elim (there name x is) [
      | inl other ↦ h.home name x other k o
      | inr both ↦ elim (d.begun k (subst (λ y. HasOpen y k) both.1 o)) [
        | inl old ↦ h.home name n both.0 k old
        | inr new ↦ ap (λ (y : Id). y.node) new.0 ∙ found_name name w.nodes n both.0
      ]
    ]

    born : (name : List ℕ) (x : Node) → find_node name v.nodes ≡ Some x → (k : BranchKey) → HasOpen x k → HasBegun (e ∷ es) k.tid k.serial
    born name x is k o = elim (there name x is) [
      | inl other ↦ born_later e es k.tid k.serial (h.born name x other k o)
      | inr both ↦ elim (d.begun k (subst (λ y. HasOpen y k) both.1 o)) [
        | inl old ↦ born_later e es k.tid k.serial (h.born name n both.0 k old)
        | inr new ↦ new.1
      ]
    ]

    kept : (l : Label) → In l w.shared.labels → IsMadeSo es w l → IsMadeSo (e ∷ es) v l
    kept l old made = record {
      begun = λ no. let b = made.begun no in (b.0, begun_later e es l.node l.name l.tid b.1);
      own = made.own;
      apart = made.apart;
      tid = subst (In l.tid) (sym ids) (inr made.tid);
      serial = λ s is. subst (In s) (sym ids) (inr (made.serial s is));
      fits = λ x is k o serial. elim (there l.node x is) [
        | inl other ↦ made.fits x other k o serial
        | inr both ↦ elim (d.begun k (subst (λ y. HasOpen y k) both.1 o)) [
          | inl before ↦ made.fits n both.0 k before serial
          | inr new ↦ absurd (next_new es w node n k.serial h d.found (made.serial k.serial serial) new.0)
        ]
      ];
    }
