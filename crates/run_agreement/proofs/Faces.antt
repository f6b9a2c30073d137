-- What an act, a fall and a boot of one node make of what the protocol sees.
use Rattle.std.specs.Prelude.{if◌then◌else◌, is_some, nat_lt, length}
use Rattle.std.proofs.Common.{◌≡◌, ℕ, ◌+◌, Bool, true, false, List, [], ◌∷◌, ◌++◌, Some, None, ◌⊎◌, inl, inr, refl, ap, sym, subst, ◌∙◌}
use Rattle.vms_model.specs.Ids.{Id}
use Rattle.vms_model.specs.Transactions.{Outcome, Abort as ToAbort, SegFail}
use Rattle.vms_model.specs.Limits.{message_limit}
use Rattle.commit_protocol.specs.Messages.{Name, Message, same_name}
use Rattle.commit_protocol.specs.Table as table
use Rattle.commit_protocol.specs.Table.{Key, Branch, Child, Notes, Accepts, Prepares, Settles, Leaves, Acknowledges, Releases, Undoes, Sends, Prints, child}
use Rattle.commit_protocol.specs.World as protocol
use Rattle.commit_protocol.specs.World.{In, acts, at_node, touched, node_after, last_after, crashed, crashes, draws, raised, raised_node, labelled}
use Rattle.commit_protocol.proofs.Lists.{same_name-eq, same_name-ne, cases_name, in_parts}
use Rattle.commit_protocol.proofs.Bridge.{node_same, node_other}
use Rattle.run_model.specs.World.{Settlement, Shared, settlement, settlement_of, settled_more, shared_tabled, posted}
use Rattle.commit_protocol.specs.Opening.{Opening}
use Rattle.run_agreement.specs.Seen.{Face, outcome_of}
use Rattle.run_agreement.specs.Following.{Faces, Settled, Follows}

-- the face of one node is another
abbrev pub put_face : Name → Face → Faces → Faces
put_face n f fs m = if same_name m n then Some f else fs m

pub put_here : (n : Name) (f : Face) (fs : Faces) → put_face n f fs n ≡ Some f
put_here n f fs = rw (same_name-eq n n refl) refl

pub put_there : (n : Name) (f : Face) (fs : Faces) (m : Name) → (m ≡ n → ⊥) → put_face n f fs m ≡ fs m
put_there n f fs m ne = rw (same_name-ne m n ne) refl

-- worlds that show the same are followed alike
pub follows_same : (o : Opening) (fs gs : Faces) (s : Shared) (p : protocol.World) → ((n : Name) → fs n ≡ gs n) → Follows o fs s p → Follows o gs s p
follows_same o fs gs s p e h = record {
  rack = λ n. h.rack n ∙ ap is_some (e n);
  nodes = λ n f i. h.nodes n f (e n ∙ i);
  sent = h.sent;
  accepted = h.accepted;
  read_only = h.read_only;
  labels = h.labels;
  settled = λ n f t i j. h.settled n f t (e n ∙ i) j;
  given = h.given;
  back = λ k o i. elim (h.back k o i) [ inl g ↦ inl g | inr g ↦ inr (g.0, g.1, sym (e g.0) ∙ g.2, g.3) ];
}

-- One node changes. The rest of what is seen stays.

-- what is seen of the nodes
pub nodes_put : (n : Name) (f : Face) (fs : Faces) (p q : protocol.World) → ((m : Name) (g : Face) → fs m ≡ Some g → p.nodes m ≡ g.node)
    → (q.nodes n ≡ f.node) → ((m : Name) → (m ≡ n → ⊥) → q.nodes m ≡ p.nodes m) → (m : Name) (g : Face) → put_face n f fs m ≡ Some g → q.nodes m ≡ g.node
nodes_put n f fs p q was here there m g e = elim (cases_name m n) [
  | inl same ↦
      let e' : Some f ≡ Some g = sym (ap (λ x. put_face n f fs x) same ∙ put_here n f fs) ∙ e in
      let fg : f ≡ g = cc in
      ap (λ x. q.nodes x) same ∙ (here ∙ ap (λ (x : Face). x.node) fg)
  | inr away ↦ there m away ∙ was m g (sym (put_there n f fs m away) ∙ e)
]

pub rack_put : (n : Name) (f was : Face) (fs : Faces) (p : protocol.World) → fs n ≡ Some was → ((m : Name) → p.rack m ≡ is_some (fs m)) → (m : Name) → p.rack m ≡ is_some (put_face n f fs m)
rack_put n f was fs p found rack m = elim (cases_name m n) [
  | inl same ↦ let P : Name → Type 0 = λ x. p.rack x ≡ is_some (put_face n f fs x) in subst P (sym same) (rack n ∙ (ap is_some found ∙ sym (ap is_some (put_here n f fs))))
  | inr away ↦ rack m ∙ sym (ap is_some (put_there n f fs m away))
]

-- settlements that were told are told still
pub settled_put : (n : Name) (f : Face) (fs : Faces) (ss : List (Key × Outcome)) → ((m : Name) (g : Face) (t : Settlement) → fs m ≡ Some g → In t g.settled → In (outcome_of t) ss)
    → ((t : Settlement) → In t f.settled → In (outcome_of t) ss) → (m : Name) (g : Face) (t : Settlement) → put_face n f fs m ≡ Some g → In t g.settled → In (outcome_of t) ss
settled_put n f fs ss was here m g t e i = elim (cases_name m n) [
  | inl same ↦
      let e' : Some f ≡ Some g = sym (ap (λ x. put_face n f fs x) same ∙ put_here n f fs) ∙ e in
      let fg : f ≡ g = cc in
      let P : Face → Type 0 = λ x. In t x.settled in
      here t (subst P (sym fg) i)
  | inr away ↦ was m g t (sym (put_there n f fs m away) ∙ e) i
]

-- and are those of the nodes still, where none of this node's went
pub back_put : (n : Name) (f was : Face) (fs : Faces) (k : Key) (o : Outcome) → fs n ≡ Some was → ((t : Settlement) → In t was.settled → In t f.settled) → Settled fs k o → Settled (put_face n f fs) k o
back_put n f was fs k o found keeps h = elim (cases_name h.0 n) [
  | inl same ↦
      let e : Some was ≡ Some h.1 = sym found ∙ (ap fs (sym same) ∙ h.2) in
      let fg : h.1 ≡ was = cc in
      let P : Face → Type 0 = λ x. In h.3.0 x.settled in
      (n, f, put_here n f fs, (h.3.0, keeps h.3.0 (subst P fg h.3.1), h.3.2))
  | inr away ↦ (h.0, h.1, put_there n f fs h.0 away ∙ h.2, h.3)
]

-- A node changes and settles nothing, and nothing else happens.
pub follows_moved : (o : Opening) (n : Name) (f was : Face) (fs : Faces) (s : Shared) (p q : protocol.World) → Follows o fs s p → fs n ≡ Some was → f.settled ≡ was.settled
    → q.nodes n ≡ f.node → ((m : Name) → (m ≡ n → ⊥) → q.nodes m ≡ p.nodes m) → q.rack ≡ p.rack → q.sent ≡ p.sent → q.accepted ≡ p.accepted → q.read_only ≡ p.read_only → q.labels ≡ p.labels → q.settled ≡ p.settled
    → Follows o (put_face n f fs) s q
follows_moved o n f was fs s p q h found same here there rack sent accepted read labels settled =
    let moves : (t : Settlement) → In t was.settled → In t f.settled = λ t i. (let P : List Settlement → Type 0 = λ ss. In t ss in subst P (sym same) i) in
    record {
      rack = λ m. ap (λ (r : Name → Bool). r m) rack ∙ rack_put n f was fs p found h.rack m;
      nodes = nodes_put n f fs p q h.nodes here there;
      sent = λ m i. (let P : List Message → Type 0 = λ ms. In m ms in subst P (sym sent) (h.sent m i));
      accepted = accepted ∙ h.accepted;
      read_only = read ∙ h.read_only;
      labels = λ l bid i e. (let P : List (Id × Id) → Type 0 = λ ls. In (l.tid, bid) ls in subst P (sym labels) (h.labels l bid i e));
      settled = settled_put n f fs q.settled (λ m g t e i. (let P : List (Key × Outcome) → Type 0 = λ ss. In (outcome_of t) ss in subst P (sym settled) (h.settled m g t e i)))
          (λ t i. (let P : List (Key × Outcome) → Type 0 = λ ss. In (outcome_of t) ss in
          let Q : List Settlement → Type 0 = λ ss. In t ss in subst P (sym settled) (h.settled n was t found (subst Q same i))));
      given = λ k d i. (let P : List (Key × Outcome) → Type 0 = λ ss. In (k, d) ss in subst P (sym settled) (h.given k d i));
      back = λ k d i. elim (h.back k d (let P : List (Key × Outcome) → Type 0 = λ ss. In (k, d) ss in subst P settled i)) [
        | inl g ↦ inl g
        | inr g ↦ inr (back_put n f was fs k d found moves g)
      ];
    }

-- A node changes and settles one branch.
pub follows_settles : (o : Opening) (n : Name) (f was : Face) (t : Settlement) (fs : Faces) (s : Shared) (p q : protocol.World) → Follows o fs s p → fs n ≡ Some was → f.settled ≡ t ∷ was.settled
    → q.nodes n ≡ f.node → ((m : Name) → (m ≡ n → ⊥) → q.nodes m ≡ p.nodes m) → q.rack ≡ p.rack → q.sent ≡ p.sent → q.accepted ≡ p.accepted → q.read_only ≡ p.read_only → q.labels ≡ p.labels
    → q.settled ≡ outcome_of t ∷ p.settled → Follows o (put_face n f fs) s q
follows_settles o n f was t fs s p q h found same here there rack sent accepted read labels settled =
    let new : In (outcome_of t) q.settled = (let P : List (Key × Outcome) → Type 0 = λ ss. In (outcome_of t) ss in subst P (sym settled) (inl refl)) in
    let kept : (x : Key × Outcome) → In x p.settled → In x q.settled = λ x i. (let P : List (Key × Outcome) → Type 0 = λ ss. In x ss in subst P (sym settled) (inr i)) in
    let moves : (u : Settlement) → In u was.settled → In u f.settled = λ u i. (let P : List Settlement → Type 0 = λ ss. In u ss in subst P (sym same) (inr i)) in
    record {
      rack = λ m. ap (λ (r : Name → Bool). r m) rack ∙ rack_put n f was fs p found h.rack m;
      nodes = nodes_put n f fs p q h.nodes here there;
      sent = λ m i. (let P : List Message → Type 0 = λ ms. In m ms in subst P (sym sent) (h.sent m i));
      accepted = accepted ∙ h.accepted;
      read_only = read ∙ h.read_only;
      labels = λ l bid i e. (let P : List (Id × Id) → Type 0 = λ ls. In (l.tid, bid) ls in subst P (sym labels) (h.labels l bid i e));
      settled = settled_put n f fs q.settled (λ m g u e i. kept (outcome_of u) (h.settled m g u e i))
          (λ u i. (let P : List Settlement → Type 0 = λ ss. In u ss in elim (let j : In u (t ∷ was.settled) = subst P same i in j) [
            | inl e ↦ (let Q : Settlement → Type 0 = λ x. In (outcome_of x) q.settled in subst Q (sym e) new)
            | inr j ↦ kept (outcome_of u) (h.settled n was u found j)
          ]));
      given = λ k d i. kept (k, d) (h.given k d i);
      back = λ k d i. (let P : List (Key × Outcome) → Type 0 = λ ss. In (k, d) ss in elim (let j : In (k, d) (outcome_of t ∷ p.settled) = subst P settled i in j) [
        | inl e ↦ inr (n, f, put_here n f fs, (t, (let Q : List Settlement → Type 0 = λ ss. In t ss in subst Q (sym same) (inl refl)), sym e))
        | inr j ↦ elim (h.back k d j) [
          | inl g ↦ inl g
          | inr g ↦ inr (back_put n f was fs k d found moves g)
        ]
      ]);
    }

-- What is told besides.

in_posted : (m x : Message) (wire : List Message) → In x (posted m wire) → (x ≡ m) ⊎ In x wire
in_posted m x wire i = go (nat_lt (length wire) message_limit) i
  where
    go : (b : Bool) → In x (if b then wire ++ m ∷ [] else wire) → (x ≡ m) ⊎ In x wire
    go true j = elim (in_parts x wire (m ∷ []) j) [ inl h ↦ inr h | inr h ↦ elim h [ inl e ↦ inl e | inr none ↦ absurd none ] ]
    go false j = inr j

follows_sent : (o : Opening) (m : Message) (fs : Faces) (s : Shared) (p : protocol.World) → Follows o fs s p → Follows o fs (record s { wire = posted m s.wire }) (record p { sent = m ∷ p.sent })
follows_sent o m fs s p h = record {
  rack = h.rack;
  nodes = h.nodes;
  sent = λ x i. elim (in_posted m x s.wire i) [ inl e ↦ inl e | inr j ↦ inr (h.sent x j) ];
  accepted = h.accepted;
  read_only = h.read_only;
  labels = h.labels;
  settled = h.settled;
  given = h.given;
  back = h.back;
}

follows_accepted : (o : Opening) (k : Key) (fs : Faces) (s : Shared) (p : protocol.World) → Follows o fs s p → Follows o fs (record s { accepted = k ∷ s.accepted }) (record p { accepted = k ∷ p.accepted })
follows_accepted o k fs s p h = record {
  rack = h.rack;
  nodes = h.nodes;
  sent = h.sent;
  accepted = ap (λ ks. k ∷ ks) h.accepted;
  read_only = h.read_only;
  labels = h.labels;
  settled = h.settled;
  given = h.given;
  back = h.back;
}

follows_left : (o : Opening) (k : Key) (fs : Faces) (s : Shared) (p : protocol.World) → Follows o fs s p → Follows o fs (record s { read_only = k ∷ s.read_only }) (record p { read_only = k ∷ p.read_only })
follows_left o k fs s p h = record {
  rack = h.rack;
  nodes = h.nodes;
  sent = h.sent;
  accepted = h.accepted;
  read_only = ap (λ ks. k ∷ ks) h.read_only;
  labels = h.labels;
  settled = h.settled;
  given = h.given;
  back = h.back;
}

-- An act of the table.

-- what the protocol has of a node after it
abbrev pub face_after : table.Act → ℕ → Face → Face
face_after a moment f = record { node = node_after a f.node; settled = settled_more (settlement_of a moment) f.settled }

pub follows_act : (o : Opening) (n : Name) (a : table.Act) (moment : ℕ) (f : Face) (fs : Faces) (s : Shared) (p : protocol.World) → Follows o fs s p → fs n ≡ Some f
    → Follows o (put_face n (face_after a moment f) fs) (shared_tabled a s) (acts n a p)
follows_act o n a moment f fs s p h found = by a
  where
    here : (c : table.Act) → touched n c p.nodes n ≡ node_after c f.node
    here c = node_same n (node_after c (p.nodes n)) p.nodes ∙ ap (node_after c) (h.nodes n f found)

    there : (c : table.Act) (m : Name) → (m ≡ n → ⊥) → touched n c p.nodes m ≡ p.nodes m
    there c m ne = node_other n (node_after c (p.nodes n)) p.nodes m ne

    -- an act that changes the node alone
    moved : (c : table.Act) → settlement_of c moment ≡ None → Follows o (put_face n (face_after c moment f) fs) s (record p { nodes = touched n c p.nodes })
    moved c e = follows_moved o n (face_after c moment f) f fs s p (record p { nodes = touched n c p.nodes }) h found (ap (λ o. settled_more o f.settled) e) (here c) (there c) refl refl refl refl refl refl

    -- one that leaves it
    stays : (c : table.Act) → settlement_of c moment ≡ None → node_after c f.node ≡ f.node → Follows o (put_face n (face_after c moment f) fs) s p
    stays c e same = follows_moved o n (face_after c moment f) f fs s p p h found (ap (λ o. settled_more o f.settled) e) (h.nodes n f found ∙ sym same) (λ m ne. refl) refl refl refl refl refl refl

    by : (c : table.Act) → Follows o (put_face n (face_after c moment f) fs) (shared_tabled c s) (acts n c p)
    by (Notes b) = moved (Notes b) refl
    by (Accepts b c) = follows_accepted o (child b.key.tid c.serial) (put_face n (face_after (Accepts b c) moment f) fs) s (record p { nodes = touched n (Accepts b c) p.nodes }) (moved (Accepts b c) refl)
    by (Prepares b) = moved (Prepares b) refl
    by (Settles k out reason r) = follows_settles o n (face_after (Settles k out reason r) moment f) f (settlement k out reason moment) fs s p (acts n (Settles k out reason r) p) h found refl
        (here (Settles k out reason r)) (there (Settles k out reason r)) refl refl refl refl refl refl
    by (Leaves k) = follows_left o k (put_face n (face_after (Leaves k) moment f) fs) s (record p { nodes = touched n (Leaves k) p.nodes }) (moved (Leaves k) refl)
    by (Acknowledges k) = moved (Acknowledges k) refl
    by (Releases i x) = moved (Releases i x) refl
    by (Undoes k) = follows_settles o n (face_after (Undoes k) moment f) f (settlement k ToAbort SegFail moment) fs s p (acts n (Undoes k) p) h found refl
        (here (Undoes k)) (there (Undoes k)) refl refl refl refl refl refl
    by (Sends m) = follows_sent o m (put_face n (face_after (Sends m) moment f) fs) s p (stays (Sends m) refl refl)
    by (Prints l) = stays (Prints l) refl refl

-- A fall, a draw and a boot.

pub follows_crash : (o : Opening) (n : Name) (f : Face) (fs : Faces) (s : Shared) (p : protocol.World) → Follows o fs s p → fs n ≡ Some f
    → Follows o (put_face n (record f { node = crashed f.node }) fs) s (crashes n p)
follows_crash o n f fs s p h found =
    follows_moved o n (record f { node = crashed f.node }) f fs s p (crashes n p) h found refl (node_same n (crashed (p.nodes n)) p.nodes ∙ ap crashed (h.nodes n f found))
    (λ m ne. node_other n (crashed (p.nodes n)) p.nodes m ne) refl refl refl refl refl refl

pub follows_draw : (o : Opening) (n : Name) (f : Face) (fs : Faces) (s : Shared) (p : protocol.World) → Follows o fs s p → fs n ≡ Some f
    → Follows o (put_face n (record f { node = record f.node { seq = f.node.seq + 1 } }) fs) s (draws n p)
follows_draw o n f fs s p h found =
    follows_moved o n (record f { node = record f.node { seq = f.node.seq + 1 } }) f fs s p (draws n p) h found refl
    (node_same n (record (p.nodes n) { seq = (p.nodes n).seq + 1 }) p.nodes ∙ ap (λ (x : protocol.Node). let y : protocol.Node = record x { seq = x.seq + 1 } in y) (h.nodes n f found))
    (λ m ne. node_other n (record (p.nodes n) { seq = (p.nodes n).seq + 1 }) p.nodes m ne) refl refl refl refl refl refl

pub follows_raise : (o : Opening) (n : Name) (order : List Key) (f : Face) (fs : Faces) (s : Shared) (p : protocol.World) → Follows o fs s p → fs n ≡ Some f
    → Follows o (put_face n (record f { node = raised_node order f.node }) fs) s (raised n order p)
follows_raise o n order f fs s p h found =
    follows_moved o n (record f { node = raised_node order f.node }) f fs s p (raised n order p) h found refl (node_same n (raised_node order (p.nodes n)) p.nodes ∙ ap (raised_node order) (h.nodes n f found))
    (λ m ne. node_other n (raised_node order (p.nodes n)) p.nodes m ne) refl refl refl refl refl refl
