-- A whole list of acts, stopped anywhere.
use Rattle.std.proofs.Common.{zero, suc, take}
use Rattle.std.proofs.lemmas.Bool.{cases_Bool}
use Rattle.std.proofs.Common.{◌≡◌, ◌≢◌, ℕ, Bool, true, List, [], ◌∷◌, ◌++◌, Option, Some, None, ◌⊎◌, inl, inr, refl, ap, sym, subst, ◌∙◌}
use Rattle.vms_model.specs.Ids.{Id}
use Rattle.vms_model.specs.Transactions.{Outcome, Abort as ToAbort}
use Rattle.commit_protocol.specs.Messages.{Name, Message}
use Rattle.commit_protocol.specs.Table.{Key, Branch, Prepared, Act, Notes, Accepts, Prepares, Settles, Leaves, Acknowledges, Releases, Undoes, Sends, Prints, key_of, home_of, find, put, cut, cut_keys, table_after}
use Rattle.commit_protocol.specs.World.{Node, World, In, lost_after, last_after, node_after, touched, acts, acts_all, has_key, each_once, units_in_order, undo_all}
use Rattle.commit_protocol.specs.Agreement.{Status, View, view, IsOld, AreOld}
use Rattle.commit_protocol.proofs.Lists.{cases_name, told_key, find-put_other, find-cut, find-cut_other, Unique, unique-put, unique-cut}
use Rattle.commit_protocol.proofs.Invariant.{Says, later_trans, Inv, Later, Kept, later_by, later_says, later_old}
use Rattle.commit_protocol.proofs.Sending.{later_sends}
use Rattle.commit_protocol.specs.Rows.{sends_all}
use Rattle.commit_protocol.proofs.Bridge.{touched_clock, in_cut_keys, lost_here, lost_away, acted, AtHome, May, kept_act, view_acts, node_same, node_other}

pub record Good (w : World) : Type 0 where
  pub inv : Inv (view w)
  pub home : (n : Name) (k : Key) (b : Branch) → find k (w.nodes n).table ≡ Some b → k.serial.node ≡ n
  pub unique : (n : Name) → Unique (w.nodes n).table
  pub rack_up : (n : Name) → (w.nodes n).up ≡ true → w.rack n ≡ true
  pub labels : (p : Id × Id) → In p w.labels → IsOld (view w) p.0
  pub lost_home : (n : Name) (k : Key) → In k (w.nodes n).lost → k.serial.node ≡ n

-- a node's last settlement is one of its own branches, or the one that it had
abbrev pub LastFrom : World → World → Type 0
LastFrom v w = (n : Name) (p : Key × Outcome) → (w.nodes n).last ≡ Some p → ((home_of p.0 ≡ n) × In p w.settled) ⊎ ((v.nodes n).last ≡ Some p)

pub record Goes (v w : World) : Type 0 where
  pub good : Good w
  pub later : Later (view v) (view w)
  pub last : LastFrom v w
  pub rack : w.rack ≡ v.rack

pub last_same : (v w : World) → ((n : Name) → (w.nodes n).last ≡ (v.nodes n).last) → LastFrom v w
last_same v w same n p e = inr (sym (same n) ∙ e)

pub later_refl : (v : View) → Later v v
later_refl v = later_by v v (λ n h. h) (λ k h. h) (λ k o h. h) (λ k h. h) refl refl refl (λ k h. inl h) (λ t h. h.undecided) (λ t h. h.commits) (λ n x i h. h)

pub goes_refl : (w : World) → Good w → Goes w w
goes_refl w g = record { good = g; later = later_refl (view w); last = λ n p e. inr e; rack = refl }

pub goes_trans : (u v w : World) → Goes u v → Goes v w → Goes u w
goes_trans u v w a b = record {
  good = b.good;
  later = later_trans (view u) (view v) (view w) a.later b.later;
  last = λ n p e. elim (b.last n p e) [
    | inl h ↦ inl h
    | inr h ↦ elim (a.last n p h) [ inl g ↦ inl (g.0, b.later.settled p.0 p.1 g.1) | inr g ↦ inr g ]
  ];
  rack = b.rack ∙ a.rack;
}

home_put : (n : Name) (d : Branch) (bs : List Branch) → d.key.serial.node ≡ n → ((k : Key) (b : Branch) → find k bs ≡ Some b → k.serial.node ≡ n) → (k : Key) (b : Branch) → find k (put d bs) ≡ Some b → k.serial.node ≡ n
home_put n d bs h was k b e = elim (told_key d.key k) [
  | inl q ↦ ap (λ (x : Key). x.serial.node) (sym q.1) ∙ h
  | inr q ↦ was k b (sym (find-put_other k d bs q.1) ∙ e)
]

home_cut : (n : Name) (j : Key) (bs : List Branch) → ((k : Key) (b : Branch) → find k bs ≡ Some b → k.serial.node ≡ n) → (k : Key) (b : Branch) → find k (cut j bs) ≡ Some b → k.serial.node ≡ n
home_cut n j bs was k b e = elim (told_key j k) [
  | inl q ↦ absurd (let P : Key → Type 0 = λ x. find x (cut j bs) ≡ None in let z : None ≡ Some b = sym (subst P q.1 (find-cut j bs)) ∙ e in cc)
  | inr q ↦ was k b (sym (find-cut_other j k bs q.1) ∙ e)
]

-- the table after an act has this node's branches alone
home_table : (n : Name) (a : Act) (nodes : Name → Node) → AtHome n a → ((k : Key) (b : Branch) → find k (nodes n).table ≡ Some b → k.serial.node ≡ n)
    → (k : Key) (b : Branch) → find k (table_after a (nodes n).table) ≡ Some b → k.serial.node ≡ n
home_table n (Notes d) nodes h was k b e = home_put n d (nodes n).table h was k b e
home_table n (Accepts d c) nodes h was k b e = home_put n (record d { accepted = d.accepted ++ c ∷ [] }) (nodes n).table h was k b e
home_table n (Prepares d) nodes h was k b e = home_put n (record d { state = Prepared }) (nodes n).table h was k b e
home_table n (Settles j o why r) nodes h was k b e = home_cut n j (nodes n).table was k b e
home_table n (Leaves j) nodes h was k b e = home_cut n j (nodes n).table was k b e
home_table n (Acknowledges j) nodes h was k b e = was k b e
home_table n (Releases j x) nodes h was k b e = was k b e
home_table n (Undoes j) nodes h was k b e = home_cut n j (nodes n).table was k b e
home_table n (Sends m) nodes h was k b e = was k b e
home_table n (Prints l) nodes h was k b e = was k b e

home_touched : (n : Name) (a : Act) (nodes : Name → Node) → AtHome n a → ((m : Name) (k : Key) (b : Branch) → find k (nodes m).table ≡ Some b → k.serial.node ≡ m)
    → (m : Name) (k : Key) (b : Branch) → find k (touched n a nodes m).table ≡ Some b → k.serial.node ≡ m
home_touched n a nodes h was m k b e =
    let new : Node = node_after a (nodes n) in
    elim (cases_name m n) [
      | inl q ↦ let P : Name → Type 0 = λ x. find k (touched n a nodes x).table ≡ Some b in
          home_table n a nodes h (was n) k b (ap (λ (x : Node). find k x.table) (sym (node_same n new nodes)) ∙ subst P q e) ∙ sym q
      | inr q ↦ was m k b (ap (λ (x : Node). find k x.table) (sym (node_other n new nodes m q)) ∙ e)
    ]

pub acts_labels : (n : Name) (a : Act) (w : World) → (acts n a w).labels ≡ w.labels
acts_labels n (Notes b) w = refl
acts_labels n (Accepts b c) w = refl
acts_labels n (Prepares b) w = refl
acts_labels n (Settles k o why r) w = refl
acts_labels n (Leaves k) w = refl
acts_labels n (Acknowledges k) w = refl
acts_labels n (Releases k x) w = refl
acts_labels n (Undoes k) w = refl
acts_labels n (Sends m) w = refl
acts_labels n (Prints l) w = refl

pub home_acts : (n : Name) (a : Act) (w : World) → AtHome n a → Good w → (m : Name) (k : Key) (b : Branch) → find k ((acts n a w).nodes m).table ≡ Some b → k.serial.node ≡ m
home_acts n (Notes d) w h g = home_touched n (Notes d) w.nodes h g.home
home_acts n (Accepts d c) w h g = home_touched n (Accepts d c) w.nodes h g.home
home_acts n (Prepares d) w h g = home_touched n (Prepares d) w.nodes h g.home
home_acts n (Settles j o why r) w h g = home_touched n (Settles j o why r) w.nodes h g.home
home_acts n (Leaves j) w h g = home_touched n (Leaves j) w.nodes h g.home
home_acts n (Acknowledges j) w h g = home_touched n (Acknowledges j) w.nodes h g.home
home_acts n (Releases j x) w h g = home_touched n (Releases j x) w.nodes h g.home
home_acts n (Undoes j) w h g = home_touched n (Undoes j) w.nodes h g.home
home_acts n (Sends m) w h g = g.home
home_acts n (Prints l) w h g = g.home

unique_table : (n : Name) (a : Act) (bs : List Branch) → Unique bs → Unique (table_after a bs)
unique_table n (Notes d) bs u = unique-put d bs u
unique_table n (Accepts d c) bs u = unique-put (record d { accepted = d.accepted ++ c ∷ [] }) bs u
unique_table n (Prepares d) bs u = unique-put (record d { state = Prepared }) bs u
unique_table n (Settles j o why r) bs u = unique-cut j bs u
unique_table n (Leaves j) bs u = unique-cut j bs u
unique_table n (Acknowledges j) bs u = u
unique_table n (Releases j x) bs u = u
unique_table n (Undoes j) bs u = unique-cut j bs u
unique_table n (Sends m) bs u = u
unique_table n (Prints l) bs u = u

unique_touched : (n : Name) (a : Act) (nodes : Name → Node) → ((m : Name) → Unique (nodes m).table) → (m : Name) → Unique (touched n a nodes m).table
unique_touched n a nodes u m =
    let new : Node = node_after a (nodes n) in
    let P : Node → Type 0 = λ x. Unique x.table in
    elim (cases_name m n) [
      | inl q ↦ let Q : Name → Type 0 = λ x. Unique (touched n a nodes x).table in subst Q (sym q) (subst P (sym (node_same n new nodes)) (unique_table n a (nodes n).table (u n)))
      | inr q ↦ subst P (sym (node_other n new nodes m q)) (u m)
    ]

pub unique_acts : (n : Name) (a : Act) (w : World) → Good w → (m : Name) → Unique ((acts n a w).nodes m).table
unique_acts n (Notes d) w g = unique_touched n (Notes d) w.nodes g.unique
unique_acts n (Accepts d c) w g = unique_touched n (Accepts d c) w.nodes g.unique
unique_acts n (Prepares d) w g = unique_touched n (Prepares d) w.nodes g.unique
unique_acts n (Settles j o why r) w g = unique_touched n (Settles j o why r) w.nodes g.unique
unique_acts n (Leaves j) w g = unique_touched n (Leaves j) w.nodes g.unique
unique_acts n (Acknowledges j) w g = unique_touched n (Acknowledges j) w.nodes g.unique
unique_acts n (Releases j x) w g = unique_touched n (Releases j x) w.nodes g.unique
unique_acts n (Undoes j) w g = unique_touched n (Undoes j) w.nodes g.unique
unique_acts n (Sends m) w g = g.unique
unique_acts n (Prints l) w g = g.unique

lost_less : (a : Act) (ls : List Key) (k : Key) → In k (lost_after a ls) → In k ls
lost_less (Undoes j) ls k h = (in_cut_keys j ls k h).1
lost_less _ ls k h = h

lost_touched : (n : Name) (a : Act) (nodes : Name → Node) (m : Name) (k : Key) → In k (touched n a nodes m).lost → In k (nodes m).lost
lost_touched n a nodes m k h =
    let new : Node = node_after a (nodes n) in
    let T : Node → Type 0 = λ x. In k x.lost in
    elim (cases_name m n) [
      | inl q ↦ let P : Name → Type 0 = λ x. In k (touched n a nodes x).lost in let Q : Name → Type 0 = λ x. In k (nodes x).lost in
          subst Q (sym q) (lost_less a (nodes n).lost k (subst T (node_same n new nodes) (subst P q h)))
      | inr q ↦ subst T (node_other n new nodes m q) h
    ]

pub lost_acts : (n : Name) (a : Act) (w : World) (m : Name) (k : Key) → In k ((acts n a w).nodes m).lost → In k (w.nodes m).lost
lost_acts n (Notes b) w m k h = lost_touched n (Notes b) w.nodes m k h
lost_acts n (Accepts b c) w m k h = lost_touched n (Accepts b c) w.nodes m k h
lost_acts n (Prepares b) w m k h = lost_touched n (Prepares b) w.nodes m k h
lost_acts n (Settles j o why r) w m k h = lost_touched n (Settles j o why r) w.nodes m k h
lost_acts n (Leaves j) w m k h = lost_touched n (Leaves j) w.nodes m k h
lost_acts n (Acknowledges j) w m k h = lost_touched n (Acknowledges j) w.nodes m k h
lost_acts n (Releases j x) w m k h = lost_touched n (Releases j x) w.nodes m k h
lost_acts n (Undoes j) w m k h = lost_touched n (Undoes j) w.nodes m k h
lost_acts n (Sends x) w m k h = h
lost_acts n (Prints l) w m k h = h

pub acts_rack : (n : Name) (a : Act) (w : World) → (acts n a w).rack ≡ w.rack
acts_rack n (Notes b) w = refl
acts_rack n (Accepts b c) w = refl
acts_rack n (Prepares b) w = refl
acts_rack n (Settles k o why r) w = refl
acts_rack n (Leaves k) w = refl
acts_rack n (Acknowledges k) w = refl
acts_rack n (Releases k x) w = refl
acts_rack n (Undoes k) w = refl
acts_rack n (Sends m) w = refl
acts_rack n (Prints l) w = refl

pub acts_up : (n : Name) (a : Act) (w : World) (m : Name) → ((acts n a w).nodes m).up ≡ (w.nodes m).up
acts_up n (Notes b) w m = ap (λ (c : Status). c.up) (touched_clock n (Notes b) w.nodes m)
acts_up n (Accepts b c) w m = ap (λ (c : Status). c.up) (touched_clock n (Accepts b c) w.nodes m)
acts_up n (Prepares b) w m = ap (λ (c : Status). c.up) (touched_clock n (Prepares b) w.nodes m)
acts_up n (Settles k o why r) w m = ap (λ (c : Status). c.up) (touched_clock n (Settles k o why r) w.nodes m)
acts_up n (Leaves k) w m = ap (λ (c : Status). c.up) (touched_clock n (Leaves k) w.nodes m)
acts_up n (Acknowledges k) w m = ap (λ (c : Status). c.up) (touched_clock n (Acknowledges k) w.nodes m)
acts_up n (Releases k x) w m = ap (λ (c : Status). c.up) (touched_clock n (Releases k x) w.nodes m)
acts_up n (Undoes k) w m = ap (λ (c : Status). c.up) (touched_clock n (Undoes k) w.nodes m)
acts_up n (Sends x) w m = refl
acts_up n (Prints l) w m = refl

pub some_same : {A : Type 0} {x y : A} → Some x ≡ Some y → x ≡ y
some_same e = cc

-- the last settlement after an act
abbrev pub LastOf : Name → Option (Key × Outcome) → List (Key × Outcome) → Option (Key × Outcome) → Type 0
LastOf n old settled new = (p : Key × Outcome) → new ≡ Some p → ((home_of p.0 ≡ n) × In p settled) ⊎ (old ≡ Some p)

last_settled : (n : Name) (k : Key) (o : Outcome) (old : Option (Key × Outcome)) (settled : List (Key × Outcome)) → home_of k ≡ n → LastOf n old ((k, o) ∷ settled) (Some (k, o))
last_settled n k o old settled h p e =
    let q : (k, o) ≡ p = some_same e in
    inl ((ap (λ (x : Key × Outcome). home_of x.0) (sym q) ∙ h), inl (sym q))

last_at : (n : Name) (a : Act) (nodes : Name → Node) (settled : List (Key × Outcome)) → LastOf n (nodes n).last settled (last_after a (nodes n).last)
    → (m : Name) (p : Key × Outcome) → (touched n a nodes m).last ≡ Some p → ((home_of p.0 ≡ m) × In p settled) ⊎ ((nodes m).last ≡ Some p)
last_at n a nodes settled is m p e =
    elim (cases_name m n) [
      | inl q ↦
          let P : Name → Type 0 = λ x. ((home_of p.0 ≡ x) × In p settled) ⊎ ((nodes x).last ≡ Some p) in
          let Q : Name → Type 0 = λ x. (touched n a nodes x).last ≡ Some p in
          subst P (sym q) (is p (ap (λ (x : Node). x.last) (sym (node_same n (node_after a (nodes n)) nodes)) ∙ subst Q q e))
      | inr q ↦ inr (ap (λ (x : Node). x.last) (sym (node_other n (node_after a (nodes n)) nodes m q)) ∙ e)
    ]

last_act : (n : Name) (a : Act) (w : World) → AtHome n a → LastFrom w (acts n a w)
last_act n (Notes b) w h = last_at n (Notes b) w.nodes w.settled (λ p e. inr e)
last_act n (Accepts b c) w h = last_at n (Accepts b c) w.nodes w.settled (λ p e. inr e)
last_act n (Prepares b) w h = last_at n (Prepares b) w.nodes w.settled (λ p e. inr e)
last_act n (Settles k o why r) w h = last_at n (Settles k o why r) w.nodes ((k, o) ∷ w.settled) (last_settled n k o (w.nodes n).last w.settled h)
last_act n (Leaves k) w h = last_at n (Leaves k) w.nodes w.settled (λ p e. inr e)
last_act n (Acknowledges k) w h = last_at n (Acknowledges k) w.nodes w.settled (λ p e. inr e)
last_act n (Releases s x) w h = last_at n (Releases s x) w.nodes w.settled (λ p e. inr e)
last_act n (Undoes k) w h = last_at n (Undoes k) w.nodes ((k, ToAbort) ∷ w.settled) (last_settled n k ToAbort (w.nodes n).last w.settled h)
last_act n (Sends m) w h = λ x p e. inr e
last_act n (Prints l) w h = λ x p e. inr e

pub goes_act : (n : Name) (a : Act) (w : World) → Good w → AtHome n a → May n a (view w) → Goes w (acts n a w)
goes_act n a w g h may =
    let P : View → Type 0 = λ x. Kept (view w) x in
    let k : Kept (view w) (view (acts n a w)) = subst P (sym (view_acts n a w h)) (kept_act n a (view w) g.inv may) in
    record {
      good = record {
        inv = k.inv;
        home = home_acts n a w h g;
        unique = unique_acts n a w g;
        rack_up = λ m u. subst (λ (r : Name → Bool). r m ≡ true) (sym (acts_rack n a w)) (g.rack_up m (sym (acts_up n a w m) ∙ u));
        lost_home = λ m k j. g.lost_home m k (lost_acts n a w m k j);
        labels = λ p i. k.later.old p.0 (g.labels p (let Q : List (Id × Id) → Type 0 = λ l. In p l in subst Q (acts_labels n a w) i));
      };
      later = k.later;
      last = last_act n a w h;
      rack = acts_rack n a w;
    }

abbrev pub MayAll : Name → List Act → View → Type 0
MayAll n [] v = Unit {0}
MayAll n (a ∷ todo) v = AtHome n a × May n a v × MayAll n todo (acted n a v)

abbrev pub acted_all : Name → List Act → View → View
acted_all n [] v = v
acted_all n (a ∷ todo) v = acted_all n todo (acted n a v)

pub kept_refl : (v : View) → Inv v → Kept v v
kept_refl v i = record { inv = i; later = later_refl v }

pub kept_trans : (u v w : View) → Kept u v → Kept v w → Kept u w
kept_trans u v w a b = record { inv = b.inv; later = later_trans u v w a.later b.later }

pub kept_all : (n : Name) (todo : List Act) (v : View) → Inv v → MayAll n todo v → Kept v (acted_all n todo v)
kept_all n [] v i h = kept_refl v i
kept_all n (a ∷ todo) v i h = let k = kept_act n a v i h.1 in kept_trans v (acted n a v) (acted_all n todo (acted n a v)) k (kept_all n todo (acted n a v) k.inv h.2)

pub may_append : (n : Name) (xs ys : List Act) (v : View) → MayAll n xs v → MayAll n ys (acted_all n xs v) → MayAll n (xs ++ ys) v
may_append n [] ys v h g = g
may_append n (a ∷ xs) ys v h g = (h.0, h.1, may_append n xs ys (acted n a v) h.2 g)

pub may_take : (n : Name) (j : ℕ) (todo : List Act) (v : View) → MayAll n todo v → MayAll n (take j todo) v
may_take n zero [] v h = tt
may_take n zero (a ∷ todo) v h = tt
may_take n (suc j) [] v h = tt
may_take n (suc j) (a ∷ todo) v h = (h.0, h.1, may_take n j todo (acted n a v) h.2)

pub goes_all : (n : Name) (todo : List Act) (w : World) → Good w → MayAll n todo (view w) → Goes w (acts_all n todo w)
goes_all n [] w g h = goes_refl w g
goes_all n (a ∷ todo) w g h =
    let one = goes_act n a w g h.0 h.1 in
    let P : View → Type 0 = λ x. MayAll n todo x in
    goes_trans w (acts n a w) (acts_all n todo (acts n a w)) one (goes_all n todo (acts n a w) one.good (subst P (sym (view_acts n a w h.0)) h.2))

-- messages that may be sent, one after another
pub may_sends : (n : Name) (ms : List Message) (v : View) → ((m : Message) → In m ms → Says v m.kind m.to (key_of m) × AreOld v (key_of m)) → MayAll n (sends_all ms) v
may_sends n [] v h = tt
may_sends n (m ∷ ms) v h = (
  tt,
  h m (inl refl),
  may_sends n ms (acted n (Sends m) v) (λ x i.
      let l = later_sends v m in let q = h x (inr i) in (later_says v (acted n (Sends m) v) l x.kind x.to (key_of x) q.0, later_old v (acted n (Sends m) v) l (key_of x) q.1)),
)

-- the lost units of a node are undone, one after another
abbrev pub Apart : List Key → Type 0
Apart [] = Unit {0}
Apart (k ∷ ks) = (In k ks → ⊥) × Apart ks

apart_cut : (k : Key) (ks : List Key) → Apart ks → Apart (cut_keys k ks)
apart_cut k [] a = tt
apart_cut k (j ∷ js) a =
    elim (told_key j k) [
      | inl e ↦ rw (e.0) (apart_cut k js a.1)
      | inr e ↦ rw (e.0) ((λ h. a.0 (in_cut_keys k js j h).1), apart_cut k js a.1)
    ]

pub apart_once : (ks : List Key) → Apart (each_once ks)
apart_once [] = tt
apart_once (k ∷ ks) = ((λ h. (in_cut_keys k (each_once ks) k h).0 refl), apart_cut k (each_once ks) (apart_once ks))

pub in_once : (ks : List Key) (k : Key) → In k (each_once ks) → In k ks
in_once [] k h = h
in_once (j ∷ js) k (inl e) = inl e
in_once (j ∷ js) k (inr e) = inr (in_once js k (in_cut_keys j (each_once js) k e).1)

still_there : (k x : Key) (ls : List Key) → k ≢ x → In x ls → In x (cut_keys k ls)
still_there k x [] ne h = h
still_there k x (j ∷ js) ne h =
    elim (told_key j k) [
      | inl e ↦ rw (e.0) (elim h [ inl z ↦ absurd (ne (sym e.1 ∙ sym z)) | inr z ↦ still_there k x js ne z ])
      | inr e ↦ rw (e.0) (elim h [ inl z ↦ inl z | inr z ↦ inr (still_there k x js ne z) ])
    ]

has_key_in : (k : Key) (ls : List Key) → has_key k ls ≡ true → In k ls
has_key_in k [] h = absurd cc
has_key_in k (j ∷ ls) h =
    elim (told_key j k) [
      | inl e ↦ inl (sym e.1)
      | inr e ↦ inr (has_key_in k ls (let h' : has_key k ls ≡ true = rw (e.0) at h in h'))
    ]

pub in_order : (order ls : List Key) (k : Key) → In k (units_in_order order ls) → In k ls
in_order [] ls k h = in_once ls k h
in_order (j ∷ order) ls k h =
    elim (cases_Bool (has_key j ls)) [
      | inl e ↦ let h' : In k (j ∷ units_in_order order (cut_keys j ls)) = rw e at h in elim h' [
        | inl q ↦ (let P : Key → Type 0 = λ x. In x ls in subst P (sym q) (has_key_in j ls e))
        | inr q ↦ (in_cut_keys j ls k (in_order order (cut_keys j ls) k q)).1
      ]
      | inr e ↦ let h' : In k (units_in_order order ls) = rw e at h in in_order order ls k h'
    ]

pub apart_in_order : (order ls : List Key) → Apart (units_in_order order ls)
apart_in_order [] ls = apart_once ls
apart_in_order (j ∷ order) ls =
    elim (cases_Bool (has_key j ls)) [
      | inl e ↦ rw e ((λ h. (in_cut_keys j ls j (in_order order (cut_keys j ls) j h)).0 refl), apart_in_order order (cut_keys j ls))
      | inr e ↦ rw e (apart_in_order order ls)
    ]

pub may_undo : (n : Name) (ks : List Key) (v : View) → Apart ks → ((k : Key) → In k ks → In k (v.lost n)) → ((m : Name) (k : Key) → In k (v.lost m) → k.serial.node ≡ m) → MayAll n (undo_all ks) v
may_undo n [] v a h home = tt
may_undo n (k ∷ ks) v a h home =
    let new : List Key = cut_keys k (v.lost n) in
    let less : (m : Name) (x : Key) → In x ((acted n (Undoes k) v).lost m) → In x (v.lost m) = λ m x j. elim (cases_name m n) [
      | inl e ↦ let P : Name → Type 0 = λ y. In x ((acted n (Undoes k) v).lost y) in let T : List Key → Type 0 = λ y. In x y in let Q : Name → Type 0 = λ y. In x (v.lost y) in
          subst Q (sym e) (in_cut_keys k (v.lost n) x (subst T (lost_here n new v.lost) (subst P e j))).1
      | inr e ↦ let T : List Key → Type 0 = λ y. In x y in subst T (lost_away n new v.lost m e) j
    ] in (
      home n k (h k (inl refl)),
      (h k (inl refl), λ m x j e q. e (sym (home m x j) ∙ (ap (λ (y : Key). y.serial.node) (sym q) ∙ home n k (h k (inl refl))))),
      may_undo n ks (acted n (Undoes k) v) a.1
          (λ x j. let T : List Key → Type 0 = λ y. In x y in subst T (sym (lost_here n new v.lost)) (still_there k x (v.lost n) (λ q. a.0 (let P : Key → Type 0 = λ y. In y ks in subst P (sym q) j)) (h x (inr j))))
          (λ m x j. home m x (less m x j)),
    )
