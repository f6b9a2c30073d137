-- The rows of a node follow the acts of its table, whole or cut.
use Rattle.std.specs.Prelude.{if◌then◌else◌}
use Rattle.std.proofs.Common.{◌≡◌, ℕ, zero, suc, take, drop, length, Bool, true, false, List, [], ◌∷◌, Option, Some, None, inl, inr, refl, ap, sym, subst, ◌∙◌}
use Rattle.commit_protocol.specs.Messages.{Name}
use Rattle.commit_protocol.specs.Table as table
use Rattle.commit_protocol.specs.Table.{Key, Notes, Accepts, Prepares, Settles, Leaves, Acknowledges, Releases, Undoes, Sends, Prints}
use Rattle.commit_protocol.specs.World as protocol
use Rattle.commit_protocol.specs.World.{In, node_after, lost_after, crashed, crashes, acts_all}
use Rattle.commit_protocol.specs.Opening.{Opening}
use Rattle.commit_protocol.proofs.Lists.{cases_name}
use Rattle.run_model.specs.World.{Shared, Act, Formats, Boots, ComesUp, Creates, Marks, Saves, Recovers, Draws, Labels, Numbers, Tables, Changes, Holds, Directs, Arms, Clocks, Declares, Falls, Node, acted, is_durable, settlement_of, settled_more, shared_tabled, shared_after, fallen, next_moment, tm_of}
use Rattle.run_model.specs.Answers.{Row, table_rows}
use Rattle.run_model.specs.Steps.{shared_then, node_after_rows, shared_after_rows, if_durable, act_begun}
use Rattle.run_model.specs.Steps as steps
use Rattle.run_agreement.specs.Seen.{Face, IsTold, IsDownFace, IsBegun, IsLeft, raw, landed, has_volume}
use Rattle.run_model.specs.log_laws.Slots.{slots_after}
use Rattle.run_model.proofs.log_laws.RowSlots.{length_slots}
use Rattle.run_agreement.specs.Following.{Faces, Follows}
use Rattle.run_agreement.proofs.Faces.{put_face, put_here, put_there, face_after, follows_same, follows_act, follows_crash}
use Rattle.run_agreement.proofs.Left.{told_left}

-- a node that is up, with units that are still to be undone
abbrev pub standing : List Key → Node → Face
standing lost x = record { node = raw lost x; settled = x.settled }

-- and one that fell so
abbrev pub lying : List Key → Node → Face
lying lost x = record { node = crashed (raw lost x); settled = x.settled }

abbrev pub lost_all : List table.Act → List Key → List Key
lost_all [] lost = lost
lost_all (a ∷ todo) lost = lost_all todo (lost_after a lost)

-- a node after something that leaves its name, its volume, and whether it is up
pub record Keeps (x z : Node) : Type 0 where
  pub name : z.name ≡ x.name
  pub volume : has_volume z ≡ has_volume x
  pub up : z.up ≡ x.up
  pub under_way : z.under_way ≡ x.under_way
  pub slots : length z.durable.log ≡ length x.durable.log

pub keeps_itself : (x : Node) → Keeps x x
keeps_itself x = record { name = refl; volume = refl; up = refl; under_way = refl; slots = refl }

pub keeps_on : (x y z : Node) → Keeps x y → Keeps y z → Keeps x z
keeps_on x y z a b = record { name = b.name ∙ a.name; volume = b.volume ∙ a.volume; up = b.up ∙ a.up; under_way = b.under_way ∙ a.under_way; slots = b.slots ∙ a.slots }

pub none_lost : (c : table.Act) → lost_after c [] ≡ []
none_lost (Undoes k) = refl
none_lost (Notes b) = refl
none_lost (Accepts b c) = refl
none_lost (Prepares b) = refl
none_lost (Settles k out reason r) = refl
none_lost (Leaves k) = refl
none_lost (Acknowledges k) = refl
none_lost (Releases i m) = refl
none_lost (Sends m) = refl
none_lost (Prints l) = refl

pub lost_none : (todo : List table.Act) → lost_all todo [] ≡ []
lost_none [] = refl
lost_none (a ∷ todo) = ap (lost_all todo) (none_lost a) ∙ lost_none todo

-- an act does to its node what this act of the table does, as far as the protocol sees it
pub record IsTable (act : Act) (a : table.Act) (x : Node) : Type 0 where
  pub moment : ℕ
  pub after : (lost : List Key) → raw (lost_after a lost) (acted act x) ≡ protocol.node_after a (raw lost x)
  pub settled : (acted act x).settled ≡ settled_more (settlement_of a moment) x.settled
  pub shared : (s : Shared) → shared_after act s ≡ shared_tabled a s
  pub alone : is_durable act ≡ true → (s : Shared) → shared_tabled a s ≡ s
  pub keeps : Keeps x (acted act x)

pub is_table : (a : table.Act) (moment : ℕ) (x : Node) → IsTable (Tables a moment) a x
is_table a moment x = record { moment = moment; after = after a; settled = settled a; shared = λ s. refl; alone = alone a; keeps = keeps a }
  where
    slots : (c : table.Act) → length (slots_after c x.volatile.records x.durable.log) ≡ length x.durable.log
    slots c = length_slots c x.volatile.records x.durable.log

    keeps : (c : table.Act) → Keeps x (acted (Tables c moment) x)
    keeps (Notes b) = record { name = refl; volume = refl; up = refl; under_way = refl; slots = slots (Notes b) }
    keeps (Accepts b d) = record { name = refl; volume = refl; up = refl; under_way = refl; slots = slots (Accepts b d) }
    keeps (Prepares b) = record { name = refl; volume = refl; up = refl; under_way = refl; slots = slots (Prepares b) }
    keeps (Settles k out reason r) = record { name = refl; volume = refl; up = refl; under_way = refl; slots = slots (Settles k out reason r) }
    keeps (Leaves k) = record { name = refl; volume = refl; up = refl; under_way = refl; slots = slots (Leaves k) }
    keeps (Acknowledges k) = record { name = refl; volume = refl; up = refl; under_way = refl; slots = slots (Acknowledges k) }
    keeps (Releases i m) = record { name = refl; volume = refl; up = refl; under_way = refl; slots = slots (Releases i m) }
    keeps (Undoes k) = record { name = refl; volume = refl; up = refl; under_way = refl; slots = slots (Undoes k) }
    keeps (Sends m) = record { name = refl; volume = refl; up = refl; under_way = refl; slots = slots (Sends m) }
    keeps (Prints l) = record { name = refl; volume = refl; up = refl; under_way = refl; slots = slots (Prints l) }

    after : (c : table.Act) (lost : List Key) → raw (lost_after c lost) (acted (Tables c moment) x) ≡ protocol.node_after c (raw lost x)
    after (Notes b) lost = refl
    after (Accepts b c) lost = refl
    after (Prepares b) lost = refl
    after (Settles k out reason r) lost = refl
    after (Leaves k) lost = refl
    after (Acknowledges k) lost = refl
    after (Releases i m) lost = refl
    after (Undoes k) lost = refl
    after (Sends m) lost = refl
    after (Prints l) lost = refl

    settled : (c : table.Act) → (acted (Tables c moment) x).settled ≡ settled_more (settlement_of c moment) x.settled
    settled (Notes b) = refl
    settled (Accepts b c) = refl
    settled (Prepares b) = refl
    settled (Settles k out reason r) = refl
    settled (Leaves k) = refl
    settled (Acknowledges k) = refl
    settled (Releases i m) = refl
    settled (Undoes k) = refl
    settled (Sends m) = refl
    settled (Prints l) = refl

    alone : (c : table.Act) → is_durable (Tables c moment) ≡ true → (s : Shared) → shared_tabled c s ≡ s
    alone (Notes b) h s = refl
    alone (Accepts b c) h s = absurd (let f : false ≡ true = h in cc)
    alone (Prepares b) h s = refl
    alone (Settles k out reason r) h s = refl
    alone (Leaves k) h s = absurd (let f : false ≡ true = h in cc)
    alone (Acknowledges k) h s = refl
    alone (Releases i m) h s = refl
    alone (Undoes k) h s = refl
    alone (Sends m) h s = absurd (let f : false ≡ true = h in cc)
    alone (Prints l) h s = refl

pub act_goes : (o : Opening) (n : Name) (act : Act) (a : table.Act) (lost : List Key) (x : Node) (fs : Faces) (s : Shared) (p : protocol.World) → IsTable act a x → Follows o fs s p → fs n ≡ Some (standing lost x)
    → Follows o (put_face n (standing (lost_after a lost) (acted act x)) fs) (shared_after act s) (protocol.acts n a p)
act_goes o n act a lost x fs s p is h found =
    let done = follows_act o n a is.moment (standing lost x) fs s p h found in
    let same : face_after a is.moment (standing lost x) ≡ standing (lost_after a lost) (acted act x) = λ i. record { node = sym (is.after lost) i; settled = sym is.settled i } in
    let P : Face → Type 0 = λ g. Follows o (put_face n g fs) (shared_tabled a s) (protocol.acts n a p) in
    let Q : Shared → Type 0 = λ t. Follows o (put_face n (standing (lost_after a lost) (acted act x)) fs) t (protocol.acts n a p) in
    subst Q (sym (is.shared s)) (subst P same done)

-- Rows.

-- these rows do what these acts of the table do, and the disk tells the table after each of them
abbrev pub Match : List Row → List table.Act → List Key → Node → Type 0
Match [] [] lost x = Unit {0}
Match [] (a ∷ todo) lost x = ⊥
Match (r ∷ rs) [] lost x = ⊥
Match (r ∷ rs) (a ∷ todo) lost x = (act : Act) × (r.act ≡ Some act) × IsTable act a x × IsTold (lost_after a lost) (acted act x) × Match rs todo (lost_after a lost) (acted act x)

-- the disk tells the table after each of these acts
abbrev pub AllTold : List table.Act → List Key → Node → Type 0
AllTold [] lost x = Unit {0}
AllTold (a ∷ todo) lost x = IsTold (lost_after a lost) (acted (Tables a (next_moment x)) x) × AllTold todo (lost_after a lost) (acted (Tables a (next_moment x)) x)

pub rows_match : (todo : List table.Act) (lost : List Key) (x : Node) (s : Shared) → AllTold todo lost x → Match (table_rows todo s x) todo lost x
rows_match [] lost x s t = tt
rows_match (a ∷ todo) lost x s t =
    let act : Act = Tables a (next_moment x) in
    (act, refl, is_table a (next_moment x) x, t.0, rows_match todo (lost_after a lost) (acted act x) (shared_after act s) t.1)

pub put_twice : (n : Name) (f g : Face) (fs : Faces) (m : Name) → put_face n g (put_face n f fs) m ≡ put_face n g fs m
put_twice n f g fs m = elim (cases_name m n) [
  | inl same ↦ let P : Name → Type 0 = λ k. put_face n g (put_face n f fs) k ≡ put_face n g fs k in subst P (sym same) (put_here n g (put_face n f fs) ∙ sym (put_here n g fs))
  | inr away ↦ put_there n g (put_face n f fs) m away ∙ (put_there n f fs m away ∙ sym (put_there n g fs m away))
]

pub put_itself : (n : Name) (f : Face) (fs : Faces) → fs n ≡ Some f → (m : Name) → fs m ≡ put_face n f fs m
put_itself n f fs e m = elim (cases_name m n) [
  | inl same ↦ let P : Name → Type 0 = λ k. fs k ≡ put_face n f fs k in subst P (sym same) (e ∙ sym (put_here n f fs))
  | inr away ↦ sym (put_there n f fs m away)
]

-- once more at the same node
pub put_on : (o : Opening) (n : Name) (f g : Face) (fs : Faces) (s : Shared) (p : protocol.World) → Follows o (put_face n g (put_face n f fs)) s p → Follows o (put_face n g fs) s p
put_on o n f g fs s p h = follows_same o (put_face n g (put_face n f fs)) (put_face n g fs) s p (put_twice n f g fs) h

pub rows_go : (o : Opening) (n : Name) (rs : List Row) (todo : List table.Act) (lost : List Key) (x : Node) (fs : Faces) (s : Shared) (p : protocol.World) → Match rs todo lost x → Follows o fs s p → fs n ≡ Some (standing lost x)
    → Follows o (put_face n (standing (lost_all todo lost) (node_after_rows rs x)) fs) (shared_after_rows rs s) (acts_all n todo p)
rows_go o n [] [] lost x fs s p match h found = follows_same o fs (put_face n (standing lost x) fs) s p (put_itself n (standing lost x) fs found) h
rows_go o n [] (a ∷ todo) lost x fs s p match h found = absurd match
rows_go o n (row ∷ rs) [] lost x fs s p match h found = absurd match
rows_go o n (row ∷ rs) (a ∷ todo) lost x fs s p match h found =
    let act : Act = match.0 in
    let f1 : Face = standing (lost_after a lost) (acted act x) in
    let one = act_goes o n act a lost x fs s p match.2 h found in
    let rest = rows_go o n rs todo (lost_after a lost) (acted act x) (put_face n f1 fs) (shared_after act s) (protocol.acts n a p) match.4 one (put_here n f1 fs) in
    let last : Face = standing (lost_all todo (lost_after a lost)) (node_after_rows rs (acted act x)) in
    let P : Option Act → Type 0 = λ c. Follows o (put_face n (standing (lost_all todo (lost_after a lost)) (node_after_rows rs (steps.node_after c x))) fs) (shared_after_rows rs (shared_then c s)) (acts_all n todo (protocol.acts n a p)) in
    subst P (sym match.1) (put_on o n f1 last fs (shared_after_rows rs (shared_after act s)) (acts_all n todo (protocol.acts n a p)) rest)

pub rows_told : (rs : List Row) (todo : List table.Act) (lost : List Key) (x : Node) → Match rs todo lost x → IsTold lost x → IsTold (lost_all todo lost) (node_after_rows rs x)
rows_told [] [] lost x match t = t
rows_told [] (a ∷ todo) lost x match t = absurd match
rows_told (row ∷ rs) [] lost x match t = absurd match
rows_told (row ∷ rs) (a ∷ todo) lost x match t =
    let P : Option Act → Type 0 = λ c. IsTold (lost_all todo (lost_after a lost)) (node_after_rows rs (steps.node_after c x)) in
    subst P (sym match.1) (rows_told rs todo (lost_after a lost) (acted match.0 x) match.4 match.3)

pub rows_keep : (rs : List Row) (todo : List table.Act) (lost : List Key) (x : Node) → Match rs todo lost x → Keeps x (node_after_rows rs x)
rows_keep [] [] lost x match = keeps_itself x
rows_keep [] (a ∷ todo) lost x match = absurd match
rows_keep (row ∷ rs) [] lost x match = absurd match
rows_keep (row ∷ rs) (a ∷ todo) lost x match =
    let P : Option Act → Type 0 = λ c. Keeps x (node_after_rows rs (steps.node_after c x)) in
    subst P (sym match.1) (keeps_on x (acted match.0 x) (node_after_rows rs (acted match.0 x)) match.2.keeps (rows_keep rs todo (lost_after a lost) (acted match.0 x) match.4))

pub take_match : (j : ℕ) (rs : List Row) (todo : List table.Act) (lost : List Key) (x : Node) → Match rs todo lost x → Match (take j rs) (take j todo) lost x
take_match zero [] todo lost x match = tt
take_match zero (row ∷ rs) todo lost x match = tt
take_match (suc j) [] [] lost x match = tt
take_match (suc j) [] (a ∷ todo) lost x match = absurd match
take_match (suc j) (row ∷ rs) [] lost x match = absurd match
take_match (suc j) (row ∷ rs) (a ∷ todo) lost x match = (match.0, match.1, match.2, match.3, take_match j rs todo (lost_after a lost) (acted match.0 x) match.4)

-- the node knows what the acts leave
pub rows_tm : (rs : List Row) (todo : List table.Act) (lost : List Key) (x : Node) → Match rs todo lost x → tm_of (node_after_rows rs x) ≡ table.after todo (tm_of x)
rows_tm [] [] lost x match = refl
rows_tm [] (a ∷ todo) lost x match = absurd match
rows_tm (row ∷ rs) [] lost x match = absurd match
rows_tm (row ∷ rs) (a ∷ todo) lost x match =
    let y : Node = acted match.0 x in
    let P : Option Act → Type 0 = λ c. tm_of (node_after_rows rs (steps.node_after c x)) ≡ table.after (a ∷ todo) (tm_of x) in
    let e = match.2.after lost in
    let one : tm_of y ≡ table.after_act a (tm_of x) = λ i. record { node = match.2.keeps.name i; table = (e i).table; records = (e i).records } in
    subst P (sym match.1) (rows_tm rs todo (lost_after a lost) y match.4 ∙ ap (table.after todo) one)

-- A fall.

-- the act under way does the same to a node that fell
pub acts_fallen : (act : Act) (u : Option Act) (x : Node) → ((acted act (fallen u x)).durable ≡ (acted act x).durable) × ((acted act (fallen u x)).settled ≡ (acted act x).settled)
acts_fallen (Formats slots journal) u x = (refl, refl)
acts_fallen Boots u x = (refl, refl)
acts_fallen ComesUp u x = (refl, refl)
acts_fallen (Creates place file) u x = (refl, refl)
acts_fallen (Marks file mark) u x = (refl, refl)
acts_fallen (Saves file start) u x = (refl, refl)
acts_fallen (Recovers file start buckets m) u x = (refl, refl)
acts_fallen Draws u x = (refl, refl)
acts_fallen (Labels l) u x = (refl, refl)
acts_fallen (Numbers label serial) u x = (refl, refl)
acts_fallen (Tables a moment) u x = (refl, refl)
acts_fallen (Changes tid serial file changes keys) u x = (refl, refl)
acts_fallen (Holds serial file keys) u x = (refl, refl)
acts_fallen (Directs file changes t) u x = (refl, refl)
acts_fallen (Arms writes choice) u x = (refl, refl)
acts_fallen (Clocks now) u x = (refl, refl)
acts_fallen (Declares rms) u x = (refl, refl)
acts_fallen Falls u x = (refl, refl)

-- what a fall leaves, whatever turns out of the act under way
pub record Fell (o : Opening) (n : Name) (b : Bool) (z : Node) (s : Shared) (fs : Faces) (p : protocol.World) : Type 0 where
  pub face : Face
  pub is : IsDownFace b z face
  pub follows : Follows o (put_face n face fs) s p

-- no act is under way that is taken
pub falls_back : (o : Opening) (n : Name) (b : Bool) (u : Option Act) (lost : List Key) (x : Node) (fs : Faces) (s : Shared) (p : protocol.World) → IsTold lost x → Follows o fs s p → fs n ≡ Some (standing lost x)
    → landed b (fallen u x) ≡ fallen u x → IsBegun u → Fell o n b (fallen u x) s fs (crashes n p)
falls_back o n b u lost x fs s p t h found none lasts =
    let P : Node → Type 0 = λ y. IsLeft y.durable (crashed (raw lost x)) in
    record {
      face = lying lost x;
      is = record { left = subst P (sym none) (told_left lost x t); settled = ap (λ (y : Node). y.settled) (sym none); begun = lasts };
      follows = follows_crash o n (standing lost x) fs s p h found;
    }

pub fall_goes : (o : Opening) (n : Name) (b : Bool) (lost : List Key) (x : Node) (fs : Faces) (s : Shared) (p : protocol.World) → IsTold lost x → Follows o fs s p → fs n ≡ Some (standing lost x) → Fell o n b (fallen None x) s fs (crashes n p)
fall_goes o n b lost x fs s p t h found = falls_back o n b None lost x fs s p t h found (none b) tt
  where
    none : (c : Bool) → landed c (fallen None x) ≡ fallen None x
    none true = refl
    none false = refl

-- A fall with an act under way: by its resolution the protocol's node has done it before it fell, or not.
pub fall_act_goes : (o : Opening) (n : Name) (b : Bool) (act : Act) (a : table.Act) (lost : List Key) (x : Node) (fs : Faces) (s : Shared) (p : protocol.World) → IsTable act a x → is_durable act ≡ true → IsTold lost x → IsTold (lost_after a lost) (acted act x)
    → Follows o fs s p → fs n ≡ Some (standing lost x) → Fell o n b (fallen (Some act) x) s fs (crashes n (if b then protocol.acts n a p else p))
fall_act_goes o n false act a lost x fs s p is lasts t later h found = falls_back o n false (Some act) lost x fs s p t h found refl lasts
fall_act_goes o n true act a lost x fs s p is lasts t later h found =
    let one = act_goes o n act a lost x fs s p is h found in
    let y : Node = acted act x in
    let f1 : Face = standing (lost_after a lost) y in
    let P : Shared → Type 0 = λ r. Follows o (put_face n f1 fs) r (protocol.acts n a p) in
    let two = follows_crash o n f1 (put_face n f1 fs) s (protocol.acts n a p) (subst P (is.shared s ∙ is.alone lasts s) one) (put_here n f1 fs) in
    let same = acts_fallen act (Some act) x in
    record {
      face = lying (lost_after a lost) y;
      is = record { left = (let Q : _ → Type 0 = λ d. IsLeft d (crashed (raw (lost_after a lost) y)) in subst Q (sym same.0) (told_left (lost_after a lost) y later)); settled = sym same.1; begun = lasts };
      follows = put_on o n f1 (lying (lost_after a lost) y) fs s (crashes n (protocol.acts n a p)) two;
    }

pub durable_begun : (a : Option Act) → IsBegun (if_durable a)
durable_begun None = tt
durable_begun (Some act) = go (is_durable act) refl
  where
    go : (c : Bool) → is_durable act ≡ c → IsBegun (if c then Some act else None)
    go true e = e
    go false e = tt

pub act_is_begun : (begun : Bool) (rs : List Row) → IsBegun (act_begun begun rs)
act_is_begun true (r ∷ rs) = durable_begun r.act
act_is_begun true [] = tt
act_is_begun false rs = tt

-- Rows that are cut.

pub record WasCut (o : Opening) (n : Name) (b : Bool) (z : Node) (s : Shared) (todo : List table.Act) (fs : Faces) (p : protocol.World) : Type 0 where
  pub done : ℕ
  pub fell : Fell o n b z s fs (crashes n (acts_all n (take done todo) p))

-- the node that is left where so many rows were done and the act of the next was begun, or not
abbrev pub cut_node : List Row → ℕ → Bool → Node → Node
cut_node rs j begun x = fallen (act_begun begun (drop j rs)) (node_after_rows (take j rs) x)

pub fell_on : (o : Opening) (n : Name) (b : Bool) (z : Node) (s : Shared) (f : Face) (fs : Faces) (p : protocol.World) → Fell o n b z s (put_face n f fs) p → Fell o n b z s fs p
fell_on o n b z s f fs p h = record { face = h.face; is = h.is; follows = put_on o n f h.face fs s p h.follows }

pub cut_goes : (o : Opening) (n : Name) (b : Bool) (rs : List Row) (todo : List table.Act) (j : ℕ) (begun : Bool) (lost : List Key) (x : Node) (fs : Faces) (s : Shared) (p : protocol.World) → Match rs todo lost x → IsTold lost x → Follows o fs s p
    → fs n ≡ Some (standing lost x) → WasCut o n b (cut_node rs j begun x) (shared_after_rows (take j rs) s) todo fs p
cut_goes o n b [] [] zero true lost x fs s p match t h found = record { done = 0; fell = fall_goes o n b lost x fs s p t h found }
cut_goes o n b [] [] zero false lost x fs s p match t h found = record { done = 0; fell = fall_goes o n b lost x fs s p t h found }
cut_goes o n b [] [] (suc j) true lost x fs s p match t h found = record { done = 0; fell = fall_goes o n b lost x fs s p t h found }
cut_goes o n b [] [] (suc j) false lost x fs s p match t h found = record { done = 0; fell = fall_goes o n b lost x fs s p t h found }
cut_goes o n b [] (a ∷ todo) j begun lost x fs s p match t h found = absurd match
cut_goes o n b (row ∷ rs) [] j begun lost x fs s p match t h found = absurd match
cut_goes o n b (row ∷ rs) (a ∷ todo) zero false lost x fs s p match t h found = record { done = 0; fell = fall_goes o n b lost x fs s p t h found }
cut_goes o n b (row ∷ rs) (a ∷ todo) zero true lost x fs s p match t h found =
    let P : Option Act → Type 0 = λ c. WasCut o n b (fallen (if_durable c) x) s (a ∷ todo) fs p in
    subst P (sym match.1) (by (is_durable match.0) refl)
  where
    landing : (c : Bool) → Fell o n b (fallen (Some match.0) x) s fs (crashes n (if c then protocol.acts n a p else p)) → WasCut o n b (fallen (Some match.0) x) s (a ∷ todo) fs p
    landing true g = record { done = 1; fell = g }
    landing false g = record { done = 0; fell = g }

    by : (c : Bool) → is_durable match.0 ≡ c → WasCut o n b (fallen (if_durable (Some match.0)) x) s (a ∷ todo) fs p
    by true e = rw e (landing b (fall_act_goes o n b match.0 a lost x fs s p match.2 e t match.3 h found))
    by false e = rw e (record { done = 0; fell = fall_goes o n b lost x fs s p t h found })
cut_goes o n b (row ∷ rs) (a ∷ todo) (suc j) begun lost x fs s p match t h found =
    let act : Act = match.0 in
    let f1 : Face = standing (lost_after a lost) (acted act x) in
    let one = act_goes o n act a lost x fs s p match.2 h found in
    let more = cut_goes o n b rs todo j begun (lost_after a lost) (acted act x) (put_face n f1 fs) (shared_after act s) (protocol.acts n a p) match.4 match.3 one (put_here n f1 fs) in
    let P : Option Act → Type 0 = λ c. Fell o n b (cut_node rs j begun (steps.node_after c x)) (shared_after_rows (take j rs) (shared_then c s)) fs (crashes n (acts_all n (take more.done todo) (protocol.acts n a p))) in
    record {
      done = suc more.done;
      fell = subst P (sym match.1) (fell_on o n b (cut_node rs j begun (acted act x)) (shared_after_rows (take j rs) (shared_after act s)) f1 fs (crashes n (acts_all n (take more.done todo) (protocol.acts n a p))) more.fell);
    }
