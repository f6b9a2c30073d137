-- What each statement comes to, as its code has it.
use Rattle.std.specs.Prelude.{slice_get}
use Rattle.std.proofs.Common.{◌≡◌, ℕ, ◌<◌, List, [], ◌∷◌, map, length, Bool, true, false, Some, None, refl, sym, ◌∙◌, ap, subst}
use Rattle.std.specs.Str.{bytes_eq}
use Rattle.std.proofs.lemmas.Option.{slice_get_within}
use Rattle.block_disk.specs.Disk.{CallLog}
use Rattle.emitter_model.specs.commit_protocol.Messages.{Message}
use Rattle.emitter_model.specs.transcript_model.Lines as line
use Rattle.emitter_model.specs.transcript_model.Lines.{Line, Normal}
use Rattle.emitter_model.specs.Emitting.{Emits, Shown}
use Rattle.script_lang.specs.script_model.Statements.{AddBranch, At, Clock, Deliver, LinkDown, Recover, Request, Statement}
use Rattle.script_lang.specs.script_model.Statements as said
use Rattle.script_lang.specs.Statements.{request_of}
use Rattle.script_lang.specs.declared.literals.Literals.{Literals}
use Rattle.vms_base.specs.declared.moments.Moment.{Moment}
use Rattle.script_lang.specs.declared.statement.Request as code
use Rattle.script_lang.specs.declared.statement.Request.TheVariants as request
use Rattle.said_steps.specs.run_said.Said.{node_in, other_said}
use Rattle.said_steps.specs.run_model.World.{Node, World, find_node}
use Rattle.said_steps.specs.run_model.Operations.{refused_if}
use Rattle.said_steps.specs.run_model.Answers.{LosesLink, Takes, Ticks}
use Rattle.said_steps.specs.run_model.Statements.{message_at, other_node}
use Rattle.dtm_node.specs.run_shared.Sharing.{SharedState}
use Rattle.dtm_node.specs.node_standing.Moments.{CanBeTold}
use Rattle.dtm_node.specs.node_standing.Standing.{NodeState}
use Rattle.dtm_node.specs.node_standing.Telling.{said_node}
use Rattle.said_steps.proofs.Refusals.{delivery_said_lost, delivery_said_missing, link_said_first, link_said_second, request_said_alone, request_said_missing, there_said_at, there_said_missing}
use Rattle.statement_steps.specs.Doing.{AllKept}
use Rattle.statement_steps.specs.TheLaws.{StaysWithin}
use Rattle.statement_steps.proofs.Stepping.{link_first, link_second, link_there, named_missing, named_there, no_message, no_receiver, request_alone, request_missing}
use Rattle.run_nodes.specs.Names.{AreApart, IsOtherMissing, IsOtherThere, is_among}
use Rattle.run_nodes.specs.Tasks.{DoesIfUp, DoesRequest, DoesTask, IsClocked}
use Rattle.run_nodes.specs.Together.{AnswersTogether, ServesTogether, StandsTogether, said_together}
use Rattle.run_nodes.specs.Untold.{BootsUnknown, IsTimely}
use Rattle.run_nodes.proofs.Answers.{answers_clock, answers_link, answers_loop, answers_nowhere, answers_on, answers_over, answers_refused, answers_request, follows_refused}
use Rattle.run_nodes.specs.Told.{kept_names}
use Rattle.run_nodes.proofs.Places.{found, it, kept_at_place, missing, said_found, said_missing}
use Rattle.run_nodes.proofs.Serving.{clock_serves, delivery_on, delivery_over, link_serves, named_so, refused_serves, request_serves}

pub within_names : {A : Type 0} (xs : List A) (place : ℕ) (x : A) → slice_get xs place ≡ Some x → place < length xs
within_names xs place x e = slice_get_within xs place x e

-- where nodes of these names are kept
module _ (names : List (List ℕ)) (ks : List NodeState) (s : SharedState) (same : names ≡ kept_names ks) (apart : AreApart names) where
  told : (st : Statement) (a b : Shown) (ls : List NodeState) (t : SharedState) → AnswersTogether (kept_names ks) st a b ks s ls t → AnswersTogether names st a b ks s ls t
  told st a b ls t h = subst (λ ns. AnswersTogether ns st a b ks s ls t) (sym same) h

  apart_kept : AreApart (kept_names ks)
  apart_kept = subst AreApart same apart

  none_kept : (name : List ℕ) → is_among name names ≡ false → is_among name (kept_names ks) ≡ false
  none_kept name e = ap (is_among name) (sym same) ∙ e

  there_kept : (name : List ℕ) (place : ℕ) → slice_get names place ≡ Some name → slice_get (kept_names ks) place ≡ Some name
  there_kept name place e = ap (λ ns. slice_get ns place) (sym same) ∙ e

  found_said : (name : List ℕ) (place : ℕ) → slice_get names place ≡ Some name → (n : NodeState) × (node_in name (map said_node ks) ≡ Some (said_node n))
  found_said name place e =
      let i = kept_at_place ks place name (there_kept name place e) in
      (i.kept, subst (λ y. node_in y (map said_node ks) ≡ Some (said_node i.kept)) i.named (said_found ks place i.kept apart_kept i.here))

  -- A request to no node,
  pub nowhere_tells : (name : List ℕ) (r : said.Request) (a b : Shown) → is_among name names ≡ false → Emits a (line.NoSuchNode ∷ []) b → AnswersTogether names (At name r) a b ks s ks s
  nowhere_tells name r a b none emits = told (At name r) a b ks s (answers_nowhere name r ks s a b emits (request_said_missing (said_together ks s) name r (said_missing name ks (none_kept name none))))

  pub nowhere_serves : (name : List ℕ) (r : said.Request) (a b : Shown) → is_among name names ≡ false → Emits a (line.NoSuchNode ∷ []) b → (logs : List CallLog) (w : World) → StandsTogether logs ks s w → ServesTogether logs w (At name r) a b ks s
  nowhere_serves name r a b none emits logs w h = refused_serves logs ks s w (At name r) line.NoSuchNode a b h (request_missing w name r (missing logs ks s w h apart_kept name (none_kept name none))) emits

  -- or one that names none.
  other_missing_said : (r : code.Request) (lit : Literals) → IsOtherMissing names r → other_said (said_together ks s) (request_of lit r) ≡ Some line.NoSuchNode
  other_missing_said (request.AddBranch label other new) lit none = there_said_missing (said_together ks s) other (said_missing other ks (none_kept other none))
  other_missing_said _ lit none = absurd none

  other_missing : (r : code.Request) (lit : Literals) → IsOtherMissing names r → (logs : List CallLog) (w : World) → StandsTogether logs ks s w → other_node w (request_of lit r) ≡ Some line.NoSuchNode
  other_missing (request.AddBranch label other new) lit none logs w h = named_missing w other (missing logs ks s w h apart_kept other (none_kept other none))
  other_missing _ lit none logs w h = absurd none

  pub alone_tells : (name : List ℕ) (place : ℕ) (r : code.Request) (lit : Literals) (a b : Shown) → slice_get names place ≡ Some name → IsOtherMissing names r → Emits a (line.NoSuchNode ∷ []) b → AnswersTogether names (At name (request_of lit r)) a b ks s ks s
  alone_tells name place r lit a b there none emits =
      let n = found_said name place there in
      told (At name (request_of lit r)) a b ks s (answers_nowhere name (request_of lit r) ks s a b emits (request_said_alone (said_together ks s) name (request_of lit r) (said_node n.0) line.NoSuchNode n.1 (other_missing_said r lit none)))

  pub alone_serves : (name : List ℕ) (place : ℕ) (r : code.Request) (lit : Literals) (a b : Shown) → slice_get names place ≡ Some name → IsOtherMissing names r → Emits a (line.NoSuchNode ∷ []) b → (logs : List CallLog) (w : World) → StandsTogether logs ks s w →
      ServesTogether logs w (At name (request_of lit r)) a b ks s
  alone_serves name place r lit a b there none emits logs w h =
      let i = kept_at_place ks place name (there_kept name place there) in
      let is : find_node name w.nodes ≡ Some (it logs ks s w h apart_kept place i.kept i.here).node = subst (λ y. find_node y w.nodes ≡ Some (it logs ks s w h apart_kept place i.kept i.here).node) i.named (found logs ks s w h apart_kept place i.kept i.here) in
      refused_serves logs ks s w (At name (request_of lit r)) line.NoSuchNode a b h
      (request_alone w name (request_of lit r) line.NoSuchNode (other_missing r lit none logs w h) (it logs ks s w h apart_kept place i.kept i.here).node is) emits

  -- A request to a node that is there.
  other_there_said : (r : code.Request) (lit : Literals) → IsOtherThere names r → other_said (said_together ks s) (request_of lit r) ≡ None
  other_there_said (request.AddBranch label other new) lit there = let n = found_said other there.0 there.1 in there_said_at (said_together ks s) other (said_node n.0) n.1
  other_there_said _ lit there = refl

  other_there : (r : code.Request) (lit : Literals) → IsOtherThere names r → (logs : List CallLog) (w : World) → StandsTogether logs ks s w → other_node w (request_of lit r) ≡ None
  other_there (request.AddBranch label other new) lit there logs w h =
      let i = kept_at_place ks there.0 other (there_kept other there.0 there.1) in
      named_there w other (it logs ks s w h apart_kept there.0 i.kept i.here).node (subst (λ y. find_node y w.nodes ≡ Some (it logs ks s w h apart_kept there.0 i.kept i.here).node) i.named (found logs ks s w h apart_kept there.0 i.kept i.here))
  other_there _ lit there logs w h = refl

  old_named : (place : ℕ) (name : List ℕ) (k : NodeState) → slice_get names place ≡ Some name → slice_get ks place ≡ Some k → k.name ≡ name
  old_named place name k there here = named_so ks place k name here (there_kept name place there)

  pub request_tells : (name : List ℕ) (place : ℕ) (r : code.Request) (lit : Literals) (a b : Shown) (ls : List NodeState) (t : SharedState) → slice_get names place ≡ Some name → IsOtherThere names r → DoesRequest place (request_of lit r) ks s a b ls t → AnswersTogether names (At name (request_of lit r)) a b ks s ls t
  request_tells name place r lit a b ls t there other d =
      told (At name (request_of lit r)) a b ls t (subst (λ y. AnswersTogether (kept_names ks) (At y (request_of lit r)) a b ks s ls t) (old_named place name d.old there d.here)
      (subst (λ ms. AnswersTogether (kept_names ks) (At d.old.name (request_of lit r)) a b ks s ms t) (sym d.put) (answers_request (request_of lit r) ks s a b d.old d.new t place d.ends apart_kept d.here d.named (other_there_said r lit other) d.tells)))

  pub request_is_served : (name : List ℕ) (place : ℕ) (r : code.Request) (lit : Literals) (a b : Shown) (ls : List NodeState) (t : SharedState) → slice_get names place ≡ Some name → IsOtherThere names r → ((now : ℕ) → request_of lit r ≡ Clock now → ⊥) → DoesRequest place (request_of lit r) ks s a b ls t →
      (logs : List CallLog) (w : World) → StandsTogether logs ks s w → AllKept w.shared w.nodes → (BootsUnknown w (At name (request_of lit r)) → ⊥) → ServesTogether logs w (At name (request_of lit r)) a b ls t
  request_is_served name place r lit a b ls t there other not_clock d logs w h kept never =
      let named = old_named place name d.old there d.here in
      subst (λ y. ServesTogether logs w (At y (request_of lit r)) a b ls t) named
      (subst (λ ms. ServesTogether logs w (At d.old.name (request_of lit r)) a b ms t) (sym d.put)
      (request_serves logs ks s w h apart_kept kept place d.old d.here (request_of lit r) a b d.new t not_clock (other_there r lit other logs w h) (subst (λ y. BootsUnknown w (At y (request_of lit r)) → ⊥) (sym named) never) d.performs))

  -- A clock that is set.
  pub clock_tells : (name : List ℕ) (place now : ℕ) (a b c : Shown) (ms : List NodeState) (ls : List NodeState) (t : SharedState) → slice_get names place ≡ Some name → IsClocked place now ks s ms → DoesIfUp place Ticks ms s a b ls t → Emits b (Normal ∷ []) c → AnswersTogether names (At name (Clock now)) a c ks s ls t
  clock_tells name place now a b c ms ls t there x d emits =
      told (At name (Clock now)) a c ls t (subst (λ y. AnswersTogether (kept_names ks) (At y (Clock now)) a c ks s ls t) (old_named place name x.kept there x.here)
      (answers_clock place now ks s a b c x.kept ls t apart_kept x.here (subst (λ y. DoesIfUp place Ticks y s a b ls t) x.put d) emits))

  pub clock_is_served : StaysWithin → (name : List ℕ) (place now : ℕ) (a b c : Shown) (ms : List NodeState) (ls : List NodeState) (t : SharedState) → slice_get names place ≡ Some name → IsClocked place now ks s ms → DoesIfUp place Ticks ms s a b ls t → Emits b (Normal ∷ []) c →
      (logs : List CallLog) (w : World) → StandsTogether logs ks s w → AllKept w.shared w.nodes → ServesTogether logs w (At name (Clock now)) a c ls t
  clock_is_served stays name place now a b c ms ls t there x d emits logs w h kept =
      subst (λ y. ServesTogether logs w (At y (Clock now)) a c ls t) (old_named place name x.kept there x.here)
      (clock_serves stays logs ks s w h apart_kept kept place x.kept (record x.kept { clock = now }) x.here refl now a b c (x.performs a) ls t (subst (λ y. DoesIfUp place Ticks y s a b ls t) x.put d) emits)

  -- A message that is not there, or that comes to no node.
  pub no_message_tells : (number : ℕ) (a b : Shown) → message_at number s.wire ≡ None → Emits a (line.NoSuchMessage ∷ []) b → AnswersTogether names (Deliver number) a b ks s ks s
  no_message_tells number a b none emits =
      told (Deliver number) a b ks s (answers_refused (Deliver number) line.NoSuchMessage ks s a b emits (λ x. refl) (λ name stops calls. refl) refl
      (follows_refused (said_together ks s) (Deliver number) line.NoSuchMessage (delivery_said_missing (said_together ks s) number none)))

  pub no_message_serves : (number : ℕ) (a b : Shown) → message_at number s.wire ≡ None → Emits a (line.NoSuchMessage ∷ []) b → (logs : List CallLog) (w : World) → StandsTogether logs ks s w → ServesTogether logs w (Deliver number) a b ks s
  no_message_serves number a b none emits logs w h = refused_serves logs ks s w (Deliver number) line.NoSuchMessage a b h (no_message w number (ap (message_at number) h.shared.wire ∙ none)) emits

  pub lost_tells : (number : ℕ) (m : Message) (a b : Shown) → message_at number s.wire ≡ Some m → is_among m.to names ≡ false → Emits a (line.NoSuchNode ∷ []) b → AnswersTogether names (Deliver number) a b ks s ks s
  lost_tells number m a b there none emits =
      told (Deliver number) a b ks s (answers_refused (Deliver number) line.NoSuchNode ks s a b emits (λ x. refl) (λ name stops calls. refl) refl
      (follows_refused (said_together ks s) (Deliver number) line.NoSuchNode (delivery_said_lost (said_together ks s) number m there (said_missing m.to ks (none_kept m.to none)))))

  pub lost_serves : (number : ℕ) (m : Message) (a b : Shown) → message_at number s.wire ≡ Some m → is_among m.to names ≡ false → Emits a (line.NoSuchNode ∷ []) b → (logs : List CallLog) (w : World) → StandsTogether logs ks s w → ServesTogether logs w (Deliver number) a b ks s
  lost_serves number m a b there none emits logs w h =
      refused_serves logs ks s w (Deliver number) line.NoSuchNode a b h (no_receiver w number m (ap (message_at number) h.shared.wire ∙ there) (missing logs ks s w h apart_kept m.to (none_kept m.to none))) emits

  -- A delivery.
  pub over_tells : (number place : ℕ) (m : Message) (a b : Shown) (ls : List NodeState) (t : SharedState) → message_at number s.wire ≡ Some m → slice_get names place ≡ Some m.to → DoesTask place (Takes m) true true ks s a b ls t → AnswersTogether names (Deliver number) a b ks s ls t
  over_tells number place m a b ls t there to d =
      told (Deliver number) a b ls t (subst (λ ms. AnswersTogether (kept_names ks) (Deliver number) a b ks s ms t) (sym d.put)
      (answers_over number m ks s a b d.old d.new t place apart_kept d.here d.named there (sym (old_named place m.to d.old to d.here)) d.tells))

  pub over_serves : (number place : ℕ) (m : Message) (a b : Shown) (ls : List NodeState) (t : SharedState) → message_at number s.wire ≡ Some m → slice_get names place ≡ Some m.to → DoesTask place (Takes m) true true ks s a b ls t →
      (logs : List CallLog) (w : World) → StandsTogether logs ks s w → AllKept w.shared w.nodes → ServesTogether logs w (Deliver number) a b ls t
  over_serves number place m a b ls t there to d logs w h kept =
      subst (λ ms. ServesTogether logs w (Deliver number) a b ms t) (sym d.put)
      (delivery_over logs ks s w h apart_kept kept place d.old d.here number m a b d.new t (ap (message_at number) h.shared.wire ∙ there) (sym (old_named place m.to d.old to d.here)) d.performs)

  pub on_tells : (number place : ℕ) (m : Message) (a b c : Shown) (ls : List NodeState) (t : SharedState) → message_at number s.wire ≡ Some m → slice_get names place ≡ Some m.to → DoesTask place (Takes m) false false ks s a b ls t → Emits b (Normal ∷ []) c → AnswersTogether names (Deliver number) a c ks s ls t
  on_tells number place m a b c ls t there to d emits =
      told (Deliver number) a c ls t (subst (λ ms. AnswersTogether (kept_names ks) (Deliver number) a c ks s ms t) (sym d.put)
      (answers_on number m ks s a b c d.old d.new t place apart_kept d.here d.named there (sym (old_named place m.to d.old to d.here)) d.tells emits))

  pub on_serves : (number place : ℕ) (m : Message) (a b c : Shown) (ls : List NodeState) (t : SharedState) → message_at number s.wire ≡ Some m → slice_get names place ≡ Some m.to → DoesTask place (Takes m) false false ks s a b ls t → Emits b (Normal ∷ []) c →
      (logs : List CallLog) (w : World) → StandsTogether logs ks s w → AllKept w.shared w.nodes → ServesTogether logs w (Deliver number) a c ls t
  on_serves number place m a b c ls t there to d emits logs w h kept =
      subst (λ ms. ServesTogether logs w (Deliver number) a c ms t) (sym d.put)
      (delivery_on logs ks s w h apart_kept kept place d.old d.here number m a b c d.new t (ap (message_at number) h.shared.wire ∙ there) (sym (old_named place m.to d.old to d.here)) d.performs emits)

  -- A link between nodes of which one is not there,
  pub first_tells : (one other : List ℕ) (a b : Shown) → is_among one names ≡ false → Emits a (line.NoSuchNode ∷ []) b → AnswersTogether names (LinkDown one other) a b ks s ks s
  first_tells one other a b none emits =
      told (LinkDown one other) a b ks s (answers_refused (LinkDown one other) line.NoSuchNode ks s a b emits (λ x. refl) (λ name stops calls. refl) refl
      (follows_refused (said_together ks s) (LinkDown one other) line.NoSuchNode (link_said_first (said_together ks s) one other (said_missing one ks (none_kept one none)))))

  pub first_serves : (one other : List ℕ) (a b : Shown) → is_among one names ≡ false → Emits a (line.NoSuchNode ∷ []) b → (logs : List CallLog) (w : World) → StandsTogether logs ks s w → ServesTogether logs w (LinkDown one other) a b ks s
  first_serves one other a b none emits logs w h = refused_serves logs ks s w (LinkDown one other) line.NoSuchNode a b h (link_first w one other (missing logs ks s w h apart_kept one (none_kept one none))) emits

  node_of : (name : List ℕ) (place : ℕ) → slice_get names place ≡ Some name → (logs : List CallLog) (w : World) → StandsTogether logs ks s w → (n : Node) × (find_node name w.nodes ≡ Some n)
  node_of name place there logs w h =
      let i = kept_at_place ks place name (there_kept name place there) in
      ((it logs ks s w h apart_kept place i.kept i.here).node, subst (λ y. find_node y w.nodes ≡ Some (it logs ks s w h apart_kept place i.kept i.here).node) i.named (found logs ks s w h apart_kept place i.kept i.here))

  pub second_tells : (one other : List ℕ) (p : ℕ) (a b : Shown) → slice_get names p ≡ Some one → is_among other names ≡ false → Emits a (line.NoSuchNode ∷ []) b → AnswersTogether names (LinkDown one other) a b ks s ks s
  second_tells one other p a b there none emits =
      let n = found_said one p there in
      told (LinkDown one other) a b ks s (answers_refused (LinkDown one other) line.NoSuchNode ks s a b emits (λ x. refl) (λ name stops calls. refl) refl
      (follows_refused (said_together ks s) (LinkDown one other) line.NoSuchNode (link_said_second (said_together ks s) one other (said_node n.0) n.1 (said_missing other ks (none_kept other none)))))

  pub second_serves : (one other : List ℕ) (p : ℕ) (a b : Shown) → slice_get names p ≡ Some one → is_among other names ≡ false → Emits a (line.NoSuchNode ∷ []) b → (logs : List CallLog) (w : World) → StandsTogether logs ks s w → ServesTogether logs w (LinkDown one other) a b ks s
  second_serves one other p a b there none emits logs w h =
      let n = node_of one p there logs w h in
      refused_serves logs ks s w (LinkDown one other) line.NoSuchNode a b h (link_second w one other n.0 n.1 (missing logs ks s w h apart_kept other (none_kept other none))) emits

  -- between a node and itself,
  pub loop_tells : (one other : List ℕ) (p q : ℕ) (a b : Shown) → slice_get names p ≡ Some one → slice_get names q ≡ Some other → Emits a (line.BadParameter ∷ []) b → AnswersTogether names (LinkDown one other) a b ks s ks s
  loop_tells one other p q a b np nq emits = told (LinkDown one other) a b ks s (answers_loop one other p q ks s a b apart_kept (there_kept one p np) (there_kept other q nq) emits)

  pub loop_serves : (one other : List ℕ) (p q : ℕ) (a b : Shown) → slice_get names p ≡ Some one → slice_get names q ≡ Some other → bytes_eq one other ≡ true → Emits a (line.BadParameter ∷ []) b → (logs : List CallLog) (w : World) → StandsTogether logs ks s w → ServesTogether logs w (LinkDown one other) a b ks s
  loop_serves one other p q a b np nq eq emits logs w h =
      let n = node_of one p np logs w h in
      let m = node_of other q nq logs w h in
      refused_serves logs ks s w (LinkDown one other) line.BadParameter a b h (link_there w one other n.0 m.0 n.1 m.1 ∙ ap (λ (x : Bool). refused_if x line.BadParameter) eq) emits

  -- and one that fails.
  pub link_tells : (one other : List ℕ) (p q : ℕ) (a x b c : Shown) (ms : List NodeState) (u : SharedState) (ls : List NodeState) (t : SharedState) → slice_get names p ≡ Some one → slice_get names q ≡ Some other → DoesIfUp p (LosesLink other) ks s a x ms u → DoesIfUp q (LosesLink one) ms u x b ls t → Emits b (Normal ∷ []) c →
      AnswersTogether names (LinkDown one other) a c ks s ls t
  link_tells one other p q a x b c ms u ls t np nq d f emits = told (LinkDown one other) a c ls t (answers_link one other p q ks s a x b c ms u ls t apart_kept (there_kept one p np) (there_kept other q nq) d f emits)

  pub link_is_served : StaysWithin → (one other : List ℕ) (p q : ℕ) (a x b c : Shown) (ms : List NodeState) (u : SharedState) (ls : List NodeState) (t : SharedState) → slice_get names p ≡ Some one → slice_get names q ≡ Some other → bytes_eq one other ≡ false → DoesIfUp p (LosesLink other) ks s a x ms u →
      DoesIfUp q (LosesLink one) ms u x b ls t → Emits b (Normal ∷ []) c → (logs : List CallLog) (w : World) → StandsTogether logs ks s w → AllKept w.shared w.nodes → ServesTogether logs w (LinkDown one other) a c ls t
  link_is_served stays one other p q a x b c ms u ls t np nq differ d f emits logs w h kept =
      link_serves stays logs ks s w h apart_kept kept one other p q (there_kept one p np) (there_kept other q nq) differ a x b c ms u ls t d f emits

-- A request that is no CLOCK, as the code has it.
is_clock : said.Request → Bool
is_clock (Clock now) = true
is_clock _ = false

pub not_clock : (r : code.Request) (lit : Literals) → ((now : Moment) → r ≡ request.Clock now → ⊥) → (now : ℕ) → request_of lit r ≡ Clock now → ⊥
unfolding is_clock
not_clock r lit never now e = by r never refl
  where
    other : (b : Bool) → is_clock (request_of lit r) ≡ b → b ≡ false → ⊥
    other b f g = let no : true ≡ false = sym (ap is_clock e) ∙ f ∙ g in let none : ⊥ = cc in none

    by : (x : code.Request) → ((at : Moment) → x ≡ request.Clock at → ⊥) → x ≡ r → ⊥
    by (request.Clock at) h same = h at refl
    by _ h same = other (is_clock (request_of lit r)) refl (ap (λ y. is_clock (request_of lit y)) (sym same))

-- what a request asks to be shown can be
pub can_be_told : (name : List ℕ) (asked : Request) → IsTimely (At name asked) → CanBeTold asked
can_be_told name (Recover file way) h = h
can_be_told name _ h = tt
