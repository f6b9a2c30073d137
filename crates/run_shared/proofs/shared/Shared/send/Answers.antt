use Rattle.std.proofs.Common.{◌≡◌, ◌≤◌, ◌<◌, ◌+◌, ◌∙◌, ◌++◌, ◌∷◌, [], ◌↔◌, ℕ, ap, sym, subst, refl, map, length, nat_lt, Option, Some, None, IsNone, IfSome, IfNone, OnSome, if◌then◌else◌, arith}
use Rattle.std.proofs.lemmas.List.{length-append}
use Rattle.std.proofs.lemmas.Bool.{false≢true}
use Rattle.vms_model.specs.Limits.{message_limit}
use Rattle.net_wire.specs.declared.wire.Message.{Message}
use Rattle.net_wire.specs.Messages.{message_of}
use Rattle.net_wire.specs.Network.{Network}
use Rattle.run_model.specs.World.{posted}
use Rattle.run_shared.specs.Sharing.{SharedState}
use Rattle.run_shared.proofs.Posting.{kept, lost, next_number, unnumbered}
use Rattle.run_shared.proofs.shared.Shared.send.Goals as goal

-- what a sending says of the messages that are numbered
record Sends (old new : Network) (m : Message) (result : Option ℕ) : Type 0 where
  limit : new.limit ≡ message_limit
  few : length new.messages ≤ message_limit
  wire : map message_of new.messages ≡ posted (message_of m) (map message_of old.messages)
  number : result ≡ (if nat_lt (length (map message_of old.messages)) message_limit then Some (length (map message_of old.messages) + 1) else None)

sends : (old new : Network) (m : Message) (result : Option ℕ) → old.limit ≡ message_limit → length old.messages ≤ message_limit → (IsNone result ↔ (length old.messages ≡ old.limit)) → IfNone result (new ≡ old)
    → IfSome result (λ k. k ≡ length new.messages) → OnSome result (new ≡ record { messages = old.messages ++ m ∷ []; limit = old.limit }) → Sends old new m result
sends old new m None limit few full same number more = let e = full.0 refl ∙ limit in record {
  limit = ap (λ (n : Network). n.limit) same ∙ limit;
  few = subst (λ (n : Network). length n.messages ≤ message_limit) (sym same) few;
  wire = ap (λ (n : Network). map message_of n.messages) same ∙ sym (lost old.messages m e);
  number = sym (unnumbered old.messages m e);
}
sends old new m (Some k) limit few full same number more =
    let long = ap (λ (n : Network). length n.messages) more ∙ length-append old.messages (m ∷ []) in
    let room : length old.messages < message_limit = below (length old.messages) message_limit few (λ e. false≢true (sym (full.1 (e ∙ sym limit)))) in
    record {
      limit = ap (λ (n : Network). n.limit) more ∙ limit;
      few = subst (λ (j : ℕ). j ≤ message_limit) (sym long) (omega (arith, room));
      wire = ap (λ (n : Network). map message_of n.messages) more ∙ sym (kept old.messages m room);
      number = ap (λ (j : ℕ). Some j) (number ∙ long) ∙ sym (next_number old.messages m room);
    }
  where
    below : (a b : ℕ) → a ≤ b → (a ≡ b → ⊥) → a < b
    below a b le other = omega (arith, le, other)

at : (c : goal.After-send) → Sends c.self.inside.wire c.send.new.self c.args.m.now c.send.result
at c = sends c.self.inside.wire c.send.new.self c.args.m.now c.send.result c.self.invariant.0 c.self.invariant.1 c.send.ensures.full c.send.ensures.lost c.send.ensures.number c.send.ensures.kept

pub invariant_of-self : goal.invariant_of-self
invariant_of-self c = ((at c).limit, (at c).few)

pub returns-clause-posted : goal.returns-clause-posted
returns-clause-posted c = ap (λ w. let s : SharedState = record { labels = c.self.inside.labels; in_use = c.self.inside.in_use; wire = w } in s) (at c).wire
    ∙ ap (λ (s : SharedState). let t : SharedState = record { labels = s.labels; in_use = s.in_use; wire = posted (message_of c.args.m.now) s.wire } in t) c.self.view_is

pub returns-clause-number : goal.returns-clause-number
returns-clause-number c = (at c).number ∙ ap (λ (s : SharedState). if nat_lt (length s.wire) message_limit then Some (length s.wire + 1) else None) c.self.view_is
