use Rattle.std.proofs.Common.{◌≡◌, ◌∙◌, List, ap, sym, subst, refl}
use Rattle.std.specs.Prelude.{map}
use Rattle.std.proofs.lemmas.Result.{IfOk-weaker}
use Rattle.commit_protocol.specs.Effects.{effects_of}
use Rattle.commit_protocol.specs.Rows.{row}
use Rattle.commit_protocol.specs.Table.{Act, Branch, Key, Tm}
use Rattle.world_laws.specs.run_model.World.{tm_of}
use Rattle.tm_types.specs.Effects.{effect_of}
use Rattle.tm_types.specs.Events.{event_of}
use Rattle.vms_base.specs.Ids.{id_of}
use Rattle.reference_world.specs.Standing.{branch_key_of}
use Rattle.reference_node.specs.Nodes.{node_of}
use Rattle.reference_branches.specs.Branches.{shared_of}
use Rattle.reference_node.specs.Telling.{AllTellable}
use Rattle.reference_node.proofs.KeyLemmas.{row_as, row_tellable}
use Rattle.reference_node.proofs.TellLemmas.{told_whole}
use Rattle.reference_node.proofs.node.Node.tell.Goals as goal

pub apply_all-requires-clause-may : goal.apply_all-requires-clause-may
apply_all-requires-clause-may c =
    let n = node_of c.args.self.now in
    let e = event_of c.args.event.now in
    let table = c.args.self.now.table in
    let gives : effects_of (row (tm_of n) e) table.records ≡ map effect_of c.items.result.now = ap (λ (acts : List Act). effects_of acts table.records) (row_as c.args.self.now.name table e) ∙ sym c.step.ensures.effects ∙ sym (ap (map effect_of) c.items.ensures.value) in
    let keys : map branch_key_of c.as_slice.result.now ≡ map (λ (b : Branch). b.key) table.table = ap (map branch_key_of) c.as_slice.ensures.value ∙ c.in_ok-before.ensures.keys in (
      tm_of n,
      row (tm_of n) e,
      gives,
      subst (λ (ks : List Key). AllTellable ks (id_of c.transaction_told-tid.result) (row (tm_of n) e) table.records n.durable.log) (sym keys)
          (row_tellable (id_of c.transaction_told-tid.result) e (tm_of n) n.durable.log c.requires.can.told c.requires.can.within c.requires.allowed c.transaction_told-tid.ensures),
    )

pub returns-clause-tells : goal.returns-clause-tells
returns-clause-tells c =
    let n = node_of c.args.self.now in
    let e = event_of c.args.event.now in
    let table = c.args.self.now.table in
    let gives : effects_of (row (tm_of n) e) table.records ≡ map effect_of c.items.result.now = ap (λ (acts : List Act). effects_of acts table.records) (row_as c.args.self.now.name table e) ∙ sym c.step.ensures.effects ∙ sym (ap (map effect_of) c.items.ensures.value) in
    let keys : map branch_key_of c.as_slice.result.now ≡ map (λ (b : Branch). b.key) table.table = ap (map branch_key_of) c.as_slice.ensures.value ∙ c.in_ok-before.ensures.keys in
    let tellable = subst (λ (ks : List Key). AllTellable ks (id_of c.transaction_told-tid.result) (row (tm_of n) e) table.records n.durable.log) (sym keys)
    (row_tellable (id_of c.transaction_told-tid.result) e (tm_of n) n.durable.log c.requires.can.told c.requires.can.within c.requires.allowed c.transaction_told-tid.ensures) in
    IfOk-weaker c.apply_all.result _ _ (λ lines all. told_whole e c.args.self.now.name table c.step.new.self (shared_of c.args.shared.now) (shared_of c.apply_all.new.shared) n (node_of (record c.args.self.now { table = c.step.new.self })) (node_of c.apply_all.new.self) lines.items
    refl refl refl c.step.ensures.table all) (c.apply_all.ensures.applies (row (tm_of n) e) (tm_of n) gives tellable)
