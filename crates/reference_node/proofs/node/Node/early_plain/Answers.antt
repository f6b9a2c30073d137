use Rattle.std.proofs.Common.{◌≡◌, sym, subst}
use Rattle.std.specs.Option.{option_map}
use Rattle.world_laws.specs.run_model.Answers.{service}
use Rattle.script_lang.specs.Statements.{request_of}
use Rattle.script_lang.specs.declared.statement.Request.{Request}
use Rattle.reference_world.specs.Standing.{line_of}
use Rattle.reference_node.specs.Nodes.{node_of}
use Rattle.reference_branches.specs.Branches.{shared_of}
use Rattle.reference_node.proofs.node.Node.early_plain.Goals as goal

pub returns-in-Boot : goal.returns-in-Boot
returns-in-Boot c = λ lit. subst (λ (r : Request). option_map line_of c.early_boot.result ≡ (service (request_of lit r)).refused_before_reading (shared_of c.args.shared.now) (node_of c.args.self.now)) (sym c.in-Boot.is) (c.early_boot.ensures (shared_of c.args.shared.now))

pub returns-in-Create : goal.returns-in-Create
returns-in-Create c = λ lit. subst (λ (r : Request). option_map line_of c.early_create.result ≡ (service (request_of lit r)).refused_before_reading (shared_of c.args.shared.now) (node_of c.args.self.now)) (sym c.in-Create.is) (c.early_create.ensures (shared_of c.args.shared.now))

pub returns-in-AddBranch : goal.returns-in-AddBranch
returns-in-AddBranch c = λ lit. subst (λ (r : Request). option_map line_of c.early_add.result ≡ (service (request_of lit r)).refused_before_reading (shared_of c.args.shared.now) (node_of c.args.self.now)) (sym c.in-AddBranch.is) (c.early_add.ensures c.in-AddBranch.other)

pub returns-in-DeclareRm : goal.returns-in-DeclareRm
returns-in-DeclareRm c = λ lit. subst (λ (r : Request). option_map line_of c.early_declare.result ≡ (service (request_of lit r)).refused_before_reading (shared_of c.args.shared.now) (node_of c.args.self.now)) (sym c.in-DeclareRm.is) (c.early_declare.ensures (shared_of c.args.shared.now))

pub returns-in-ForgetRm : goal.returns-in-ForgetRm
returns-in-ForgetRm c = λ lit. subst (λ (r : Request). option_map line_of c.early_forget.result ≡ (service (request_of lit r)).refused_before_reading (shared_of c.args.shared.now) (node_of c.args.self.now)) (sym c.in-ForgetRm.is) (c.early_forget.ensures (shared_of c.args.shared.now))

pub returns-in-SetFile : goal.returns-in-SetFile
returns-in-SetFile c = λ lit. subst (λ (r : Request). option_map line_of c.early_set.result ≡ (service (request_of lit r)).refused_before_reading (shared_of c.args.shared.now) (node_of c.args.self.now)) (sym c.in-SetFile.is) (c.early_set.ensures (shared_of c.args.shared.now))

pub returns-in-DumpImages : goal.returns-in-DumpImages
returns-in-DumpImages c = λ lit. subst (λ (r : Request). option_map line_of c.early_images.result ≡ (service (request_of lit r)).refused_before_reading (shared_of c.args.shared.now) (node_of c.args.self.now)) (sym c.in-DumpImages.is) (c.early_images.ensures (shared_of c.args.shared.now))
