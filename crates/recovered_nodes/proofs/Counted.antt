-- How many records a recovery makes, and the blocks that they take.
use Rattle.std.proofs.Common.{◌≡◌, ◌*◌, ℕ, List, length, sym, ◌∙◌, ap, subst}
use Rattle.std.specs.FinMap.{entries}
use Rattle.file_base.specs.declared.head.FileHead.{FileHead}
use Rattle.recover_rms.specs.file_recoveries.Suiting.{MayHave}
use Rattle.recover_rms.specs.file_recoveries.declared.causes.Way.{Way}
use Rattle.recover_rms.specs.Replacing.{wanted_buckets}
use Rattle.world_laws.specs.recovery_model.Recovery.{rolled}
use Rattle.world_laws.specs.script_model.Statements.{Recovery}
use Rattle.unit_world.specs.volume.State.{VolumeState}
use Rattle.world_laws.specs.run_model.Answers.{blocks_recovered, records_recovered, way_of}
use Rattle.world_laws.specs.run_model.World.{File, Node, buckets_loaded, state_of}
use Rattle.recovered_nodes.proofs.Rows.{loads_rows}
use Rattle.unit_world.specs.recovery_units.State.{UnitsState}
use Rattle.recovered_nodes.specs.Laws.{IsAllowed, StandsThere, records_made}
use Rattle.recovered_nodes.proofs.Known.{is_file, may_made}

pub counted : (s : UnitsState) (v : VolumeState) (n : Node) (f : ℕ) (h : FileHead) (name : List ℕ) (file : File) (content : List (List ℕ)) (r : Recovery) → StandsThere s v n f h name file content → length (records_made h r file) ≡ length (entries (records_recovered r file))
counted s v n f h name file content r stands = loads_rows.count h file (rolled (way_of r) (state_of file)) (is_file s v n f h name file content stands).head

pub needed : (s : UnitsState) (v : VolumeState) (n : Node) (f : ℕ) (h : FileHead) (name : List ℕ) (file : File) (content : List (List ℕ)) (r : Recovery) (way : Way) → StandsThere s v n f h name file content → IsAllowed h way r →
    wanted_buckets h (records_made h r file) * h.bucket ≡ blocks_recovered r file
needed s v n f h name file content r way stands allowed =
    let head = (is_file s v n f h name file content stands).head in
    let may = subst (λ x. MayHave h (rolled x (state_of file))) allowed.said (may_made s v n f h name file content stands r way allowed) in
    ap (λ (k : ℕ). k * h.bucket) (loads_rows.buckets h file (rolled (way_of r) (state_of file)) head may) ∙ ap (λ (k : ℕ). buckets_loaded file (records_recovered r file) * k) (sym head.bucket)
