-- A file by its name, at a node of the world.
use Rattle.std.proofs.Common.{◌≡◌, ℕ, List, Option, Some, None}
use Rattle.file_base.specs.declared.head.FileHead.{FileHead}
use Rattle.emitter_model.specs.transcript_model.Lines as line
use Rattle.emitter_model.specs.transcript_model.Lines.{Line}
use Rattle.file_images.specs.run_model.World.{File, Node, find_file}
use Rattle.directory_model.specs.Files.{IsCarried, IsFile, IsFoundAt, IsNamed, NoneNamed}
use Rattle.recovery_units.specs.State.{IsKept}
use Rattle.node_standing.specs.node_table.Standing.{Stored}
use Rattle.file_requests.specs.TheLaws.{TheLaws}

pub record FileAt (n : Node) (u : Stored) (k : IsKept u.units u.volume n) (f : ℕ) (head : FileHead) (name : List ℕ) : Type 0 where
  pub file : File
  pub is : IsFile k.content head file
  pub at : IsFoundAt name n.durable.directory f file
  pub carried : IsCarried k.content f head file.carried

module _ (n : Node) (u : Stored) (k : IsKept u.units u.volume n) (laws : TheLaws) where
  pub file_at_name : (f : ℕ) (head : FileHead) (name : List ℕ) → IsNamed u.volume.catalog.heads f head name → FileAt n u k f head name
  file_at_name f head name named =
      let x = laws.finds.found k.content u.volume.catalog.heads n.durable.directory f head name k.has.files named in
      record { file = x.0; is = x.1; at = x.2; carried = x.3 }

  pub no_file : (name : List ℕ) → NoneNamed u.volume.catalog.heads 64 name → find_file name n.durable.directory ≡ None
  no_file name none = laws.finds.none k.content u.volume.catalog.heads n.durable.directory name k.has.files none

-- what a statement says of a file, where there is one
abbrev pub there_by : Option File → Option Line
there_by o = elim o [ Some f ↦ None | None ↦ Some line.FileNotFound ]

abbrev pub file_by : Option File → (File → Option Line) → Option Line
file_by o says = elim o [ Some f ↦ says f | None ↦ None ]
