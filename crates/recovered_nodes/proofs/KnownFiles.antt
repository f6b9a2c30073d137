-- What recovery knows of a file of the world.
use Rattle.std.proofs.Common.{sym}
use Rattle.recovered_nodes.specs.Rows.{FilesAreKnown}

pub files_known : FilesAreKnown
files_known content name boot greatest f h file is carried keeps = record {
  form = is.head.form;
  laid = is.laid;
  records = λ key. sym (is.records key);
  ai = carried.after;
  bi = carried.before;
  since = sym carried.since;
  save = carried.save;
  place = λ v saved on covers. (keeps.saved v saved).place on covers;
}
