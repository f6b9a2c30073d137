-- What a file of the world tells of its records, as its head and its buckets do.
use Rattle.directory_model.specs.Laws.{ReadsFiles}
use Rattle.directory_model.proofs.ReadingFiles.{count, used_is, put, update, position, is_removed}
use Rattle.directory_model.proofs.ReadingNext.{next, end}
use Rattle.directory_model.proofs.ReadingEntries.{some, few, below}

pub reads_files : ReadsFiles
reads_files = record {
  count = count;
  used = used_is;
  next = next;
  end = end;
  put = put;
  update = update;
  removed = is_removed;
  position = position;
  few = few;
  below = below;
  some = some;
}
