use Rattle.recovered_nodes.proofs.Rows.{loads_rows}
use Rattle.recovered_nodes.proofs.Counted.{counted, needed}
use Rattle.recovered_nodes.proofs.Known.{asked_so, knows, refused_so}
use Rattle.recovered_nodes.proofs.Left.{either_left, stays_left}
use Rattle.recovered_nodes.proofs.Places.{enough_so, longest_so}
use Rattle.recovered_nodes.proofs.Recovered.{recovers_so}
use Rattle.recovered_nodes.proofs.Sound.{sound_so}
use Rattle.recovered_nodes.proofs.Unused.{unused}
use Rattle.recovered_nodes.proofs.recoveries_keep_nodes.Goals as goal

pub returns : goal.returns
returns c = record {
  known = knows;
  refused = λ s v n f h name file content r way user stands. refused_so s v n f h name file content stands r way user;
  asked = λ s v n f h name file content r way stands. asked_so s v n f h name file content stands r way;
  counted = counted;
  needed = needed;
  longest = longest_so;
  enough = enough_so;
  heads = loads_rows.heads;
  recovers = λ s v w n f h new name file content after r way stands allowed none replaces is size says whole. recovers_so s v n f h new name file content after r way stands allowed none replaces whole w is size says;
  sound = sound_so;
  left = λ s v n f h name file content d r way stands allowed none rings. either_left s v n f h name file content d r way stands allowed none rings;
  stays = stays_left;
  unused = unused;
}
