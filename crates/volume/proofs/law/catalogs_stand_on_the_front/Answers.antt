use Rattle.std.proofs.Common.{ℕ, ◌+◌, List, subst, arith}
use Rattle.volume_format.specs.Home.{HasHome, HasRu}
use Rattle.volume.specs.Catalogs.{TellsEntry, head_at}
use Rattle.volume.proofs.law.catalogs_stand_on_the_front.Goals as goal

pub returns : goal.returns
returns c = λ v a b same tells. record {
  ranges = tells.ranges;
  home = subst (λ (x : List ℕ). HasHome x v.home) (same 0 (omega arith)) tells.home;
  heads = λ f within. subst (λ (x : List ℕ). TellsEntry x (head_at v.heads f)) (same (1 + f) (omega arith)) (tells.heads f within);
  ru = subst (λ (x : List ℕ). HasRu x v.ru) (same 65 (omega arith)) tells.ru;
}
