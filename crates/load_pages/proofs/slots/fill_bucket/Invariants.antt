use Rattle.std.proofs.Common.{◌≡◌, ◌-◌, [], map, take, drop}
use Rattle.bucket_page.specs.Pages.{no_next, Packs}
use Rattle.load_laws.specs.Chains.{packed}
use Rattle.load_pages.specs.Given.{raw_of}
use Rattle.load_pages.proofs.slots.fill_bucket.Given as goal

abbrev pub invariant-loop-at : goal.invariant-loop-at
invariant-loop-at l = record {
  packs : Packs l.kind l.size (take (l.at - l.from) (drop l.from (map (raw_of l.kind) l.records))) no_next (take l.size l.bytes);
  filled : packed (l.size - 16) [] (drop l.from (map (raw_of l.kind) l.records)) ≡ packed (l.size - 16) (take (l.at - l.from) (drop l.from (map (raw_of l.kind) l.records))) (drop l.at (map (raw_of l.kind) l.records));
}
