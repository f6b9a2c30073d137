use Rattle.std.proofs.Common.{◌≡◌, ◌≤◌, ◌*◌, ℕ, Result, Err, ap, is_some, false, rules, arith}
use Rattle.std.proofs.lemmas.Nat.{mul-le}
use Rattle.std.specs.Option.{option_copied}
use Rattle.block_disk.specs.Disk.{DiskState}
use Rattle.careful_write.specs.State.{StoreState}
use Rattle.careful_write.specs.Down.{answered}
use Rattle.careful_write.specs.declared.down.Down.{Down}
use Rattle.bucket_page.specs.Pages.{no_next}
use Rattle.indexed_file.proofs.change_set.Frames.{read_again}
use Rattle.index_blocks.proofs.StageLaws.{told_same}
use Rattle.indexed_file.proofs.NextLaws.{if_some_then, if_none_then, none_if_some, none_gives}
use Rattle.indexed_tree.proofs.NextLaws.{told_starts, told_steps, told_found, told_ends}
use Rattle.indexed_tree.proofs.next.find_next.Goals as goal
use Rattle.indexed_tree.proofs.next.find_next.Goals.{then-is_some-via-then-is_some, then-is_some-via-else-is_some+then-next-head}

pub returns-then-is_some-clause-state : goal.returns-then-is_some-clause-state
returns-then-is_some-clause-state g c =
    read_again c.args.frame.now c.args.store.now c.loop-i.store c.visit_next.new.store (λ (d : DiskState). d) c.loop-i.invariant.state c.in-Ok.ensures.state

pub returns-in-Err-clause-state : goal.returns-in-Err-clause-state
returns-in-Err-clause-state g c =
    let r : Result ℕ Down = Err c.in-Err.down in
    read_again c.args.frame.now c.args.store.now c.loop-i.store c.visit_next.new.store (answered r) c.loop-i.invariant.state c.in-Err.ensures.state

pub returns-then-is_some-clause-found : goal.returns-then-is_some-clause-found
returns-then-is_some-clause-found g c =
    let same = ap (λ (s : StoreState). s.current) c.loop-i.invariant.state in
    if_some_then c.in-Ok.found _ _
    (λ k fact. told_found c.args.store.now.current c.args.head.now (option_copied c.args.after) c.loop-i.i c.loop-i.n k _ c.requires.form.root c.loop-i.invariant.reached (told_same _ _ _ same fact))
    c.in-Ok.ensures.found

pub returns-then-is_some-clause-none : goal.returns-then-is_some-clause-none
returns-then-is_some-clause-none g c =
    let same = ap (λ (s : StoreState). s.current) c.loop-i.invariant.state in
    elim c.then-is_some.branch [
      | then-is_some-via-then-is_some w ↦ none_if_some c.in-Ok.found _ (search rules)
      | then-is_some-via-else-is_some+then-next-head w ↦ if_none_then c.in-Ok.found _ _
          (λ fact. told_ends c.args.store.now.current c.args.head.now (option_copied c.args.after) c.loop-i.i c.loop-i.n c.in-Ok.next c.requires.form.root w.if-next-head.true c.loop-i.invariant.reached (told_same _ _ _ same fact) (told_same _ _ _ same c.in-Ok.ensures.next))
          c.in-Ok.ensures.none
    ]

pub returns-then-is_some-clause-stands : goal.returns-then-is_some-clause-stands
returns-then-is_some-clause-stands g c =
    let same = ap (λ (s : StoreState). s.current) c.loop-i.invariant.state in
    if_some_then c.in-Ok.found _ _ (λ k fact. told_same _ _ _ same fact) c.in-Ok.ensures.stands

pub loop-i-init : goal.loop-i-init
loop-i-init g c = record {
  state = c.in_ok-n.ensures.state;
  out = c.start_leaf.ensures.out;
  there = c.in_ok-n.ensures.used;
  reached = told_starts c.args.store.now.current c.args.head.now (option_copied c.args.after) _ c.in_ok-n.ensures.start;
}

pub loop-i-preserved : goal.loop-i-preserved
loop-i-preserved g c =
    let h = c.args.head.now in
    let same = ap (λ (s : StoreState). s.current) c.loop-i.invariant.state in
    let none : is_some c.in-Ok.found ≡ false = search rules in
    let product : h.alloc * 1 ≤ h.alloc * h.bucket = mul-le h.alloc 1 h.alloc h.bucket (omega arith) c.requires.placed.one in
    let few : h.used ≤ no_next = omega (arith, product, c.requires.placed.to, c.requires.placed.fits, c.requires.form.within) in
    record {
      state = read_again c.args.frame.now c.args.store.now c.loop-i.store c.visit_next.new.store (λ (d : DiskState). d) c.loop-i.invariant.state c.in-Ok.ensures.state;
      out = c.visit_next.ensures.out;
      there = c.if-next-head.false;
      reached = told_steps c.args.store.now.current h (option_copied c.args.after) c.loop-i.i c.loop-i.n c.in-Ok.next c.requires.form.root c.if-next-head.false few c.loop-i.invariant.reached
          (told_same _ _ _ same (none_gives c.in-Ok.found _ none c.in-Ok.ensures.none)) (told_same _ _ _ same c.in-Ok.ensures.next);
    }
