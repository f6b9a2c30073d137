use Rattle.std.proofs.Common.{sym, refl, inl, inr, subst, map, take, drop, length, ◌-◌}
use Rattle.dtm_run.specs.Racks.{names_in, disks_in}
use Rattle.dtm.specs.Images.{Stops}
use Rattle.dtm.specs.Causes.{WhyUnfilled}
use Rattle.dtm.proofs.ImageLemmas.{first_said, no_word, filled_here, filled_on, unwanted, why_here, why_on}
use Rattle.dtm.proofs.images.+add_images.Goals as goal

pub returns-in_default-clause-filled : goal.returns-in_default-clause-filled
returns-in_default-clause-filled g t c =
    let none = no_word (λ word. word.now) c.args.words.now c.in_default.len_below in
    filled_here _ _ _ _ _ _ _ refl refl (subst (Stops _ _ _) (sym none) tt)

pub returns-in_default-node_and_image-clause-filled : goal.returns-in_default-node_and_image-clause-filled
returns-in_default-node_and_image-clause-filled g t c =
    let none = rw c.in_default-node_and_image.is at c.node_and_image.ensures.value in
    filled_here _ _ _ _ _ _ _ refl refl (subst (Stops _ _ _) (sym (first_said c.args.words.now _ c.in-len1-up.len_at_least)) (inl (sym none)))

pub returns-in-Err-clause-why : goal.returns-in-Err-clause-why
returns-in-Err-clause-why g t c =
    let said = rw c.in-Some.is at c.node_and_image.ensures.value in
    let why = why_here (g.F.ImageFiles.store c.args.files.now) g.F.Image.Disk.state (names_in c.args.rack) _ (map (λ word. word.now) (take (length c.args.words.now - 1) (drop 1 c.args.words.now))) _ _ c.in-Err.e (sym said) c.in-Err.ensures.why in
    subst (λ ws. WhyUnfilled (g.F.ImageFiles.store c.args.files.now) g.F.Image.Disk.state (names_in c.args.rack) ws c.in-Err.e) (sym (first_said c.args.words.now _ c.in-len1-up.len_at_least)) why

pub returns-in-Ok-add-clause-filled : goal.returns-in-Ok-add-clause-filled
returns-in-Ok-add-clause-filled g t c =
    let said = rw c.in-Some.is at c.node_and_image.ensures.value in
    filled_on _ _ _ _ _ c.in-Ok.image (map (λ word. word.now) (take (length c.args.words.now - 1) (drop 1 c.args.words.now))) (names_in c.args.rack) (disks_in c.args.rack) (names_in c.add.new.self) (disks_in c.add.new.self) names_in disks_in c.add_images.result
    (first_said c.args.words.now _ c.in-len1-up.len_at_least) record { path = _; says = sym said; opened = c.in-Ok.ensures.image } c.in-Ok-add.ensures.accepted c.in-Ok-add.ensures.added.0 c.in-Ok-add.ensures.added.1 c.add_images.ensures.filled

pub returns-in-Ok-add-clause-why : goal.returns-in-Ok-add-clause-why
returns-in-Ok-add-clause-why g t c =
    let said = rw c.in-Some.is at c.node_and_image.ensures.value in
    why_on (g.F.ImageFiles.store c.args.files.now) g.F.Image.Disk.state _ _ _ c.in-Ok.image (map (λ word. word.now) (take (length c.args.words.now - 1) (drop 1 c.args.words.now))) (names_in c.args.rack) (names_in c.add.new.self) c.add_images.result
    (first_said c.args.words.now _ c.in-len1-up.len_at_least) record { path = _; says = sym said; opened = c.in-Ok.ensures.image } c.in-Ok-add.ensures.accepted c.in-Ok-add.ensures.added.0 c.add_images.ensures.why

pub returns-in-Name-clause-filled : goal.returns-in-Name-clause-filled
returns-in-Name-clause-filled g t c =
    let said = rw c.in-Some.is at c.node_and_image.ensures.value in
    let same = c.in-Err-add.ensures.same in
    filled_here _ _ _ _ _ _ _ same.0 same.1 (subst (Stops _ _ _) (sym (first_said c.args.words.now _ c.in-len1-up.len_at_least)) (inr (unwanted _ _ (names_in c.add.new.self) (names_in c.args.rack) _ _ c.in-Ok.image _ same.0
    record { path = _; says = sym said; opened = c.in-Ok.ensures.image } c.in-Err-add.ensures.cause c.in-Name.is)))

pub returns-clause-why : goal.returns-clause-why
returns-clause-why g t c = tt
