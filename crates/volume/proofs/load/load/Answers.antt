use Rattle.std.proofs.Common.{◌≡◌, ◌<◌, ◌+◌, ℕ, List, IfSome, length, ap, subst, ◌∙◌, arith, rules}
use Rattle.careful_write.specs.block_disk.Blocks.{block_at}
use Rattle.careful_write.specs.State.{StoreState}
use Rattle.careful_write.proofs.Reading.{same_on}
use Rattle.volume_format.specs.Home.{HasRu}
use Rattle.extents.specs.Extents.{FitsAt}
use Rattle.volume.specs.Limits.{data_area}
use Rattle.volume.specs.Load.{EntryMisses, HeadsFound}
use Rattle.volume.proofs.FirstFindings.{listed_finding_told, placed_finding_told, loaded_told, fit_all, fit_below, misfit_at}
use Rattle.volume.proofs.load.load.Goals as goal

pub returns-in-Some-clause-err : goal.returns-in-Some-clause-err
returns-in-Some-clause-err g c =
    let greatest = c.in_ok-home.home.greatest_moment.0 in
    let miss = rw c.in-Some.is at c.in_ok-f.ensures.miss in
    listed_finding_told c.args.store.now.current c.args.node.now c.args.store.now.fits c.in_ok-home.home c.load_heads.new.heads c.in-Some.f miss.0 c.in_ok-home.ensures.ok
    (subst (λ (s : StoreState). IfSome s.current (λ (b : List (List ℕ)). HeadsFound greatest c.load_heads.new.heads c.in-Some.f b × EntryMisses greatest c.load_heads.new.heads c.in-Some.f (block_at b (1 + c.in-Some.f)))) c.in_ok-home.ensures.state miss.1)

pub returns-in-Some-first_misfit-clause-err : goal.returns-in-Some-first_misfit-clause-err
returns-in-Some-first_misfit-clause-err g c =
    let greatest = c.in_ok-home.home.greatest_moment.0 in
    let all : IfSome c.load_home.new.store.current (HeadsFound greatest c.load_heads.new.heads 64) = search rules in
    let found = subst (λ (s : StoreState). IfSome s.current (HeadsFound greatest c.load_heads.new.heads 64)) c.in_ok-home.ensures.state all in
    let area = c.data_area.ensures ∙ ap data_area c.sizes.ensures in
    let long : length c.all_extents.result ≡ 256 = search rules in
    let fits = c.in-Some-first_misfit.ensures in
    let within = fits.found.0 in
    placed_finding_told c.args.store.now.current c.args.node.now c.args.store.now.fits c.in_ok-home.home c.load_heads.new.heads c.in-Some-first_misfit.i (omega arith) c.in_ok-home.ensures.ok found c.load_heads.ensures.count
    (misfit_at c.data_area.result c.all_extents.result c.in_ok-home.home c.load_heads.new.heads c.in-Some-first_misfit.i area c.all_extents.ensures fits.found.1)
    (fit_below c.data_area.result c.all_extents.result c.in_ok-home.home c.load_heads.new.heads c.in-Some-first_misfit.i area c.all_extents.ensures fits.lowest)

pub returns-clause-ok : goal.returns-clause-ok
returns-clause-ok g c =
    let greatest = c.in_ok-home.home.greatest_moment.0 in
    let all : IfSome c.load_home.new.store.current (HeadsFound greatest c.load_heads.new.heads 64) = search rules in
    let found = subst (λ (s : StoreState). IfSome s.current (HeadsFound greatest c.load_heads.new.heads 64)) c.in_ok-home.ensures.state all in
    let area = c.data_area.ensures ∙ ap data_area c.sizes.ensures in
    let long : length c.all_extents.result ≡ 256 = search rules in
    let fit : (k : ℕ) → k < length c.all_extents.result → FitsAt c.data_area.result c.all_extents.result k = search rules in
    let ru = subst (λ (s : StoreState). IfSome s.current (λ (b : List (List ℕ)). HasRu (block_at b 65) c.in_ok-ru.ru)) (same_on c.args.store.now c.load_home.new.store c.load_heads.new.store c.in_ok-home.ensures.state c.in_ok-f.ensures.state) c.in_ok-ru.ensures.ru in
    loaded_told c.args.store.now.current c.args.node.now c.args.store.now.fits (record { home = c.in_ok-home.home; heads = c.load_heads.new.heads; ru = c.in_ok-ru.ru }) c.in_ok-home.ensures.ok found c.load_heads.ensures.count
    (fit_all c.data_area.result c.all_extents.result c.in_ok-home.home c.load_heads.new.heads area c.all_extents.ensures long fit) ru

pub returns-clause-count : goal.returns-clause-count
returns-clause-count g c = c.load_heads.ensures.count
