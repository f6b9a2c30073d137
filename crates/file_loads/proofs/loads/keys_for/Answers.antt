use Rattle.std.proofs.Common.{◌≡◌, ◌-◌, ◌*◌, ℕ, [], List, map, sym, ap, subst, ◌∙◌}
use Rattle.file_base.specs.declared.head.FileHead.{FileHead}
use Rattle.file_base.specs.declared.head.Organization.{Organization}
use Rattle.file_base.specs.declared.head.Organization.TheVariants.{Indexed}
use Rattle.load_pages.specs.indexed_file.Chain.{HasKeys, kind_of}
use Rattle.load_pages.specs.load_laws.Chains.{packed}
use Rattle.load_pages.specs.load_laws.Keys.{lowest_keys}
use Rattle.load_pages.specs.load_laws.Loads.{AllSuitBy, HeadBy}
use Rattle.load_pages.specs.declared.records.KeyedRecord.{KeyedRecord}
use Rattle.load_pages.specs.Given.{keyed, raw_of}
use Rattle.file_loads.specs.Failing.{HasKeysBy, HasKeysFor}
use Rattle.file_loads.proofs.GivenLemmas.{raws_same, text_raws}
use Rattle.file_loads.proofs.WriteLemmas.{if_ok_then}
use Rattle.file_loads.proofs.loads.keys_for.Goals as goal

pub lowest_of-requires-clause-fit : goal.lowest_of-requires-clause-fit
lowest_of-requires-clause-fit c =
    let h = c.args.head.now in
    let keys : HasKeys h = subst (λ (o : Organization). HeadBy o h) c.in-Indexed.is c.requires.loadable.head in
    text_raws h c.args.records.now keys.key c.requires.most c.requires.fit (subst (λ (o : Organization). AllSuitBy o h (map keyed c.args.records.now)) c.in-Indexed.is c.requires.loadable.suit)

keys_told : (h : FileHead) (rs : List KeyedRecord) (keys : List (List ℕ)) → h.organization ≡ Indexed → keys ≡ lowest_keys h (packed (512 * h.bucket - 16) [] (map (raw_of (kind_of h)) rs)) → HasKeysFor h (map keyed rs) keys
keys_told h rs keys is told =
    subst (λ (o : Organization). HasKeysBy o h (map keyed rs) keys) (sym is) (told ∙ ap (λ (raws : List (List ℕ)). lowest_keys h (packed (512 * h.bucket - 16) [] raws)) (raws_same (kind_of h) rs))

pub returns-in-Indexed : goal.returns-in-Indexed
returns-in-Indexed c = if_ok_then c.lowest_of.result (λ keys told. keys_told c.args.head.now c.args.records.now keys.items c.in-Indexed.is told) c.lowest_of.ensures.are
