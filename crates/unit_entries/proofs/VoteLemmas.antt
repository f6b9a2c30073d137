-- Records move behind others, one after another.
use Rattle.std.proofs.Common.{◌≡◌, ℕ, zero, suc, ◌+◌, ◌<◌, ◌≤◌, ◌==◌, Bool, true, false, List, [], ◌∷◌, ◌++◌, Option, Some, None, IfSome, if◌then◌else◌, map, remove, get_or, slice_get, refl, sym, ap, subst, ◌∙◌, arith, append-nil, append_assoc}
use Rattle.std.proofs.lemmas.List.{map-append}
use Rattle.run_model.specs.commit_protocol.Messages.{LogRecord}
use Rattle.file_base.specs.declared.head.Span.{Span}
use Rattle.journal_format.specs.Heads.{entry_of}
use Rattle.journal_format.specs.declared.head.EntryHead.{EntryHead}
use Rattle.journal_format.specs.journal_model.Entries.{Entry}
use Rattle.journal_format.specs.journal_model.Ring.{IsJournal}
use Rattle.journal_store.specs.Reading.{ReadsAt}
use Rattle.table_keys.specs.records_model.History.{same_id}
use Rattle.run_model.specs.World.{find_record, records_by, without_record}
use Rattle.tm_types.specs.Parts.{log_record_of}
use Rattle.unit_entries.specs.Reading.{AreRead}
use Rattle.unit_entries.proofs.ReadLemmas.{all_read, begins_read, entry_is, entry_stands, next_entry, one_is_there, read_on}
use Rattle.unit_entries.proofs.StoreLemmas.{of_any, of_both, of_content}
use Rattle.vms_base.specs.Ids.{serial_of}
use Rattle.vms_base.specs.declared.protocol.LogRec.{LogRec}
use Rattle.vms_base.specs.vms_model.Ids.{Id}
use Rattle.unit_entries.specs.Voting.{IsPlaceOf, IsVoted, votes_in}

abbrev said : List LogRec → List LogRecord
said rs = map log_record_of rs

-- Where a record stands.

pub here : (serial : Id) (r : LogRec) (rs : List LogRec) → same_id serial (serial_of r.serial) ≡ true → IsPlaceOf serial (r ∷ rs) 0
here serial r rs is = record {
  within = omega arith;
  found = r;
  at = refl;
  is = ap (λ (b : Bool). if b then Some (log_record_of r) else find_record serial (said rs)) is;
  others = sym (ap (λ (b : Bool). if b then said rs else log_record_of r ∷ without_record serial (said rs)) is);
}

pub behind : (serial : Id) (r : LogRec) (rs : List LogRec) (i : ℕ) → same_id serial (serial_of r.serial) ≡ false → IsPlaceOf serial rs i → IsPlaceOf serial (r ∷ rs) (i + 1)
behind serial r rs i is p = let one : suc i ≡ i + 1 = omega arith in subst (IsPlaceOf serial (r ∷ rs)) one record {
  within = let w = p.within in omega (arith, w);
  found = p.found;
  at = p.at;
  is = ap (λ (b : Bool). if b then Some (log_record_of r) else find_record serial (said rs)) is ∙ p.is;
  others = ap (λ (xs : List LogRecord). log_record_of r ∷ xs) p.others ∙ sym (ap (λ (b : Bool). if b then said rs else log_record_of r ∷ without_record serial (said rs)) is);
}

pub nowhere : (serial : Id) (r : LogRec) (rs : List LogRec) → same_id serial (serial_of r.serial) ≡ false → find_record serial (said rs) ≡ None → find_record serial (said (r ∷ rs)) ≡ None
nowhere serial r rs is none = ap (λ (b : Bool). if b then Some (log_record_of r) else find_record serial (said rs)) is ∙ none

-- It moves.

at_place : (rs : List LogRec) (i : ℕ) (r x : LogRec) → slice_get rs i ≡ Some x → r ≡ get_or rs i r → r ≡ x
at_place [] i r x at is = let never : ⊥ = cc in absurd never
at_place (y ∷ rs) zero r x at is = (let same : y ≡ x = cc in is ∙ same)
at_place (y ∷ rs) (suc i) r x at is = at_place rs i r x at is

one_record : (a b : LogRecord) → ◌≡◌ {A = Option LogRecord} (Some a) (Some b) → a ≡ b
one_record a b e = cc

by_first : (serial : Id) (ws : List Id) (rs : List LogRecord) (o : Option LogRecord) → find_record serial rs ≡ o → records_by (serial ∷ ws) rs ≡ (elim o [ Some r ↦ r ∷ records_by ws (without_record serial rs) | None ↦ records_by ws rs ])
by_first serial ws rs o is = ap (λ (x : Option LogRecord). elim x [ Some r ↦ r ∷ records_by ws (without_record serial rs) | None ↦ records_by ws rs ]) is

pub moved_one : (serial : Id) (rest left out new : List LogRec) (i : ℕ) (r : LogRec) → IsPlaceOf serial rest i → r ≡ get_or rest i r → left ≡ remove rest i → new ≡ out ++ r ∷ [] →
    (ws : List Id) → said new ++ records_by ws (said left) ≡ said out ++ records_by (serial ∷ ws) (said rest)
moved_one serial rest left out new i r p at gone more ws =
    let same : r ≡ p.found = at_place rest i r p.found p.at at in
    ap (λ (xs : List LogRec). said xs ++ records_by ws (said left)) more ∙ ap (λ (xs : List LogRecord). xs ++ records_by ws (said left)) (map-append log_record_of out (r ∷ []))
    ∙ append_assoc (said out) (log_record_of r ∷ []) (records_by ws (said left))
    ∙ ap (λ (x : LogRec). said out ++ log_record_of x ∷ records_by ws (said left)) same
    ∙ ap (λ (xs : List LogRecord). said out ++ log_record_of p.found ∷ records_by ws xs) (ap said gone ∙ p.others)
    ∙ ap (λ (xs : List LogRecord). said out ++ xs) (sym (by_first serial ws (said rest) (Some (log_record_of p.found)) p.is))

pub moved_none : (serial : Id) (rest out : List LogRec) → find_record serial (said rest) ≡ None → (ws : List Id) → said out ++ records_by ws (said rest) ≡ said out ++ records_by (serial ∷ ws) (said rest)
moved_none serial rest out none ws = ap (λ (xs : List LogRecord). said out ++ xs) (sym (by_first serial ws (said rest) None none))

-- The records of the entries that were read moved.

pub record IsVoting (content : Option (List (List ℕ))) (s : Span) (rest left out new : List LogRecord) (position : ℕ) : Type 0 where
  pub votes : List Id
  pub moved : (ws : List Id) → new ++ records_by ws left ≡ out ++ records_by (votes ++ ws) rest
  pub told : IfSome content (λ c. (es : List Entry) → IsJournal c s es →
      (front : List Entry) × AreRead s es front position × ((ws : List Id) → new ++ records_by ws left ≡ out ++ records_by (votes_in front ++ ws) rest))

pub none_voted : (content : Option (List (List ℕ))) (s : Span) (rest out : List LogRecord) → IsVoting content s rest rest out out s.first
none_voted content s rest out = record { votes = []; moved = λ ws. refl; told = of_any content (λ c es journal. ([], begins_read c s es journal, λ ws. refl)) }

votes_append : (xs ys : List Entry) → votes_in (xs ++ ys) ≡ votes_in xs ++ votes_in ys
votes_append [] ys = refl
votes_append (x ∷ xs) ys = go (x.kind == 2) (votes_append xs ys)
  where
    go : (b : Bool) → votes_in (xs ++ ys) ≡ votes_in xs ++ votes_in ys → (if b then x.serial ∷ votes_in (xs ++ ys) else votes_in (xs ++ ys)) ≡ (if b then x.serial ∷ votes_in xs else votes_in xs) ++ votes_in ys
    go true rest = ap (λ (zs : List Id). x.serial ∷ zs) rest
    go false rest = rest

module _ (content : Option (List (List ℕ))) (s : Span) (rest mid left out now new : List LogRecord) (position : ℕ) (h : EntryHead)
    (moved : (ws : List Id) → new ++ records_by ws left ≡ now ++ records_by (votes_in (entry_of h [] ∷ []) ++ ws) mid) where
  -- those of some branches moved before
  then_moved : (vs : List Id) → ((ws : List Id) → now ++ records_by ws mid ≡ out ++ records_by (vs ++ ws) rest) → (ws : List Id) → new ++ records_by ws left ≡ out ++ records_by ((vs ++ votes_in (entry_of h [] ∷ [])) ++ ws) rest
  then_moved vs before ws = moved ws ∙ before (votes_in (entry_of h [] ∷ []) ++ ws) ∙ ap (λ (xs : List Id). out ++ records_by xs rest) (sym (append_assoc vs (votes_in (entry_of h [] ∷ [])) ws))

  pub voted_more : IsVoting content s rest mid out now position → position < s.end → (next : ℕ) (image : List ℕ) → IfSome content (ReadsAt s position (Some (h, next)) image) → IsVoting content s rest left out new next
  voted_more before on next image reads = record {
    votes = before.votes ++ votes_in (entry_of h [] ∷ []);
    moved = then_moved before.votes before.moved;
    told = of_both content (λ c told stands es journal. (
        let r = told es journal in
        let n = next_entry c s es journal r.0 position on r.1 in
        let e = entry_of h image in
        let same : e ≡ n.0 = stands.only n.0 (entry_is c s es journal r.0 position r.1 n.0 n.1 n.2) (entry_stands c s es journal r.0 position r.1 n.0 n.1 n.2) in (
          r.0 ++ e ∷ [],
          subst (AreRead s es (r.0 ++ e ∷ [])) (sym stands.behind) (read_on c s es journal r.0 position r.1 e n.1 (n.2 ∙ ap (λ (x : Entry). x ∷ n.1) (sym same))),
          λ ws. then_moved (votes_in r.0) r.2 ws ∙ ap (λ (vs : List Id). out ++ records_by (vs ++ ws) rest) (sym (votes_append r.0 (e ∷ []))),
        ))) before.told reads;
  }

module _ (content : Option (List (List ℕ))) (s : Span) (rest left out new : List LogRecord) (position : ℕ) (before : IsVoting content s rest left out new position) where
  moved_all : new ++ left ≡ out ++ records_by before.votes rest
  moved_all = before.moved [] ∙ ap (λ (xs : List Id). out ++ records_by xs rest) (append-nil before.votes)

  -- at the end of the journal
  pub voted_all : s.end ≤ position → IsVoted content s rest left out new
  voted_all end = record {
    votes = before.votes;
    moved = moved_all;
    told = of_content content (λ c told es journal.
        let r = told es journal in
        r.2 [] ∙ ap (λ (xs : List Id). out ++ records_by xs rest) (append-nil (votes_in r.0)) ∙ ap (λ (xs : List Entry). out ++ records_by (votes_in xs) rest) (all_read c s es journal r.0 position r.1 end)) before.told;
  }

  -- and where no entry stands
  pub voted_broken : position < s.end → (image : List ℕ) → IfSome content (ReadsAt s position None image) → IsVoted content s rest left out new
  voted_broken on image reads = record {
    votes = before.votes;
    moved = moved_all;
    told = of_both content (λ c told none es journal. let r = told es journal in absurd (one_is_there c s es journal r.0 position r.1 on image none)) before.told reads;
  }
