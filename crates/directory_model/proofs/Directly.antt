-- A file that no unsettled branch changed, after changes that were committed at once.
use Rattle.std.proofs.Common.{◌≡◌, ℕ, List, [], ◌∷◌, if◌then◌else◌, refl, sym, ap, ◌∙◌}
use Rattle.records_model.specs.vms_model.Ids.{Id}
use Rattle.records_model.specs.vms_model.Transactions.{Commit}
use Rattle.records_model.specs.Records.{Change, applied}
use Rattle.records_model.specs.History.{History, LiveChanges, records, current, on_top, changes_by, with_change, with_changes, without, changed_with, settled_at, settled_with}
use Rattle.file_images.proofs.unit_laws.LiveLemmas.{id_itself}

-- the unsettled changes of one branch alone, where it made some
abbrev alone : Id → List Change → List LiveChanges
alone serial [] = []
alone serial (c ∷ cs) = record { serial = serial; changes = c ∷ cs } ∷ []

changed_alone : (serial : Id) (c : Change) (cs : List Change) → with_change serial c (alone serial cs) ≡ alone serial (c ∷ cs)
changed_alone serial c [] = refl
changed_alone serial c (d ∷ cs) = ap (λ b. if b then record { serial = serial; changes = c ∷ d ∷ cs } ∷ [] else record { serial = serial; changes = d ∷ cs } ∷ record { serial = serial; changes = c ∷ [] } ∷ []) (id_itself serial)

all_alone : (serial : Id) (cs : List Change) → with_changes serial cs [] ≡ alone serial cs
all_alone serial [] = refl
all_alone serial (c ∷ cs) = ap (with_change serial c) (all_alone serial cs) ∙ changed_alone serial c cs

by_alone : (serial : Id) (cs : List Change) → changes_by serial (alone serial cs) ≡ cs
by_alone serial [] = refl
by_alone serial (c ∷ cs) = ap (λ b. if b then c ∷ cs else []) (id_itself serial)

without_alone : (serial : Id) (cs : List Change) → without serial (alone serial cs) ≡ []
without_alone serial [] = refl
without_alone serial (c ∷ cs) = ap (λ b. if b then [] else record { serial = serial; changes = c ∷ cs } ∷ []) (id_itself serial)

committed : (serial : Id) (moment : ℕ) (cs : List Change) (h : History) → current (settled_with serial Commit moment cs (record h { live = alone serial cs })) ≡ applied cs (records h)
committed serial moment [] h = refl
committed serial moment (c ∷ cs) h = ap (λ (ls : List LiveChanges). on_top ls (applied (c ∷ cs) (records h))) (without_alone serial (c ∷ cs))

pub current_directly : (serial : Id) (moment : ℕ) (cs : List Change) (h : History) → h.live ≡ [] → current (settled_at serial Commit moment (changed_with serial cs h)) ≡ applied cs (current h)
current_directly serial moment cs h none =
    ap (λ (ls : List LiveChanges). current (settled_at serial Commit moment (record h { live = ls }))) (ap (with_changes serial cs) none ∙ all_alone serial cs)
    ∙ ap (λ (ds : List Change). current (settled_with serial Commit moment ds (record h { live = alone serial cs }))) (by_alone serial cs)
    ∙ committed serial moment cs h
    ∙ ap (λ (ls : List LiveChanges). applied cs (on_top ls (records h))) (sym none)

none_left : (serial : Id) (moment : ℕ) (cs : List Change) (h : History) → (settled_with serial Commit moment cs (record h { live = alone serial cs })).live ≡ []
none_left serial moment [] h = refl
none_left serial moment (c ∷ cs) h = without_alone serial (c ∷ cs)

-- none of them is unsettled
pub live_directly : (serial : Id) (moment : ℕ) (cs : List Change) (h : History) → h.live ≡ [] → (settled_at serial Commit moment (changed_with serial cs h)).live ≡ []
live_directly serial moment cs h none =
    ap (λ (ls : List LiveChanges). (settled_at serial Commit moment (record h { live = ls })).live) (ap (with_changes serial cs) none ∙ all_alone serial cs)
    ∙ ap (λ (ds : List Change). (settled_with serial Commit moment ds (record h { live = alone serial cs })).live) (by_alone serial cs)
    ∙ none_left serial moment cs h
