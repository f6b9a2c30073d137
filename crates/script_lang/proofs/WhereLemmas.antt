-- A column is told exactly where no statement goes on.
use Rattle.std.proofs.Common.{◌≡◌, ℕ, inl, inr, List, [], ◌∷◌, ◌++◌, Bool, true, false, refl, ap, subst, sym, ◌∙◌, Option, Some, None}
use Rattle.std.specs.Prelude.{if◌then◌else◌, codes, ◌&&◌, is_some, map}
use Rattle.std.specs.Str.{bytes_eq}
use Rattle.script_model.specs.LineWords.{Word, is_empty, words_of}
use Rattle.script_model.specs.Statements.{Statement, Reading, Blank, Says, Bad, At, DumpJournal as JournalDumped, RecoveryUnits, AfterImages, BeforeImages, Side, ByLabel}
use Rattle.jiff_core.specs.Calendar.{days_from_civil, day_count, days_of_years, days_of_months}
use Rattle.vms_base.specs.vms_model.Times.{MomentSaid, time_said}
use Rattle.script_model.specs.commit_protocol.Messages.{VetoReply}
use Rattle.script_model.specs.Operands.{KeyWord, Numbered, Spelled, moment_in}
use Rattle.script_model.specs.Grammar.{Kind, Meaning, meaning, AFirst, AVerb, ANode, ALabel, ALabelOrNone, AManager, AReply, AFile, AnOrganization, ASetting, ALogWord, LogWord, Show, Dumped, ANumber, ALongNumber, SomeBytes, AKey, ABranch, ATime, ATimeout, Timeout, AnUntil, Until, ASide, ADirection, Mark, Whole, OfBlocks, Verb, Init, Boot, Create, SetFile, StartTrans, AddBranch, StartBranch, Put, Update, Delete, Truncate, Get, Next, EndBranch, EndTrans, AbortTrans, Inquire, DeclareRm, JoinRm, AckEvent, ForgetRm, GetDti, Lmcp, Dump, DumpJournal, Backup, Recover, Fuse, Crash, Clock, Deliver, LinkDown, Settle, Organization, Sequential, Relative, Indexed, First, ToNode, ToWorld, Shape, Ends, Then, EndsOr, ThenMore, reads, is_side, sides, units_word, mark_operands, image_operands, journal_operands, direction_operands, form_operands, put_operands, operands, behind_first, line_shape, is_skipped}
use Rattle.std.proofs.lemmas.Slice.Eq.{bytes_eq-Decides}
use Rattle.std.proofs.lemmas.Str.Ascii.{uppercase-uppercase}
use Rattle.vms_base.specs.vms_model.Names.{upper, is_name}
use Rattle.script_lang.specs.Where.{CanGoOn, MayNotEnd, TellsWhere, LineTellsWhere}

-- there is such a word
record Sample (k : Kind) : Type 0 where
  text : List ℕ
  meant : Meaning k
  says : meaning k text ≡ Some meant

-- there is such a word which may stand last, and those that may not name journals
record Plain (k : Kind) (not_last : Meaning k → Bool) : Type 0 where
  text : List ℕ
  meant : Meaning k
  says : meaning k text ≡ Some meant
  stands : not_last meant ≡ false
  sides_only : (t : List ℕ) (m : Meaning k) → meaning k t ≡ Some m → not_last m ≡ true → is_side t ≡ true

-- a statement of this shape has a word more
abbrev WantsWord : Shape → Type 0
WantsWord shape = (end : ℕ) (s : Statement) → reads shape [] end ≡ Says s → ⊥

-- each word that a shape may want can be written
abbrev IsWritable : Shape → Type 0
IsWritable (Ends s) = Unit {0}
IsWritable (Then k next) = Sample k × ((m : Meaning k) → IsWritable (next m))
IsWritable (EndsOr s shape) = IsWritable shape
IsWritable (ThenMore k not_last next) = Plain k not_last × ((m : Meaning k) → IsWritable (next m)) × ((m : Meaning k) → not_last m ≡ true → WantsWord (next m))

not_says : (column : ℕ) (s : Statement) → Bad column ≡ Says s → ⊥
not_says column s h = cc

takes_word : (k : Kind) (next : Meaning k → Shape) (w : Word) (ws : List Word) (end : ℕ) (m : Meaning k) → meaning k w.text ≡ Some m → reads (Then k next) (w ∷ ws) end ≡ reads (next m) ws end
takes_word k next w ws end m e = rw (e, reads) refl

refuses_word : (k : Kind) (next : Meaning k → Shape) (w : Word) (ws : List Word) (end : ℕ) → meaning k w.text ≡ None → reads (Then k next) (w ∷ ws) end ≡ Bad w.column
refuses_word k next w ws end e = rw (e, reads) refl

more_word : (k : Kind) (not_last : Meaning k → Bool) (next : Meaning k → Shape) (w : Word) (ws : List Word) (end : ℕ) (m : Meaning k) → meaning k w.text ≡ Some m → (is_empty ws && not_last m) ≡ false → reads (ThenMore k not_last next) (w ∷ ws) end ≡ reads (next m) ws end
more_word k not_last next w ws end m e f = rw (e, f, reads) refl

last_word : (k : Kind) (not_last : Meaning k → Bool) (next : Meaning k → Shape) (w : Word) (ws : List Word) (end : ℕ) (m : Meaning k) → meaning k w.text ≡ Some m → (is_empty ws && not_last m) ≡ true → reads (ThenMore k not_last next) (w ∷ ws) end ≡ Bad w.column
last_word k not_last next w ws end m e f = rw (e, f, reads) refl

no_word : (k : Kind) (not_last : Meaning k → Bool) (next : Meaning k → Shape) (w : Word) (ws : List Word) (end : ℕ) → meaning k w.text ≡ None → reads (ThenMore k not_last next) (w ∷ ws) end ≡ Bad w.column
no_word k not_last next w ws end e = rw (e, reads) refl

and_false : (a b : Bool) → b ≡ false → (a && b) ≡ false
and_false true b h = h
and_false false b h = refl

-- every statement can be begun
can_begin : (shape : Shape) → IsWritable shape → CanGoOn shape []
can_begin (Ends s) h = record { more = []; statement = s; says = refl }
can_begin (Then k next) h =
    let rest = can_begin (next h.0.meant) (h.1 h.0.meant) in
    let w : Word = record { column = 0; text = h.0.text } in
    record { more = w ∷ rest.more; statement = rest.statement; says = takes_word k next w rest.more 0 h.0.meant h.0.says ∙ rest.says }
can_begin (EndsOr s shape) h = record { more = []; statement = s; says = refl }
can_begin (ThenMore k not_last next) h =
    let rest = can_begin (next h.0.meant) (h.1 h.0.meant) in
    let w : Word = record { column = 0; text = h.0.text } in
    record { more = w ∷ rest.more; statement = rest.statement; says = more_word k not_last next w rest.more 0 h.0.meant h.0.says (and_false _ _ h.0.stands) ∙ rest.says }

onto_word : (k : Kind) (next : Meaning k → Shape) (w : Word) (ws : List Word) (m : Meaning k) → meaning k w.text ≡ Some m → CanGoOn (next m) ws → CanGoOn (Then k next) (w ∷ ws)
onto_word k next w ws m e c = record { more = c.more; statement = c.statement; says = takes_word k next w (ws ++ c.more) 0 m e ∙ c.says }

behind_word : (k : Kind) (next : Meaning k → Shape) (w : Word) (ws : List Word) (m : Meaning k) → meaning k w.text ≡ Some m → CanGoOn (Then k next) (w ∷ ws) → CanGoOn (next m) ws
behind_word k next w ws m e c = record { more = c.more; statement = c.statement; says = sym (takes_word k next w (ws ++ c.more) 0 m e) ∙ c.says }

one_more : (k : Kind) (next : Meaning k → Shape) (w : Word) (ws : List Word) (end : ℕ) (m : Meaning k) (r : Reading) → meaning k w.text ≡ Some m → TellsWhere (next m) ws end r → TellsWhere (Then k next) (w ∷ ws) end r
one_more k next w ws end m Blank e t = t
one_more k next w ws end m (Says s) e t = t
one_more k next w ws end m (Bad column) e (inl t) = inl (record { column_is = t.column_is; goes_on = onto_word k next w ws m e t.goes_on })
one_more k next w ws end m (Bad column) e (inr (inl t)) = inr (inl (record { before = w ∷ t.before; word = t.word; after = t.after; words_are = ap (λ v. w ∷ v) t.words_are; column_is = t.column_is; goes_on = onto_word k next w t.before m e t.goes_on; breaks = λ c. t.breaks (behind_word k next w (t.before ++ t.word ∷ []) m e c) }))
one_more k next w ws end m (Bad column) e (inr (inr t)) = inr (inr (record { before = w ∷ t.before; word = t.word; words_are = ap (λ v. w ∷ v) t.words_are; column_is = t.column_is; names_journal = t.names_journal; goes_on = onto_word k next w ws m e t.goes_on }))

by_meaning : (k : Kind) (next : Meaning k → Shape) (w : Word) (ws : List Word) (end : ℕ) (o : Option (Meaning k)) → meaning k w.text ≡ o → IsWritable (Then k next) → ((m : Meaning k) → TellsWhere (next m) ws end (reads (next m) ws end)) → TellsWhere (Then k next) (w ∷ ws) end (reads (Then k next) (w ∷ ws) end)
by_meaning k next w ws end None e h rest =
    rw (refuses_word k next w ws end e) (inr (inl (record { before = []; word = w; after = ws; words_are = refl; column_is = refl; goes_on = can_begin (Then k next) h; breaks = λ c. not_says w.column c.statement (sym (refuses_word k next w c.more 0 e) ∙ c.says) })))
by_meaning k next w ws end (Some m) e h rest = rw (takes_word k next w ws end m e) (one_more k next w ws end m (reads (next m) ws end) e (rest m))

or_ends : (s : Statement) (shape : Shape) (before : List Word) → CanGoOn shape before → CanGoOn (EndsOr s shape) before
or_ends s shape [] c = record { more = []; statement = s; says = refl }
or_ends s shape (b ∷ bs) c = record { more = c.more; statement = c.statement; says = c.says }

not_or_ends : (s : Statement) (shape : Shape) (before : List Word) (w : Word) → CanGoOn (EndsOr s shape) (before ++ w ∷ []) → CanGoOn shape (before ++ w ∷ [])
not_or_ends s shape [] w c = record { more = c.more; statement = c.statement; says = c.says }
not_or_ends s shape (b ∷ bs) w c = record { more = c.more; statement = c.statement; says = c.says }

or_more : (s : Statement) (shape : Shape) (w : Word) (ws : List Word) (end : ℕ) (r : Reading) → TellsWhere shape (w ∷ ws) end r → TellsWhere (EndsOr s shape) (w ∷ ws) end r
or_more s shape w ws end Blank t = t
or_more s shape w ws end (Says x) t = t
or_more s shape w ws end (Bad column) (inl t) = inl (record { column_is = t.column_is; goes_on = or_ends s shape (w ∷ ws) t.goes_on })
or_more s shape w ws end (Bad column) (inr (inl t)) = inr (inl (record { before = t.before; word = t.word; after = t.after; words_are = t.words_are; column_is = t.column_is; goes_on = or_ends s shape t.before t.goes_on; breaks = λ c. t.breaks (not_or_ends s shape t.before t.word c) }))
or_more s shape w ws end (Bad column) (inr (inr t)) = inr (inr (record { before = t.before; word = t.word; words_are = t.words_are; column_is = t.column_is; names_journal = t.names_journal; goes_on = or_ends s shape (w ∷ ws) t.goes_on }))

-- So it is where a word may not stand last.
behind_some : (ws : List Word) (w : Word) (more : List Word) (b : Bool) → (is_empty ((ws ++ w ∷ []) ++ more) && b) ≡ false
behind_some [] w more b = refl
behind_some (v ∷ vs) w more b = refl

onto_more : (k : Kind) (not_last : Meaning k → Bool) (next : Meaning k → Shape) (w : Word) (ws : List Word) (m : Meaning k) → meaning k w.text ≡ Some m → (not_last m ≡ true → WantsWord (next m)) → CanGoOn (next m) ws → CanGoOn (ThenMore k not_last next) (w ∷ ws)
onto_more k not_last next w ws m e wants c = record { more = c.more; statement = c.statement; says = more_word k not_last next w (ws ++ c.more) 0 m e (not_both (ws ++ c.more) (not_last m) refl c.says) ∙ c.says }
  where
    not_both : (vs : List Word) (b : Bool) → not_last m ≡ b → reads (next m) vs 0 ≡ Says c.statement → (is_empty vs && b) ≡ false
    not_both [] true l s = absurd (wants l 0 c.statement s)
    not_both [] false l s = refl
    not_both (v ∷ vs) b l s = refl

behind_more : (k : Kind) (not_last : Meaning k → Bool) (next : Meaning k → Shape) (w : Word) (before : List Word) (v : Word) (m : Meaning k) → meaning k w.text ≡ Some m → CanGoOn (ThenMore k not_last next) (w ∷ (before ++ v ∷ [])) → CanGoOn (next m) (before ++ v ∷ [])
behind_more k not_last next w before v m e c = record { more = c.more; statement = c.statement; says = sym (more_word k not_last next w ((before ++ v ∷ []) ++ c.more) 0 m e (behind_some before v c.more (not_last m))) ∙ c.says }

one_more_of : (k : Kind) (not_last : Meaning k → Bool) (next : Meaning k → Shape) (w : Word) (ws : List Word) (end : ℕ) (m : Meaning k) (r : Reading) → meaning k w.text ≡ Some m → (not_last m ≡ true → WantsWord (next m)) → TellsWhere (next m) ws end r → TellsWhere (ThenMore k not_last next) (w ∷ ws) end r
one_more_of k not_last next w ws end m Blank e wants t = t
one_more_of k not_last next w ws end m (Says s) e wants t = t
one_more_of k not_last next w ws end m (Bad column) e wants (inl t) = inl (record { column_is = t.column_is; goes_on = onto_more k not_last next w ws m e wants t.goes_on })
one_more_of k not_last next w ws end m (Bad column) e wants (inr (inl t)) = inr (inl (record { before = w ∷ t.before; word = t.word; after = t.after; words_are = ap (λ v. w ∷ v) t.words_are; column_is = t.column_is; goes_on = onto_more k not_last next w t.before m e wants t.goes_on; breaks = λ c. t.breaks (behind_more k not_last next w t.before t.word m e c) }))
one_more_of k not_last next w ws end m (Bad column) e wants (inr (inr t)) = inr (inr (record { before = w ∷ t.before; word = t.word; words_are = ap (λ v. w ∷ v) t.words_are; column_is = t.column_is; names_journal = t.names_journal; goes_on = onto_more k not_last next w ws m e wants t.goes_on }))

both : (a b : Bool) → (a && b) ≡ true → (a ≡ true) × (b ≡ true)
both true b h = (refl, h)
both false b h = let never : ⊥ = cc in absurd never

none_left : (ws : List Word) → is_empty ws ≡ true → ws ≡ []
none_left [] h = refl
none_left (w ∷ ws) h = let never : ⊥ = cc in absurd never

by_last : (k : Kind) (not_last : Meaning k → Bool) (next : Meaning k → Shape) (w : Word) (ws : List Word) (end : ℕ) (m : Meaning k) → meaning k w.text ≡ Some m → IsWritable (ThenMore k not_last next) → TellsWhere (next m) ws end (reads (next m) ws end) →
    (b : Bool) → (is_empty ws && not_last m) ≡ b → TellsWhere (ThenMore k not_last next) (w ∷ ws) end (reads (ThenMore k not_last next) (w ∷ ws) end)
by_last k not_last next w ws end m e h rest false f = rw (more_word k not_last next w ws end m e f) (one_more_of k not_last next w ws end m (reads (next m) ws end) e (h.2 m) rest)
by_last k not_last next w ws end m e h rest true f =
    let p = both (is_empty ws) (not_last m) f in
    let none = none_left ws p.0 in
    rw (last_word k not_last next w ws end m e f) (inr (inr (record {
      before = [];
      word = w;
      words_are = ap (λ vs. w ∷ vs) none;
      column_is = refl;
      names_journal = h.0.sides_only w.text m e p.1;
      goes_on = subst (λ vs. CanGoOn (ThenMore k not_last next) (w ∷ vs)) (sym none) (onto_more k not_last next w [] m e (h.2 m) (can_begin (next m) (h.1 m)));
    })))

by_more : (k : Kind) (not_last : Meaning k → Bool) (next : Meaning k → Shape) (w : Word) (ws : List Word) (end : ℕ) (o : Option (Meaning k)) → meaning k w.text ≡ o → IsWritable (ThenMore k not_last next) → ((m : Meaning k) → TellsWhere (next m) ws end (reads (next m) ws end)) → TellsWhere (ThenMore k not_last next) (w ∷ ws) end (reads (ThenMore k not_last next) (w ∷ ws) end)
by_more k not_last next w ws end None e h rest =
    rw (no_word k not_last next w ws end e) (inr (inl (record { before = []; word = w; after = ws; words_are = refl; column_is = refl; goes_on = can_begin (ThenMore k not_last next) h; breaks = λ c. not_says w.column c.statement (sym (no_word k not_last next w c.more 0 e) ∙ c.says) })))
by_more k not_last next w ws end (Some m) e h rest = by_last k not_last next w ws end m e h (rest m) (is_empty ws && not_last m) refl

tells_where : (shape : Shape) → IsWritable shape → (ws : List Word) (end : ℕ) → TellsWhere shape ws end (reads shape ws end)
tells_where (Ends s) h [] end = tt
tells_where (Ends s) h (w ∷ ws) end = inr (inl (record { before = []; word = w; after = ws; words_are = refl; column_is = refl; goes_on = can_begin (Ends s) h; breaks = λ c. not_says w.column c.statement c.says }))
tells_where (Then k next) h [] end = inl (record { column_is = refl; goes_on = can_begin (Then k next) h })
tells_where (Then k next) h (w ∷ ws) end = by_meaning k next w ws end (meaning k w.text) refl h (λ m. tells_where (next m) (h.1 m) ws end)
tells_where (EndsOr s shape) h [] end = tt
tells_where (EndsOr s shape) h (w ∷ ws) end = or_more s shape w ws end (reads shape (w ∷ ws) end) (tells_where shape h (w ∷ ws) end)
tells_where (ThenMore k not_last next) h [] end = inl (record { column_is = refl; goes_on = can_begin (ThenMore k not_last next) h })
tells_where (ThenMore k not_last next) h (w ∷ ws) end = by_more k not_last next w ws end (meaning k w.text) refl h (λ m. tells_where (next m) (h.1 m) ws end)

a_node : Sample ANode
a_node = record { text = codes "A"; meant = codes "A"; says = refl }

a_label : Sample ALabel
a_label = record { text = codes "T"; meant = codes "T"; says = refl }

a_label_or_none : Sample ALabelOrNone
a_label_or_none = record { text = codes "-"; meant = None; says = refl }

a_branch : Sample ABranch
a_branch = record { text = codes "T"; meant = ByLabel (codes "T"); says = refl }

first_day : time_said (codes "17-NOV-1858 00:00:00.00") ≡ MomentSaid 0
unfolding time_said days_from_civil day_count days_of_years days_of_months
first_day = refl

a_time : Sample ATime
a_time = record { text = 34 ∷ (codes "17-NOV-1858 00:00:00.00" ++ 34 ∷ []); meant = 0; says = ap moment_in first_day }

a_timeout : Sample ATimeout
a_timeout = record { text = codes "TIMEOUT"; meant = Timeout; says = refl }

an_until : Sample AnUntil
an_until = record { text = codes "UNTIL"; meant = Until; says = refl }

a_side : Sample ASide
a_side = record { text = codes "AI"; meant = AfterImages; says = refl }

a_direction : Sample ADirection
a_direction = record { text = codes "FORWARD"; meant = AfterImages; says = refl }

a_manager : Sample AManager
a_manager = record { text = codes "R"; meant = codes "R"; says = refl }

a_reply : Sample AReply
a_reply = record { text = codes "SS$_VETO"; meant = VetoReply; says = refl }

a_log_word : Sample ALogWord
a_log_word = record { text = codes "SHOW"; meant = Show; says = refl }

a_file : Sample AFile
a_file = record { text = codes "F"; meant = codes "F"; says = refl }

a_setting : Sample ASetting
a_setting = record { text = codes "RU"; meant = Whole RecoveryUnits; says = refl }

a_number : Sample ANumber
a_number = record { text = codes "1"; meant = 1; says = refl }

a_long_number : Sample ALongNumber
a_long_number = record { text = codes "1"; meant = 1; says = refl }

some_bytes : Sample SomeBytes
some_bytes = record { text = 34 ∷ 34 ∷ []; meant = []; says = refl }

a_key : Sample AKey
a_key = record { text = codes "1"; meant = Numbered 1; says = refl }

an_organization : Sample AnOrganization
an_organization = record { text = codes "REL"; meant = Relative; says = refl }

a_verb : Sample AVerb
a_verb = record { text = codes "DUMP"; meant = Dump; says = refl }

a_first : Sample AFirst
a_first = record { text = codes "A:"; meant = ToNode (codes "A"); says = refl }

form_writable : (n f : List ℕ) (o : Organization) (bucket size count : ℕ) → IsWritable (form_operands n f o bucket size count)
form_writable n f Sequential bucket size count = tt
form_writable n f Relative bucket size count = tt
form_writable n f Indexed bucket size count = (a_number, λ position. (a_number, λ key_size. tt))

put_writable : (n : List ℕ) (l : Option (List ℕ)) (f : List ℕ) (k : KeyWord) → IsWritable (put_operands n l f k)
put_writable n l f (Numbered number) = (some_bytes, λ b. tt)
put_writable n l f (Spelled bytes) = tt

twice_upper : (t : List ℕ) → upper (upper t) ≡ upper t
twice_upper [] = refl
twice_upper (b ∷ bs) = rw (uppercase-uppercase b, twice_upper bs) refl

named_is : (t m : List ℕ) → meaning AFile t ≡ Some m → m ≡ upper t
named_is t m e = by (is_name 39 (95 ∷ 36 ∷ 46 ∷ []) t) e
  where
    by : (b : Bool) → ◌≡◌ {A = Option (List ℕ)} (if b then Some (upper t) else None) (Some m) → m ≡ upper t
    by true f = cc
    by false f = let never : ⊥ = cc in absurd never

-- a file is called as a journal where its word names one
named_side : (t m : List ℕ) → meaning AFile t ≡ Some m → is_side m ≡ true → is_side t ≡ true
named_side t m e h = upper_side t (subst (λ f. is_side f ≡ true) (named_is t m e) h)
  where
    upper_side : (t : List ℕ) → is_side (upper t) ≡ true → is_side t ≡ true
    upper_side t h = let again = twice_upper t in subst (λ u. is_some (if bytes_eq (codes "AI") u then Some AfterImages else if bytes_eq (codes "BI") u then Some BeforeImages else None) ≡ true) again h

a_plain_file : Plain AFile is_side
a_plain_file = record { text = codes "F"; meant = codes "F"; says = refl; stands = refl; sides_only = named_side }

not_units : (f : List ℕ) → is_side f ≡ true → bytes_eq f units_word ≡ true → ⊥
not_units f h u = let e : f ≡ units_word = (bytes_eq-Decides f units_word).0 u in by (subst (λ g. is_side g ≡ true) e h)
  where
    by : is_side units_word ≡ true → ⊥
    by p = cc

image_writable : (n f : List ℕ) → IsWritable (image_operands n f)
image_writable n f = (a_side, λ side. tt)

journal_writable : (n f : List ℕ) → IsWritable (journal_operands n f)
journal_writable n f = by (bytes_eq f units_word)
  where
    by : (b : Bool) → IsWritable (if b then EndsOr (At n JournalDumped) (image_operands n f) else image_operands n f)
    by true = image_writable n f
    by false = image_writable n f

journal_wanted : (n f : List ℕ) → is_side f ≡ true → WantsWord (journal_operands n f)
journal_wanted n f h = by (bytes_eq f units_word) refl
  where
    by : (b : Bool) → bytes_eq f units_word ≡ b → WantsWord (if b then EndsOr (At n JournalDumped) (image_operands n f) else image_operands n f)
    by true e = absurd (not_units f h e)
    by false e = λ end s g. not_says end s g

mark_writable : (n f : List ℕ) (m : Mark) → IsWritable (mark_operands n f m)
mark_writable n f (Whole setting) = tt
mark_writable n f (OfBlocks side) = (a_number, λ blocks. tt)

direction_writable : (n f : List ℕ) (side : Side) → IsWritable (direction_operands n f side)
direction_writable n f AfterImages = (an_until, λ u. (a_time, λ until. tt))
direction_writable n f BeforeImages = (an_until, λ u. (a_time, λ until. tt))

operands_writable : (n : List ℕ) (v : Verb) → IsWritable (operands n v)
operands_writable n Init = (a_number, λ slots. (a_number, λ blocks. tt))
operands_writable n Boot = tt
operands_writable n Create = (a_file, λ f. (an_organization, λ o. (a_number, λ bucket. (a_number, λ size. (a_number, λ count. form_writable n f o bucket size count)))))
operands_writable n SetFile = (a_file, λ f. (a_setting, λ mark. mark_writable n f mark))
operands_writable n StartTrans = (a_label, λ l. (a_timeout, λ t. (a_number, λ seconds. tt)))
operands_writable n AddBranch = (a_label, λ l. (a_node, λ other. (a_label, λ new. tt)))
operands_writable n StartBranch = (a_label, λ l. tt)
operands_writable n Put = (a_label_or_none, λ l. (a_file, λ f. (a_key, λ k. put_writable n l f k)))
operands_writable n Update = (a_label_or_none, λ l. (a_file, λ f. (a_key, λ k. (some_bytes, λ b. tt))))
operands_writable n Delete = (a_label_or_none, λ l. (a_file, λ f. (a_key, λ k. tt)))
operands_writable n Truncate = (a_label_or_none, λ l. (a_file, λ f. (a_number, λ k. tt)))
operands_writable n Get = (a_label_or_none, λ l. (a_file, λ f. (a_key, λ k. tt)))
operands_writable n Next = (a_label_or_none, λ l. (a_file, λ f. (a_key, λ k. tt)))
operands_writable n EndBranch = (a_label, λ l. tt)
operands_writable n EndTrans = (a_label, λ l. tt)
operands_writable n AbortTrans = (a_label, λ l. tt)
operands_writable n Inquire = (a_branch, λ b. tt)
operands_writable n DeclareRm = (a_manager, λ rm. tt)
operands_writable n JoinRm = (a_label, λ l. (a_manager, λ rm. tt))
operands_writable n AckEvent = (a_branch, λ b. (a_manager, λ rm. (a_reply, λ reply. tt)))
operands_writable n ForgetRm = (a_manager, λ rm. tt)
operands_writable n GetDti = (a_branch, λ b. tt)
operands_writable n Lmcp = (a_log_word, λ w. tt)
operands_writable n Dump = (a_file, λ f. tt)
operands_writable n DumpJournal = (a_plain_file, λ f. journal_writable n f, λ f. journal_wanted n f)
operands_writable n Backup = (a_file, λ f. tt)
operands_writable n Recover = (a_file, λ f. (a_direction, λ side. direction_writable n f side))

behind_writable : (first : First) → IsWritable (behind_first first)
behind_writable (ToNode n) = (a_verb, λ v. operands_writable n v)
behind_writable (ToWorld Fuse) = (a_node, λ n. (a_number, λ writes. (a_long_number, λ choice. tt)))
behind_writable (ToWorld Crash) = (a_node, λ n. tt)
behind_writable (ToWorld Clock) = (a_node, λ n. (a_time, λ now. tt))
behind_writable (ToWorld Deliver) = (a_number, λ number. tt)
behind_writable (ToWorld LinkDown) = (a_node, λ a. (a_node, λ b. tt))
behind_writable (ToWorld Settle) = tt

by_skipped : (b : Bool) (line : List ℕ) (r : Reading) → TellsWhere line_shape (words_of line).words (words_of line).end r → TellsWhere line_shape (words_of line).words (words_of line).end (if b then Blank else r)
by_skipped true line r t = tt
by_skipped false line r t = t

pub line_tells_where : (line : List ℕ) → LineTellsWhere line
line_tells_where line =
    by_skipped (is_skipped (words_of line).words) line (reads line_shape (words_of line).words (words_of line).end)
    (tells_where line_shape (a_first, behind_writable) (words_of line).words (words_of line).end)
