-- A run line by line, as its text: which entries were read and shown so far, and how it ends.
use Rattle.std.proofs.Common.{◌≡◌, ℕ, ◌+◌, ◌<◌, ◌≤◌, List, [], ◌∷◌, ◌++◌, Bool, true, false, Option, Some, None, length, if◌then◌else◌, refl, sym, ◌∙◌, ap, subst, add-one, append-nil, inl, inr}
use Rattle.std.specs.Option.{option_map, IfSome}
use Rattle.transcript_model.specs.Outside.{behind}
use Rattle.transcript_model.specs.Lines as line
use Rattle.transcript_model.specs.Lines.{Line, lines_text}
use Rattle.transcript_model.specs.Script.{ScriptLine, size_of, BeginsTooLong, IsWithinLimits}
use Rattle.emitter_model.specs.Emitting.{Shown, Emits}
use Rattle.transcript_model.proofs.OutsideLemmas.{behind_on, behind_none}
use Rattle.script_model.specs.Statements.{Bad}
use Rattle.script_model.specs.Grammar.{reading}
use Rattle.world_laws.specs.run_model.Transcript.{Entry, number_after, size_before, text_of, lines_then, Exit, Done, BadLine, TooLong, ReadFault, WriteFault, Memory, IsInLimits, AreInLimits, BeginsBad, EndsTooLong, CutIn, Ends}
use Rattle.dtm_run.proofs.Emitted.{IsCutFrom, emitted_whole, emitted_cut, told_at_first, told_next, continues, anything}

begins : (P : List ScriptLine → Type 0) (ahead later : Option (List ScriptLine)) (source : ScriptLine) → ahead ≡ option_map (λ more. source ∷ more) later → ((more : List ScriptLine) → P (source ∷ more)) → IfSome ahead P
begins P ahead None source told h = subst (λ o. IfSome o P) (sym told) tt
begins P ahead (Some more) source told h = subst (λ o. IfSome o P) (sym told) (h more)

-- Between two lines: these entries were read and shown; the next line has this number, and so many bytes of the script were taken; ahead are the lines that
-- are still to come.
pub record AreRead (es : List Entry) (script ahead : Option (List ScriptLine)) (old now : Option (List ℕ)) (number taken : ℕ) : Type 0 where
  pub limits : AreInLimits es
  pub counted : number ≡ number_after es
  pub sized : taken ≡ size_before es
  pub told : script ≡ option_map (lines_then es) ahead
  pub shows : now ≡ behind old (text_of es)

pub read_first : (script : Option (List ScriptLine)) (old : Option (List ℕ)) → AreRead [] script script old old 1 0
read_first script old = record { limits = tt; counted = refl; sized = refl; told = told_at_first script; shows = sym (behind_none old) }

-- a run that ended so, with these entries
pub record EndsWith (es : List Entry) (script : Option (List ScriptLine)) (old new : Option (List ℕ)) (exit : Exit) : Type 0 where
  pub in_limits : AreInLimits es
  pub added : List ℕ
  pub shows : new ≡ behind old added
  pub ends : Ends exit script es added

pub ends_memory : (script : Option (List ScriptLine)) (old : Option (List ℕ)) → EndsWith [] script old old Memory
ends_memory script old = record { in_limits = tt; added = []; shows = sym (behind_none old); ends = (refl, refl) }

module _ (es : List Entry) (script ahead : Option (List ScriptLine)) (old now : Option (List ℕ)) (number taken : ℕ) (r : AreRead es script ahead old now number taken) where
  -- the text after these lines, or a front of them
  text_after : (new : Option (List ℕ)) (lines : List Line) → new ≡ behind now (lines_text number lines) → new ≡ behind old (text_of es ++ lines_text (number_after es) lines)
  text_after new lines e = e ∙ ap (λ shown. behind shown (lines_text number lines)) r.shows ∙ behind_on old (text_of es) (lines_text number lines) ∙ ap (λ n. behind old (text_of es ++ lines_text n lines)) r.counted

  cut_after : (new : Option (List ℕ)) (lines : List Line) (c : IsCutFrom (lines_text number lines) now new) → new ≡ behind old (text_of es ++ c.front)
  cut_after new lines c = c.shows ∙ ap (λ shown. behind shown c.front) r.shows ∙ behind_on old (text_of es) c.front

  cut_in : (new : Option (List ℕ)) (lines : List Line) (c : IsCutFrom (lines_text number lines) now new) → CutIn (text_of es) (lines_text (number_after es) lines) (text_of es ++ c.front)
  cut_in new lines c = record { front = c.front; rest = c.rest; is = refl; parts = ap (λ n. lines_text n lines) (sym r.counted) ∙ c.parts }

  pub ends_done : IfSome ahead (λ more. more ≡ []) → EndsWith es script old now Done
  ends_done h = record { in_limits = r.limits; added = text_of es; shows = r.shows; ends = (continues script ahead es _ r.told h, refl) }

  pub ends_read_fault : EndsWith es script old now ReadFault
  ends_read_fault = record { in_limits = r.limits; added = text_of es; shows = r.shows; ends = (continues script ahead es _ r.told (anything ahead), refl) }

  -- what was shown of these lines, whole or cut
  whole_now : (a b : Shown) (lines : List Line) → a.text ≡ now → a.number ≡ number → a.failed ≡ false → b.failed ≡ false → Emits a lines b → b.text ≡ behind now (lines_text number lines)
  whole_now a b lines t n e f m = emitted_whole a b lines m e f ∙ ap (λ x. behind x (lines_text a.number lines)) t ∙ ap (λ k. behind now (lines_text k lines)) n

  cut_now : (a b : Shown) (lines : List Line) → a.text ≡ now → a.number ≡ number → a.failed ≡ false → b.failed ≡ true → Emits a lines b → IsCutFrom (lines_text number lines) now b.text
  cut_now a b lines t n e f m = subst (λ k. IsCutFrom (lines_text k lines) now b.text) n (subst (λ x. IsCutFrom (lines_text a.number lines) x b.text) t (emitted_cut a b lines m e f))

  -- the next line is too long, or one too many
  pub next_too_long : IfSome ahead (BeginsTooLong taken) → IfSome ahead (EndsTooLong es)
  next_too_long h = go ahead (subst (λ n. IfSome ahead (BeginsTooLong n)) r.sized h)
    where
      go : (o : Option (List ScriptLine)) → IfSome o (BeginsTooLong (size_before es)) → IfSome o (EndsTooLong es)
      go None k = tt
      go (Some []) k = absurd k
      go (Some (source ∷ more)) k = inl k

  pub next_too_many : (source : ScriptLine) (later : Option (List ScriptLine)) → ahead ≡ option_map (λ more. source ∷ more) later → 1000000 < number → IfSome ahead (EndsTooLong es)
  next_too_many source later next many = begins (EndsTooLong es) ahead later source next (λ more. inr (subst (λ n. 1000000 < n) r.counted many))

  pub ends_too_long : (a b : Shown) → a.text ≡ now → a.number ≡ number → a.failed ≡ false → Emits a (line.TooLong ∷ []) b → IfSome ahead (EndsTooLong es) → EndsWith es script old b.text (if b.failed then WriteFault else TooLong)
  ends_too_long a b t n e m h = go b.failed refl
    where
      go : (failed : Bool) → b.failed ≡ failed → EndsWith es script old b.text (if failed then WriteFault else TooLong)
      go true f =
          let c = cut_now a b (line.TooLong ∷ []) t n e f m in
          record { in_limits = r.limits; added = text_of es ++ c.front; shows = cut_after b.text (line.TooLong ∷ []) c; ends = inr (inr (continues script ahead es _ r.told h, cut_in b.text (line.TooLong ∷ []) c)) }
      go false f = record {
        in_limits = r.limits;
        added = text_of es ++ lines_text (number_after es) (line.TooLong ∷ []);
        shows = text_after b.text (line.TooLong ∷ []) (whole_now a b (line.TooLong ∷ []) t n e f m);
        ends = (continues script ahead es _ r.told h, refl);
      }

  -- the next line is outside the grammar
  pub ends_bad : (a b : Shown) (column : ℕ) → a.text ≡ now → a.number ≡ number → a.failed ≡ false → Emits a (line.BadLine column ∷ []) b → IfSome ahead (BeginsBad es column) → EndsWith es script old b.text (if b.failed then WriteFault else BadLine)
  ends_bad a b column t n e m h = go b.failed refl
    where
      go : (failed : Bool) → b.failed ≡ failed → EndsWith es script old b.text (if failed then WriteFault else BadLine)
      go true f =
          let c = cut_now a b (line.BadLine column ∷ []) t n e f m in
          record { in_limits = r.limits; added = text_of es ++ c.front; shows = cut_after b.text (line.BadLine column ∷ []) c; ends = inr (inl (column, continues script ahead es _ r.told h, cut_in b.text (line.BadLine column ∷ []) c)) }
      go false f = record {
        in_limits = r.limits;
        added = text_of es ++ lines_text (number_after es) (line.BadLine column ∷ []);
        shows = text_after b.text (line.BadLine column ∷ []) (whole_now a b (line.BadLine column ∷ []) t n e f m);
        ends = (column, continues script ahead es _ r.told h, refl);
      }

  -- the next line was read, and is within the limits
  module _ (source : ScriptLine) (later : Option (List ScriptLine)) (next : ahead ≡ option_map (λ more. source ∷ more) later) (within : IsWithinLimits taken source) (few : number ≤ 1000000) where
    in_limits : IsInLimits es source
    in_limits = (subst (λ n. IsWithinLimits n source) r.sized within, subst (λ n. n ≤ 1000000) r.counted few)

    pub next_bad : (column : ℕ) → reading source.text ≡ Bad column → IfSome ahead (BeginsBad es column)
    next_bad column bad = begins (BeginsBad es column) ahead later source next (λ more. (in_limits, bad))

    -- its number is one more
    one_more : (lines : List Line) → number + 1 ≡ number_after (record { source = source; lines = lines } ∷ es)
    one_more lines = ap (λ n. n + 1) (r.counted ∙ add-one (length es))

    -- and shows nothing
    pub read_nothing : AreRead (record { source = source; lines = [] } ∷ es) script later old now (number + 1) (taken + size_of source)
    read_nothing = record {
      limits = (in_limits, r.limits);
      counted = one_more [];
      sized = ap (λ n. n + size_of source) r.sized;
      told = told_next script ahead later es (record { source = source; lines = [] }) r.told next;
      shows = r.shows ∙ ap (behind old) (sym (append-nil (text_of es)));
    }

    -- and these lines were shown
    pub read_shown : (a b : Shown) (lines : List Line) → a.text ≡ now → a.number ≡ number → a.failed ≡ false → b.failed ≡ false → Emits a lines b → AreRead (record { source = source; lines = lines } ∷ es) script later old b.text (number + 1) (taken + size_of source)
    read_shown a b lines t n e f m = record {
      limits = (in_limits, r.limits);
      counted = one_more lines;
      sized = ap (λ n. n + size_of source) r.sized;
      told = told_next script ahead later es (record { source = source; lines = lines }) r.told next;
      shows = text_after b.text lines (whole_now a b lines t n e f m);
    }

    -- and a write failed in the lines
    pub ends_cut : (a b : Shown) (lines : List Line) → a.text ≡ now → a.number ≡ number → a.failed ≡ false → b.failed ≡ true → Emits a lines b → EndsWith (record { source = source; lines = lines } ∷ es) script old b.text WriteFault
    ends_cut a b lines t n e f m =
        let c = cut_now a b lines t n e f m in
        record {
          in_limits = (in_limits, r.limits);
          added = text_of es ++ c.front;
          shows = cut_after b.text lines c;
          ends = inl (continues script later _ _ (told_next script ahead later es (record { source = source; lines = lines }) r.told next) (anything later), cut_in b.text lines c);
        }
