-- A recovery of a file, at a node that is up.
use Rattle.std.proofs.Common.{◌≡◌, ℕ, List, Ok, Err, Result, refl, sym, subst, arith}
use Rattle.careful_write.specs.Reads.{as_read_by}
use Rattle.careful_write.specs.declared.down.Down.{Down}
use Rattle.emitter_model.specs.Emitting.{Shown, Since}
use Rattle.emitter_model.proofs.EmittingLemmas.{since_same}
use Rattle.script_lang.specs.script_model.Statements as said
use Rattle.script_lang.specs.script_model.Statements.{Recovery}
use Rattle.world_laws.specs.run_model.Answers.{recovers, service}
use Rattle.file_requests.specs.Recovering as files
use Rattle.file_requests.specs.Recovering.{Recovers}
use Rattle.file_requests.specs.Serving.{ServesFile}
use Rattle.file_requests.specs.declared.recovery.Reply.{Reply}
use Rattle.file_requests.specs.declared.recovery.Reply.TheVariants.{Told, NoMemory}
use Rattle.file_requests.proofs.Reading.{order_still}
use Rattle.node_table.proofs.Rows.{goes_same}
use Rattle.node_table.specs.Standing.{Stored, Up}
use Rattle.run_shared.specs.Sharing.{SharedState}
use Rattle.node_requests.specs.Requests.{AnswersRequest, KeepsRequest, LacksMemory, MayServe}
use Rattle.file_requests.specs.node_standing.Standing.{disk_of}
use Rattle.node_requests.proofs.Asides.{aside_file, stands_still}
use Rattle.node_requests.proofs.FileServices.{ready_of, serves_files}

-- that it was answered is no value
told : (request : said.Request) (old new : Stored) (a b : Shown) → ServesFile {T = Reply} (Ok Told) (service request) old new a b → ServesFile {T = Unit {0}} (Ok tt) (service request) old new a b
told request old new a b h = let k = h.keeps in record {
  keeps = record { order = k.order; in_doubt = k.in_doubt; grows = k.grows; images = k.images; cause = k.cause; since = k.since; replies = k.replies };
  units = h.units;
  serves = h.serves;
}

fell : (request : said.Request) (e : Down) (old new : Stored) (a b : Shown) → ServesFile {T = Reply} (Err e) (service request) old new a b → ServesFile {T = Unit {0}} (Err e) (service request) old new a b
fell request e old new a b h = let k = h.keeps in record {
  keeps = record { order = k.order; in_doubt = k.in_doubt; grows = k.grows; images = k.images; cause = k.cause; since = k.since; replies = k.replies };
  units = h.units;
  serves = h.serves;
}

module _ (name : List ℕ) (way : Recovery) (clock : ℕ) (old : Up) (new : Stored) (shared : SharedState) (a b : Shown) (may : MayServe clock old) where
  abbrev request : said.Request
  request = said.Recover name way

  abbrev left : Stored → Up
  left s = record { stored = s; tm = old.tm; drawn = old.drawn; declared = old.declared }

  lacks : files.LacksMemory (service request) old.stored new a b → LacksMemory request clock old (left new) shared shared a b
  lacks h =
      let u = old.stored in
      let read : Stored = record u { volume = record u.volume { store = as_read_by new.volume.store u.volume.store } } in
      let f = may.up.follows in
      record {
        keeps = subst (λ (s : Stored). KeepsRequest {T = Unit {0}} (Ok tt) clock old (left s) a b) (sym h.same) (record {
          up = record { follows = record { order = order_still u read refl f.order; node = f.node; branches = f.branches; told = f.told; doubt = f.doubt }; within = may.up.within };
          goes = goes_same (disk_of old);
          cause = tt;
          pool = refl;
          node = refl;
          boot = refl;
          drawn = (omega arith, omega arith);
          moved = record { moment = omega arith; end = omega arith };
          since = subst (Since a) (sym h.shown) (since_same a);
        });
        shared = refl;
        shown = h.shown;
        unrefused = refl;
        still = λ s. refl;
        takes = λ n. refl;
        may = refl;
        serves = λ s n stands share kept. (h.unrefused s n (ready_of clock old s n stands kept), stands_still clock old new n h.same stands, share);
      }

  pub recovery_answers : (r : Result Reply Down) → Recovers r (service request) old.stored new a b → AnswersRequest r request clock old (left new) shared shared a b
  recovery_answers (Ok Told) h = serves_files {T = Unit {0}} (Ok tt) request clock old new shared a b may (λ answer s. refl) refl refl (λ s n. aside_file n name (recovers n name way) (λ f. (tt, tt))) (told request old.stored new a b h)
  recovery_answers (Ok NoMemory) h = lacks h
  recovery_answers (Err e) h = serves_files {T = Unit {0}} (Err e) request clock old new shared a b may (λ answer s. refl) refl refl (λ s n. aside_file n name (recovers n name way) (λ f. (tt, tt))) (fell request e old.stored new a b h)
