-- Refusals one behind another.
use Rattle.std.proofs.Common.{◌≡◌, ℕ, List, Option, Some, None, length, nat_lt, refl, sym, ap, ◌∙◌}
use Rattle.std.specs.Option.{option_and_then}
use Rattle.vms_model.specs.Limits.{change_limit}
use Rattle.world_laws.specs.transcript_model.Lines as line
use Rattle.script_lang.specs.script_model.Statements.{Operation}
use Rattle.records_model.specs.Records.{Change}
use Rattle.vms_model.specs.Ids.{Id}
use Rattle.commit_protocol.specs.Table.{Branch}
use Rattle.world_laws.specs.run_model.Answers.{branch_labelled, changes_at, direct_refused, found_refused, images_full, journal_full, more_changes, more_locks, of_file, operation_refused}
use Rattle.world_laws.specs.run_model.Operations.{file_full, first_of, keys_held, refused_if}
use Rattle.world_laws.specs.run_model.World.{Node, Shared, next_id, serial_labelled}
use Rattle.reference_disk.specs.Disks.{branch_with}

first_five : (a b c d e : Option line.Line) → first_of (first_of a (first_of (first_of b c) d)) e ≡ first_of a (first_of b (first_of c (first_of d e)))
first_five (Some x) b c d e = refl
first_five None (Some x) c d e = refl
first_five None None (Some x) d e = refl
first_five None None None d e = refl

pub refuses_operation : (s : Shared) (n : Node) (label file : List ℕ) (op : Operation) (b : Branch) (cs : List Change) (found locks full quotas images all : Option line.Line) → Some b ≡ branch_labelled s n label → cs ≡ changes_at n file op →
    found ≡ of_file n file (found_refused n (serial_labelled n.name label s.labels) file op) → locks ≡ of_file n file (λ f. more_locks n file (keys_held f op)) → full ≡ of_file n file (λ f. file_full f op) →
    quotas ≡ first_of (more_changes n cs (branch_with b.key)) (first_of (first_of locks full) (journal_full n file cs (branch_with b.key))) → images ≡ of_file n file (images_full b.key.serial cs) →
    all ≡ first_of found (first_of quotas images) → all ≡ operation_refused s n label file op
refuses_operation s n label file op b cs found locks full quotas images all branch changes finds locking filled quoted imaged joined =
    let finding = of_file n file (found_refused n (serial_labelled n.name label s.labels) file op) in
    let more : more_changes n cs b ≡ option_and_then (more_changes n (changes_at n file op)) (branch_labelled s n label) = ap (λ ds. more_changes n ds b) changes ∙ ap (option_and_then (more_changes n (changes_at n file op))) branch in
    let journal : journal_full n file cs b ≡ option_and_then (journal_full n file (changes_at n file op)) (branch_labelled s n label) = ap (λ ds. journal_full n file ds b) changes ∙ ap (option_and_then (journal_full n file (changes_at n file op))) branch in
    let ring : images ≡ option_and_then (λ (x : Branch). of_file n file (images_full x.key.serial (changes_at n file op))) (branch_labelled s n label) =
    imaged ∙ ap (λ ds. of_file n file (images_full b.key.serial ds)) changes ∙ ap (option_and_then (λ (x : Branch). of_file n file (images_full x.key.serial (changes_at n file op)))) branch in
    joined ∙ (λ i. first_of (finds i) (first_of (quoted i) images)) ∙ ap (first_of finding) (first_five (more_changes n cs b) locks full (journal_full n file cs b) images)
    ∙ (λ i. first_of finding (first_of (more i) (first_of (locking i) (first_of (filled i) (first_of (journal i) (ring i))))))

pub refuses_directly : (n : Node) (file : List ℕ) (op : Operation) (cs : List Change) (serial : Id) (count : ℕ) (found more full images all : Option line.Line) → cs ≡ changes_at n file op → serial ≡ next_id n →
    count ≡ length cs → found ≡ of_file n file (found_refused n None file op) → more ≡ refused_if (nat_lt change_limit count) (line.QuotaExceeded line.Changes change_limit) → full ≡ of_file n file (λ f. file_full f op) →
    images ≡ of_file n file (images_full serial cs) → all ≡ first_of found (first_of more (first_of full images)) → all ≡ direct_refused n file op
refuses_directly n file op cs serial count found more full images all changes next counted finds many filled imaged joined =
    let most = many ∙ ap (λ k. refused_if (nat_lt change_limit k) (line.QuotaExceeded line.Changes change_limit)) (counted ∙ ap length changes) in
    let ring = imaged ∙ (λ i. of_file n file (images_full (next i) (changes i))) in
    joined ∙ (λ i. first_of (finds i) (first_of (most i) (first_of (filled i) (ring i))))
