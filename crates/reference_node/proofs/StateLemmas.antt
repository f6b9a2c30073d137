-- What a branch that a statement names may be told.
use Rattle.std.proofs.Common.{◌≡◌, ℕ, List, Bool, true, Option, Some, None, ap, ◌∙◌}
use Rattle.std.specs.Option.{option_and_then}
use Rattle.script_lang.specs.script_model.Statements.{Named, ByLabel, BySerial}
use Rattle.commit_protocol.specs.Allowed.{allowed, is_active, is_prepared, may_authorise, there_is}
use Rattle.commit_protocol.specs.Rows.{Authorise}
use Rattle.commit_protocol.specs.Table.{Branch, find, find_serial, first, is_first}
use Rattle.world_laws.specs.run_model.Answers.{branch_labelled, branch_named, in_state, is_first_active, more_bids}
use Rattle.world_laws.specs.run_model.World.{Node, Shared, find_branch, serial_labelled}
use Rattle.vms_model.specs.Ids.{Id}
use Rattle.reference_node.proofs.TableLemmas.{branch_serial, found_by_serial, labelled_there}
use Rattle.reference_node.proofs.TransactionLemmas.{first_active, first_there, is_so, may_add, told_there}

-- the branch of a label stands in the table
pub label_there : (s : Shared) (n : Node) (label : List ℕ) (b : Branch) → Some b ≡ branch_labelled s n label → find_serial b.key.serial n.volatile.branches ≡ Some b
label_there s n label b found = found_by_serial b.key.serial n.volatile.branches ∙ labelled_there n.volatile.branches (serial_labelled n.name label s.labels) b found

pub name_there : (s : Shared) (n : Node) (who : Named) (b : Branch) → Some b ≡ branch_named s n who → find_serial b.key.serial n.volatile.branches ≡ Some b
name_there s n (ByLabel label) b found = label_there s n label b found
name_there s n (BySerial serial) b found = found_by_serial b.key.serial n.volatile.branches ∙ labelled_there n.volatile.branches (Some serial) b found

-- it is as its state asks
pub label_told : (s : Shared) (n : Node) (label : List ℕ) (b : Branch) (test : Branch → Bool) → Some b ≡ branch_labelled s n label → in_state test (branch_labelled s n label) ≡ None → there_is (find_serial b.key.serial n.volatile.branches) test ≡ true
label_told s n label b test found state = told_there b.key.serial n.volatile.branches b test (label_there s n label b found) (is_so test (branch_labelled s n label) b found state)

pub name_told : (s : Shared) (n : Node) (who : Named) (b : Branch) (test : Branch → Bool) → Some b ≡ branch_named s n who → in_state test (branch_named s n who) ≡ None → there_is (find_serial b.key.serial n.volatile.branches) test ≡ true
name_told s n who b test found state = told_there b.key.serial n.volatile.branches b test (name_there s n who b found) (is_so test (branch_named s n who) b found state)

-- a first branch that is active
pub first_found : (s : Shared) (n : Node) (label : List ℕ) (b : Branch) → Some b ≡ branch_labelled s n label → in_state is_first_active (branch_labelled s n label) ≡ None → (find (first b.key.tid) n.volatile.branches ≡ Some b) × (is_active b.state ≡ true)
first_found s n label b found state =
    let both = first_active b (is_so is_first_active (branch_labelled s n label) b found state) in
    (first_there b.key.serial n.volatile.branches b (label_there s n label b found) both.0, both.1)

pub may_end_trans : (s : Shared) (n : Node) (label : List ℕ) (b : Branch) → Some b ≡ branch_labelled s n label → in_state is_first_active (branch_labelled s n label) ≡ None → there_is (find (first b.key.tid) n.volatile.branches) (λ x. is_active x.state) ≡ true
may_end_trans s n label b found state = let f = first_found s n label b found state in ap (λ o. there_is o (λ x. is_active x.state)) f.0 ∙ f.1

pub may_add_branch : (s : Shared) (n : Node) (label : List ℕ) (b : Branch) → Some b ≡ branch_labelled s n label → in_state is_first_active (branch_labelled s n label) ≡ None → option_and_then more_bids (branch_labelled s n label) ≡ None →
    there_is (find (first b.key.tid) n.volatile.branches) may_authorise ≡ true
may_add_branch s n label b found state bids =
    let f = first_found s n label b found state in
    ap (λ o. there_is o may_authorise) f.0 ∙ may_add (branch_labelled s n label) b found bids f.1
