use Rattle.volume.proofs.Listed.{first_is_first, begins_with_first, empty_is_valid, one_listing}
use Rattle.volume.proofs.law.listings_begin_with_the_first_finding.Goals as goal

pub returns-clause-first : goal.returns-clause-first
returns-clause-first c = first_is_first

pub returns-clause-begins : goal.returns-clause-begins
returns-clause-begins c = begins_with_first

pub returns-clause-empty : goal.returns-clause-empty
returns-clause-empty c = empty_is_valid

pub returns-clause-one : goal.returns-clause-one
returns-clause-one c = one_listing
