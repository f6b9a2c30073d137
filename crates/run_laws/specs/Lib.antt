pub mod SaidLaws
pub mod Accounts
pub mod Naming
pub mod Causes
pub mod Showing
pub mod Promises
pub mod Agreed
pub mod Owing
pub mod Vetoing
pub mod Anew
pub mod Laws
pub use Rattle.run_agreement.specs as run_agreement
pub use Rattle.run_said.specs as run_said
