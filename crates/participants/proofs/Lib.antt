pub mod RefusingLemmas
