pub mod unit_cuts
