pub use Rattle.dtm_run.specs as dtm_run
