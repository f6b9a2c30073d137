pub use Rattle.relative_file.proofs.MakeLaws
