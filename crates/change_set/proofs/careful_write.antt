pub use Rattle.careful_write.proofs.Reading
