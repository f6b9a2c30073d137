pub use Rattle.block_disk.proofs.Laid
