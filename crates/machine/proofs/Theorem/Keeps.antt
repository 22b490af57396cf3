-- Every effect of a call keeps the invariant: where each proof stands.
pub use Rattle.machine.proofs.Theorem.KeepsRecords.{pin-keeps, unpin-keeps, sweep-keeps}
pub use Rattle.machine.proofs.Theorem.KeepsWrite.{write_keeps}
pub use Rattle.machine.proofs.Theorem.KeepsLink.{relink-keeps}
pub use Rattle.machine.proofs.Theorem.KeepsEvict.{evict-effect, evict-keeps}
pub use Rattle.machine.proofs.Theorem.KeepsLoad.{always-fits, load-keeps}
pub use Rattle.machine.proofs.Theorem.KeepsSettle.{settle-keeps, settle-store}
pub use Rattle.machine.proofs.Theorem.KeepsOpen.{open-keeps}
