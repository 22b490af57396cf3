-- What request A.3 claims of the directory holds: open leaves the roots alone in it; at every point of every list of calls it agrees with the records, and find and peek go by it rightly. Assumes nothing.
use Rattle.std.proofs.Common.{arith}
use Rattle.machine.specs.Rules.{frames_in}
use Rattle.machine.specs.History.{Point}
use Rattle.machine.specs.ByChain.{DirectoryHolds, OpenedDirectory, DirectoryAgrees}
use Rattle.machine.proofs.Laws.Ready.{stores-of}
use Rattle.machine.proofs.Theorem.Invariant.{Invariant}
use Rattle.machine.proofs.Theorem.Chains.{opened-alone}
use Rattle.machine.proofs.Theorem.InvariantReads.{chains-now}
use Rattle.machine.proofs.Theorem.Residence.{goes-by-chain}
use Rattle.machine.proofs.Theorem.Demand3Holds.{accepted-open, invariant-along}

pub opened-directory : OpenedDirectory
opened-directory T ceilings frames store directory e =
    let o = accepted-open T ceilings frames store directory e in
    let S = stores-of (frames_in frames) T ceilings o.0.stores in
    rw o.1 (opened-alone T (omega (arith, S.most)))

directory-holds : (x : Point) → Invariant x → DirectoryHolds x.now
directory-holds x I = record { chained = chains-now x I; by_chain = goes-by-chain x I }

pub directory-agrees : DirectoryAgrees
directory-agrees T ceilings frames store directory bf bs e cs b = directory-holds _ (invariant-along T ceilings frames store directory bf bs e cs b)
