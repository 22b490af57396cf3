-- The flags of a record, which are bytes: a pool with one above 1 doesn't agree with any frames, so that rule 2 refuses it. Assumes nothing.
use Rattle.std.specs.Prelude.{ℕ, ◌<◌, ◌≡◌, false, List, eqb}
use Rattle.std.proofs.Common.{ap, arith}
use Rattle.page.specs.Figures.{record_count}
use Rattle.machine.specs.declared.Pool.{Pool}
use Rattle.rules.specs.TestLaws.{is-off}
use Rattle.machine.specs.Machine.{record_at}
use Rattle.machine.specs.Agreement.{agree}
use Rattle.machine.proofs.Laws.AgreementFacts.{facts}

-- equal bytes are the same flag
pub same_flag : {a b : ℕ} → a ≡ b → eqb a 1 ≡ eqb b 1
same_flag e = ap (λ (x : ℕ). eqb x 1) e

-- of any of the 64 records, a frame's or one from F on
pub used-refused : (p : Pool) (fs : List ℕ) (f : ℕ) → f < record_count → 1 < (record_at p.records f).used → agree p fs ≡ false
used-refused p fs f l h = is-off _ (λ t. omega (arith, h, ((facts p fs t).in_range f l).used))

pub dirty-refused : (p : Pool) (fs : List ℕ) (f : ℕ) → f < record_count → 1 < (record_at p.records f).dirty → agree p fs ≡ false
dirty-refused p fs f l h = is-off _ (λ t. omega (arith, h, ((facts p fs t).in_range f l).dirty))
