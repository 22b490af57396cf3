-- The records that open makes: the roots', and blank ones. Assumes nothing.
use Rattle.std.specs.Prelude.{ℕ, zero, suc, ◌≤◌, ◌<◌, ◌≡◌, refl, length, set, replicate}
use Rattle.std.proofs.Common.{◌∙◌, arith, length-set, get_or-set_same, get_or-set_other}
use Rattle.std.proofs.Math.Decide.{ℕ_discrete}
use Rattle.std.proofs.lemmas.List.{length-replicate}
use Rattle.page.specs.Figures.{record_count}
use Rattle.machine.specs.Machine.{blank, root_record, record_at, root_records}

blank-at : (n g : ℕ) → record_at (replicate n blank) g ≡ blank
blank-at zero g = refl
blank-at (suc n) zero = refl
blank-at (suc n) (suc g) = blank-at n g

pub roots-zero : root_records 0 ≡ replicate record_count blank
unfolding root_records
roots-zero = refl

pub roots-suc : (t : ℕ) → root_records (suc t) ≡ set (root_records t) t (root_record t)
unfolding root_records
roots-suc t = refl

pub roots-length : (T : ℕ) → length (root_records T) ≡ record_count
unfolding root_records
roots-length zero = length-replicate record_count blank
roots-length (suc t) = length-set (root_records t) t (root_record t) ∙ roots-length t

pub root-record : (T g : ℕ) → T ≤ record_count → g < T → record_at (root_records T) g ≡ root_record g
unfolding root_records
root-record zero g h l = absurd (omega arith)
root-record (suc t) g h l = elim (ℕ_discrete g t) [
  | yes z ↦ rw z (get_or-set_same (root_records t) t (root_record t) blank (rw (roots-length t) (omega arith)))
  | no z ↦ get_or-set_other (root_records t) t g (root_record t) blank (omega arith) ∙ root-record t g (omega arith) (omega arith)
]

pub other-record : (T g : ℕ) → T ≤ g → record_at (root_records T) g ≡ blank
unfolding root_records
other-record zero g h = blank-at record_count g
other-record (suc t) g h = get_or-set_other (root_records t) t g (root_record t) blank (omega arith) ∙ other-record t g (omega arith)
