-- The bytes that open leaves, set one after the other. Assumes nothing.
use Rattle.std.specs.Prelude.{ℕ, zero, suc, ◌+◌, ◌<◌, ◌≤◌, ◌≡◌, refl, List, [], ◌∷◌, length, get_or, set, replicate}
use Rattle.std.proofs.Common.{◌∙◌, ap, arith, add-one, length-set, get_or-set_same, get_or-set_other}
use Rattle.std.proofs.Math.Decide.{ℕ_discrete}
use Rattle.std.proofs.lemmas.List.{length-replicate}
use Rattle.chains.specs.Chain.{directory_size, bucket_of, entered, opened_directory}
use Rattle.chains.proofs.ChainLaws.{entered-length}

-- the first n bytes are 0
pub record Zeroed (d : List ℕ) (n : ℕ) : Type 0 where
  pub most : n ≤ directory_size
  pub size : length d ≡ directory_size
  pub each : (i : ℕ) → i < n → get_or d i 0 ≡ 0

pub zeroed-none : (d : List ℕ) → length d ≡ directory_size → Zeroed d 0
zeroed-none d size = record { most = omega arith; size = size; each = λ i l. absurd (omega arith) }

pub zeroed-more : (d : List ℕ) (n : ℕ) → n < directory_size → Zeroed d n → Zeroed (set d n 0) (n + 1)
zeroed-more d n l Z = record {
  most = omega arith;
  size = length-set d n 0 ∙ Z.size;
  each = λ i h. elim (ℕ_discrete i n) [
    | yes e ↦ rw e (get_or-set_same d n 0 0 (let s : length d ≡ directory_size = Z.size in omega arith))
    | no e ↦ get_or-set_other d n i 0 0 e ∙ Z.each i (omega arith)
  ];
}

all-zero : (n : ℕ) (d : List ℕ) → length d ≡ n → ((i : ℕ) → i < n → get_or d i 0 ≡ 0) → d ≡ replicate n 0
all-zero zero [] l h = refl
all-zero zero (x ∷ d) l h = absurd (omega arith)
all-zero (suc n) [] l h = absurd (omega arith)
all-zero (suc n) (x ∷ d) l h = let e : x ≡ 0 = h 0 (omega arith) in rw (e, all-zero n d (omega arith) (λ i k. h (suc i) (omega arith))) refl

zeroed-all : (d : List ℕ) (n : ℕ) → directory_size ≤ n → Zeroed d n → d ≡ opened_directory 0
unfolding opened_directory
zeroed-all d n l Z = all-zero directory_size d Z.size (λ i h. Z.each i (omega arith))

-- the roots of the first t stores are entered, and then the next one
pub record Rooted (d : List ℕ) (t : ℕ) : Type 0 where
  pub size : length d ≡ directory_size
  pub opened : d ≡ opened_directory t

pub rooted_none : (d e : List ℕ) → length d ≡ directory_size → e ≡ replicate (length d) 0 → Rooted e 0
unfolding opened_directory
rooted_none d e l h = rw (h, l) (record { size = length-replicate {A = ℕ} directory_size 0; opened = refl })

pub rooted_more : (d e : List ℕ) (t : ℕ) → Rooted d t → e ≡ entered d (bucket_of 0) t → Rooted e (t + 1)
unfolding opened_directory
rooted_more d e t R h = record {
  size = rw h (entered-length d (bucket_of 0) t ∙ R.size);
  opened = rw (add-one t) (h ∙ ap (λ (x : List ℕ). entered x (bucket_of 0) t) R.opened);
}

pub rooted-all : (d : List ℕ) (t T : ℕ) → t ≡ T → Rooted d t → d ≡ opened_directory T
rooted-all d t T e R = R.opened ∙ ap opened_directory e
