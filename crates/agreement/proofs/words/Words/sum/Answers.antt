-- `sum` meets its contract: the words before slot k are added up. Assumes nothing.
use Rattle.std.proofs.Common.{ℕ, ◌+◌, ◌-◌, ◌≤◌, ◌≡◌, ◌∙◌, ap, arith}
use Rattle.seen.specs.Fold.{fold, fold-none, fold_more}
use Rattle.agreement.specs.Fit.{weight, add_word}
use Rattle.agreement.specs.FitLaws.{sums-to, sums-few, sums-all}
use Rattle.agreement.proofs.words.Words.sum.Goals as goal

-- the sum with the word in slot k
more : (w : ℕ → ℕ) (N k : ℕ) {sum x r : ℕ} → sum ≡ fold (add_word w N) 0 k → x ≡ w k → r ≡ weight (N - 1) x → sum + r ≡ fold (add_word w N) 0 (k + 1)
more w N k {sum} i e f = fold_more (add_word w N) 0 k i (ap (λ (x : ℕ). sum + x) (f ∙ ap (weight (N - 1)) e))

pub loop-k-init : goal.loop-k-init
loop-k-init c = fold-none _ _

pub overflow_add-sum : goal.overflow_add-sum
overflow_add-sum c =
    let P = c.args.self.now.in_range in
    let k : c.loop-k.k + 1 ≤ 16 = omega arith in
    omega (arith, sums-few _ _ _ _ k (sums-to _ _ P.1 P.2 _ (more _ _ _ c.loop-k.invariant c.at.ensures c.word_weight-sum.ensures)))

pub loop-k-preserved : goal.loop-k-preserved
loop-k-preserved c = more _ _ _ c.loop-k.invariant c.at.ensures c.word_weight-sum.ensures

pub returns : goal.returns
returns c =
    let P = c.args.self.now.in_range in
    let e : c.loop-k.k ≡ 16 = omega arith in
    sums-all _ _ _ (sums-to _ _ P.1 P.2 _ (rw e at c.loop-k.invariant))
