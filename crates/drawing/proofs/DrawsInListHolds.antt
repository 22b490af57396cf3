-- "Calls added later on the same records join the list": a draw hands back no records and changes nothing, so that a list with draws in it is the list without them. What holds of a draw at every point of one. Assumes nothing.
use Rattle.std.specs.Prelude.{ℕ, ◌≡◌, refl, List, [], ◌∷◌}
use Rattle.std.proofs.Common.{ap, ◌∙◌, arith}
use Rattle.page.specs.Octets.{Octets}
use Rattle.rules.specs.Tests.{◌and◌, first_broken}
use Rattle.rules.specs.TestLaws.{case, on, off, broken-here, kept_then, none-broken}
use Rattle.machine.specs.Machine.{State}
use Rattle.machine.specs.Agreement.{agree}
use Rattle.machine.specs.Directory.{chains_agree}
use Rattle.machine.specs.Answers.{refused, done}
use Rattle.machine.specs.Rules.{lengths_fit, stores_fit, directory_fits, rule2}
use Rattle.machine.specs.Calls.{pool_rules, open_call, settle_call}
use Rattle.machine.specs.History.{Call, settle, Point, start, run, AllBytes}
use Rattle.machine.specs.Demand3.{Holds}
use Rattle.machine.proofs.Laws.Outcomes.{answers-as, refused-by}
use Rattle.machine.proofs.Theorem.Demand3Holds.{demand3}
use Rattle.generator.specs.declared.Generator.{Generator}
use Rattle.drawing.specs.declared.Drawn.{Drawn}
use Rattle.drawing.specs.DrawsInList.{DrawnThere}
use Rattle.drawing.proofs.Ranges.{accepted-record, in-ranges}

-- a refusal by 1 or 2 would be settle's too, and there is none
module _ (x : Point) (H : Holds x) where
  settle-refused : (n : ℕ) → (n ≡ 0 → ⊥) → first_broken (pool_rules x.now) ≡ n → (settle_call x.now).answer ≡ refused n
  unfolding settle_call
  settle-refused n z e = answers-as (refused-by x.now (pool_rules x.now) _ n z e)

  pub point-kept : first_broken (pool_rules x.now) ≡ 0
  point-kept = elim (case (lengths_fit x.now.pool.count x.now.pool.pages x.now.pool.stores x.now.frames x.now.store and stores_fit x.now.pool.count x.now.pool.stores x.now.pool.ceilings and directory_fits x.now.directory)) [
    | off t ↦ absurd ((H.never_refused settle 1 (settle-refused 1 (λ z. omega arith) (broken-here 1 (rule2 x.now ∷ []) t))).0 refl refl)
    | on t ↦ elim (case (agree x.now.pool x.now.frames and chains_agree x.now.pool x.now.directory)) [
      | off u ↦ absurd ((H.never_refused settle 2 (settle-refused 2 (λ z. omega arith) (kept_then 1 (rule2 x.now ∷ []) t ∙ broken-here 2 [] u))).1 refl)
      | on u ↦ kept_then 1 (rule2 x.now ∷ []) t ∙ kept_then 2 [] u ∙ none-broken
    ]
  ]

pub drawn-there : (s : State) (g : Generator) → first_broken (pool_rules s) ≡ 0 → DrawnThere s g
drawn-there s g z = record { accepted = ap (λ (d : Drawn). d.refusal) (accepted-record s g z); ranges = in-ranges s g z }

pub draws-in-list : (T : ℕ) (ceilings frames store directory : List ℕ) → Octets frames → Octets store → (open_call T ceilings frames store directory).answer ≡ done → (cs : List Call) → AllBytes cs → (g : Generator)
    → DrawnThere (run cs (start (open_call T ceilings frames store directory).left)).now g
draws-in-list T ceilings frames store directory bf bs e cs b g = let x = run cs (start (open_call T ceilings frames store directory).left) in drawn-there x.now g (point-kept x (demand3 T ceilings frames store directory bf bs e cs b))
