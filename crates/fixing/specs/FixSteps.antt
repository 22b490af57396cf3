-- What the steps of root and fix answer and leave.
use Rattle.std.specs.Prelude.{ℕ, ◌≡◌, not, List, [], ◌∷◌, Result}
use Rattle.machine.specs.declared.Pool.{Pool}
use Rattle.machine.specs.declared.Pinned.{Pinned}
use Rattle.rules.specs.declared.refusal.Refusal.{Refusal}
use Rattle.rules.specs.Tests.{◌or◌}
use Rattle.machine.specs.Machine.{State, state, with_records, at_ceiling}
use Rattle.machine.specs.Answers.{Out, out, fix_answer}
use Rattle.machine.specs.Sweep.{sweep}
use Rattle.machine.specs.Rules.{rule13, rule14, rule15, rule27}
use Rattle.machine.specs.Calls.{decide, pinned_out, swept_out, miss_out}
use Rattle.scan.specs.Walk.{Cools}

-- a resident page, in frame f, is pinned: rule 13
unfoldable pub pin_decided : State → ℕ → Out
pin_decided s f = decide s (rule13 s f ∷ []) (pinned_out s f)

-- the same of the pool p, whatever the frames, the store and the directory: it answered a, and left n
abbrev pub PinnedAs : Pool → ℕ → Result Pinned Refusal → Pool → Type 0
PinnedAs p f a n = (fs st d : List ℕ) → out (fix_answer a) (state n fs st d) ≡ pin_decided (state p fs st d) f

-- m is the pool p with what a sweep left of the first n frames
pub record Cooling (p m : Pool) (vs : List ℕ) (n : ℕ) : Type 0 where
  pub rest : m ≡ with_records p m.records
  pub cools : Cools p.records m.records vs n

-- page q of store t, which isn't resident, comes in for slot k of frame f: rules 14, 15 and 27
unfoldable pub miss_decided : State → ℕ → ℕ → ℕ → ℕ → Out
miss_decided s f k t q = decide s (rule14 s t q ∷ rule15 s t ∷ rule27 s t ∷ []) (miss_out s f k t q)

-- the same where rule 14 is kept, and a sweep is needed
unfoldable pub swept_decided : State → ℕ → ℕ → ℕ → ℕ → Out
swept_decided s f k t q =
    let v = sweep s.pool s.frames t in
    let full = at_ceiling s.pool t in
    decide s ((15, full or v.taken) ∷ (27, not full or v.taken) ∷ []) (swept_out s f k t q v)
