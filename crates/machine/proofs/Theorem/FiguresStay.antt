-- F, N, T and the ceilings stay over every call but open. Assumes nothing.
use Rattle.std.specs.Prelude.{ℕ, ◌≡◌, refl, false, List, eqb}
use Rattle.std.proofs.Common.{sym}
use Rattle.rules.specs.Tests.{Rule, first_broken, verdict}
use Rattle.rules.specs.TestLaws.{clash, pick_no, pick-either}
use Rattle.machine.specs.Machine.{State}
use Rattle.machine.specs.Moves.{settled, evicted, loaded}
use Rattle.machine.specs.Answers.{refused, Out, out}
use Rattle.machine.specs.Calls.{decide, root_call, miss_out, fix_call, unfix_call, show_call, peek_call, word_call, write_call, link_call, unlink_call, evict_call, settle_call, find_call}
use Rattle.machine.specs.History.{Call, reopen, root, fix, unfix, show, peek, word, write, link, unlink, evict, settle, find, row, Point, continued, next}

pub record SameFigures (s u : State) : Type 0 where
  pub count : u.pool.count ≡ s.pool.count
  pub pages : u.pool.pages ≡ s.pool.pages
  pub stores : u.pool.stores ≡ s.pool.stores
  pub ceilings : u.pool.ceilings ≡ s.pool.ceilings

same : (s : State) → SameFigures s s
same s = record { count = refl; pages = refl; stores = refl; ceilings = refl }

-- a call keeps them that keeps them where no rule is broken
decide-figures : (s : State) (rules : List Rule) (a : Out) → SameFigures s a.left → SameFigures s (decide s rules a).left
unfolding decide verdict
decide-figures s rules a h = pick-either (λ (o : Out). SameFigures s o.left) (eqb (first_broken rules) 0) a (out (refused (first_broken rules)) s) h (same s)

miss-figures : (s : State) (f k t q : ℕ) → SameFigures s (miss_out s f k t q).left
unfolding miss_out loaded evicted
miss-figures s f k t q = pick-either (λ (o : Out). SameFigures s o.left) _ _ _ (record { count = refl; pages = refl; stores = refl; ceilings = refl }) (record { count = refl; pages = refl; stores = refl; ceilings = refl })

call-figures : (c : Call) (s : State) → (row c).anew ≡ false → SameFigures s ((row c).out s).left
unfolding root_call fix_call unfix_call show_call peek_call word_call write_call link_call unlink_call evict_call evicted settle_call settled find_call
call-figures (reopen T ceilings) s e = absurd (clash e)
call-figures (root t) s e = decide-figures s _ _ (record { count = refl; pages = refl; stores = refl; ceilings = refl })
call-figures (fix h k) s e = decide-figures s _ _ (pick-either (λ (o : Out). SameFigures s o.left) _ _ _ (miss-figures s _ _ _ _) (record { count = refl; pages = refl; stores = refl; ceilings = refl }))
call-figures (unfix h) s e = decide-figures s _ _ (record { count = refl; pages = refl; stores = refl; ceilings = refl })
call-figures (show h) s e = decide-figures s _ _ (same s)
call-figures (peek t q) s e = decide-figures s _ _ (same s)
call-figures (word h k) s e = decide-figures s _ _ (same s)
call-figures (write h offset d) s e = decide-figures s _ _ (record { count = refl; pages = refl; stores = refl; ceilings = refl })
call-figures (link h k q l) s e = decide-figures s _ _ (record { count = refl; pages = refl; stores = refl; ceilings = refl })
call-figures (unlink h k) s e = decide-figures s _ _ (record { count = refl; pages = refl; stores = refl; ceilings = refl })
call-figures (evict t q) s e = decide-figures s _ _ (record { count = refl; pages = refl; stores = refl; ceilings = refl })
call-figures settle s e = decide-figures s _ _ (record { count = refl; pages = refl; stores = refl; ceilings = refl })
call-figures (find t q) s e = decide-figures s _ _ (same s)

-- the point after such a call
next-is : (c : Call) (x : Point) → (row c).anew ≡ false → next c x ≡ continued (row c) ((row c).out x.now) x
unfolding next
next-is c x e = sym (pick_no _ e refl)

pub figures-stay : (c : Call) (x : Point) → (row c).anew ≡ false → SameFigures x.now (next c x).now
figures-stay c x e = rw (next-is c x e) (call-figures c x.now e)
