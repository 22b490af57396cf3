-- Request A.11, "the listing has T 1": no record changes T, and with one store none is refused by 15. Assumes nothing.
use Rattle.std.specs.Prelude.{ℕ, ◌≡◌, ◌≢◌, Bool, true, List, length}
use Rattle.std.proofs.Math.Path.{refl}
use Rattle.std.proofs.Common.{sym, ◌∙◌, arith}
use Rattle.page.specs.Word.{is_number}
use Rattle.rules.specs.Tests.{pick, ◌and◌, Rule, verdict}
use Rattle.rules.specs.TestLaws.{case, on, off, pick-either}
use Rattle.machine.specs.Machine.{State}
use Rattle.machine.specs.Answers.{refused, Out}
use Rattle.machine.specs.Rules.{word_of}
use Rattle.machine.specs.Moves.{settled, evicted, loaded}
use Rattle.machine.specs.Calls.{decide, pool_rules, handle_rules, page_rules, root_rules, write_rules, link_rules, unlink_rules, evict_rules, miss_out, root_call, fix_call, unfix_call, write_call, link_call, unlink_call, evict_call, settle_call, find_call}
use Rattle.machine.specs.History.{Call, Point, accepted, row}
use Rattle.machine.specs.Demand3.{Holds}
use Rattle.machine.proofs.Laws.Outcomes.{lacks, answers-as, one-refusal, never-by, found-accepted}
use Rattle.recording.specs.Listing.{page_in_record, handle_in, parent_in, slot_in, offset_in, data_in, call_of, rule17, record_out}
use Rattle.recording.proofs.ListingLaws.{record-refused, record-runs}

-- ---- T

module _ (s : State) (b : List ℕ) where
  abbrev Same : Out → Type 0
  Same o = o.left.pool.stores ≡ s.pool.stores

  decided : (rules : List Rule) (a : Out) → Same a → Same (decide s rules a)
  unfolding decide verdict
  decided rules a e = pick-either Same _ _ _ e refl

  missed : (f k t q : ℕ) → Same (miss_out s f k t q)
  unfolding miss_out loaded evicted
  missed f k t q = pick-either Same _ _ _ refl refl

  either_same : (t : Bool) (c d : Call) → Same ((row c).out s) → Same ((row d).out s) → Same ((row (pick t c d)).out s)
  either_same = pick-either (λ (c : Call). Same ((row c).out s))

  same-call : Same ((row (call_of b)).out s)
  unfolding call_of root_call fix_call unfix_call write_call link_call unlink_call evict_call evicted settle_call settled find_call
  same-call =
      either_same _ _ _ (decided _ _ refl) (either_same _ _ _ (decided _ _ (pick-either Same (is_number (word_of s (handle_in b) (slot_in b))) _ _ (missed _ _ _ _) refl)) (either_same _ _ _ (decided _ _ refl)
      (either_same _ _ _ (decided _ _ refl) (either_same _ _ _ (decided _ _ refl) (either_same _ _ _ (decided _ _ refl) (either_same _ _ _ (decided _ _ refl) (either_same _ _ _ (decided _ _ refl) (decided _ _ refl))))))))

  pub same-stores : (record_out s b).left.pool.stores ≡ s.pool.stores
  unfolding record_out verdict
  same-stores = pick-either Same _ _ _ same-call refl

-- ---- 15, at a point of a list of calls

module _ (x : Point) (H : Holds x) (one : x.now.pool.stores ≡ 1) (b : List ℕ) where
  abbrev s : State
  s = x.now

  abbrev Not15 : Call → Type 0
  Not15 c = ((row c).out s).answer ≢ refused 15

  lacking-15 : (rules : List Rule) (a : Out) → accepted a.answer ≡ true → lacks 15 rules ≡ true → (decide s rules a).answer ≢ refused 15
  lacking-15 rules a t l = never-by s rules a t 15 (λ z. omega arith) l

  either-not : (t : Bool) (c d : Call) → Not15 c → Not15 d → Not15 (pick t c d)
  either-not = pick-either Not15

  -- 15 is among the rules of fix alone
  not_call : Not15 (call_of b)
  unfolding call_of root_call unfix_call write_call link_call unlink_call evict_call settle_call find_call lacks ◌and◌
  not_call =
      let q = page_in_record b in
      either-not _ _ _ (lacking-15 (root_rules s 0) _ refl refl) (either-not _ _ _ (H.single one _ _) (either-not _ _ _ (lacking-15 (handle_rules s (handle_in b)) _ refl refl)
      (either-not _ _ _ (lacking-15 (write_rules s (handle_in b) (offset_in b) (length (data_in b))) _ refl refl) (either-not _ _ _ (lacking-15 (link_rules s (parent_in b) (slot_in b) q) _ refl refl)
      (either-not _ _ _ (lacking-15 (unlink_rules s (handle_in b) (slot_in b)) _ refl refl) (either-not _ _ _ (lacking-15 (evict_rules s 0 q) _ refl refl)
      (either-not _ _ _ (lacking-15 (pool_rules s) _ refl refl) (lacking-15 (page_rules s 0 q) _ (found-accepted s 0 q.0) refl))))))))

  -- a load that is denied a frame there is refused by 27
  pub never-15-listed : (record_out s b).answer ≢ refused 15
  never-15-listed e = elim (case (rule17 b).1) [
    | on t ↦ not_call (answers-as (record-runs s b (call_of b) t refl) ∙ e)
    | off t ↦ let z : ◌≡◌ {A = ℕ} 17 15 = one-refusal s _ 17 15 (sym (record-refused s b t)) e in omega arith
  ]
