-- `residency::releasing::evict` meets its contract. Assumes nothing.
use Rattle.std.proofs.Common.{◌≡◌, refl, arith}
use Rattle.std.proofs.lemmas.Result.{err_from_is_err_and}
use Rattle.rules.specs.declared.refusal.Refusal.TheVariants.{NotResident}
use Rattle.residency.specs.CallLaws.{evict-denied, evict-sought, evict-absent, evict-within, evict-stays, evict-removable, evict-done}
use Rattle.residency.proofs.releasing.evict.Goals as goal

-- rules 1, 2, 28 and 6 refuse
pub returns-in_err-page_rules : goal.returns-in_err-page_rules
returns-in_err-page_rules c = let p = err_from_is_err_and c.from_residual.result c.from_residual.ensures.1 in rw (p.1, p.2) (evict-denied _ _ _ _ c.in_err-page_rules.ensures.0)

pub find_frame-found-requires : goal.find_frame-found-requires
find_frame-found-requires c = let h = evict-sought _ _ _ c.in_ok-page_rules.ensures.0 (c.in_ok-page_rules.ensures.1 refl) refl in (h.0, omega arith, h.2)

-- 11: the page isn't resident
pub returns-in_err-frame : goal.returns-in_err-frame
returns-in_err-frame c =
    let p = err_from_is_err_and c.from_residual-in_err-frame.result c.from_residual-in_err-frame.ensures.1 in
    let n = c.in_err-frame.ensures.ok_part in
    let v = rw n at c.in_err-frame.ensures.value in
    let e : c.in_err-frame.field-0.0 ≡ NotResident = cc in
    rw (p.1, p.2, e) (evict-absent _ _ _ c.in_ok-page_rules.ensures.0 (c.in_ok-page_rules.ensures.1 refl) refl (rw n at c.find_frame-found.ensures))

pub bounds-pool-f : goal.bounds-pool-f
bounds-pool-f c = let i = rw c.in_ok-frame.ensures.ok_part at c.find_frame-found.ensures in rw c.from-f.ensures (evict-within _ _ _ c.in_ok-page_rules.ensures.0 (c.in_ok-page_rules.ensures.1 refl) refl i)

-- 20, 21, 22: it is a root, pinned, or has a swizzled word
pub returns-in_err-open_to_eviction : goal.returns-in_err-open_to_eviction
returns-in_err-open_to_eviction c =
    let p = err_from_is_err_and c.from_residual-in_err-open_to_eviction.result c.from_residual-in_err-open_to_eviction.ensures.1 in
    let i = rw c.in_ok-frame.ensures.ok_part at c.find_frame-found.ensures in
    let j = rw c.from-f.ensures at c.in_err-open_to_eviction.ensures in
    rw (p.1, p.2) (evict-stays _ _ _ c.in_ok-page_rules.ensures.0 (c.in_ok-page_rules.ensures.1 refl) refl i _ j)

pub take_out-requires : goal.take_out-requires
take_out-requires c =
    let i = rw c.in_ok-frame.ensures.ok_part at c.find_frame-found.ensures in
    let j = rw c.from-f.ensures at c.in_ok-open_to_eviction.ensures in
    rw c.from-f.ensures (evict-removable _ _ _ c.in_ok-page_rules.ensures.0 (c.in_ok-page_rules.ensures.1 refl) refl i j)

pub bounds-pool-f-2 : goal.bounds-pool-f-2
bounds-pool-f-2 c = let i = rw c.in_ok-frame.ensures.ok_part at c.find_frame-found.ensures in rw c.from-f.ensures (evict-within _ _ _ c.in_ok-page_rules.ensures.0 (c.in_ok-page_rules.ensures.1 refl) refl i)

-- it goes, and its frame is empty
pub returns : goal.returns
returns c =
    let i = rw c.in_ok-frame.ensures.ok_part at c.find_frame-found.ensures in
    let j = rw c.from-f.ensures at c.in_ok-open_to_eviction.ensures in
    let t = rw c.from-f.ensures at c.take_out.ensures in
    rw c.from-f.ensures (evict-done _ _ _ c.in_ok-page_rules.ensures.0 (c.in_ok-page_rules.ensures.1 refl) refl i j c.empty.ensures t)
