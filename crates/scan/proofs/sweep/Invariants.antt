use Rattle.std.proofs.Common.{◌≡◌, ◌<◌, ◌-◌}
use Rattle.scan.specs.Walk.{walk_from}
use Rattle.scan.proofs.sweep.Given as goal

abbrev pub invariant-loop-looks : goal.invariant-loop-looks
invariant-loop-looks l = (l.hand.0 < l.count) × (walk_from l.count l.most 0 l.initial.sights l.initial.hand.0 ≡ walk_from l.count (l.most - l.looks) l.looks l.sights l.hand.0)
