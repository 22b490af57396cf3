-- `chains_agree` meets its contract: what is still asked from chain b on decides. Assumes nothing.
use Rattle.rules.specs.Deciding.{decide_by}
use Rattle.directory.specs.Homes.{home-most, home-beyond}
use Rattle.directory.specs.Pass.{follows-start, follows-left, follows-done}
use Rattle.directory.proofs.chains_agree.Goals as goal

pub loop-row-init : goal.loop-row-init
loop-row-init c = follows-start _ (home-most _) (home-beyond _) _ _ c.homes-awaited.ensures

-- all chains are passed
pub returns : goal.returns
returns c = decide_by c.none_awaited.result _ _ (follows-done _ _ _ _ _ c.loop-b.invariant c.loop-b-test.false) (follows-left _ _ _ _ _ c.loop-b.invariant c.loop-b-test.false) c.none_awaited.ensures
