-- What is left gives the same answer: the loop keeps that, and each turn takes a byte at least.
use Rattle.std.proofs.Common.{rules, ◌≡◌, Err, refl}
use Rattle.engine.proofs.Feeds.{going_on, going_stop, going_end, failed_some, some_left, none_left}
use Rattle.engine.proofs.types.Engine.feed.Goals as goal

pub returns-in_err-turn-clause-feeds : goal.returns-in_err-turn-clause-feeds
returns-in_err-turn-clause-feeds c =
    let told : c.from_residual.result ≡ Err c.in_err-turn.field-0.0 = search rules in
    rw told (going_stop _ _ _ _ _ _ _ c.loop-rest.invariant (some_left _ c.is_empty.ensures c.loop-rest-test.true) c.want.ensures c.min.ensures
    c.split_at.ensures.front c.split_at.ensures.back c.in_err-turn.ensures.turns (failed_some _))

pub loop-rest-preserved : goal.loop-rest-preserved
loop-rest-preserved c =
    going_on _ _ _ _ _ _ _ c.loop-rest.invariant (some_left _ c.is_empty.ensures c.loop-rest-test.true) c.want.ensures c.min.ensures
    c.split_at.ensures.front c.split_at.ensures.back c.in_ok-turn.ensures.turns refl c.turn.ensures.rooms

pub returns-clause-feeds : goal.returns-clause-feeds
returns-clause-feeds c = going_end _ _ _ _ _ _ _ c.loop-rest.invariant (none_left _ c.is_empty.ensures c.loop-rest-test.false)
