use Rattle.lru.specs.LruCache.{lru_cache}
use Rattle.opc_state_cache.proofs.Right.{put_or_not}
use Rattle.opc_state_cache.proofs.deciding_cache.DecidingCache.put.Goals as goal

pub returns : goal.returns
returns c =
    put_or_not c.put-refused.result c.self.inside.cache c.put-refused.new.self c.args.self.now (c.args.class, c.args.resource.now) c.args.pattern
    (λ i. lru_cache (c.self.view_is i) (c.self.invariant i)) c.put-refused.ensures.entries c.put-refused.ensures.err
