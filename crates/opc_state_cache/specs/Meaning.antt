-- What tables mean that have a cache before them.
use Rattle.opc_state.specs.Meaning.{Meaning}
use Rattle.opc_state_cache.specs.Cache.{IsCached}
use Rattle.opc_state_cache.specs.declared.cached.Cached.{Cached}

-- what the tables mean, and that what is cached of it is right
abbrev pub cached_meaning : {T : Type 0} → Meaning T → Meaning (Cached T)
cached_meaning m = record {
  represents = λ c s. IsCached m c.tables c.recent c.flags s;
  is_sure = λ c. m.is_sure c.tables;
  may_leave = λ c s. m.may_leave c.tables s;
}
