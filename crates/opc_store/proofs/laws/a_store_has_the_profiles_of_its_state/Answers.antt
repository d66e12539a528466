use Rattle.std.proofs.Common.{refl}
use Rattle.opc_store.proofs.laws.a_store_has_the_profiles_of_its_state.Goals as goal

pub returns : goal.returns
returns g c = record { ready = λ h. tt; profiles = λ h s was. (s, was, refl); faithful = λ h clean. clean }
