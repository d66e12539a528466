-- Two classes that compare as equal are the same.
use Rattle.std.proofs.Common.{◌≡◌, true, refl}
use Rattle.opc_names.specs.Authority.{same_class}
use Rattle.opc_names.specs.declared.class.Class.{Class}
use Rattle.opc_names.specs.declared.class.Class.TheVariants.{Console, Opercmds}

pub same_class_is : (c d : Class) → same_class c d ≡ true → c ≡ d
same_class_is Console Console e = refl
same_class_is Console Opercmds e = cc
same_class_is Opercmds Console e = cc
same_class_is Opercmds Opercmds e = refl
