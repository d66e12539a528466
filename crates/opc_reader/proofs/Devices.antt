-- M, U and G.
use Rattle.std.proofs.Common.{◌≡◌, ℕ, List, [], ◌∷◌, Some, refl, codes}
use Rattle.std.proofs.lemmas.Option.{same_Some}
use Rattle.opc_names.specs.Names.{volume_rule, device_rule}
use Rattle.opc_reader.specs.declared.verb.Verb.TheVariants as verb
use Rattle.opc_reader_commands.specs.declared.command.Operand.{Operand}
use Rattle.opc_reader_commands.specs.declared.command.Command.{Command}
use Rattle.opc_reader_commands.specs.declared.command.Command.TheVariants.{Mount, Unload, Swap}
use Rattle.opc_reader.specs.Forms.{Word, Name, parts, AreTyped}
use Rattle.opc_reader.specs.Reading.{name, last_name, mount, unload, swap}
use Rattle.opc_reader_commands.specs.Stretches.{Stretch, word}
use Rattle.opc_reader.proofs.Steps.{over_word, back_word, over_name, back_name, over_last_name, back_last_name, bind_some, Gives, gives}

pub mounted : (device volume : Operand (List ℕ)) (s : Stretch) → AreTyped (parts (Mount device volume)) s → mount s ≡ Some (Mount device volume)
unfolding mount
mounted device volume s t =
    let step = over_name device_rule device (Word (codes ",VOL=") ∷ Name volume_rule volume ∷ []) s refl refl t in
    let comma = over_word (codes ",VOL=") (Name volume_rule volume ∷ []) step.rest step.typed in
    rw (step.read_is, comma.read_is, over_last_name volume_rule volume comma.rest refl comma.typed) refl

pub mount_found : (s : Stretch) (c : Command) → mount s ≡ Some c → Gives verb.Mount s c
unfolding mount
mount_found s c h =
    let device = bind_some (name device_rule s) _ c h in
    let comma = bind_some (word (codes ",VOL=") device.0.1) _ c device.2 in
    let volume = bind_some (last_name volume_rule comma.0) _ c comma.2 in
    gives verb.Mount s (Mount device.0.0 volume.0) c (same_Some _ _ volume.2) (record {
      verb = refl;
      typed = back_name device_rule device.0.0 (Word (codes ",VOL=") ∷ Name volume_rule volume.0 ∷ []) s device.0.1
          device.1 (back_word (codes ",VOL=") (Name volume_rule volume.0 ∷ []) device.0.1 comma.0 comma.1
          (back_last_name volume_rule volume.0 comma.0 volume.1));
      meant = tt;
    })

pub unloaded : (device : Operand (List ℕ)) (s : Stretch) → AreTyped (parts (Unload device)) s → unload s ≡ Some (Unload device)
unfolding unload
unloaded device s t = rw (over_last_name device_rule device s refl t) refl

pub unload_found : (s : Stretch) (c : Command) → unload s ≡ Some c → Gives verb.Unload s c
unfolding unload
unload_found s c h =
    let found = bind_some (last_name device_rule s) (λ device. Some (Unload device)) c h in
    gives verb.Unload s (Unload found.0) c (same_Some _ _ found.2) (record { verb = refl; typed = back_last_name device_rule found.0 s found.1; meant = tt })

pub swapped : (from to : Operand (List ℕ)) (s : Stretch) → AreTyped (parts (Swap from to)) s → swap s ≡ Some (Swap from to)
unfolding swap
swapped from to s t =
    let step = over_name device_rule from (Word (codes ",") ∷ Name device_rule to ∷ []) s refl refl t in
    let comma = over_word (codes ",") (Name device_rule to ∷ []) step.rest step.typed in
    rw (step.read_is, comma.read_is, over_last_name device_rule to comma.rest refl comma.typed) refl

pub swap_found : (s : Stretch) (c : Command) → swap s ≡ Some c → Gives verb.Swap s c
unfolding swap
swap_found s c h =
    let from = bind_some (name device_rule s) _ c h in
    let comma = bind_some (word (codes ",") from.0.1) _ c from.2 in
    let to = bind_some (last_name device_rule comma.0) _ c comma.2 in
    gives verb.Swap s (Swap from.0.0 to.0) c (same_Some _ _ to.2) (record {
      verb = refl;
      typed = back_name device_rule from.0.0 (Word (codes ",") ∷ Name device_rule to.0 ∷ []) s from.0.1 from.1
          (back_word (codes ",") (Name device_rule to.0 ∷ []) from.0.1 comma.0 comma.1
          (back_last_name device_rule to.0 comma.0 to.1));
      meant = tt;
    })
